use Rattle.std.proofs.Common.{◌≡◌, ◌∙◌, ◌+◌, ◌<◌, ◌≤◌, ℕ, List, length, take, drop, refl, sym, ap, subst, arith, take-append-drop, length-append}
use Rattle.std.proofs.lemmas.List.{length-take-le}
use Rattle.items.specs.Framing.{length_of, item_of, is_whole}
use Rattle.page_node.specs.Node.{is_quit}
use Rattle.page_node.specs.Frames.{node_frames}
use Rattle.node_door.specs.Loop.{Replied}
use Rattle.node_door.proofs.Looping.{far_on, far_quit, far_answered, far_refused, far_same, far_at, take_front, far_takes, takes_from, passes_from, lacks_some}
use Rattle.node_door.proofs.loop_link.FarEnd.take_part.Goals as goal

pub invariant_of-self : goal.invariant_of-self
invariant_of-self c =
    let f = c.self.inside in
    let v = c.self.invariant in
    let long = ap (λ (l : List ℕ). length l) c.extend.ensures.items in
    let joined = length-append f.written.items (take c.min-n.result c.args.bytes.now) in
    let few = length-take-le c.min-n.result c.args.bytes.now (omega (arith, c.min-n.ensures)) in
    record {
      looped =
          far_on f.shelf f.written.items c.extend.new.replies.items (take c.min-n.result c.args.bytes.now) f.replies.items f.start c.lacks-lacking.result f.quit v.started c.extend.ensures.items v.looped
          (subst (λ (x : List ℕ). length x < 4 → length x + c.lacks-lacking.result ≡ 4) c.behind.ensures c.lacks-lacking.ensures.short)
          (subst (λ (x : List ℕ). 4 ≤ length x → length x + c.lacks-lacking.result ≡ 4 + length_of x) c.behind.ensures c.lacks-lacking.ensures.long)
          (omega (arith, c.min-n.ensures, few))
          (ap is_whole (sym c.behind-2.ensures) ∙ sym c.is_whole.ensures ∙ c.if-not-is_whole.true);
      started = omega (arith, v.started, long, joined);
      written_fits = omega (arith, v.written_fits, long, joined, few, c.if-n-self.false, c.len-before.ensures);
      written_room = omega (arith, v.written_room, c.extend.ensures.room);
      replies_fit = v.replies_fit;
      replies_room = v.replies_room;
    }

pub invariant_of-self-then-self : goal.invariant_of-self-then-self
invariant_of-self-then-self c =
    let f = c.self.inside in
    let v = c.self.invariant in
    let long = ap (λ (l : List ℕ). length l) c.extend.ensures.items in
    let joined = length-append f.written.items (take c.min-n.result c.args.bytes.now) in
    let few = length-take-le c.min-n.result c.args.bytes.now (omega (arith, c.min-n.ensures)) in
    record {
      looped =
          far_quit f.shelf f.written.items c.extend.new.replies.items (take c.min-n.result c.args.bytes.now) f.replies.items f.start c.len-self-inside.result f.quit v.started c.extend.ensures.items (omega (arith, c.len-self-inside.ensures)) c.if-self.true v.looped
          (ap is_whole (sym c.behind-2.ensures) ∙ sym c.is_whole.ensures ∙ c.if-not-is_whole.false);
      started = omega (arith, c.len-self-inside.ensures);
      written_fits = omega (arith, v.written_fits, long, joined, few, c.if-n-self.false, c.len-before.ensures);
      written_room = omega (arith, v.written_room, c.extend.ensures.room);
      replies_fit = v.replies_fit;
      replies_room = v.replies_room;
    }

pub invariant_of-self-then-not-reply : goal.invariant_of-self-then-not-reply
invariant_of-self-then-not-reply c =
    let f = c.self.inside in
    let v = c.self.invariant in
    let r = c.reply.ensures.replied.refused c.if-not-reply.true in
    let back = c.truncate.ensures.items ∙ take_front f.written.items c.extend.new.replies.items (take c.min-n.result c.args.bytes.now) c.len-before.result (omega (arith, c.len-before.ensures)) c.extend.ensures.items in
    let long = ap (λ (l : List ℕ). length l) back in
    record {
      looped = far_same f.shelf _ f.written.items _ f.replies.items _ f.start f.quit r.0 back r.1 v.looped;
      started = omega (arith, v.started, long);
      written_fits = omega (arith, v.written_fits, long);
      written_room = omega (arith, v.written_room, c.extend.ensures.room, c.truncate.ensures.capacity);
      replies_fit = c.reply.ensures.few;
      replies_room = c.reply.ensures.room;
    }

pub returns-then-not-reply : goal.returns-then-not-reply
returns-then-not-reply c =
    let f = c.self.inside in
    let v = c.self.invariant in
    let r = c.reply.ensures.replied.refused c.if-not-reply.true in
    let back = c.truncate.ensures.items ∙ take_front f.written.items c.extend.new.replies.items (take c.min-n.result c.args.bytes.now) c.len-before.result (omega (arith, c.len-before.ensures)) c.extend.ensures.items in (
      far_at _ _ r.0 back r.1 refl ∙ c.self.view_is,
      passes_from _ _ c.args.bytes.now c.self.view_is
          (far_refused f.shelf _ f.written.items c.extend.new.replies.items (take c.min-n.result c.args.bytes.now) c.args.bytes.now (drop c.min-n.result c.args.bytes.now) f.replies.items _ f.start f.room f.quit v.started c.extend.ensures.items
          (sym (take-append-drop c.min-n.result c.args.bytes.now)) v.looped (ap is_whole (sym c.behind-2.ensures) ∙ sym c.is_whole.ensures ∙ c.if-not-is_whole.false) c.reply.result c.if-not-reply.true
          (subst (λ (x : List ℕ). Replied (item_of node_frames x) f.room f.shelf f.replies.items c.reply.new.shelf c.reply.new.replies.items c.reply.result) c.behind-frame.ensures c.reply.ensures.replied)),
    )

pub invariant_of-self-2 : goal.invariant_of-self-2
invariant_of-self-2 c =
    let f = c.self.inside in
    let v = c.self.invariant in
    let long = ap (λ (l : List ℕ). length l) c.extend.ensures.items in
    let joined = length-append f.written.items (take c.min-n.result c.args.bytes.now) in
    let few = length-take-le c.min-n.result c.args.bytes.now (omega (arith, c.min-n.ensures)) in
    record {
      looped =
          far_answered f.shelf c.reply.new.shelf f.written.items c.extend.new.replies.items (take c.min-n.result c.args.bytes.now) f.replies.items c.reply.new.replies.items f.start c.len-self-inside-2.result f.quit c.is_quit-self-inside.result f.room v.started
          c.extend.ensures.items (omega (arith, c.len-self-inside-2.ensures)) c.if-self.false v.looped (ap is_whole (sym c.behind-2.ensures) ∙ sym c.is_whole.ensures ∙ c.if-not-is_whole.false) c.reply.result c.if-not-reply.false
          (subst (λ (x : List ℕ). Replied (item_of node_frames x) f.room f.shelf f.replies.items c.reply.new.shelf c.reply.new.replies.items c.reply.result) c.behind-frame.ensures c.reply.ensures.replied)
          (c.is_quit-self-inside.ensures ∙ ap (λ (x : List ℕ). is_quit (item_of node_frames x)) c.behind-frame.ensures);
      started = omega (arith, c.len-self-inside-2.ensures);
      written_fits = omega (arith, v.written_fits, long, joined, few, c.if-n-self.false, c.len-before.ensures);
      written_room = omega (arith, v.written_room, c.extend.ensures.room);
      replies_fit = c.reply.ensures.few;
      replies_room = c.reply.ensures.room;
    }

pub returns : goal.returns
returns c =
    let f = c.self.inside in
    let some =
    lacks_some (drop f.start f.written.items) c.lacks-lacking.result c.self.invariant.looped.part
    (subst (λ (x : List ℕ). length x < 4 → length x + c.lacks-lacking.result ≡ 4) c.behind.ensures c.lacks-lacking.ensures.short)
    (subst (λ (x : List ℕ). 4 ≤ length x → length x + c.lacks-lacking.result ≡ 4 + length_of x) c.behind.ensures c.lacks-lacking.ensures.long) in
    takes_from _ _ _ c.args.bytes.now c.min-n.result c.self.view_is
    (far_takes _ _ c.args.bytes.now c.min-n.result (item_of node_frames c.behind-frame.result.now) c.reply.result (omega (arith, c.min-n.ensures, some, c.requires)) (omega (arith, c.min-n.ensures)) c.extend.ensures.items refl c.if-not-reply.false c.reply.ensures.replied)
