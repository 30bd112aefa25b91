use Rattle.std.proofs.Common.{◌∙◌, ◌++◌, List, ℕ, length, take, refl, sym, ap, subst, arith, append-nil, length-drop}
use Rattle.node_door.specs.Loop.{LoopAt, IsBehind}
use Rattle.node_door.proofs.Looping.{takes_on, behind_none, behind_on}
use Rattle.node_door.proofs.loop_link.LoopLink.take_all.Goals as goal

pub parts-preserved : goal.parts-preserved
parts-preserved c =
    let t = c.in-Some.ensures in
    let v = c.parts.invariant in
    let long = ap (λ (l : List ℕ). length l) c.behind_slice.ensures in
    let d = length-drop c.parts.taken c.args.bytes.now in
    record {
      within = omega (arith, t.within, v.within, long, d);
      written =
          takes_on c.args.self.now c.parts.self c.take_next.new.self c.args.bytes.now c.parts.taken c.in-Some.n v.written
          (t.written ∙ ap (λ (l : List ℕ). c.parts.self.written ++ take c.in-Some.n l) c.behind_slice.ensures);
      given = t.given ∙ v.given;
      left = behind_on _ _ _ v.left t.left;
      page_size = t.page_size ∙ v.page_size;
      room = t.room ∙ v.room;
      faults = t.faults ∙ v.faults;
      ends = t.ends ∙ v.ends;
    }

pub parts-init : goal.parts-init
parts-init c = record {
  within = omega arith;
  written = sym (append-nil c.args.self.now.written);
  given = refl;
  left = behind_none _ _ refl;
  page_size = refl;
  room = refl;
  faults = refl;
  ends = refl;
}

pub returns-in-None-clause-left : goal.returns-in-None-clause-left
returns-in-None-clause-left c = subst (λ (l : LoopAt). IsBehind c.args.self.now.left l.left) (sym c.in-None.ensures.0) c.parts.invariant.left
