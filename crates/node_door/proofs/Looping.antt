-- A link in memory: what is answered to a frame, and what is kept of the frames.
use Rattle.std.proofs.Common.{◌≡◌, ◌∙◌, ◌⊎◌, ℕ, ◌+◌, ◌<◌, ◌≤◌, ◌==◌, ◌||◌, nat_lt, Bool, cond, not, true, false, true≢false, List, [], ◌∷◌, ◌++◌, length, take, drop, take-add, take-append-drop, Option, Some, None, get_or, flat_map, refl, sym, ap, subst, arith, append_assoc, append-nil, length-append, length-drop, inl, inr}
use Rattle.std.proofs.lemmas.List.{take-append-le, drop-append-le, drop-drop}
use Rattle.std.proofs.Math.ListN.{drop_of_length-le}
use Rattle.std.proofs.Math.Seq.{take-append_seam}
use Rattle.std.proofs.lemmas.Bool.{cases_lt}
use Rattle.std.proofs.lemmas.Bool.Decides.{nat_tests}
use Rattle.items.specs.Items.{ItemStream, after_item, after_items}
use Rattle.items.proofs.Rounds.{until_last-append, has_last-append, until_last-last, until_last-goes, until_last-all, until_last-one, Rounds-append}
use Rattle.std.proofs.lemmas.Grind.{flat_map-append}
use Rattle.items.specs.Rounds.{until_last, has_last}
use Rattle.items.specs.Framing.{length_of, item_of, is_whole}
use Rattle.items.specs.Taken.{IsOpen}
use Rattle.items.proofs.FramesHeard.{whole_heard, is_whole_by, length_front, open_on}
use Rattle.frame_wire.specs.Frames.{max_frame}
use Rattle.page_node.specs.declared.form.NodeRequest.TheVariants as Requests
use Rattle.page_node.specs.declared.form.NodeFault.{NodeFault}
use Rattle.page_node.specs.declared.form.NodeFault.TheVariants as Faults
use Rattle.page_node.specs.declared.form.NodeHeard.{NodeHeard}
use Rattle.page_node.specs.declared.form.NodeHeard.TheVariants.{Asked, Wrong}
use Rattle.page_node.specs.declared.form.NodeReply.{NodeReply}
use Rattle.page_node.specs.declared.form.NodeReply.TheVariants as Replies
use Rattle.page_node.specs.Node.{Node, NodeAnswers, is_quit, reply_to, node_after, put_reply, put_after, get_reply}
use Rattle.page_node.specs.Frames.{node_frames, heard, heard_as, request_of, operation_of}
use Rattle.page_node.specs.Said.{said}
use Rattle.page_node.specs.Transcript.{Says, NodeTranscript}
use Rattle.node_door.specs.Loop.{Replied, IsLooped, FarAt, LoopAt, TakesSome, TakesFront, PassesRoom, StopsAt, IsBehind, NextTaken, link_at, new_node}

-- ---- one frame

-- a reply that leaves the node as it was
pub replied_by : (item : NodeHeard) (room : ℕ) (old : Node) (replies replies' text : List ℕ) (done : Bool) (reply : NodeReply) → reply ≡ reply_to old item → node_after old item ≡ old → text ≡ said reply
    → (done ≡ true → replies' ≡ replies ++ text) → (done ≡ false → (replies' ≡ replies) × (room < length replies + length text)) → Replied item room old replies old replies' done
replied_by item room old replies replies' text done reply is stays spelled when unless = record {
  answered = λ d. (reply, inl (is, sym stays), when d ∙ ap (λ (l : List ℕ). replies ++ l) spelled);
  refused = λ d. (refl, (unless d).0, subst (λ (l : List ℕ). room < length replies + length l) (spelled ∙ ap said is) (unless d).1);
}

pub replied_as : (item item' : NodeHeard) (room : ℕ) (old new : Node) (replies replies' : List ℕ) (done : Bool) → item ≡ item' → Replied item' room old replies new replies' done → Replied item room old replies new replies' done
replied_as item item' room old new replies replies' done e r = subst (λ (i : NodeHeard). Replied i room old replies new replies' done) (sym e) r

abbrev is_kept_reply : NodeReply → Bool
is_kept_reply (Replies.Kept id) = true
is_kept_reply (Replies.Given bytes) = false
is_kept_reply Replies.Bye = false
is_kept_reply (Replies.Refused fault) = false

pub put_refused_after : (node : Node) (bytes : List ℕ) (fault : NodeFault) → Replies.Refused fault ≡ put_reply node bytes → put_after node bytes ≡ node
put_refused_after node bytes fault e = go (length bytes == 0) (nat_lt node.page_size (length bytes)) e
  where
    go : (a b : Bool) → Replies.Refused fault ≡ cond a (Replies.Refused Faults.EmptyUpdate) (cond b (Replies.Refused (Faults.UpdateTooLong (length bytes))) (Replies.Kept (length node.pages)))
        → cond a node (cond b node (record { page_size = node.page_size; pages = node.pages ++ bytes ∷ [] })) ≡ node
    go true b h = refl
    go false true h = refl
    go false false h = absurd (true≢false (sym (ap is_kept_reply h)))

-- a page that is put where the put isn't refused
pub kept_ok : (node node' : Node) (bytes front : List ℕ) (id id' : ℕ) → put_reply node bytes ≡ Replies.Kept id → NodeAnswers node (Asked (Requests.Put bytes)) (Replies.Kept id') node' → front ≡ said (Replies.Kept id)
    → (reply : NodeReply) × NodeAnswers node (Asked (Requests.Put bytes)) reply node' × (front ≡ said reply)
kept_ok node node' bytes front id id' ok (inl a) is = (put_reply node bytes, inl (refl, a.1), is ∙ ap said (sym ok))
kept_ok node node' bytes front id id' ok (inr f) is = absurd (true≢false (ap is_kept_reply f.told))

pub kept_not : (node node' : Node) (bytes front : List ℕ) (id : ℕ) (fault : NodeFault) → put_reply node bytes ≡ Replies.Kept id → NodeAnswers node (Asked (Requests.Put bytes)) (Replies.Refused fault) node' → front ≡ said (Replies.Refused Faults.NoMemory)
    → (reply : NodeReply) × NodeAnswers node (Asked (Requests.Put bytes)) reply node' × (front ≡ said reply)
kept_not node node' bytes front id fault ok (inl a) is = absurd (true≢false (sym (ap is_kept_reply (a.0 ∙ ok))))
kept_not node node' bytes front id fault ok (inr f) is = (Replies.Refused Faults.NoMemory, inr (record { takes = refl; told = refl; stays = f.stays }), is)

-- ---- what a frame says

long_test : (n : ℕ) → max_frame < n → nat_lt max_frame n ≡ true
long_test n h = grind (arith, nat_tests, h)

short_test : (n : ℕ) → n ≤ max_frame → nat_lt max_frame n ≡ false
short_test n h = grind (arith, nat_tests, h)

pub item_long : (frame : List ℕ) → max_frame < length_of frame → item_of node_frames frame ≡ Wrong (Faults.FrameTooLong (length_of frame))
item_long frame long = rw (long_test (length_of frame) long) refl

pub item_short : (frame : List ℕ) → length_of frame ≤ max_frame → item_of node_frames frame ≡ heard_as (request_of (drop 4 frame))
item_short frame short = rw (short_test (length_of frame) short) refl

drop_four : (frame : List ℕ) → 4 < length frame → drop 4 frame ≡ get_or frame 4 0 ∷ drop 5 frame
drop_four (a ∷ b ∷ d ∷ e ∷ f ∷ rest) more = refl
drop_four [] more = absurd (omega arith)
drop_four (a ∷ []) more = absurd (omega arith)
drop_four (a ∷ b ∷ []) more = absurd (omega arith)
drop_four (a ∷ b ∷ d ∷ []) more = absurd (omega arith)
drop_four (a ∷ b ∷ d ∷ e ∷ []) more = absurd (omega arith)

drop_all : (frame : List ℕ) → length frame ≡ 4 → drop 4 frame ≡ []
drop_all (a ∷ b ∷ d ∷ e ∷ []) four = refl
drop_all [] four = refl
drop_all (a ∷ []) four = refl
drop_all (a ∷ b ∷ []) four = refl
drop_all (a ∷ b ∷ d ∷ []) four = refl
drop_all (a ∷ b ∷ d ∷ e ∷ f ∷ rest) four = absurd (omega arith)

pub item_empty : (frame : List ℕ) → length_of frame ≤ max_frame → length frame ≡ 4 → item_of node_frames frame ≡ Wrong Faults.BadFrame
item_empty frame short four = item_short frame short ∙ ap (λ (l : List ℕ). heard_as (request_of l)) (drop_all frame four)

pub item_at : (frame : List ℕ) → length_of frame ≤ max_frame → 4 < length frame → item_of node_frames frame ≡ heard_as (operation_of (get_or frame 4 0) (drop 5 frame))
item_at frame short more = item_short frame short ∙ ap (λ (l : List ℕ). heard_as (request_of l)) (drop_four frame more)

pub other_test : (m n : ℕ) → ((m ≡ n) → ⊥) → (m == n) ≡ false
other_test m n h = go (m == n) refl
  where
    go : (b : Bool) → (m == n) ≡ b → b ≡ false
    go true e = absurd (h (grind (arith, nat_tests, e)))
    go false e = refl

-- an operation that asks for nothing with these bytes behind it
pub item_none : (frame : List ℕ) → length_of frame ≤ max_frame → 4 < length frame → ((get_or frame 4 0 ≡ 32) → ⊥)
    → ((get_or frame 4 0 ≡ 33) → (length (drop 5 frame) ≡ 24) → ⊥) → ((get_or frame 4 0 ≡ 13) → (length (drop 5 frame) ≡ 0) → ⊥) → item_of node_frames frame ≡ Wrong Faults.BadFrame
item_none frame short more not_put not_get not_quit = item_at frame short more ∙ go (operation == 33) refl (operation == 13) refl
  where
    operation : ℕ
    operation = get_or frame 4 0

    fields : List ℕ
    fields = drop 5 frame

    same : (m n : ℕ) → (m == n) ≡ true → m ≡ n
    same m n e = grind (arith, nat_tests, e)

    go : (b : Bool) → (operation == 33) ≡ b → (d : Bool) → (operation == 13) ≡ d → heard_as (operation_of operation fields) ≡ Wrong Faults.BadFrame
    go true eb d ed = rw (other_test operation 32 not_put, eb, other_test (length fields) 24 (λ k. not_get (same operation 33 eb) k)) refl
    go false eb true ed = rw (other_test operation 32 not_put, eb, ed, other_test (length fields) 0 (λ k. not_quit (same operation 13 ed) k)) refl
    go false eb false ed = rw (other_test operation 32 not_put, eb, ed) refl

pub got_by : (node : Node) (i f n i' f' n' : ℕ) (reply : NodeReply) → i ≡ i' → f ≡ f' → n ≡ n' → get_reply node i f n ≡ reply → reply ≡ get_reply node i' f' n'
got_by node i f n i' f' n' reply ei ef en e = sym e ∙ ap (λ (x : ℕ). get_reply node x f n) ei ∙ ap (λ (x : ℕ). get_reply node i' x n) ef ∙ ap (λ (x : ℕ). get_reply node i' f' x) en

-- ---- frames, one after the other

-- bytes that don't make the frame whole
pub looped_on : (node : Node) (written begun replies piece : List ℕ) (quit : Bool) → IsLooped node written begun replies quit → IsOpen (begun ++ piece) → IsLooped node (written ++ piece) (begun ++ piece) replies quit
looped_on node written begun replies piece quit l part = record {
  items = l.items;
  reads = λ more. ap heard (append_assoc written piece more) ∙ l.reads (piece ++ more) ∙ ap (λ (x : List ℕ). after_items l.items (heard x)) (sym (append_assoc begun piece more));
  part = part;
  says = l.says;
  quits = l.quits;
}

after_more : (items : List NodeHeard) (item : NodeHeard) (s : ItemStream NodeHeard) → after_items items (after_item item s) ≡ after_items (items ++ item ∷ []) s
after_more items item s = λ i. record { items = sym (append_assoc items (item ∷ []) s.items) i; whole = sym (append_assoc items (item ∷ []) s.whole) i; cut = s.cut }

-- bytes that make it whole
whole_reads : (written begun piece : List ℕ) (items : List NodeHeard) → ((more : List ℕ) → heard (written ++ more) ≡ after_items items (heard (begun ++ more))) → is_whole (begun ++ piece) ≡ true
    → (more : List ℕ) → heard ((written ++ piece) ++ more) ≡ after_items (items ++ item_of node_frames (begun ++ piece) ∷ []) (heard more)
whole_reads written begun piece items reads whole more =
    ap heard (append_assoc written piece more)
    ∙ reads (piece ++ more)
    ∙ ap (λ (x : List ℕ). after_items items (heard x)) (sym (append_assoc begun piece more))
    ∙ ap (λ (s : ItemStream NodeHeard). after_items items s) (whole_heard node_frames (begun ++ piece) more whole)
    ∙ after_more items (item_of node_frames (begun ++ piece)) (heard more)

had_last : (items more : List NodeHeard) → has_last is_quit items ≡ true → (until_last is_quit (items ++ more) ≡ until_last is_quit items) × (has_last is_quit (items ++ more) ≡ true)
had_last [] more h = absurd (true≢false (sym h))
had_last (item ∷ items) more h = go (is_quit item) refl h (had_last items more)
  where
    go : (b : Bool) → is_quit item ≡ b → has_last is_quit (item ∷ items) ≡ true → (has_last is_quit items ≡ true → (until_last is_quit (items ++ more) ≡ until_last is_quit items) × (has_last is_quit (items ++ more) ≡ true))
        → (until_last is_quit (item ∷ (items ++ more)) ≡ until_last is_quit (item ∷ items)) × (has_last is_quit (item ∷ (items ++ more)) ≡ true)
    go true e h on = (until_last-last is_quit item (items ++ more) e ∙ sym (until_last-last is_quit item items e), ap (λ (b : Bool). b || has_last is_quit (items ++ more)) e)
    go false e h on =
        let later = on (sym (ap (λ (b : Bool). b || has_last is_quit items) e) ∙ h) in (
          until_last-goes is_quit item (items ++ more) e ∙ ap (λ (l : List NodeHeard). item ∷ l) later.0 ∙ sym (until_last-goes is_quit item items e),
          ap (λ (b : Bool). b || has_last is_quit (items ++ more)) e ∙ later.1,
        )

open_none : IsOpen []
open_none four = absurd (omega arith)

-- behind a quit nothing is answered
pub looped_quit : (node : Node) (written begun replies piece : List ℕ) (quit : Bool) → quit ≡ true → IsLooped node written begun replies quit → is_whole (begun ++ piece) ≡ true → IsLooped node (written ++ piece) [] replies quit
looped_quit node written begun replies piece quit is l whole =
    let had = had_last l.items (item_of node_frames (begun ++ piece) ∷ []) (sym l.quits ∙ is) in
    record {
      items = l.items ++ item_of node_frames (begun ++ piece) ∷ [];
      reads = whole_reads written begun piece l.items l.reads whole;
      part = open_none;
      says = subst (λ (x : List NodeHeard). Says (new_node node.page_size) x replies node) (sym had.0) l.says;
      quits = is ∙ sym had.1;
    }

kept_size : (node node' : Node) (item : NodeHeard) (reply : NodeReply) → NodeAnswers node item reply node' → node'.page_size ≡ node.page_size
kept_size node node' (Asked (Requests.Put bytes)) reply (inl a) = ap (λ (n : Node). n.page_size) a.1 ∙ go (length bytes == 0) (nat_lt node.page_size (length bytes))
  where
    go : (a b : Bool) → (cond a node (cond b node (record { page_size = node.page_size; pages = node.pages ++ bytes ∷ [] }))).page_size ≡ node.page_size
    go true b = refl
    go false true = refl
    go false false = refl
kept_size node node' (Asked (Requests.Get id from count)) reply (inl a) = ap (λ (n : Node). n.page_size) a.1
kept_size node node' (Asked Requests.Quit) reply (inl a) = ap (λ (n : Node). n.page_size) a.1
kept_size node node' (Wrong fault) reply (inl a) = ap (λ (n : Node). n.page_size) a.1
kept_size node node' item reply (inr f) = ap (λ (n : Node). n.page_size) f.stays

-- one more reply
says_more : (first node node' : Node) (items : List NodeHeard) (item : NodeHeard) (replies : List ℕ) (reply : NodeReply) → Says first items replies node → NodeAnswers node item reply node' → Says first (items ++ item ∷ []) (replies ++ said reply) node'
says_more first node node' items item replies reply s a = record {
  replies = s.replies ++ reply ∷ [];
  run = Rounds-append NodeAnswers first items s.replies node (item ∷ []) (reply ∷ []) node' s.run (node', a, refl);
  says = flat_map-append said s.replies (reply ∷ []) ∙ ap (λ (l : List ℕ). flat_map said s.replies ++ l) (append-nil (said reply)) ∙ ap (λ (l : List ℕ). l ++ said reply) s.says;
}

pub looped_answered : (node node' : Node) (written begun replies replies' piece : List ℕ) (quit quit' : Bool) (reply : NodeReply) → quit ≡ false → IsLooped node written begun replies quit → is_whole (begun ++ piece) ≡ true
    → NodeAnswers node (item_of node_frames (begun ++ piece)) reply node' → replies' ≡ replies ++ said reply → quit' ≡ is_quit (item_of node_frames (begun ++ piece)) → IsLooped node' (written ++ piece) [] replies' quit'
looped_answered node node' written begun replies replies' piece quit quit' reply goes l whole a is quits =
    let item : NodeHeard = item_of node_frames (begun ++ piece) in
    let none : has_last is_quit l.items ≡ false = sym l.quits ∙ goes in
    let all : until_last is_quit (l.items ++ item ∷ []) ≡ l.items ++ item ∷ [] = until_last-append is_quit l.items (item ∷ []) none ∙ ap (λ (x : List NodeHeard). l.items ++ x) (until_last-one is_quit item) in
    let said_all = says_more (new_node node.page_size) node node' l.items item replies reply (subst (λ (x : List NodeHeard). Says (new_node node.page_size) x replies node) (until_last-all is_quit l.items none) l.says) a in
    record {
      items = l.items ++ item ∷ [];
      reads = whole_reads written begun piece l.items l.reads whole;
      part = open_none;
      says =
          subst (λ (x : List NodeHeard). Says (new_node node'.page_size) x replies' node') (sym all)
          (subst (λ (t : List ℕ). Says (new_node node'.page_size) (l.items ++ item ∷ []) t node') (sym is)
          (subst (λ (p : ℕ). Says (new_node p) (l.items ++ item ∷ []) (replies ++ said reply) node') (sym (kept_size node node' item reply a)) said_all));
      quits = quits ∙ sym (has_last-append is_quit l.items (item ∷ []) none ∙ one item);
    }
  where
    one : (i : NodeHeard) → has_last is_quit (i ∷ []) ≡ is_quit i
    one i = go (is_quit i)
      where
        go : (b : Bool) → (b || false) ≡ b
        go true = refl
        go false = refl

-- ---- the bytes of the frame that isn't whole

-- bytes that a frame lacks don't go past it
pub open_by : (begun piece : List ℕ) (lacking : ℕ) → (length begun < 4 → length begun + lacking ≡ 4) → (4 ≤ length begun → length begun + lacking ≡ 4 + length_of begun) → length piece ≤ lacking → is_whole (begun ++ piece) ≡ false → IsOpen (begun ++ piece)
open_by begun piece lacking short long few not_whole four = go (cases_lt (length begun) 4)
  where
    joined : length (begun ++ piece) ≡ length begun + length piece
    joined = length-append begun piece

    other : (length (begun ++ piece) ≡ 4 + length_of (begun ++ piece)) → ⊥
    other e = true≢false (sym (is_whole_by (begun ++ piece) (length_of (begun ++ piece)) refl e) ∙ not_whole)

    less : (m k : ℕ) → m ≤ k → ((m ≡ k) → ⊥) → m < k
    less m k most unlike = elim (cases_lt m k) [ inl l ↦ l | inr g ↦ absurd (unlike (omega (arith, most, g))) ]

    go : (length begun < 4) ⊎ (4 ≤ length begun) → length (begun ++ piece) < 4 + length_of (begun ++ piece)
    go (inl l) = less (length (begun ++ piece)) (4 + length_of (begun ++ piece)) (let s = short l in omega (arith, s, joined, few)) other
    go (inr m) = less (length (begun ++ piece)) (4 + length_of (begun ++ piece)) (let s = long m in let e = length_front begun piece m in omega (arith, s, e, joined, few)) other

-- the same of the bytes that were written
pub far_on : (node : Node) (written new piece replies : List ℕ) (start lacking : ℕ) (quit : Bool) → start ≤ length written → new ≡ written ++ piece → IsLooped node written (drop start written) replies quit
    → (length (drop start written) < 4 → length (drop start written) + lacking ≡ 4) → (4 ≤ length (drop start written) → length (drop start written) + lacking ≡ 4 + length_of (drop start written)) → length piece ≤ lacking
    → is_whole (drop start new) ≡ false → IsLooped node new (drop start new) replies quit
far_on node written new piece replies start lacking quit started is l short long few not_whole =
    subst (λ (w : List ℕ). IsLooped node w (drop start w) replies quit) (sym is)
    (subst (λ (b : List ℕ). IsLooped node (written ++ piece) b replies quit) (sym front)
    (looped_on node written (drop start written) replies piece quit l
    (open_by (drop start written) piece lacking short long few (ap is_whole (sym front ∙ ap (λ (w : List ℕ). drop start w) (sym is)) ∙ not_whole))))
  where
    front : drop start (written ++ piece) ≡ drop start written ++ piece
    front = drop-append-le start written piece started

whole_front : (written new piece : List ℕ) (start : ℕ) → start ≤ length written → new ≡ written ++ piece → drop start new ≡ drop start written ++ piece
whole_front written new piece start started is = ap (λ (w : List ℕ). drop start w) is ∙ drop-append-le start written piece started

drop_whole : (l : List ℕ) → drop (length l) l ≡ []
drop_whole [] = refl
drop_whole (b ∷ l) = drop_whole l

pub far_quit : (node : Node) (written new piece replies : List ℕ) (start end : ℕ) (quit : Bool) → start ≤ length written → new ≡ written ++ piece → end ≡ length new → quit ≡ true → IsLooped node written (drop start written) replies quit
    → is_whole (drop start new) ≡ true → IsLooped node new (drop end new) replies quit
far_quit node written new piece replies start end quit started is all quits l whole =
    subst (λ (b : List ℕ). IsLooped node new b replies quit) (sym (ap (λ (n : ℕ). drop n new) all ∙ drop_whole new))
    (subst (λ (w : List ℕ). IsLooped node w [] replies quit) (sym is)
    (looped_quit node written (drop start written) replies piece quit quits l (ap is_whole (sym (whole_front written new piece start started is)) ∙ whole)))

pub far_answered : (node node' : Node) (written new piece replies replies' : List ℕ) (start end : ℕ) (quit quit' : Bool) (room : ℕ) → start ≤ length written → new ≡ written ++ piece → end ≡ length new → quit ≡ false
    → IsLooped node written (drop start written) replies quit → is_whole (drop start new) ≡ true → (done : Bool) → done ≡ true → Replied (item_of node_frames (drop start new)) room node replies node' replies' done
    → quit' ≡ is_quit (item_of node_frames (drop start new)) → IsLooped node' new (drop end new) replies' quit'
far_answered node node' written new piece replies replies' start end quit quit' room started is all goes l whole done does r quits =
    let front = whole_front written new piece start started is in
    let a = r.answered does in
    subst (λ (b : List ℕ). IsLooped node' new b replies' quit') (sym (ap (λ (n : ℕ). drop n new) all ∙ drop_whole new))
    (subst (λ (w : List ℕ). IsLooped node' w [] replies' quit') (sym is)
    (looped_answered node node' written (drop start written) replies replies' piece quit quit' a.0 goes l (ap is_whole (sym front) ∙ whole)
    (subst (λ (f : List ℕ). NodeAnswers node (item_of node_frames f) a.0 node') front a.1) a.2 (quits ∙ ap (λ (f : List ℕ). is_quit (item_of node_frames f)) front)))

-- the part of a frame says nothing yet
open_heard : (begun : List ℕ) → IsOpen begun → heard begun ≡ record { items = []; whole = []; cut = not (length begun == 0) }
open_heard begun part = ap heard (sym (append-nil begun)) ∙ open_on node_frames [] begun [] part

-- a refused frame leaves all as it was, and doesn't fit
pub far_refused : (node node' : Node) (written new piece bytes rest replies replies' : List ℕ) (start room : ℕ) (quit : Bool) → start ≤ length written → new ≡ written ++ piece → bytes ≡ piece ++ rest
    → IsLooped node written (drop start written) replies quit → is_whole (drop start new) ≡ true → (done : Bool) → done ≡ false → Replied (item_of node_frames (drop start new)) room node replies node' replies' done
    → PassesRoom (record { node = node; written = written; replies = replies; room = room }) bytes
far_refused node node' written new piece bytes rest replies replies' start room quit started is cut l whole done refused r =
    inr (piece, rest, item_of node_frames (drop start new), cut, reads, (r.refused refused).2)
  where
    begun : List ℕ
    begun = drop start written

    front : drop start new ≡ begun ++ piece
    front = whole_front written new piece start started is

    none : heard (begun ++ []) ≡ record { items = []; whole = []; cut = (heard (begun ++ [])).cut }
    none = ap heard (append-nil begun) ∙ open_heard begun l.part ∙ ap (λ (b : Bool). record { items = []; whole = []; cut = b }) (sym (ap (λ (s : ItemStream NodeHeard). s.cut) (ap heard (append-nil begun) ∙ open_heard begun l.part)))

    was : (heard written).whole ≡ l.items
    was = ap (λ (w : List ℕ). (heard w).whole) (sym (append-nil written)) ∙ ap (λ (s : ItemStream NodeHeard). s.whole) (l.reads []) ∙ ap (λ (s : ItemStream NodeHeard). l.items ++ s.whole) none ∙ append-nil l.items

    reads : (heard (written ++ piece)).whole ≡ (heard written).whole ++ item_of node_frames (drop start new) ∷ []
    reads =
        ap (λ (w : List ℕ). (heard w).whole) (sym (append-nil (written ++ piece)))
        ∙ ap (λ (s : ItemStream NodeHeard). s.whole) (whole_reads written begun piece l.items l.reads (ap is_whole (sym front) ∙ whole) [])
        ∙ append-nil (l.items ++ item_of node_frames (begun ++ piece) ∷ [])
        ∙ ap (λ (f : List ℕ). l.items ++ item_of node_frames f ∷ []) (sym front)
        ∙ ap (λ (x : List NodeHeard). x ++ item_of node_frames (drop start new) ∷ []) (sym was)

-- the same where these are taken as they were before
pub far_same : (node node' : Node) (written written' replies replies' : List ℕ) (start : ℕ) (quit : Bool) → node' ≡ node → written' ≡ written → replies' ≡ replies → IsLooped node written (drop start written) replies quit → IsLooped node' written' (drop start written') replies' quit
far_same node node' written written' replies replies' start quit en ew er l =
    subst (λ (n : Node). IsLooped n written' (drop start written') replies' quit) (sym en)
    (subst (λ (w : List ℕ). IsLooped node w (drop start w) replies' quit) (sym ew)
    (subst (λ (r : List ℕ). IsLooped node written (drop start written) r quit) (sym er) l))

pub far_at : (old new : FarAt) → new.node ≡ old.node → new.written ≡ old.written → new.replies ≡ old.replies → new.room ≡ old.room → new ≡ old
far_at old new en ew er em = λ i. record { node = en i; written = ew i; replies = er i; room = em i }

pub take_front : (written new piece : List ℕ) (before : ℕ) → before ≡ length written → new ≡ written ++ piece → take before new ≡ written
take_front written new piece before e is = ap (λ (n : ℕ). take n new) e ∙ ap (λ (l : List ℕ). take (length written) l) is ∙ take-append_seam written piece

pub far_takes : (old new : FarAt) (bytes : List ℕ) (count : ℕ) (item : NodeHeard) (done : Bool) → 0 < count → count ≤ length bytes → new.written ≡ old.written ++ take count bytes → new.room ≡ old.room → done ≡ true
    → Replied item old.room old.node old.replies new.node new.replies done → TakesSome old bytes new count
far_takes old new bytes count item done some within is room does r =
    let a = r.answered does in
    record { some = some; within = within; written = is; more = said a.0; replies = a.2; room = room; page_size = kept_size old.node new.node item a.0 a.1 }

pub takes_from : (old old' new : FarAt) (bytes : List ℕ) (count : ℕ) → old ≡ old' → TakesSome old bytes new count → TakesSome old' bytes new count
takes_from old old' new bytes count e t = subst (λ (f : FarAt). TakesSome f bytes new count) e t

pub passes_from : (old old' : FarAt) (bytes : List ℕ) → old ≡ old' → PassesRoom old bytes → PassesRoom old' bytes
passes_from old old' bytes e t = subst (λ (f : FarAt). PassesRoom f bytes) e t

-- a part of a frame lacks some bytes
pub lacks_some : (begun : List ℕ) (lacking : ℕ) → IsOpen begun → (length begun < 4 → length begun + lacking ≡ 4) → (4 ≤ length begun → length begun + lacking ≡ 4 + length_of begun) → 0 < lacking
lacks_some begun lacking part short long = elim (cases_lt (length begun) 4) [ inl l ↦ (let s = short l in omega (arith, s, l)) | inr g ↦ (let s = long g in let p = part g in omega (arith, s, p)) ]

-- ---- what stands of a link

pub whole_items : (node : Node) (written begun replies : List ℕ) (quit : Bool) → (l : IsLooped node written begun replies quit) → (heard written).whole ≡ l.items
whole_items node written begun replies quit l =
    ap (λ (w : List ℕ). (heard w).whole) (sym (append-nil written))
    ∙ ap (λ (s : ItemStream NodeHeard). s.whole) (l.reads [])
    ∙ ap (λ (s : ItemStream NodeHeard). l.items ++ s.whole) (ap heard (append-nil begun) ∙ open_heard begun l.part)
    ∙ append-nil l.items

pub far_stands : (node : Node) (written begun replies : List ℕ) (quit : Bool) → IsLooped node written begun replies quit → NodeTranscript (new_node node.page_size) (heard written).whole replies node
far_stands node written begun replies quit l = subst (λ (x : List NodeHeard). NodeTranscript (new_node node.page_size) x replies node) (sym (whole_items node written begun replies quit l)) l.says

pub stands_from : (old old' : FarAt) → old ≡ old' → NodeTranscript (new_node old.node.page_size) (heard old.written).whole old.replies old.node → NodeTranscript (new_node old'.node.page_size) (heard old'.written).whole old'.replies old'.node
stands_from old old' e s = subst (λ (f : FarAt). NodeTranscript (new_node f.node.page_size) (heard f.written).whole f.replies f.node) e s

-- ---- a link's next bytes

next_full : (far : FarAt) (at : ℕ) (bytes : List ℕ) (faults ends : ℕ) → PassesRoom far bytes → StopsAt (link_at far at faults ends) bytes
next_full far at bytes faults ends (inl p) = inr (inl p)
next_full far at bytes faults ends (inr p) = inr (inr (p.0, p.1, p.2, p.3, p.4, subst (λ (r : List ℕ). far.room < length r + length (said (reply_to far.node p.2))) (sym (take-append-drop at far.replies)) p.5))

pub next_taken : (far far' : FarAt) (old : LoopAt) (at : ℕ) (bytes : List ℕ) (faults ends : ℕ) (count : Option ℕ) → link_at far at faults ends ≡ old → at ≤ length far.replies → TakesFront far bytes far' count
    → NextTaken old bytes (link_at far' at faults ends) count
next_taken far far' old at bytes faults ends count same within t = subst (λ (l : LoopAt). NextTaken l bytes (link_at far' at faults ends) count) same (go count t)
  where
    go : (c : Option ℕ) → TakesFront far bytes far' c → NextTaken (link_at far at faults ends) bytes (link_at far' at faults ends) c
    go (Some n) s = record {
      some = s.some;
      within = s.within;
      written = s.written;
      given = ap (λ (r : List ℕ). take at r) s.replies ∙ take-append-le at far.replies s.more within;
      left = record { more = s.more; joins = ap (λ (r : List ℕ). drop at r) s.replies ∙ drop-append-le at far.replies s.more within };
      page_size = s.page_size;
      room = s.room;
      faults = refl;
      ends = refl;
    }
    go None s = (ap (λ (f : FarAt). link_at f at faults ends) s.0, next_full far at bytes faults ends s.1)

-- what was left stays in front
pub behind_none : (old new : List ℕ) → new ≡ old → IsBehind old new
behind_none old new same = record { more = []; joins = same ∙ sym (append-nil old) }

pub behind_on : (old mid new : List ℕ) → IsBehind old mid → IsBehind mid new → IsBehind old new
behind_on old mid new a b = record { more = a.more ++ b.more; joins = b.joins ∙ ap (λ (l : List ℕ). l ++ b.more) a.joins ∙ append_assoc old a.more b.more }

-- more bytes behind those that were taken
pub takes_on : (first mid last : LoopAt) (bytes : List ℕ) (taken count : ℕ) → mid.written ≡ first.written ++ take taken bytes → last.written ≡ mid.written ++ take count (drop taken bytes) → last.written ≡ first.written ++ take (taken + count) bytes
takes_on first mid last bytes taken count a b =
    b ∙ ap (λ (l : List ℕ). l ++ take count (drop taken bytes)) a ∙ append_assoc first.written (take taken bytes) (take count (drop taken bytes)) ∙ ap (λ (l : List ℕ). first.written ++ l) (sym (take-add taken count bytes))

-- a reply that wasn't read to its end
pub not_read : (far : FarAt) (at faults ends : ℕ) (now : LoopAt) → link_at far at faults ends ≡ now → at < length far.replies → (now.left ≡ []) → ⊥
not_read far at faults ends now same less none =
    let e : drop at far.replies ≡ [] = ap (λ (l : LoopAt). l.left) same ∙ none in
    let n = ap (λ (l : List ℕ). length l) e in
    let d = length-drop at far.replies in
    omega (arith, less, n, d)

-- ---- what is read off a link

-- the bytes from a place on are those that were copied from there and those after them
pub read_off : (replies to from : List ℕ) (at n : ℕ) (left : List ℕ) → drop at replies ≡ left → from ≡ replies → take n to ≡ take n (drop at from) → left ≡ take n to ++ drop (at + n) replies
read_off replies to from at n left is same copied =
    let front : take n to ≡ take n (drop at replies) = copied ∙ ap (λ (x : List ℕ). take n (drop at x)) same in
    sym is ∙ (sym (take-append-drop n (drop at replies)) ∙ (ap (λ (x : List ℕ). x ++ drop n (drop at replies)) (sym front) ∙ ap (λ (x : List ℕ). take n to ++ x) (drop-drop n at replies)))

-- behind the last byte there is none
pub none_left : (replies : List ℕ) (at : ℕ) → length replies ≤ at → drop at replies ≡ []
none_left replies at all = drop_of_length-le replies all
