-- Calls of a door to a node.
use Rattle.std.proofs.Common.{◌≡◌, ◌∙◌, ◌⊎◌, ℕ, zero, suc, ◌^◌, ◌<◌, ◌≤◌, ◌==◌, Bool, cond, true, false, true≢false, List, [], ◌∷◌, ◌++◌, length, Option, Some, None, refl, sym, ap, subst, arith, append-nil, length-append, inl, inr}
use Rattle.std.proofs.lemmas.Bool.{and_parts}
use Rattle.faults.specs.Counts.{RoseBy, count_after}
use Rattle.items.specs.Framing.{is_whole}
use Rattle.items.proofs.FramesHeard.{length_front, whole_is}
use Rattle.frame_wire.specs.Said.{field, frame_of}
use Rattle.frame_wire.proofs.RequestLemmas.{field-length}
use Rattle.frame_wire.proofs.ReplyLemmas.{framed_is}
use Rattle.page_store.specs.Page.{Page}
use Rattle.page_store.specs.Answers.{IfStored, OnPutFailed, OnGot, OnGetFailed}
use Rattle.page_store.specs.declared.door.PutAnswer.{PutAnswer}
use Rattle.page_store.specs.declared.door.PutAnswer.TheVariants as put
use Rattle.page_store.specs.declared.door.GetAnswer.{GetAnswer}
use Rattle.page_store.specs.declared.door.GetAnswer.TheVariants as get
use Rattle.page_node.specs.declared.form.NodeRequest.TheVariants as Requests
use Rattle.page_node.specs.declared.form.NodeReply.TheVariants as Replies
use Rattle.page_node.specs.declared.form.NodeFault.TheVariants as Faults
use Rattle.node_door.specs.declared.wire.Exchanged.{Exchanged}
use Rattle.node_door.specs.declared.wire.Exchanged.TheVariants as Exchange
use Rattle.page_node.specs.Said.{said, asked}
use Rattle.page_node.specs.Grammar.{is_reply_frame, IsOutside}
use Rattle.node_door.specs.Link.{LinkAt, Broke, Tells, IsExchanged}
use Rattle.node_door.specs.Door.{DoorAt, id_of, SameOwn, AddsOwn, WritesFrame, IsNoFront, MayFail, MaySpend, DoorCalled, OnPutNoMemory, put_faults, IsKeptReply, MayWantMemory, IsRefusal, PutCalled, get_faults, IsGivenReply, OwnGetCalled, GetCalled, is_broken, IsTalked}
use Rattle.node_door.proofs.Passing.{passed_none}
use Rattle.node_door.proofs.Replies.{reply_frame, same_operation}

-- ---- replies and their fronts

pub kept_reply : (id : ℕ) → is_reply_frame (said (Replies.Kept id)) ≡ true
kept_reply id =
    ap is_reply_frame (sym (framed_is 9 (160 ∷ field id) (let l = field-length id in omega arith)))
    ∙ reply_frame 9 (160 ∷ field id) (omega arith) (let l = field-length id in omega arith) (ap (λ (n : ℕ). n == 8) (field-length id))

memory_reply : is_reply_frame (said (Replies.Refused Faults.NoMemory)) ≡ true
unfolding frame_of field
memory_reply = refl

reply_whole : (frame : List ℕ) → is_reply_frame frame ≡ true → is_whole frame ≡ true
reply_whole frame h = (and_parts (is_whole frame) _ h).0

-- a whole frame that is a front of another one is that one
whole_front : (got more frame : List ℕ) → is_whole got ≡ true → is_whole frame ≡ true → got ++ more ≡ frame → got ≡ frame
whole_front got more frame whole whole' e =
    let w = whole_is got whole in
    let v = whole_is (got ++ more) (ap is_whole e ∙ whole') in
    let n = length_front got more w.0 in
    let l = length-append got more in
    sym (append-nil got) ∙ ap (λ (m : List ℕ). got ++ m) (sym (none more (omega (arith, w.1, v.1)))) ∙ e
  where
    none : (m : List ℕ) → length m ≡ 0 → m ≡ []
    none [] h = refl
    none (b ∷ bs) h = absurd (omega arith)

-- a reply that isn't asked for is no front of one that is
pub other_front : (IsAskedFor : List ℕ → Type 0) (got : List ℕ) → is_reply_frame got ≡ true → (IsAskedFor got → ⊥) → IsNoFront IsAskedFor got
other_front IsAskedFor got reply other frame more asked whole e =
    other (subst IsAskedFor (sym (whole_front got more frame (reply_whole got reply) (reply_whole frame whole) e)) asked)

pub outside_front : (IsAskedFor : List ℕ → Type 0) (got : List ℕ) → IsOutside got → IsNoFront IsAskedFor got
outside_front IsAskedFor got out frame more asked whole e = true≢false (sym whole ∙ ap is_reply_frame (sym e) ∙ out more)

-- ---- what comes of a frame that was written, by what was read

-- a reply that came is a reply
pub came : (want got : List ℕ) (r : Exchanged) → is_broken r ≡ false → Tells want got r → is_reply_frame got ≡ true
came want got (Exchange.Kept id) whole t = ap is_reply_frame t ∙ kept_reply id
came want got Exchange.Same whole t = t.1
came want got Exchange.NoMemory whole t = ap is_reply_frame t ∙ memory_reply
came want got Exchange.Other whole t = t.reply
came want got Exchange.Broken whole t = absurd (true≢false whole)

pub writes_by : (frame want sent got : List ℕ) (a b : LinkAt) (r : Exchanged) → IsExchanged frame want sent got a b r → WritesFrame frame sent a b
writes_by frame want sent got a b (Exchange.Kept id) x = inl x.0
writes_by frame want sent got a b Exchange.Same x = inl x.0
writes_by frame want sent got a b Exchange.NoMemory x = inl x.0
writes_by frame want sent got a b Exchange.Other x = inl x.0
writes_by frame want sent got a b Exchange.Broken (inl u) = inr (u.0, u.1, u.3)
writes_by frame want sent got a b Exchange.Broken (inr s) = inl s.0

told_by : (frame want sent got : List ℕ) (a b : LinkAt) (r : Exchanged) → is_broken r ≡ false → IsExchanged frame want sent got a b r → Tells want got r
told_by frame want sent got a b (Exchange.Kept id) whole x = x.1
told_by frame want sent got a b Exchange.Same whole x = x.1
told_by frame want sent got a b Exchange.NoMemory whole x = x.1
told_by frame want sent got a b Exchange.Other whole x = x.1
told_by frame want sent got a b Exchange.Broken whole x = absurd (true≢false whole)

-- what may spend, and what fails, where no reply came
broke_by : (frame want sent got : List ℕ) (a b : LinkAt) → IsExchanged frame want sent got a b Exchange.Broken → Broke a b ⊎ IsOutside got
broke_by frame want sent got a b (inl u) = inl (inl u.3)
broke_by frame want sent got a b (inr s) = elim s.1 [ inl broke ↦ inl (inr broke) | inr out ↦ inr out ]

spends_by : (old new : DoorAt) (frame want sent got : List ℕ) (r : Exchanged) → IsExchanged frame want sent got old.link new.link r → is_broken r ≡ true → MaySpend old got new
spends_by old new frame want sent got (Exchange.Kept id) x broken = absurd (true≢false (sym broken))
spends_by old new frame want sent got Exchange.Same x broken = absurd (true≢false (sym broken))
spends_by old new frame want sent got Exchange.NoMemory x broken = absurd (true≢false (sym broken))
spends_by old new frame want sent got Exchange.Other x broken = absurd (true≢false (sym broken))
spends_by old new frame want sent got Exchange.Broken x broken = inr (broke_by frame want sent got old.link new.link x)

fails_by : (IsAskedFor : List ℕ → Type 0) (old new : DoorAt) (frame want sent got : List ℕ) (r : Exchanged) → IsExchanged frame want sent got old.link new.link r
    → (is_broken r ≡ false → Tells want got r → IsAskedFor got → ⊥) → MayFail IsAskedFor old got new
fails_by IsAskedFor old new frame want sent got (Exchange.Kept id) x other = inr (inl (other_front IsAskedFor got (came want got (Exchange.Kept id) refl x.1) (other refl x.1)))
fails_by IsAskedFor old new frame want sent got Exchange.Same x other = inr (inl (other_front IsAskedFor got (came want got Exchange.Same refl x.1) (other refl x.1)))
fails_by IsAskedFor old new frame want sent got Exchange.NoMemory x other = inr (inl (other_front IsAskedFor got (came want got Exchange.NoMemory refl x.1) (other refl x.1)))
fails_by IsAskedFor old new frame want sent got Exchange.Other x other = inr (inl (other_front IsAskedFor got (came want got Exchange.Other refl x.1) (other refl x.1)))
fails_by IsAskedFor old new frame want sent got Exchange.Broken x other = elim (broke_by frame want sent got old.link new.link x) [ inl b ↦ inl b | inr out ↦ inr (inl (outside_front IsAskedFor got out)) ]

-- ---- doors after a call

-- the door after a call, where these parts of it changed
abbrev pub door_with : DoorAt → LinkAt → ℕ → List (ℕ × ℕ) → Bool → ℕ → DoorAt
door_with old link room own spent faults = record { provider = old.provider; link = link; room = room; own = own; spent = spent; faults = faults }

-- a spent door
pub put_spent : (old old' new : DoorAt) (bytes : List ℕ) → old ≡ old' → old.spent ≡ true → new ≡ door_with old old.link old.room old.own old.spent (count_after 1 old.faults) → PutCalled old' bytes put.Failed new
put_spent old old' new bytes same spent is =
    subst (λ (d : DoorAt). PutCalled d bytes put.Failed new) same
    (subst (λ (d : DoorAt). PutCalled old bytes put.Failed d) (sym is) record {
      sent = [];
      got = [];
      passed = passed_none old.link;
      writes = λ not. absurd (true≢false (sym spent ∙ not));
      quiet = λ _. ((refl, refl), refl);
      stored = tt;
      failed = (inr (inr spent), λ place. refl);
      refused = λ not. absurd (true≢false (sym spent ∙ not));
      no_memory = tt;
      count = refl;
      spends = λ _. inl spent;
      lives = λ not. absurd (true≢false (sym spent ∙ not));
      provider = refl;
      room = refl;
    })

-- no room for the id
pub put_no_room : (old old' : DoorAt) (bytes : List ℕ) (own' : List (ℕ × ℕ)) → old ≡ old' → old.spent ≡ false → SameOwn old.own own' → PutCalled old' bytes put.NoMemory (door_with old old.link old.room own' old.spent old.faults)
put_no_room old old' bytes own' is fresh same =
    subst (λ (d : DoorAt). PutCalled d bytes put.NoMemory (door_with old old.link old.room own' old.spent old.faults)) is record {
      sent = [];
      got = [];
      passed = passed_none old.link;
      writes = λ _. inr ((refl, refl), refl);
      quiet = λ spent. absurd (true≢false (sym spent ∙ fresh));
      stored = tt;
      failed = tt;
      refused = λ _. tt;
      no_memory = (inl (refl, refl), same);
      count = refl;
      spends = λ spent. absurd (true≢false (sym spent ∙ fresh));
      lives = λ _. (fresh, inl (refl, refl));
      provider = refl;
      room = refl;
    }

abbrev stored_answer : PutAnswer → Bool
stored_answer (put.Stored page) = true
stored_answer put.Failed = false
stored_answer put.NoMemory = false

abbrev memory_answer : PutAnswer → Bool
memory_answer (put.Stored page) = false
memory_answer put.Failed = false
memory_answer put.NoMemory = true

no_stored : (page : Page) → (put.Stored page ≡ put.Failed) → ⊥
no_stored page e = true≢false (ap stored_answer e)

no_memory : (put.NoMemory ≡ put.Failed) → ⊥
no_memory e = true≢false (ap memory_answer e)

-- two frames with one operation
frame_operation : (operation operation' : ℕ) (fields fields' : List ℕ) → frame_of (operation ∷ fields) ≡ frame_of (operation' ∷ fields') → operation ≡ operation'
frame_operation operation operation' fields fields' e = same_operation (length (operation ∷ fields)) operation operation' fields fields' (framed_is (length (operation ∷ fields)) (operation ∷ fields) refl ∙ e)

spent_by : {spent : Bool} (r : Exchanged) → spent ≡ false → cond (is_broken r) true spent ≡ true → is_broken r ≡ true
spent_by {spent} r fresh e = go (is_broken r) e
  where
    go : (b : Bool) → cond b true spent ≡ true → b ≡ true
    go true h = refl
    go false h = absurd (true≢false (sym h ∙ fresh))

alive_by : {spent : Bool} (r : Exchanged) → spent ≡ false → cond (is_broken r) true spent ≡ false → is_broken r ≡ false
alive_by {spent} r fresh e = go (is_broken r) e
  where
    go : (b : Bool) → cond b true spent ≡ false → b ≡ false
    go true h = absurd (true≢false h)
    go false h = refl

lives_by : (a b : LinkAt) (frame want sent got : List ℕ) (r : Exchanged) → IsExchanged frame want sent got a b r → is_broken r ≡ false → is_reply_frame got ≡ true
lives_by a b frame want sent got r x whole = came want got r whole (told_by frame want sent got a b r whole x)

-- which answers come of an exchange, and what becomes of the pages
abbrev pub PutOutcome : Exchanged → PutAnswer → List (ℕ × ℕ) → List (ℕ × ℕ) → Type 0
PutOutcome (Exchange.Kept id) (put.Stored page) own own' = AddsOwn own page.spot.place id own'
PutOutcome (Exchange.Kept id) put.Failed own own' = ⊥
PutOutcome (Exchange.Kept id) put.NoMemory own own' = SameOwn own own'
PutOutcome Exchange.NoMemory (put.Stored page) own own' = ⊥
PutOutcome Exchange.NoMemory put.Failed own own' = ⊥
PutOutcome Exchange.NoMemory put.NoMemory own own' = SameOwn own own'
PutOutcome Exchange.Same answer own own' = (answer ≡ put.Failed) × SameOwn own own'
PutOutcome Exchange.Other answer own own' = (answer ≡ put.Failed) × SameOwn own own'
PutOutcome Exchange.Broken answer own own' = (answer ≡ put.Failed) × SameOwn own own'

put_stored : (frame sent got : List ℕ) (a b : LinkAt) (r : Exchanged) (answer : PutAnswer) (own own' : List (ℕ × ℕ)) → IsExchanged frame [] sent got a b r → PutOutcome r answer own own'
    → IfStored answer (λ page. (id : ℕ) × (got ≡ said (Replies.Kept id)) × AddsOwn own page.spot.place id own')
put_stored frame sent got a b (Exchange.Kept id) (put.Stored page) own own' x o = (id, x.1, o)
put_stored frame sent got a b Exchange.NoMemory (put.Stored page) own own' x o = absurd o
put_stored frame sent got a b Exchange.Same (put.Stored page) own own' x o = absurd (no_stored page o.0)
put_stored frame sent got a b Exchange.Other (put.Stored page) own own' x o = absurd (no_stored page o.0)
put_stored frame sent got a b Exchange.Broken (put.Stored page) own own' x o = absurd (no_stored page o.0)
put_stored frame sent got a b r put.Failed own own' x o = tt
put_stored frame sent got a b r put.NoMemory own own' x o = tt

put_no_memory : (frame sent got : List ℕ) (a b : LinkAt) (r : Exchanged) (answer : PutAnswer) (own own' : List (ℕ × ℕ)) → IsExchanged frame [] sent got a b r → PutOutcome r answer own own'
    → OnPutNoMemory answer (MayWantMemory sent got × SameOwn own own')
put_no_memory frame sent got a b (Exchange.Kept id) put.NoMemory own own' x o = (inr (inr (id, x.1)), o)
put_no_memory frame sent got a b Exchange.NoMemory put.NoMemory own own' x o = (inr (inl x.1), o)
put_no_memory frame sent got a b Exchange.Same put.NoMemory own own' x o = absurd (no_memory o.0)
put_no_memory frame sent got a b Exchange.Other put.NoMemory own own' x o = absurd (no_memory o.0)
put_no_memory frame sent got a b Exchange.Broken put.NoMemory own own' x o = absurd (no_memory o.0)
put_no_memory frame sent got a b r (put.Stored page) own own' x o = tt
put_no_memory frame sent got a b r put.Failed own own' x o = tt

abbrev is_kept : Exchanged → Bool
is_kept (Exchange.Kept id) = true
is_kept Exchange.Same = false
is_kept Exchange.NoMemory = false
is_kept Exchange.Other = false
is_kept Exchange.Broken = false

-- what an exchange tells that isn't a kept page
not_kept : (want got : List ℕ) (r : Exchanged) → is_kept r ≡ false → is_broken r ≡ false → Tells want got r → IsKeptReply got → ⊥
not_kept want got (Exchange.Kept id) nk whole t k = true≢false nk
not_kept want got Exchange.Same nk whole t k = let o = frame_operation 161 160 want (field k.0) (sym t.0 ∙ k.1) in omega arith
not_kept want got Exchange.NoMemory nk whole t k = let o = frame_operation 255 160 (field 9) (field k.0) (sym t ∙ k.1) in omega arith
not_kept want got Exchange.Other nk whole t k = t.not_kept k.0 k.1
not_kept want got Exchange.Broken nk whole t k = true≢false whole

put_failed : (old new : DoorAt) (frame sent got : List ℕ) (r : Exchanged) (answer : PutAnswer) → IsExchanged frame [] sent got old.link new.link r → PutOutcome r answer old.own new.own
    → OnPutFailed answer (MayFail IsKeptReply old got new × SameOwn old.own new.own)
put_failed old new frame sent got (Exchange.Kept id) put.Failed x o = absurd o
put_failed old new frame sent got Exchange.NoMemory put.Failed x o = absurd o
put_failed old new frame sent got Exchange.Same put.Failed x o = (fails_by IsKeptReply old new frame [] sent got Exchange.Same x (not_kept [] got Exchange.Same refl), o.1)
put_failed old new frame sent got Exchange.Other put.Failed x o = (fails_by IsKeptReply old new frame [] sent got Exchange.Other x (not_kept [] got Exchange.Other refl), o.1)
put_failed old new frame sent got Exchange.Broken put.Failed x o = (fails_by IsKeptReply old new frame [] sent got Exchange.Broken x (not_kept [] got Exchange.Broken refl), o.1)
put_failed old new frame sent got r (put.Stored page) x o = tt
put_failed old new frame sent got r put.NoMemory x o = tt

put_refusal : (frame sent got : List ℕ) (a b : LinkAt) (r : Exchanged) (answer : PutAnswer) (own own' : List (ℕ × ℕ)) → IsExchanged frame [] sent got a b r → PutOutcome r answer own own'
    → is_broken r ≡ false → OnPutFailed answer (IsRefusal got)
put_refusal frame sent got a b (Exchange.Kept id) put.Failed own own' x o whole = absurd o
put_refusal frame sent got a b Exchange.NoMemory put.Failed own own' x o whole = absurd o
put_refusal frame sent got a b Exchange.Same put.Failed own own' x o whole = (x.1.1, λ e. let p = frame_operation 161 255 [] (field 9) (sym x.1.0 ∙ e) in omega arith)
put_refusal frame sent got a b Exchange.Other put.Failed own own' x o whole = (x.1.reply, x.1.not_memory)
put_refusal frame sent got a b Exchange.Broken put.Failed own own' x o whole = absurd (true≢false whole)
put_refusal frame sent got a b r (put.Stored page) own own' x o whole = tt
put_refusal frame sent got a b r put.NoMemory own own' x o whole = tt

-- an exchange with the node
pub put_done : (old old' : DoorAt) (frame bytes : List ℕ) (link' : LinkAt) (room' : ℕ) (spent' : Bool) (own' : List (ℕ × ℕ)) (faults' : ℕ) (answer : PutAnswer) (r : Exchanged)
    → old ≡ old' → old.spent ≡ false → frame ≡ asked (Requests.Put bytes) → IsTalked frame [] (record { link = old.link; room = old.room; spent = old.spent }) (record { link = link'; room = room'; spent = spent' }) r
    → faults' ≡ count_after (put_faults answer) old.faults → PutOutcome r answer old.own own' → PutCalled old' bytes answer (door_with old link' room' own' spent' faults')
put_done old old' frame bytes link' room' spent' own' faults' answer r same fresh is t count o =
    subst (λ (d : DoorAt). PutCalled d bytes answer (door_with old link' room' own' spent' faults')) same record {
      sent = t.exchanges.sent;
      got = t.exchanges.got;
      passed = t.exchanges.passed;
      writes = λ _. inl (subst (λ (f : List ℕ). WritesFrame f t.exchanges.sent old.link link') is (writes_by frame [] t.exchanges.sent t.exchanges.got old.link link' r t.exchanges.comes));
      quiet = λ spent. absurd (true≢false (sym spent ∙ fresh));
      stored = put_stored frame t.exchanges.sent t.exchanges.got old.link link' r answer old.own own' t.exchanges.comes o;
      failed = put_failed old new frame t.exchanges.sent t.exchanges.got r answer t.exchanges.comes o;
      refused = λ alive. put_refusal frame t.exchanges.sent t.exchanges.got old.link link' r answer old.own own' t.exchanges.comes o (alive_by r fresh (sym t.spent ∙ alive));
      no_memory = put_no_memory frame t.exchanges.sent t.exchanges.got old.link link' r answer old.own own' t.exchanges.comes o;
      count = count;
      spends = λ spent. spends_by old new frame [] t.exchanges.sent t.exchanges.got r t.exchanges.comes (spent_by r fresh (sym t.spent ∙ spent));
      lives = λ alive. (fresh, inr (lives_by old.link link' frame [] t.exchanges.sent t.exchanges.got r t.exchanges.comes (alive_by r fresh (sym t.spent ∙ alive))));
      provider = refl;
      room = t.room;
    }
  where
    new : DoorAt
    new = door_with old link' room' own' spent' faults'

-- a page more, after room was made
pub adds_after : (own own' own'' : List (ℕ × ℕ)) (place id place' : ℕ) → place ≡ place' → SameOwn own own' → AddsOwn own' place id own'' → AddsOwn own place' id own''
adds_after own own' own'' place id place' e same adds = λ other.
    adds other ∙ ap (λ (o : Option ℕ). cond (place == other) (Some id) o) (same other) ∙ ap (λ (p : ℕ). cond (p == other) (Some id) (id_of own other)) e

-- a put that failed at the node
pub put_refused : (old old' new : DoorAt) (frame bytes : List ℕ) (link' : LinkAt) (room' : ℕ) (spent' : Bool) (own' : List (ℕ × ℕ)) (r : Exchanged)
    → old ≡ old' → old.spent ≡ false → frame ≡ asked (Requests.Put bytes) → IsTalked frame [] (record { link = old.link; room = old.room; spent = old.spent }) (record { link = link'; room = room'; spent = spent' }) r
    → (r ≡ Exchange.Same) ⊎ (r ≡ Exchange.Other) ⊎ (r ≡ Exchange.Broken) → SameOwn old.own own' → new ≡ door_with old link' room' own' spent' (count_after 1 old.faults) → PutCalled old' bytes put.Failed new
put_refused old old' new frame bytes link' room' spent' own' r same fresh is t how owned now =
    subst (λ (d : DoorAt). PutCalled old' bytes put.Failed d) (sym now)
    (put_done old old' frame bytes link' room' spent' own' (count_after 1 old.faults) put.Failed r same fresh is t refl (outcome how))
  where
    at : (q : Exchanged) → q ≡ r → PutOutcome q put.Failed old.own own' → PutOutcome r put.Failed old.own own'
    at q e o = subst (λ (x : Exchanged). PutOutcome x put.Failed old.own own') e o

    outcome : (r ≡ Exchange.Same) ⊎ (r ≡ Exchange.Other) ⊎ (r ≡ Exchange.Broken) → PutOutcome r put.Failed old.own own'
    outcome (inl e) = at Exchange.Same (sym e) (refl, owned)
    outcome (inr (inl e)) = at Exchange.Other (sym e) (refl, owned)
    outcome (inr (inr e)) = at Exchange.Broken (sym e) (refl, owned)

-- ---- gets

not_given : (want got : List ℕ) (r : Exchanged) → ((r ≡ Exchange.Same) → ⊥) → is_broken r ≡ false → Tells want got r → IsGivenReply want got → ⊥
not_given want got (Exchange.Kept id) ns whole t k = let o = frame_operation 160 161 (field id) want (sym t ∙ k) in omega arith
not_given want got Exchange.Same ns whole t k = ns refl
not_given want got Exchange.NoMemory ns whole t k = let o = frame_operation 255 161 (field 9) want (sym t ∙ k) in omega arith
not_given want got Exchange.Other ns whole t k = t.not_wanted k
not_given want got Exchange.Broken ns whole t k = true≢false whole

pub get_spent : (old old' new : DoorAt) (id from : ℕ) (want : List ℕ) → old ≡ old' → old.spent ≡ true → new ≡ door_with old old.link old.room old.own old.spent (count_after 1 old.faults) → OwnGetCalled old' id from want get.Failed new
get_spent old old' new id from want same spent is =
    subst (λ (d : DoorAt). OwnGetCalled d id from want get.Failed new) same
    (subst (λ (d : DoorAt). OwnGetCalled old id from want get.Failed d) (sym is) record {
      sent = [];
      got = [];
      passed = passed_none old.link;
      writes = λ not. absurd (true≢false (sym spent ∙ not));
      quiet = λ _. ((refl, refl), refl);
      gives = tt;
      failed = inr (inr spent);
      refused = λ not. absurd (true≢false (sym spent ∙ not));
      count = refl;
      spends = λ _. inl spent;
      lives = λ not. absurd (true≢false (sym spent ∙ not));
      own = refl;
      provider = refl;
      room = refl;
    })

failed_by : (answer : GetAnswer) {P : Type 0} → P → OnGetFailed answer P
failed_by get.Got p = tt
failed_by get.Failed p = p

get_facts : (old : DoorAt) (frame want : List ℕ) (link' : LinkAt) (room' : ℕ) (spent' : Bool) (faults' id from : ℕ) (answer : GetAnswer) (r : Exchanged)
    → old.spent ≡ false → frame ≡ asked (Requests.Get id from (length want)) → (t : IsTalked frame want (record { link = old.link; room = old.room; spent = old.spent }) (record { link = link'; room = room'; spent = spent' }) r)
    → faults' ≡ count_after (get_faults answer) old.faults
    → OnGot answer (t.exchanges.got ≡ said (Replies.Given want)) → OnGetFailed answer (MayFail (IsGivenReply want) old t.exchanges.got (door_with old link' room' old.own spent' faults'))
    → OwnGetCalled old id from want answer (door_with old link' room' old.own spent' faults')
get_facts old frame want link' room' spent' faults' id from answer r fresh is t count gives failed = record {
  sent = t.exchanges.sent;
  got = t.exchanges.got;
  passed = t.exchanges.passed;
  writes = λ _. subst (λ (f : List ℕ). WritesFrame f t.exchanges.sent old.link link') is (writes_by frame want t.exchanges.sent t.exchanges.got old.link link' r t.exchanges.comes);
  quiet = λ spent. absurd (true≢false (sym spent ∙ fresh));
  gives = gives;
  failed = failed;
  refused = λ alive. failed_by answer (lives_by old.link link' frame want t.exchanges.sent t.exchanges.got r t.exchanges.comes (alive_by r fresh (sym t.spent ∙ alive)));
  count = count;
  spends = λ spent. spends_by old (door_with old link' room' old.own spent' faults') frame want t.exchanges.sent t.exchanges.got r t.exchanges.comes (spent_by r fresh (sym t.spent ∙ spent));
  lives = λ alive. (fresh, inr (lives_by old.link link' frame want t.exchanges.sent t.exchanges.got r t.exchanges.comes (alive_by r fresh (sym t.spent ∙ alive))));
  own = refl;
  provider = refl;
  room = t.room;
}

same_told : (frame want sent got : List ℕ) (a b : LinkAt) (r : Exchanged) → r ≡ Exchange.Same → IsExchanged frame want sent got a b r → got ≡ said (Replies.Given want)
same_told frame want sent got a b r e x = (subst (λ (q : Exchanged). IsExchanged frame want sent got a b q) e x).1.0

pub get_given : (old old' : DoorAt) (frame want : List ℕ) (link' : LinkAt) (room' : ℕ) (spent' : Bool) (id from : ℕ) (r : Exchanged)
    → old ≡ old' → old.spent ≡ false → frame ≡ asked (Requests.Get id from (length want)) → IsTalked frame want (record { link = old.link; room = old.room; spent = old.spent }) (record { link = link'; room = room'; spent = spent' }) r
    → r ≡ Exchange.Same → OwnGetCalled old' id from want get.Got (door_with old link' room' old.own spent' old.faults)
get_given old old' frame want link' room' spent' id from r same fresh is t given =
    subst (λ (d : DoorAt). OwnGetCalled d id from want get.Got (door_with old link' room' old.own spent' old.faults)) same
    (get_facts old frame want link' room' spent' old.faults id from get.Got r fresh is t refl (same_told frame want t.exchanges.sent t.exchanges.got old.link link' r given t.exchanges.comes) tt)

pub get_failed : (old old' new : DoorAt) (frame want : List ℕ) (link' : LinkAt) (room' : ℕ) (spent' : Bool) (id from : ℕ) (r : Exchanged)
    → old ≡ old' → old.spent ≡ false → frame ≡ asked (Requests.Get id from (length want)) → IsTalked frame want (record { link = old.link; room = old.room; spent = old.spent }) (record { link = link'; room = room'; spent = spent' }) r
    → ((r ≡ Exchange.Same) → ⊥) → new ≡ door_with old link' room' old.own spent' (count_after 1 old.faults) → OwnGetCalled old' id from want get.Failed new
get_failed old old' new frame want link' room' spent' id from r same fresh is t other now =
    subst (λ (d : DoorAt). OwnGetCalled d id from want get.Failed new) same
    (subst (λ (d : DoorAt). OwnGetCalled old id from want get.Failed d) (sym now)
    (get_facts old frame want link' room' spent' (count_after 1 old.faults) id from get.Failed r fresh is t refl tt
    (fails_by (IsGivenReply want) old (door_with old link' room' old.own spent' (count_after 1 old.faults)) frame want t.exchanges.sent t.exchanges.got r t.exchanges.comes (not_given want t.exchanges.got r other))))

-- ---- what each call does

pub rose_one : (faults : ℕ) → faults < 2 ^ 64 → RoseBy 1 faults (count_after 1 faults)
rose_one faults small = record { later = omega arith; by = λ below. omega arith }

pub put_called : (old new : DoorAt) (bytes : List ℕ) (answer : PutAnswer) → PutCalled old bytes answer new → DoorCalled old new
put_called old new bytes answer p = record { sent = p.sent; got = p.got; passed = p.passed; quiet = λ spent. (p.quiet spent).0; spends = p.spends; lives = p.lives; provider = p.provider; room = p.room }

pub own_get_called : (old new : DoorAt) (id from : ℕ) (want : List ℕ) (answer : GetAnswer) → OwnGetCalled old id from want answer new → DoorCalled old new
own_get_called old new id from want answer p = record { sent = p.sent; got = p.got; passed = p.passed; quiet = λ spent. (p.quiet spent).0; spends = p.spends; lives = p.lives; provider = p.provider; room = p.room }

uncalled_door : (old : DoorAt) → DoorCalled old old
uncalled_door old = record { sent = []; got = []; passed = passed_none old.link; quiet = λ _. (refl, refl); spends = λ spent. inl spent; lives = λ fresh. (fresh, inl (refl, refl)); provider = refl; room = refl }

pub get_called : (own : Option ℕ) (old new : DoorAt) (from : ℕ) (want : List ℕ) (answer : GetAnswer) → GetCalled own old from want answer new → DoorCalled old new
get_called None old new from want answer p = subst (λ (d : DoorAt). DoorCalled old d) (sym p.1) (uncalled_door old)
get_called (Some id) old new from want answer p = own_get_called old new id from want answer p

falls_never : (k before after : ℕ) → before < 2 ^ 64 → after ≡ count_after k before → before ≤ after
falls_never zero before after small e = omega arith
falls_never (suc k) before after small e = omega arith

pub put_never_falls : (old new : DoorAt) (bytes : List ℕ) (answer : PutAnswer) → old.faults < 2 ^ 64 → PutCalled old bytes answer new → old.faults ≤ new.faults
put_never_falls old new bytes answer small p = falls_never (put_faults answer) old.faults new.faults small p.count

pub put_rose : (old new : DoorAt) (bytes : List ℕ) (answer : PutAnswer) → old.faults < 2 ^ 64 → PutCalled old bytes answer new → OnPutFailed answer (RoseBy 1 old.faults new.faults)
put_rose old new bytes (put.Stored page) small p = tt
put_rose old new bytes put.Failed small p = subst (λ (n : ℕ). RoseBy 1 old.faults n) (sym p.count) (rose_one old.faults small)
put_rose old new bytes put.NoMemory small p = tt

get_counts : (own : Option ℕ) (old new : DoorAt) (from : ℕ) (want : List ℕ) (answer : GetAnswer) → GetCalled own old from want answer new → new.faults ≡ count_after (get_faults answer) old.faults
get_counts None old new from want answer p =
    ap (λ (d : DoorAt). d.faults) p.1 ∙ ap (λ (a : GetAnswer). count_after (get_faults a) old.faults) (sym p.0)
get_counts (Some id) old new from want answer p = p.count

pub get_never_falls : (own : Option ℕ) (old new : DoorAt) (from : ℕ) (want : List ℕ) (answer : GetAnswer) → old.faults < 2 ^ 64 → GetCalled own old from want answer new → old.faults ≤ new.faults
get_never_falls own old new from want answer small p = falls_never (get_faults answer) old.faults new.faults small (get_counts own old new from want answer p)

pub get_rose : (own : Option ℕ) (old new : DoorAt) (from : ℕ) (want : List ℕ) (answer : GetAnswer) → old.faults < 2 ^ 64 → GetCalled own old from want answer new → OnGetFailed answer (RoseBy 1 old.faults new.faults)
get_rose own old new from want get.Got small p = tt
get_rose own old new from want get.Failed small p = subst (λ (n : ℕ). RoseBy 1 old.faults n) (sym (get_counts own old new from want get.Failed p)) (rose_one old.faults small)

pub own_want : (old new : DoorAt) (id from : ℕ) (want want' : List ℕ) (answer : GetAnswer) → want ≡ want' → OwnGetCalled old id from want answer new → OwnGetCalled old id from want' answer new
own_want old new id from want want' answer e p = subst (λ (w : List ℕ). OwnGetCalled old id from w answer new) e p

pub get_some : (own : Option ℕ) (old new : DoorAt) (id from : ℕ) (want : List ℕ) (answer : GetAnswer) → own ≡ Some id → OwnGetCalled old id from want answer new → GetCalled own old from want answer new
get_some own old new id from want answer e p = subst (λ (o : Option ℕ). GetCalled o old from want answer new) (sym e) p

pub get_none : (own : Option ℕ) (old : DoorAt) (from : ℕ) (want : List ℕ) → own ≡ None → GetCalled own old from want get.Got old
get_none own old from want e = subst (λ (o : Option ℕ). GetCalled o old from want get.Got old) (sym e) (refl, refl)
