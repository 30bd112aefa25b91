-- What a session answers a read, by what its turn and its walk gave.
use Rattle.std.proofs.Common.{◌≡◌, refl, sym, ◌∙◌, ap, ℕ, ◌+◌, ◌<◌, ◌≤◌, subst, List, [], ◌∷◌, ◌++◌, length, take, drop, Result, Ok, Err, Bool, true, false, Option, Some, None, arith, inl, inr}
use Rattle.std.specs.Prelude.{nat_lt, if◌then◌else◌, IfOk, IfErr}
use Rattle.std.proofs.lemmas.Bool.{ltb-true, cases_lt}
use Rattle.faults.specs.Counts.{RoseBy}
use Rattle.blob_model.specs.Answer.{answer}
use Rattle.blob_model.specs.Content.{Update, content, size_of}
use Rattle.snapshot.specs.Versions.{Version, size_now}
use Rattle.snapshot.specs.Laws.{TellUpdates}
use Rattle.blob_model.specs.History.{AllOther}
use Rattle.blob_model.specs.declared.call.Call.TheVariants as Calls
use Rattle.blob_model.specs.declared.call.Event.{Event}
use Rattle.blob_model.specs.declared.call.Outcome.TheVariants as Outcomes
use Rattle.blob_model.specs.declared.call.Refusal.{Refusal}
use Rattle.blob_model.specs.declared.call.Refusal.TheVariants as Refusals
use Rattle.version_manager.specs.Desks.{updates_in, unopened_size}
use Rattle.version_manager.specs.Log.{Opened, IsSnapshotOf, desk_at, events, outcome_in}
use Rattle.version_manager.specs.declared.journal.DeskFixed.{DeskFixed}
use Rattle.version_manager.specs.declared.fault.DeskFault.TheVariants as DeskFaults
use Rattle.version_manager.specs.declared.fault.OpenFault.{OpenFault}
use Rattle.version_manager.specs.declared.fault.OpenFault.TheVariants as OpenFaults
use Rattle.request_form.specs.Replies.{fault_of}
use Rattle.request_form.specs.Session.{Session, outcome_at}
use Rattle.request_form.specs.Turns.{Turn, tells}
use Rattle.request_form.specs.Answers.{AfterGap, Answers, ReadTurn, Unless, read_fault, max_read}
use Rattle.request_form.specs.declared.form.Request.TheVariants as Requests
use Rattle.request_form.specs.declared.form.Reply.{Reply}
use Rattle.request_form.specs.declared.form.Reply.TheVariants as Replies
use Rattle.request_form.specs.declared.form.Fault.{Fault}
use Rattle.request_form.specs.declared.form.Fault.TheVariants as Faults
use Rattle.request_form.proofs.PublishedReads.{not_below}
use Rattle.range_reader.specs.declared.ranges.RangeFault.{RangeFault}
use Rattle.range_reader.specs.declared.ranges.RangeFault.TheVariants as RangeFaults
use Rattle.client_session.specs.Tickets.{OpenUpdate}
use Rattle.range_reader.specs.Ranges.{OverUpdates, RangeAnswers, first_end_past}
use Rattle.range_reader.proofs.Parts.{length_part}
use Rattle.client_session.specs.Results.{open_fault, opened_of, starved_fault, unread_fault, range_of, read_reply}
use Rattle.client_session.specs.Opening.{Opening, NotOpened, RangeCause, ReadsRange}
use Rattle.client_session.specs.Memory.{IfNoMemory}
use Rattle.client_session.specs.Kept.{Coming, Found}
use Rattle.client_session.specs.Sessions.{SessionState, session_at, session_of}
use Rattle.client_session.proofs.Turns.{Took, outcome_of_gap, then_told}
use Rattle.client_session.proofs.Ranges.{read_refused, read_past, read_within, told_size}

-- ---- the count of faults
pub rose_none : (n a b : ℕ) → n ≡ 0 → a ≤ b → RoseBy n a b
rose_none n a b none le = record { later = le; by = λ few. omega arith }

-- the session itself doesn't refuse it
pub unless_none : (o : Option Fault) (s : Session) (reply : Reply) (s' : Session) (Answer : Type 0) → o ≡ None → Answer → Unless o s reply s' Answer
unless_none None s reply s' Answer is answer = answer
unless_none (Some fault) s reply s' Answer is answer = cc

pub few_enough : (s : Session) (count : ℕ) (reply : Reply) (s' : Session) (Answer : Type 0) → count ≤ max_read → Answer → Unless (read_fault count) s reply s' Answer
few_enough s count reply s' Answer few answer =
    unless_none (read_fault count) s reply s' Answer (rw (not_below max_read count few) refl) answer

-- the same result of a range
abbrev pub IsThat : Result (List ℕ) RangeFault → Result (List ℕ) RangeFault → Type 0
IsThat a b = a ≡ b

pub same_range : (end size end' size' : ℕ) → IsThat (Err (RangeFaults.RangePastSize end size)) (Err (RangeFaults.RangePastSize end' size'))
    → Faults.RangePastSize end size ≡ Faults.RangePastSize end' size'
same_range end size end' size' e =
    let first : end ≡ end' = cc in
    let second : size ≡ size' = cc in
    cc

-- the walk gave the range, or told why not
pub reads_range : (v : Version) (offset count : ℕ) (before now : List ℕ) (sum_before sum_now : ℕ) (us : List Update) → TellUpdates v.page_size us v.rows → (r : Result (List ℕ) RangeFault)
    → count ≤ max_read → IfOk r (λ bytes. bytes ≡ take count (drop offset (content us (length v.rows)))) → RangeAnswers v offset count before now sum_before sum_now r
    → ReadsRange v.page_size us (length v.rows) offset count (range_of r)
reads_range v offset count before now sum_before sum_now us tells (Ok bytes) few is a = record { bytes = is; few = few; within = a.within us tells; cause = tt }
reads_range v offset count before now sum_before sum_now us tells (Err (RangeFaults.RangePastSize end size)) few is a =
    let past : size_of us (length v.rows) < offset + count = a.past us tells in
    let is : Faults.RangePastSize end size ≡ Faults.RangePastSize (offset + count) (size_of us (length v.rows)) = same_range _ _ _ _ (a.refused us tells past) in
    record { bytes = tt; few = tt; within = tt; cause = RangeCause.past is few past }
reads_range v offset count before now sum_before sum_now us tells (Err (RangeFaults.PageFault page)) few is a =
    record { bytes = tt; few = tt; within = tt; cause = RangeCause.lost page refl few (a.lost_within us tells) a.page }
reads_range v offset count before now sum_before sum_now us tells (Err RangeFaults.NoMemory) few is a =
    record { bytes = tt; few = tt; within = tt; cause = RangeCause.no_memory refl }

-- where it isn't read for want of memory, it lies within the size
pub not_that : (end size : ℕ) → IsThat (Err RangeFaults.NoMemory) (Err (RangeFaults.RangePastSize end size)) → ⊥
not_that end size e = cc

pub range_starved : (size end : ℕ) (r : Result (List ℕ) RangeFault) → (size < end → IsThat r (Err (RangeFaults.RangePastSize end size)))
    → IfErr (range_of r) (λ fault. IfNoMemory fault (end ≤ size))
range_starved size end (Ok bytes) refused = tt
range_starved size end (Err (RangeFaults.RangePastSize e n)) refused = λ is. let never : ⊥ = cc in absurd never
range_starved size end (Err (RangeFaults.PageFault page)) refused = λ is. let never : ⊥ = cc in absurd never
range_starved size end (Err RangeFaults.NoMemory) refused = λ is. elim (cases_lt size end) [
  | inl past ↦ absurd (not_that end size (refused past))
  | inr within ↦ within
]

-- where no memory was found for its version, it may end past the size
starved_cause : (p : ℕ) (us : List Update) (version offset count size : ℕ) (x : Bool) → nat_lt size (offset + count) ≡ x → size ≡ size_of us version → count ≤ max_read
    → RangeCause p us version offset count (starved_fault size (if x then Some (offset + count) else None))
starved_cause p us version offset count size true past is few =
    let size_past : size < offset + count = ltb-true size (offset + count) past in
    RangeCause.past (ap (λ (n : ℕ). Faults.RangePastSize (offset + count) n) is) few (subst (λ (n : ℕ). n < offset + count) is size_past)
starved_cause p us version offset count size false within is few = RangeCause.no_memory refl

-- the version was opened, or wasn't
not_opened_for : (f : DeskFixed) (log : List (ℕ × Event)) (caller blob version : ℕ) (fault : OpenFault) → outcome_in f log caller (Calls.Size blob version) ≡ unopened_size fault
    → NotOpened f log caller blob version (open_fault fault)
not_opened_for f log caller blob version (OpenFaults.Refused refusal) e = record { why = DeskFaults.Refused refusal; said = refl; refused = e }
not_opened_for f log caller blob version (OpenFaults.NoMemory size) e = record { why = DeskFaults.NoMemory; said = refl; refused = tt }

pub not_opened_told : (f : DeskFixed) (caller : ℕ) (log log' : List (ℕ × Event)) (blob version : ℕ) (r : Result Version OpenFault)
    → Took caller log log' (λ before after. Opened f blob version before caller r after) → IfErr r (λ fault. outcome_in f log' caller (Calls.Size blob version) ≡ unopened_size fault)
not_opened_told f caller log log' blob version (Ok v) t = tt
not_opened_told f caller log log' blob version (Err fault) t =
    subst (λ (l : List (ℕ × Event)). outcome_in f l caller (Calls.Size blob version) ≡ unopened_size fault) (sym t.gives.same) t.gives.not_opened

pub opening_told : {D : Type 0} (s : SessionState D) (log' : List (ℕ × Event)) (blob version : ℕ) (r : Result Version OpenFault)
    → Took s.caller s.log log' (λ before after. Opened s.store.fixed blob version before s.caller r after) → Opening s blob version (opened_of r) (record s { log = log'; turns = s.turns + 1 })
opening_told s log' blob version (Ok v) t =
    let here = subst (λ (l : List (ℕ × Event)). IsSnapshotOf s.store.fixed l blob version v) (sym t.gives.same) t.gives.snapshot in
    record {
      gap = t.gap;
      others = t.others;
      log = t.gives.same;
      same = refl;
      one_turn = refl;
      done = subst (λ (l : List (ℕ × Event)). outcome_in s.store.fixed l s.caller (Calls.Size blob version) ≡ Outcomes.Size (size_now v)) (sym t.gives.same) t.gives.done;
      snapshot = here;
      of_store = record { here = here.here; page_size = here.page_size };
      refused = tt;
    }
opening_told s log' blob version (Err fault) t = record {
  gap = t.gap;
  others = t.others;
  log = t.gives.same;
  same = refl;
  one_turn = refl;
  done = tt;
  snapshot = tt;
  of_store = tt;
  refused = not_opened_for s.store.fixed log' s.caller blob version fault (not_opened_told s.store.fixed s.caller s.log log' blob version (Err fault) t);
}

-- a turn that left the history as it found it
module _ (f : DeskFixed) (caller : ℕ) (log log' gap : List (ℕ × Event)) (others : AllOther caller (events gap)) (same : log' ≡ log ++ gap)
    (held : List OpenUpdate) (next limit blob version offset count : ℕ) where
  abbrev May : List Event → Turn → Type 0
  May = ReadTurn (session_at f caller log held next limit) blob version offset count

  abbrev Says : Reply → Type 0
  Says reply = AfterGap AllOther (session_at f caller log held next limit) May reply (session_at f caller log' held next limit)

  then_says : (told reply : Reply) → May (events gap) (tells told) → reply ≡ told → Says reply
  then_says told reply may said = then_told f caller log log' gap held next limit May told reply others same may said

  -- what the store answers then
  outcome_is : outcome_at (session_at f caller log held next limit) (events gap) (Calls.Read blob version offset count) ≡ outcome_in f (log ++ gap) caller (Calls.Read blob version offset count)
  outcome_is = outcome_of_gap f caller log log' gap held next limit (Calls.Read blob version offset count)

  -- the version isn't there
  refused_read : (r : Refusal) → outcome_in f (log ++ gap) caller (Calls.Size blob version) ≡ Outcomes.Refused r → Says (Replies.Refused (fault_of r))
  refused_read r e = then_says _ _ (ReadTurn.refused r (outcome_is ∙ read_refused f (log ++ gap) caller blob version offset count r e)) refl

  -- the version is there, with so many bytes
  module _ (n : ℕ) (there : outcome_in f (log ++ gap) caller (Calls.Size blob version) ≡ Outcomes.Size n) where
    abbrev updates : List Update
    updates = updates_in (desk_at f (log ++ gap)) blob

    within : offset + count ≤ size_of updates version
        → outcome_at (session_at f caller log held next limit) (events gap) (Calls.Read blob version offset count) ≡ Outcomes.Content (take count (drop offset (content updates version)))
    within inside = outcome_is ∙ read_within f (log ++ gap) caller blob version offset count n there inside

    -- a range that was not read
    failed_read : (fault : Fault) → count ≤ max_read → RangeCause f.page_size updates version offset count fault → Says (Replies.Refused fault)
    failed_read fault few (RangeCause.too_long is long) = absurd (omega (arith, few, long))
    failed_read fault few (RangeCause.past is few' past) =
        let refusal : Refusal = Refusals.RangePastSize (offset + count) (size_of updates version) in
        then_says _ _ (ReadTurn.refused refusal (outcome_is ∙ read_past f (log ++ gap) caller blob version offset count n there past)) (ap Replies.Refused is)
    failed_read fault few (RangeCause.lost page is few' inside met) =
        let bytes : List ℕ = take count (drop offset (content updates version)) in
        let some : 0 < length bytes = omega (arith, length_part (content updates version) offset count inside, met.some) in
        then_says _ _ (ReadTurn.not_read bytes (within inside) some page (record { begins = met.begins; ends = met.ends })) (ap Replies.Refused is)
    failed_read fault few (RangeCause.no_memory is) = then_says _ _ ReadTurn.out_of_memory (ap Replies.Refused is)

    -- what a range of the opened version gives
    pub range_answer : (said : Result (List ℕ) Fault) → count ≤ max_read → ReadsRange f.page_size updates version offset count said → Says (read_reply said)
    range_answer (Ok bytes) few r = then_says _ _ (ReadTurn.content bytes (within r.within ∙ ap Outcomes.Content (sym r.bytes))) refl
    range_answer (Err fault) few r = failed_read fault few r.cause

  -- the version wasn't opened
  pub unread_answer : (fault : OpenFault) → count ≤ max_read → outcome_in f (log ++ gap) caller (Calls.Size blob version) ≡ unopened_size fault
      → Says (Replies.Refused (unread_fault fault ((offset, count) ∷ [])))
  unread_answer (OpenFaults.Refused r) few e = refused_read r e
  unread_answer (OpenFaults.NoMemory size) few e =
      failed_read size e (starved_fault size (first_end_past size ((offset, count) ∷ []))) few
      (starved_cause f.page_size (updates_in (desk_at f (log ++ gap)) blob) version offset count size (nat_lt size (offset + count)) refl (told_size f (log ++ gap) caller blob version size e) few)

-- ---- a read comes to its version, and then reads a range of it
-- a session that has seen more
abbrev pub seen_to : {D : Type 0} → SessionState D → List (ℕ × Event) → Session
seen_to s log' = session_at s.store.fixed s.caller log' s.held s.next s.limit

-- the version that it came to, in what it has seen then
module _ {D : Type 0} (s s1 : SessionState D) (blob version : ℕ) (v : Version) (o : Found s blob version v s1) where
  pub session_found : (s' : SessionState D) → s' ≡ record s1 { doors = s'.doors } → session_of s' ≡ seen_to s s1.log
  session_found s' stays = ap session_of stays ∙ ap session_of o.same

  -- what holds of all updates that its rows tell holds of the blob's, and its size is told
  module _ (log : List (ℕ × Event)) (seen : s1.log ≡ log) where
    pub by_updates : (P : ℕ → List Update → ℕ → Type 0) → OverUpdates v (λ us. P v.page_size us (length v.rows)) → P s.store.fixed.page_size (updates_in (desk_at s.store.fixed log) blob) version
    by_updates P each =
        let us : List Update = updates_in (desk_at s.store.fixed log) blob in
        let snap : IsSnapshotOf s.store.fixed log blob version v = subst (λ (l : List (ℕ × Event)). IsSnapshotOf s.store.fixed l blob version v) seen o.snapshot in
        let tells : TellUpdates v.page_size us v.rows = subst (λ (p : ℕ). TellUpdates p us v.rows) (sym snap.page_size) snap.tells in
        subst (λ (p : ℕ). P p us version) snap.page_size (subst (λ (n : ℕ). P v.page_size us n) snap.rows (each us tells))

    pub size_found : outcome_in s.store.fixed log s.caller (Calls.Size blob version) ≡ Outcomes.Size o.size
    size_found = subst (λ (l : List (ℕ × Event)). outcome_in s.store.fixed l s.caller (Calls.Size blob version) ≡ Outcomes.Size o.size) seen o.done

module _ {D : Type 0} (s s1 : SessionState D) (blob version offset count : ℕ) (few : count ≤ max_read) where
  pub opened_read : (s' : SessionState D) (v : Version) (said : Result (List ℕ) Fault) → Found s blob version v s1 → s' ≡ record s1 { doors = s'.doors }
      → ((us : List Update) → TellUpdates v.page_size us v.rows → ReadsRange v.page_size us (length v.rows) offset count said)
      → Answers AllOther (session_of s) (Requests.Read blob version offset count) (read_reply said) (session_of s')
  opened_read s' v said o stays reads =
      let f = s.store.fixed in
      let r = by_updates s s1 blob version v o (s.log ++ o.gap) o.log (λ p us n. ReadsRange p us n offset count said) reads in
      let there = size_found s s1 blob version v o (s.log ++ o.gap) o.log in
      let answer : AfterGap AllOther (session_of s) (ReadTurn (session_of s) blob version offset count) (read_reply said) (seen_to s s1.log) =
      range_answer f s.caller s.log s1.log o.gap o.others o.log s.held s.next s.limit blob version offset count o.size there said few r
      in
      let now = session_found s s1 blob version v o s' stays in
      subst (λ (x : Session). Answers AllOther (session_of s) (Requests.Read blob version offset count) (read_reply said) x) (sym now)
      (few_enough (session_of s) count (read_reply said) (seen_to s s1.log) _ few answer)

  pub unopened_read : {A : Type 0} (fault : OpenFault) → Coming {A = A} s blob version (Err fault) s1
      → Answers AllOther (session_of s) (Requests.Read blob version offset count) (read_reply (Err (unread_fault fault ((offset, count) ∷ [])))) (session_of s1)
  unopened_read fault o =
      let f = s.store.fixed in
      let reply : Reply = Replies.Refused (unread_fault fault ((offset, count) ∷ [])) in
      let is : outcome_in f (s.log ++ o.gap) s.caller (Calls.Size blob version) ≡ unopened_size fault =
      subst (λ (l : List (ℕ × Event)). outcome_in f l s.caller (Calls.Size blob version) ≡ unopened_size fault) o.log o.not_opened
      in
      let answer : AfterGap AllOther (session_of s) (ReadTurn (session_of s) blob version offset count) reply (seen_to s s1.log) =
      unread_answer f s.caller s.log s1.log o.gap o.others o.log s.held s.next s.limit blob version offset count fault few is
      in
      let now : session_of s1 ≡ seen_to s s1.log = ap (λ (x : SessionState D). session_of x) o.same in
      subst (λ (x : Session). Answers AllOther (session_of s) (Requests.Read blob version offset count) reply x) (sym now)
      (few_enough (session_of s) count reply (seen_to s s1.log) _ few answer)
