-- What a session has seen where it answers want of memory.
use Rattle.std.proofs.Common.{◌≡◌, refl, sym, ◌∙◌, ap, subst, ℕ, ◌+◌, ◌≤◌, true, false, List, [], ◌∷◌, ◌++◌, append-nil, length, Option, Some, None, Result, Ok, Err}
use Rattle.std.specs.Prelude.{IfErr}
use Rattle.std.proofs.lemmas.List.Elements.{All-contains}
use Rattle.blob_model.specs.Content.{size_of}
use Rattle.blob_model.specs.Store.{Store, Blob}
use Rattle.blob_model.specs.Answer.{repair_refusal}
use Rattle.blob_model.specs.History.{is_refused, store_of}
use Rattle.blob_model.specs.declared.call.Call.{Call}
use Rattle.blob_model.specs.declared.call.Call.TheVariants as Calls
use Rattle.blob_model.specs.declared.call.Event.{Event}
use Rattle.blob_model.specs.declared.call.Event.TheVariants as Events
use Rattle.blob_model.specs.declared.call.Outcome.TheVariants as Outcomes
use Rattle.blob_model.specs.declared.call.Refusal.{Refusal}
use Rattle.blob_model.specs.declared.call.Refusal.TheVariants as Refusals
use Rattle.border_hints.specs.Numbered.{NumberedUpdate}
use Rattle.snapshot.specs.Versions.{Version}
use Rattle.turn_lock.specs.Shown.{PassView, Turned}
use Rattle.version_manager.specs.Desks.{IsUnfinished, IsTicketOf, finished_or_not, is_finished_in, updates_in, OnNoMemory, unopened_size}
use Rattle.version_manager.specs.Laws.{GapsAreOfOthers}
use Rattle.version_manager.specs.Log.{Changed, Finishes, desk_at, events, outcome_in}
use Rattle.version_manager.specs.Stays.{ticket_stays}
use Rattle.version_manager.specs.declared.journal.DeskFixed.{DeskFixed}
use Rattle.version_manager.specs.declared.fault.DeskFault.{DeskFault}
use Rattle.version_manager.specs.declared.fault.DeskFault.TheVariants as DeskFaults
use Rattle.version_manager.specs.declared.fault.OpenFault.{OpenFault}
use Rattle.version_manager.specs.declared.fault.OpenFault.TheVariants as OpenFaults
use Rattle.request_form.specs.Replies.{fault_of}
use Rattle.request_form.specs.Session.{Session}
use Rattle.request_form.specs.declared.form.Fault.{Fault}
use Rattle.request_form.specs.declared.form.Fault.TheVariants as Faults
use Rattle.range_reader.specs.Ranges.{OverUpdates, first_end_past}
use Rattle.range_reader.proofs.JoinedRanges.{EndsWithin, each_within, none_past}
use Rattle.client_session.specs.Tickets.{OpenUpdate, IsHeldAt}
use Rattle.client_session.specs.Finishing.{bare, settles}
use Rattle.client_session.specs.Memory.{IfNoMemory, IsTakenNow, AreTakenNow, IsLeft, IsHeldLeft}
use Rattle.client_session.specs.Kept.{Coming, Found}
use Rattle.client_session.specs.Opening.{Opening}
use Rattle.client_session.specs.Results.{desk_fault, told_of, opened_of, starved_fault, unread_fault}
use Rattle.client_session.specs.Sessions.{SessionState, session_at, session_of}
use Rattle.client_session.proofs.Finished.{numbered_there, report_said}
use Rattle.client_session.proofs.Ranges.{read_within, told_size}
use Rattle.client_session.proofs.RangeAnswers.{session_found, by_updates}
use Rattle.client_session.proofs.StoreAnswers.{refusal_of_numbered}
use Rattle.client_session.proofs.Turns.{Took, took, outcome_of_gap}

-- ---- what the desk says
-- no refusal is want of memory
refused_else : (refusal : Refusal) (P : Type 0) → IfNoMemory (fault_of refusal) P
refused_else (Refusals.NoBlob blob) P = λ is. let never : ⊥ = cc in absurd never
refused_else (Refusals.NotPublished version published) P = λ is. let never : ⊥ = cc in absurd never
refused_else (Refusals.OffsetPastSize offset size) P = λ is. let never : ⊥ = cc in absurd never
refused_else (Refusals.BlobTooBig end limit) P = λ is. let never : ⊥ = cc in absurd never
refused_else (Refusals.TooManyVersions limit) P = λ is. let never : ⊥ = cc in absurd never
refused_else (Refusals.TooManyOpen limit) P = λ is. let never : ⊥ = cc in absurd never
refused_else (Refusals.TooManyBlobs limit) P = λ is. let never : ⊥ = cc in absurd never
refused_else (Refusals.Already version) P = λ is. let never : ⊥ = cc in absurd never
refused_else (Refusals.RangePastSize end size) P = λ is. let never : ⊥ = cc in absurd never
refused_else (Refusals.Pending version held) P = λ is. let never : ⊥ = cc in absurd never

pub desk_memory : (why : DeskFault) (P : Type 0) → OnNoMemory why P → IfNoMemory (desk_fault why) P
desk_memory (DeskFaults.Refused refusal) P p = refused_else refusal P
desk_memory DeskFaults.NoMemory P p = λ is. p

-- ---- a call that the store takes
module _ (f : DeskFixed) (caller : ℕ) (log log' : List (ℕ × Event)) (held : List OpenUpdate) (next limit : ℕ) where
  -- in what the session has seen by then
  taken_seen : (call : Call) → is_refused (outcome_in f log' caller call) ≡ false → IsTakenNow (session_at f caller log' held next limit) call
  taken_seen call e =
      ap is_refused (outcome_of_gap f caller log' log' [] held next limit call ∙ ap (λ (h : List (ℕ × Event)). outcome_in f h caller call) (append-nil log')) ∙ e

  taken_gap : (gap : List (ℕ × Event)) (call : Call) → log' ≡ log ++ gap → is_refused (outcome_in f (log ++ gap) caller call) ≡ false → IsTakenNow (session_at f caller log' held next limit) call
  taken_gap gap call same e = taken_seen call (ap (λ (h : List (ℕ × Event)). is_refused (outcome_in f h caller call)) same ∙ e)

  -- a change
  pub changed_memory : (call : Call) (event : Event) (r : Result ℕ DeskFault)
      → Took caller log log' (λ before after. Changed f call event (λ (id : ℕ). Outcomes.Blob id) (λ (x : DeskFault). x) before caller r after)
      → IfErr (told_of r) (λ fault. IfNoMemory fault (IsTakenNow (session_at f caller log' held next limit) call))
  changed_memory call event (Ok id) t = tt
  changed_memory call event (Err (DeskFaults.Refused refusal)) t = refused_else refusal _
  changed_memory call event (Err DeskFaults.NoMemory) t = λ is. taken_gap t.gap call t.gives.same t.gives.memory

  -- a range within a version that is there, and many
  read_taken : (blob version offset count n : ℕ) → outcome_in f log' caller (Calls.Size blob version) ≡ Outcomes.Size n → offset + count ≤ n
      → IsTakenNow (session_at f caller log' held next limit) (Calls.Read blob version offset count)
  read_taken blob version offset count n there within =
      let inside : offset + count ≤ size_of (updates_in (desk_at f log') blob) version = subst (λ (m : ℕ). offset + count ≤ m) (told_size f log' caller blob version n there) within in
      taken_seen (Calls.Read blob version offset count) (ap is_refused (read_within f log' caller blob version offset count n there inside))

  ranges_taken : (blob version n : ℕ) (ranges : List (ℕ × ℕ)) → outcome_in f log' caller (Calls.Size blob version) ≡ Outcomes.Size n → first_end_past n ranges ≡ None
      → AreTakenNow (session_at f caller log' held next limit) blob version ranges
  ranges_taken blob version n ranges there none = record {
    there = taken_seen (Calls.Size blob version) (ap is_refused there);
    each = λ range among. read_taken blob version range.0 range.1 n there (All-contains (EndsWithin n) ranges range (each_within n ranges none) among);
  }

-- ---- a version that wasn't opened
-- it is there where no memory was found
pub opening_memory : {D : Type 0} (s s1 : SessionState D) (blob version : ℕ) (r : Result Version OpenFault) → Opening s blob version (opened_of r) s1
    → IfErr r (λ fault. outcome_in s.store.fixed s1.log s.caller (Calls.Size blob version) ≡ unopened_size fault)
    → IfErr (opened_of r) (λ fault. IfNoMemory fault (IsTakenNow (session_of s1) (Calls.Size blob version)))
opening_memory s s1 blob version (Ok v) o is = tt
opening_memory s s1 blob version (Err (OpenFaults.Refused refusal)) o is = refused_else refusal _
opening_memory s s1 blob version (Err (OpenFaults.NoMemory size)) o is = λ none.
    subst (λ (x : Session). IsTakenNow x (Calls.Size blob version)) (sym (ap session_of o.same))
    (taken_seen s.store.fixed s.caller s.log s1.log s.held s.next s.limit (Calls.Size blob version) (ap is_refused is))

-- and the ranges lie within it
starved_none : (size : ℕ) (o : Option ℕ) → starved_fault size o ≡ Faults.NoMemory → o ≡ None
starved_none size (Some end) is = let never : ⊥ = cc in absurd never
starved_none size None is = refl

module _ {A D : Type 0} (s s1 : SessionState D) (blob version : ℕ) where
  pub read_unread : (offset count : ℕ) (fault : OpenFault) → Coming {A = A} s blob version (Err fault) s1
      → IfNoMemory (unread_fault fault ((offset, count) ∷ [])) (IsTakenNow (session_of s1) (Calls.Read blob version offset count))
  read_unread offset count (OpenFaults.Refused refusal) o = refused_else refusal _
  read_unread offset count (OpenFaults.NoMemory size) o = λ is.
      subst (λ (x : Session). IsTakenNow x (Calls.Read blob version offset count)) (sym (ap session_of o.same))
      (read_taken s.store.fixed s.caller s.log s1.log s.held s.next s.limit blob version offset count size o.not_opened
      (none_past size (offset + count) None (starved_none size (first_end_past size ((offset, count) ∷ [])) is)).0)

  pub ranges_unread : (ranges : List (ℕ × ℕ)) (fault : OpenFault) → Coming {A = A} s blob version (Err fault) s1
      → IfNoMemory (unread_fault fault ranges) (AreTakenNow (session_of s1) blob version ranges)
  ranges_unread ranges (OpenFaults.Refused refusal) o = refused_else refusal _
  ranges_unread ranges (OpenFaults.NoMemory size) o = λ is.
      subst (λ (x : Session). AreTakenNow x blob version ranges) (sym (ap session_of o.same))
      (ranges_taken s.store.fixed s.caller s.log s1.log s.held s.next s.limit blob version size ranges o.not_opened (starved_none size (first_end_past size ranges) is))

-- ---- a version that was come to
module _ {D : Type 0} (s s1 s' : SessionState D) (blob version : ℕ) (v : Version) (o : Found s blob version v s1) (stays : s' ≡ record s1 { doors = s'.doors }) where
  -- its size, by the blob's updates
  found_size : size_of (updates_in (desk_at s.store.fixed s1.log) blob) version ≡ o.size
  found_size = sym (told_size s.store.fixed s1.log s.caller blob version o.size o.done)

  pub found_within : (offset count : ℕ) (said : Result (List ℕ) Fault) → OverUpdates v (λ us. IfErr said (λ fault. IfNoMemory fault (offset + count ≤ size_of us (length v.rows))))
      → IfErr said (λ fault. IfNoMemory fault (IsTakenNow (session_of s') (Calls.Read blob version offset count)))
  found_within offset count (Ok bytes) within = tt
  found_within offset count (Err fault) within = λ is.
      subst (λ (x : Session). IsTakenNow x (Calls.Read blob version offset count)) (sym (session_found s s1 blob version v o s' stays))
      (read_taken s.store.fixed s.caller s.log s1.log s.held s.next s.limit blob version offset count o.size o.done
      (subst (λ (n : ℕ). offset + count ≤ n) found_size
      (by_updates s s1 blob version v o s1.log refl (λ p us n. IfNoMemory fault (offset + count ≤ size_of us n)) within is)))

  pub found_all_within : (ranges : List (ℕ × ℕ)) (said : Result (List ℕ) Fault)
      → OverUpdates v (λ us. IfErr said (λ fault. IfNoMemory fault (first_end_past (size_of us (length v.rows)) ranges ≡ None)))
      → IfErr said (λ fault. IfNoMemory fault (AreTakenNow (session_of s') blob version ranges))
  found_all_within ranges (Ok bytes) within = tt
  found_all_within ranges (Err fault) within = λ is.
      subst (λ (x : Session). AreTakenNow x blob version ranges) (sym (session_found s s1 blob version v o s' stays))
      (ranges_taken s.store.fixed s.caller s.log s1.log s.held s.next s.limit blob version o.size ranges o.done
      (subst (λ (n : ℕ). first_end_past n ranges ≡ None) found_size
      (by_updates s s1 blob version v o s1.log refl (λ p us n. IfNoMemory fault (first_end_past (size_of us n) ranges ≡ None)) within is)))

-- ---- an update that is left
-- it is, where it is numbered and isn't finished
left_by : (f : DeskFixed) (caller : ℕ) (log : List (ℕ × Event)) (blob version : ℕ) → 1 ≤ version → version ≤ length (updates_in (desk_at f log) blob)
    → is_finished_in (desk_at f log) blob version ≡ false → IsLeft (bare f caller log) blob version
left_by f caller log blob version some numbered unfinished =
    let store : Store = store_of f.limits (events log) in
    let t = numbered_there f log blob version some numbered in
    let open_ = subst (λ (o : Option Blob). finished_or_not o version ≡ false) t.is unfinished in
    ap (λ (h : List Event). repair_refusal (store_of f.limits h) blob version) (append-nil (events log))
    ∙ refusal_of_numbered store blob version false (record { b = t.b; is = t.is; holds = (t.holds, open_) })

pub left_waiting : (f : DeskFixed) (caller : ℕ) (log : List (ℕ × Event)) (blob version : ℕ) → IsUnfinished (desk_at f log) blob version → IsLeft (bare f caller log) blob version
left_waiting f caller log blob version u = left_by f caller log blob version u.some u.numbered u.unfinished

-- a report
report_left : {R : Type 0} (f : DeskFixed) (caller : ℕ) (log log' : List (ℕ × Event)) (t : NumberedUpdate) (row : R) (said : Result ℕ (DeskFault × R)) → 1 ≤ t.version → IsTicketOf (desk_at f log) t
    → Took caller log log' (λ before after. Changed f (Calls.Finish t.blob t.version) (Events.Finish caller t.blob t.version) (λ (n : ℕ). Outcomes.Published n) (λ (e : DeskFault × R). e.0) before caller said after
    × Finishes f t row before after said)
    → IfErr (report_said said) (λ fault. IfNoMemory fault (IsLeft (bare f caller log') t.blob t.version))
report_left f caller log log' t row (Ok published) some ticket took = tt
report_left f caller log log' t row (Err (DeskFaults.Refused refusal, back)) some ticket took = refused_else refusal _
report_left f caller log log' t row (Err (DeskFaults.NoMemory, back)) some ticket took = λ is.
    subst (λ (l : List (ℕ × Event)). IsLeft (bare f caller l) t.blob t.version) (sym took.gives.0.same)
    (left_by f caller (log ++ took.gap) t.blob t.version some (ticket_stays t log took.gap f ticket).numbered took.gives.1.waits)

pub report_memory : {R : Type 0} → GapsAreOfOthers → (f : DeskFixed) (v w : PassView Event DeskFixed) (t : NumberedUpdate) → 1 ≤ t.version → IsTicketOf (desk_at f v.seen) t
    → (row : R) (said : Result ℕ (DeskFault × R)) → v.fixed ≡ Some f
    → Turned (λ before f after. Changed f (Calls.Finish t.blob t.version) (Events.Finish v.caller t.blob t.version) (λ (n : ℕ). Outcomes.Published n) (λ (e : DeskFault × R). e.0) before v.caller said after
    × Finishes f t row before after said) v w
    → IfErr (report_said said) (λ fault. IfNoMemory fault (IsLeft (bare f v.caller w.seen) t.blob t.version))
report_memory {R = R} law f v w t some ticket row said fixed turned =
    report_left f v.caller v.seen w.seen t row said some ticket
    (took law f v w
    (λ before g after. Changed g (Calls.Finish t.blob t.version) (Events.Finish v.caller t.blob t.version) (λ (n : ℕ). Outcomes.Published n) (λ (e : DeskFault × R). e.0) before v.caller said after
    × Finishes g t row before after said)
    fixed (λ before after x. x.0.log) turned)

-- ---- an update that is finished
pub settled_memory : (said : Result ℕ Fault) (P : Type 0) → settles said ≡ true → IfErr said (λ fault. IfNoMemory fault P)
settled_memory (Ok published) P is = tt
settled_memory (Err fault) P is = λ e. let never : ⊥ = unsettled fault e is in absurd never
  where
    unsettled : (fault : Fault) → fault ≡ Faults.NoMemory → settles (Err fault) ≡ true → ⊥
    unsettled fault e is = let x : settles (Err fault) ≡ false = ap (λ (y : Fault). settles (Err y)) e in cc

-- one that is held is told under its number
pub held_memory : (held : List OpenUpdate) (number index : ℕ) (h : IsHeldAt held number index) (s : Session) (said : Result ℕ Fault)
    → IfErr said (λ fault. IfNoMemory fault (IsLeft s h.update.ticket.blob h.update.ticket.version)) → IfErr said (λ fault. IfNoMemory fault (IsHeldLeft held number s))
held_memory held number index h s (Ok published) left = tt
held_memory held number index h s (Err fault) left = λ is. record { index = index; at = h; left = left is }
