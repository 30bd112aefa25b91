-- What a call on the desk tells of the list of entries.
use Rattle.std.proofs.Common.{◌≡◌, ℕ, ◌<◌, ◌^◌, true, false, List, [], ◌∷◌, ◌++◌, length, refl, sym, ap, ◌∙◌, subst, inl, inr, arith}
use Rattle.std.specs.Prelude.{◌⊎◌, Option, None, Some, Result, Ok, Err, IfOk, IfErr}
use Rattle.std.proofs.lemmas.List.{map-append, length-map}
use Rattle.blob_model.specs.History.{caller_of, is_refused, store_of, IsLegal}
use Rattle.blob_model.specs.declared.call.Call.{Call}
use Rattle.blob_model.specs.declared.call.Call.TheVariants as Calls
use Rattle.blob_model.specs.declared.call.Event.{Event}
use Rattle.blob_model.specs.declared.call.Outcome.{Outcome}
use Rattle.blob_model.specs.declared.call.Outcome.TheVariants as Outcomes
use Rattle.blob_model.specs.declared.call.Place.{Place}
use Rattle.blob_model.specs.declared.call.Refusal.{Refusal}
use Rattle.page_store.specs.Stored.{Cut, bytes_of_pages, LieAmong}
use Rattle.node_store.specs.UpdateRows.{UpdateRow}
use Rattle.snapshot.specs.Versions.{Version, IsRowOf, IsVersionIn, size_now}
use Rattle.snapshot.specs.Laws.{TellUpdates}
use Rattle.border_hints.specs.Numbered.{NumberedUpdate}
use Rattle.publisher.specs.Windows.{Numbered}
use Rattle.version_manager.specs.declared.fault.DeskFault.{DeskFault}
use Rattle.version_manager.specs.declared.fault.OpenFault.{OpenFault}
use Rattle.version_manager.specs.declared.journal.DeskFixed.{DeskFixed}
use Rattle.version_manager.specs.Desks.{DeskState, OnRefused, OnNoMemory, IsTicketOf, IsRowFor, IsNumbering, IsUnfinished, HasHints, HasHintsBelow, refusal_in, ticket_refusal, unopened_size, with_event, store_now, outcome_now, updates_in, is_finished_in}
use Rattle.version_manager.specs.Folds.{IsInOrder, AreInOrder}
use Rattle.version_manager.specs.Origins.{LieUnderOrigins}
use Rattle.version_manager.specs.Log.{IsLog, Looked, Changed, IsNewTicket, IsSnapshotOf, Opened, IsWaitingTicket, Reissued, Foreseen, Finishes, desk_at, events, tagged, tag, fixed_of}

pub events_tagged : (h : List Event) → events (tagged h) ≡ h
events_tagged [] = refl
events_tagged (e ∷ es) = ap (λ (t : List Event). e ∷ t) (events_tagged es)

pub tagged_more : (h : List Event) (e : Event) → tagged (h ++ e ∷ []) ≡ tagged h ++ tag e ∷ []
tagged_more h e = map-append tag h (e ∷ [])

-- ---- without windows
-- the desk with another history and no windows
abbrev with_history : DeskState → List Event → DeskState
with_history d l = record { limits = d.limits; page_size = d.page_size; houses = d.houses; nodes = d.nodes; history = l; windows = [] }

abbrev pub bare : DeskState → DeskState
bare d = with_history d d.history

pub at_now : (d : DeskState) → desk_at (fixed_of d) (tagged d.history) ≡ bare d
at_now d = ap (λ (l : List Event). with_history d l) (events_tagged d.history)

pub at_after : (d d' : DeskState) → fixed_of d' ≡ fixed_of d → desk_at (fixed_of d) (tagged d'.history) ≡ bare d'
at_after d d' e = ap (λ (f : DeskFixed). desk_at f (tagged d'.history)) (sym e) ∙ at_now d'

bare_ticket : (d : DeskState) (t : NumberedUpdate) → IsTicketOf d t → IsTicketOf (bare d) t
bare_ticket d t x = record { page_size = x.page_size; numbered = x.numbered; caller = x.caller; stands = x.stands; bytes = x.bytes }

whole_ticket : (d : DeskState) (t : NumberedUpdate) → IsTicketOf (bare d) t → IsTicketOf d t
whole_ticket d t x = record { page_size = x.page_size; numbered = x.numbered; caller = x.caller; stands = x.stands; bytes = x.bytes }

bare_hints : (d : DeskState) (on : ℕ) (t : NumberedUpdate) → HasHints d on t → HasHints (bare d) on t
bare_hints d on t x = record { blob_is = x.blob_is; rows = x.rows; tells = x.tells; waiting = x.waiting; here = x.here; origins = x.origins }

bare_unfinished : (d : DeskState) (on v : ℕ) → IsUnfinished d on v → IsUnfinished (bare d) on v
bare_unfinished d on v x = record { some = x.some; numbered = x.numbered; unfinished = x.unfinished }

-- ---- what a finish needs
pub ticket_here : (d : DeskState) (t : NumberedUpdate) → IsTicketOf (desk_at (fixed_of d) (tagged d.history)) t → IsTicketOf d t
ticket_here d t x = whole_ticket d t (subst (λ (s : DeskState). IsTicketOf s t) (at_now d) x)

pub row_here : (d : DeskState) (t : NumberedUpdate) (row : UpdateRow) → IsRowFor (desk_at (fixed_of d) (tagged d.history)) t row → IsRowOf d.page_size (updates_in d t.blob) t.version row
row_here d t row x = subst (λ (s : DeskState). IsRowOf s.page_size (updates_in s t.blob) t.version row) (at_now d) x

pub order_here : (d : DeskState) (t : NumberedUpdate) → IsInOrder d.page_size (store_of d.limits (events (tagged d.history))) t.blob t.version → IsInOrder d.page_size (store_now d) t.blob t.version
order_here d t x = subst (λ (h : List Event). IsInOrder d.page_size (store_of d.limits h) t.blob t.version) (events_tagged d.history) x

-- ---- the history
pub is_log : (d d' : DeskState) → fixed_of d' ≡ fixed_of d → IsLegal d'.limits d'.history → length d'.history < 2 ^ 38 → AreInOrder d'.page_size d'.limits d'.history → IsLog (fixed_of d) (tagged d'.history)
is_log d d' e legal short order =
    let L : DeskState → Type 0 = λ s. IsLegal s.limits s.history in
    let O : DeskState → Type 0 = λ s. AreInOrder s.page_size s.limits s.history in
    record {
      tags = ap tagged (sym (events_tagged d'.history));
      legal = subst L (sym (at_after d d' e)) legal;
      short = omega (arith, length-map d'.history tag, short);
      in_order = subst O (sym (at_after d d' e)) order;
    }

module _ {A E : Type 0} (d d' : DeskState) (event : Event) (r : Result A E) (ws : A → List Numbered) (new : IfOk r (λ a. d' ≡ with_event d event (ws a))) (same : IfErr r (λ _. d' ≡ d)) where
  fixed_by : (s : Result A E) → IfOk s (λ a. d' ≡ with_event d event (ws a)) → IfErr s (λ _. d' ≡ d) → fixed_of d' ≡ fixed_of d
  fixed_by (Ok a) n e = ap fixed_of n
  fixed_by (Err x) n e = ap fixed_of e

  pub fixed_stays : fixed_of d' ≡ fixed_of d
  fixed_stays = fixed_by r new same

  added_by : (s : Result A E) → IfOk s (λ a. d' ≡ with_event d event (ws a)) → IfOk s (λ _. tagged d'.history ≡ tagged d.history ++ tag event ∷ [])
  added_by (Ok a) n = ap (λ (x : DeskState). tagged x.history) n ∙ tagged_more d.history event
  added_by (Err x) n = tt

  same_by : (s : Result A E) → IfErr s (λ _. d' ≡ d) → IfErr s (λ _. tagged d'.history ≡ tagged d.history)
  same_by (Ok a) e = tt
  same_by (Err x) e = ap (λ (y : DeskState). tagged y.history) e

  adds_by : (s : Result A E) → IfOk s (λ _. tagged d'.history ≡ tagged d.history ++ tag event ∷ []) → IfErr s (λ _. tagged d'.history ≡ tagged d.history)
      → (tagged d'.history ≡ tagged d.history) ⊎ ((e : Event) × (tagged d'.history ≡ tagged d.history ++ (caller_of event, e) ∷ []))
  adds_by (Ok a) added e = inr (event, added)
  adds_by (Err x) added e = inl e

  -- it enters nothing, or one event of the event's caller
  pub adds : (tagged d'.history ≡ tagged d.history) ⊎ ((e : Event) × (tagged d'.history ≡ tagged d.history ++ (caller_of event, e) ∷ []))
  adds = adds_by r (added_by r new) (same_by r same)

  pub changed : (call : Call) (caller : ℕ) (tells : A → Outcome) (fault : E → DeskFault) → IsLegal d.limits d.history → length d.history < 2 ^ 38 → AreInOrder d.page_size d.limits d.history → IsLegal d'.limits d'.history → length d'.history < 2 ^ 38 → AreInOrder d'.page_size d'.limits d'.history
      → IfOk r (λ a. outcome_now d caller call ≡ tells a) → IfErr r (λ e. OnRefused (fault e) (λ x. outcome_now d caller call ≡ Outcomes.Refused x))
      → IfErr r (λ e. OnNoMemory (fault e) (is_refused (outcome_now d caller call) ≡ false))
      → Changed (fixed_of d) call event tells fault (tagged d.history) caller r (tagged d'.history)
  changed call caller tells fault legal short order legal' short' order' done refused memory =
      let D : DeskState → Type 0 = λ s. IfOk r (λ a. outcome_now s caller call ≡ tells a) in
      let R : DeskState → Type 0 = λ s. IfErr r (λ e. OnRefused (fault e) (λ x. outcome_now s caller call ≡ Outcomes.Refused x)) in
      let M : DeskState → Type 0 = λ s. IfErr r (λ e. OnNoMemory (fault e) (is_refused (outcome_now s caller call) ≡ false)) in
      record {
        log = is_log d d refl legal short order;
        log_after = is_log d d' fixed_stays legal' short' order';
        done = subst D (sym (at_now d)) done;
        added = added_by r new;
        refused = subst R (sym (at_now d)) refused;
        memory = subst M (sym (at_now d)) memory;
        same = same_by r same;
      }

-- ---- a numbering
pub new_ticket : (d d' : DeskState) (caller blob : ℕ) (pages : Cut) (r : Result NumberedUpdate DeskFault) → fixed_of d' ≡ fixed_of d → IfOk r (λ t. IsNumbering d caller blob t) → IfOk r (λ t. t.pages ≡ pages)
    → IfOk r (λ t. HasHints d blob t) → IfOk r (λ t. IsTicketOf d' t) → IfOk r (λ t. IsUnfinished d' blob t.version)
    → IfOk r (λ t. IsNewTicket (fixed_of d) blob caller pages (tagged d.history) (tagged d'.history) t)
new_ticket d d' caller blob pages (Err x) e numbering same hints ticket open_ = tt
new_ticket d d' caller blob pages (Ok t) e numbering same hints ticket open_ = record {
  caller_is = numbering.caller;
  blob_is = numbering.blob;
  len = numbering.len ∙ ap (λ (q : Cut). length (bytes_of_pages q.pages)) same;
  pages_are = same;
  hints = subst (λ (s : DeskState). HasHints s blob t) (sym (at_now d)) (bare_hints d blob t hints);
  ticket = subst (λ (s : DeskState). IsTicketOf s t) (sym (at_after d d' e)) (bare_ticket d' t ticket);
  unfinished = subst (λ (s : DeskState). IsUnfinished s blob t.version) (sym (at_after d d' e)) (bare_unfinished d' blob t.version open_);
}

-- ---- a finish
pub finishes : {R : Type 0} (d d' : DeskState) (t : NumberedUpdate) (row : R) (r : Result ℕ (DeskFault × R)) → fixed_of d' ≡ fixed_of d → IfOk r (λ _. is_finished_in d t.blob t.version ≡ false)
    → IfOk r (λ _. is_finished_in d' t.blob t.version ≡ true) → IfErr r (λ e. OnRefused e.0 (λ _. is_finished_in d t.blob t.version ≡ true))
    → IfErr r (λ e. OnNoMemory e.0 (is_finished_in d t.blob t.version ≡ false)) → IfErr r (λ e. e.1 ≡ row)
    → Finishes (fixed_of d) t row (tagged d.history) (tagged d'.history) r
finishes d d' t row r e unfinished done already waits back =
    let U : DeskState → Type 0 = λ s. IfOk r (λ _. is_finished_in s t.blob t.version ≡ false) in
    let D : DeskState → Type 0 = λ s. IfOk r (λ _. is_finished_in s t.blob t.version ≡ true) in
    let O : DeskState → Type 0 = λ s. IfErr r (λ x. OnRefused x.0 (λ _. is_finished_in s t.blob t.version ≡ true)) in
    let W : DeskState → Type 0 = λ s. IfErr r (λ x. OnNoMemory x.0 (is_finished_in s t.blob t.version ≡ false)) in
    record {
      unfinished = subst U (sym (at_now d)) unfinished;
      finished = subst D (sym (at_after d d' e)) done;
      already = subst O (sym (at_now d)) already;
      waits = subst W (sym (at_now d)) waits;
      back = back;
    }

-- ---- looks
pub looked : (d : DeskState) (call : Call) (caller : ℕ) (said : Outcome) → IsLegal d.limits d.history → length d.history < 2 ^ 38 → AreInOrder d.page_size d.limits d.history → ((c : ℕ) → said ≡ outcome_now d c call)
    → Looked (fixed_of d) call (tagged d.history) caller said (tagged d.history)
looked d call caller said legal short order is =
    let P : DeskState → Type 0 = λ s. said ≡ outcome_now s caller call in
    record { log = is_log d d refl legal short order; same = refl; said_is = subst P (sym (at_now d)) (is caller) }

snapshot_by : (d : DeskState) (blob version : ℕ) (r : Result Version OpenFault) → IfOk r (λ s. s.blob ≡ blob) → IfOk r (λ s. length s.rows ≡ version) → IfOk r (λ s. s.page_size ≡ d.page_size)
    → IfOk r (λ s. TellUpdates d.page_size (updates_in d blob) s.rows) → IfOk r (λ s. IsVersionIn d.nodes d.houses s) → IfOk r (λ s. LieUnderOrigins d.history blob s.rows)
    → IfOk r (λ s. IsSnapshotOf (fixed_of d) (tagged d.history) blob version s)
snapshot_by d blob version (Err x) id rows page tells here origins = tt
snapshot_by d blob version (Ok s) id rows page tells here origins =
    let T : DeskState → Type 0 = λ x. TellUpdates x.page_size (updates_in x blob) s.rows in
    let O : List Event → Type 0 = λ l. LieUnderOrigins l blob s.rows in
    record { blob_is = id; rows = rows; page_size = page; tells = subst T (sym (at_now d)) tells; here = here; origins = subst O (sym (events_tagged d.history)) origins }

pub opened : (d : DeskState) (blob version caller : ℕ) (r : Result Version OpenFault) → IsLegal d.limits d.history → length d.history < 2 ^ 38 → AreInOrder d.page_size d.limits d.history
    → ((c : ℕ) → IfOk r (λ s. outcome_now d c (Calls.Size blob version) ≡ Outcomes.Size (size_now s)))
    → ((c : ℕ) → IfErr r (λ fault. outcome_now d c (Calls.Size blob version) ≡ unopened_size fault))
    → IfOk r (λ s. s.blob ≡ blob) → IfOk r (λ s. length s.rows ≡ version) → IfOk r (λ s. s.page_size ≡ d.page_size)
    → IfOk r (λ s. TellUpdates d.page_size (updates_in d blob) s.rows) → IfOk r (λ s. IsVersionIn d.nodes d.houses s) → IfOk r (λ s. LieUnderOrigins d.history blob s.rows)
    → Opened (fixed_of d) blob version (tagged d.history) caller r (tagged d.history)
opened d blob version caller r legal short order size not_opened id rows page tells here origins =
    let D : DeskState → Type 0 = λ x. IfOk r (λ s. outcome_now x caller (Calls.Size blob version) ≡ Outcomes.Size (size_now s)) in
    let N : DeskState → Type 0 = λ x. IfErr r (λ fault. outcome_now x caller (Calls.Size blob version) ≡ unopened_size fault) in
    record {
      log = is_log d d refl legal short order;
      same = refl;
      done = subst D (sym (at_now d)) (size caller);
      not_opened = subst N (sym (at_now d)) (not_opened caller);
      snapshot = snapshot_by d blob version r id rows page tells here origins;
    }

-- a ticket of a waiting version
waiting_ticket : (d : DeskState) (blob version : ℕ) (r : Result NumberedUpdate DeskFault) → IfOk r (λ t. t.blob ≡ blob) → IfOk r (λ t. t.version ≡ version) → IfOk r (λ t. IsTicketOf d t) → IfOk r (λ t. HasHintsBelow d blob t)
    → IfOk r (λ t. LieAmong d.houses t.pages.pages) → IfOk r (λ _. IsUnfinished d blob version) → IfOk r (λ t. IsWaitingTicket (fixed_of d) (tagged d.history) blob version t)
waiting_ticket d blob version (Err x) id is ticket hints here waits = tt
waiting_ticket d blob version (Ok t) id is ticket hints here waits = record {
  blob_is = id;
  version_is = is;
  ticket = subst (λ (s : DeskState). IsTicketOf s t) (sym (at_now d)) (bare_ticket d t ticket);
  hints = subst (λ (s : DeskState). HasHintsBelow s blob t) (sym (at_now d))
      record { blob_is = hints.blob_is; rows = hints.rows; tells = hints.tells; waiting = hints.waiting; here = hints.here; origins = hints.origins };
  pages_here = here;
  unfinished = subst (λ (s : DeskState). IsUnfinished s blob version) (sym (at_now d)) (bare_unfinished d blob version waits);
}

pub reissued : (d : DeskState) (blob version : ℕ) (r : Result NumberedUpdate DeskFault) → IsLegal d.limits d.history → length d.history < 2 ^ 38 → AreInOrder d.page_size d.limits d.history
    → IfOk r (λ _. ticket_refusal d blob version ≡ None) → IfErr r (λ fault. OnRefused fault (λ x. ticket_refusal d blob version ≡ Some x)) → IfErr r (λ fault. OnNoMemory fault (ticket_refusal d blob version ≡ None))
    → IfOk r (λ t. t.blob ≡ blob) → IfOk r (λ t. t.version ≡ version) → IfOk r (λ t. IsTicketOf d t) → IfOk r (λ t. HasHintsBelow d blob t)
    → IfOk r (λ t. LieAmong d.houses t.pages.pages) → IfOk r (λ _. IsUnfinished d blob version) → Reissued (fixed_of d) blob version (tagged d.history) r (tagged d.history)
reissued d blob version r legal short order done refused memory id is ticket hints here waits =
    let D : DeskState → Type 0 = λ s. IfOk r (λ _. ticket_refusal s blob version ≡ None) in
    let R : DeskState → Type 0 = λ s. IfErr r (λ fault. OnRefused fault (λ x. ticket_refusal s blob version ≡ Some x)) in
    let M : DeskState → Type 0 = λ s. IfErr r (λ fault. OnNoMemory fault (ticket_refusal s blob version ≡ None)) in
    record {
      log = is_log d d refl legal short order;
      same = refl;
      done = subst D (sym (at_now d)) done;
      refused = subst R (sym (at_now d)) refused;
      memory = subst M (sym (at_now d)) memory;
      ticket = waiting_ticket d blob version r id is ticket hints here waits;
    }

-- what would be refused
pub foreseen : (d : DeskState) (blob : ℕ) (place : Place) (len caller : ℕ) (said : Option Refusal) → IsLegal d.limits d.history → length d.history < 2 ^ 38 → AreInOrder d.page_size d.limits d.history
    → ((c : ℕ) (bytes : List ℕ) → length bytes ≡ len → said ≡ refusal_in (outcome_now d c (Calls.Assign blob place bytes))) → Foreseen (fixed_of d) blob place len (tagged d.history) caller said (tagged d.history)
foreseen d blob place len caller said legal short order is =
    let S : DeskState → Type 0 = λ s. (bytes : List ℕ) → length bytes ≡ len → said ≡ refusal_in (outcome_now s caller (Calls.Assign blob place bytes)) in
    record { log = is_log d d refl legal short order; same = refl; said_is = subst S (sym (at_now d)) (is caller) }
