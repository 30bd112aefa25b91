-- What a call leaves as it was: the doors, where it is refused early, and the updates that were held.
use Rattle.std.proofs.Common.{◌≡◌, ◌≢◌, inl, inr, refl, sym, ◌∙◌, ap, subst, ℕ, ◌+◌, ◌<◌, ◌≤◌, Bool, List, [], ◌∷◌, ◌++◌, append-nil, length, get_or, Option, Some, None, Result, Ok, Err, arith}
use Rattle.std.specs.Prelude.{AllPairs, IfErr, IfSome, slice_get}
use Rattle.std.proofs.lemmas.Bool.{cases_order}
use Rattle.std.proofs.lemmas.List.{length-map, get_or-map}
use Rattle.std.proofs.lemmas.Option.{get_or_from_slice_get, slice_get_within}
use Rattle.node_store.specs.UpdateRows.{UpdateRow}
use Rattle.page_fan.specs.declared.storing.StoreFault.{StoreFault}
use Rattle.page_fan.specs.declared.storing.StoreFault.TheVariants as StoreFaults
use Rattle.tree_weaver.specs.declared.folding.WeaveFault.{WeaveFault}
use Rattle.tree_weaver.specs.declared.folding.WeaveFault.TheVariants as WeaveFaults
use Rattle.request_form.specs.Session.{HeldTicket}
use Rattle.request_form.specs.declared.form.Fault.{Fault}
use Rattle.client_session.specs.Tickets.{OpenUpdate, HasRow, IsHeldAt, ticket_of, tickets_of, AllHeldStill}
use Rattle.client_session.specs.declared.done.Updated.{Updated}
use Rattle.client_session.specs.declared.done.Updated.TheVariants as WholeUpdates
use Rattle.client_session.specs.Losses.{LostOrWaits}
use Rattle.client_session.specs.Results.{store_fault, weave_fault}
use Rattle.client_session.specs.TurnCounts.{IsPlainRefusal, RefusedEarly}

-- ---- the doors
-- what isn't stored, and what isn't woven, is no plain refusal
pub plain_stored : {X : Type 0} (fault : StoreFault) → IsPlainRefusal (store_fault fault) → X
plain_stored (StoreFaults.PageFault page before) plain = let no : 1 ≡ 0 = plain.no_page in absurd (omega (arith, no))
plain_stored StoreFaults.NoMemory plain = absurd (plain.memory refl)

pub plain_woven : {X : Type 0} (fault : WeaveFault) → IsPlainRefusal (weave_fault fault) → X
plain_woven (WeaveFaults.PageFault page) plain = let no : 1 ≡ 0 = plain.no_page in absurd (omega (arith, no))
plain_woven WeaveFaults.NoMemory plain = absurd (plain.memory refl)

pub same_anyway : {A : Type 0} (said : Result A Fault) (P : Fault → Type 0) {X : Type 0} → X → IfErr said (λ fault. P fault → X)
same_anyway (Ok a) P x = tt
same_anyway (Err fault) P x = λ _. x

-- all its turns were taken
pub too_late : {A : Type 0} (said : Result A Fault) (n before after : ℕ) (X : Type 0) → before + n ≤ after → IfErr said (λ fault. RefusedEarly fault n before after → X)
too_late (Ok a) n before after X all = tt
too_late (Err fault) n before after X all = λ r. absurd (omega (arith, all, r.early))

-- ---- the update of a number, and its row
-- the numbers of the held updates rise
abbrev pub RisingPairs : List OpenUpdate → Type 0
RisingPairs held = AllPairs (λ (a b : HeldTicket). a.number < b.number) (tickets_of held)

apart : (held : List OpenUpdate) → RisingPairs held → (i j : ℕ) (o u : OpenUpdate) → slice_get held i ≡ Some o → slice_get held j ≡ Some u → i < j → o.number ≢ u.number
apart held pairs i j o u at_i at_j lt same =
    let d : HeldTicket = ticket_of o in
    let within : j < length held = slice_get_within held j u at_j in
    let as_many : length (tickets_of held) ≡ length held = length-map held ticket_of in
    let first : get_or (tickets_of held) i d ≡ ticket_of o = get_or-map ticket_of held i o d (slice_get_within held i o at_i) ∙ ap ticket_of (get_or_from_slice_get held i o o at_i) in
    let second : get_or (tickets_of held) j d ≡ ticket_of u = get_or-map ticket_of held j o d within ∙ ap ticket_of (get_or_from_slice_get held j u o at_j) in
    let less : (get_or (tickets_of held) i d).number < (get_or (tickets_of held) j d).number = pairs i j d lt (omega (arith, within, as_many)) in
    let a : (get_or (tickets_of held) i d).number ≡ o.number = ap (λ (t : HeldTicket). t.number) first in
    let b : (get_or (tickets_of held) j d).number ≡ u.number = ap (λ (t : HeldTicket). t.number) second in
    omega (arith, less, a, b, same)

one_index : (held : List OpenUpdate) → RisingPairs held → (i j : ℕ) (o u : OpenUpdate) → slice_get held i ≡ Some o → slice_get held j ≡ Some u → o.number ≡ u.number → i ≡ j
one_index held pairs i j o u at_i at_j same =
    elim (cases_order i j) [
      | inl is ↦ is
      | inr (inl below) ↦ absurd (apart held pairs i j o u at_i at_j below same)
      | inr (inr above) ↦ absurd (apart held pairs j i u o at_j at_i above (sym same))
    ]

pub if_row : (row : Option UpdateRow) {X : Type 0} → X → IfSome row (λ _. X)
if_row None x = tt
if_row (Some r) x = x

by_its_row : (row : Option UpdateRow) (r : UpdateRow) {X : Type 0} → row ≡ Some r → IfSome row (λ _. X) → X
by_its_row None r is x = let never : ⊥ = cc in absurd never
by_its_row (Some s) r is x = x

-- what holds of the update that was found, where that has a row, holds where the number's update has one
pub by_row : (held : List OpenUpdate) → RisingPairs held → (number index : ℕ) (h : IsHeldAt held number index) (has : HasRow held number) {X : Type 0}
    → IfSome h.update.row (λ _. X) → X
by_row held pairs number index h has x =
    let same_index : index ≡ has.index = one_index held pairs index has.index h.update has.update h.is has.is (h.number_is ∙ sym has.number_is) in
    let there : slice_get held has.index ≡ Some h.update = subst (λ (k : ℕ). slice_get held k ≡ Some h.update) same_index h.is in
    let both : Some h.update ≡ Some has.update = sym there ∙ has.is in
    let same : h.update ≡ has.update = cc in
    by_its_row h.update.row has.row (ap (λ (o : OpenUpdate). o.row) same ∙ has.row_is) x

-- ---- the others that are held
pub none_more : (before after : List OpenUpdate) → after ≡ before → AllHeldStill before after
none_more before after is = ([], is ∙ sym (append-nil before))

pub one_more : (before mid after : List OpenUpdate) (o : OpenUpdate) → mid ≡ before → after ≡ mid ++ o ∷ [] → AllHeldStill before after
one_more before mid after o same is = (o ∷ [], is ∙ ap (λ (os : List OpenUpdate). os ++ o ∷ []) same)

-- ---- an update that is held
pub lost_as : (said : Result Updated Fault) (waits : ℕ → Bool) (P Q : ℕ → ℕ → Type 0) → ((version page : ℕ) → P version page → Q version page) → LostOrWaits said waits P → LostOrWaits said waits Q
lost_as (Ok (WholeUpdates.Done done)) waits P Q weaker lost = tt
lost_as (Ok (WholeUpdates.Held held)) waits P Q weaker lost = λ not.
    let (page, at) = lost not in
    (page, weaker held.version page at)
lost_as (Err fault) waits P Q weaker lost = tt
