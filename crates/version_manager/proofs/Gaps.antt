-- What a turn's gap is, as a list of events.
use Rattle.std.proofs.Common.{◌≡◌, ◌≢◌, ℕ, ◌==◌, Bool, true, false, if◌then◌else◌, List, [], ◌∷◌, ◌++◌, refl, sym, ap, ◌∙◌, arith}
use Rattle.std.proofs.lemmas.Bool.Decides.{nat_tests}
use Rattle.blob_model.specs.History.{caller_of, events_by, AllOther}
use Rattle.blob_model.specs.declared.call.Event.{Event}
use Rattle.turn_lock.specs.History.{entries_by}
use Rattle.version_manager.specs.Laws.{GapsAreOfOthers, EntriesAreEvents}
use Rattle.version_manager.specs.Log.{tag, tagged, events}
use Rattle.blob_model.proofs.Marks.{by_test}

first_tag : (x : ℕ × Event) (xs : List (ℕ × Event)) → x ∷ xs ≡ tagged (events (x ∷ xs)) → x ≡ tag x.1
first_tag x xs e = cc

later_tags : (x : ℕ × Event) (xs : List (ℕ × Event)) → x ∷ xs ≡ tagged (events (x ∷ xs)) → xs ≡ tagged (events xs)
later_tags x xs e = cc

-- what stands behind a beginning has its callers too
pub rest_tagged : (xs ys : List (ℕ × Event)) → xs ++ ys ≡ tagged (events (xs ++ ys)) → ys ≡ tagged (events ys)
rest_tagged [] ys e = e
rest_tagged (x ∷ xs) ys e = rest_tagged xs ys (later_tags x (xs ++ ys) e)

filled : {X : Type 0} (x : X) (xs : List X) → x ∷ xs ≡ [] → ⊥
filled x xs e = cc

-- entries without one of this caller are events of others: what each such event keeps holds of them all
module _ (c : ℕ) (P : List Event → Type 0) (none : P []) (more : (e : Event) (es : List Event) → caller_of e ≢ c → P es → P (e ∷ es)) where
  pub gap_of_others : (gap : List (ℕ × Event)) → gap ≡ tagged (events gap) → entries_by c gap ≡ [] → P (events gap)
  gap_of_others [] e lacks = none
  gap_of_others (x ∷ xs) e lacks =
      let caller : caller_of x.1 ≡ x.0 = sym (ap (λ (y : ℕ × Event). y.0) (first_tag x xs e)) in
      by_test _ (x.0 == c)
      (λ t. let no : x ∷ entries_by c xs ≡ [] = rw t at lacks in absurd (filled x (entries_by c xs) no))
      (λ t. let other : x.0 ≢ c = λ same. grind (arith, nat_tests) in
      let left : entries_by c xs ≡ [] = rw t at lacks in
      more x.1 (events xs) (λ is. other (sym caller ∙ is)) (gap_of_others xs (later_tags x xs e) left))

pub gaps_other : GapsAreOfOthers
gaps_other f seen gap caller log lacks =
    gap_of_others caller (λ es. AllOther caller es) tt (λ e es other all. (other, all)) gap (rest_tagged seen gap log.tags) lacks

-- one entry more, and its event
one_more : (caller : ℕ) (x : ℕ × Event) (xs : List (ℕ × Event)) (es : List Event) (t : Bool) → x ≡ tag x.1 → xs ≡ tagged es → (if t then x ∷ xs else xs) ≡ tagged (if t then x.1 ∷ es else es)
one_more caller x xs es true is rest = cc
one_more caller x xs es false is rest = rest

pub entries_events : EntriesAreEvents
entries_events [] caller e = refl
entries_events (x ∷ xs) caller e =
    let is : x ≡ tag x.1 = first_tag x xs e in
    let rest = entries_events xs caller (later_tags x xs e) in
    ap (λ (n : ℕ). if n == caller then x ∷ entries_by caller xs else entries_by caller xs) (ap (λ (y : ℕ × Event). y.0) is)
    ∙ one_more caller x (entries_by caller xs) (events_by caller (events xs)) (caller_of x.1 == caller) is rest
