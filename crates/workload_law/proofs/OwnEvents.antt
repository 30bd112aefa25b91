-- A session's own events, and whose versions it finishes.
use Rattle.std.proofs.Common.{◌≡◌, ℕ, ◌==◌, zero, suc, true, ◌&&◌, List, [], ◌∷◌, ◌++◌, refl, sym, ap, subst, ◌∙◌, inl, inr, arith, append_assoc, append-nil}
use Rattle.std.specs.List.{Contains, AllByRecursion}
use Rattle.std.proofs.lemmas.Bool.{eqb-true, and_parts, or_cases, false_from_ne_true}
use Rattle.std.proofs.lemmas.List.Elements.{All-contains, All-from_recursion, Contains-append_cases, Contains-append_left, Contains-append_right}
use Rattle.blob_model.specs.Limits.{Bounds}
use Rattle.blob_model.specs.History.{caller_of, finishes, events_by, AllOther}
use Rattle.blob_model.specs.declared.call.Event.{Event}
use Rattle.blob_model.specs.declared.call.Event.TheVariants as Events
use Rattle.blob_model.specs.declared.call.Place.{Place}
use Rattle.workload_law.specs.Numbered.{IsNumberedBy}
use Rattle.workload_law.specs.Sessions.{GapsHaveNoOwn, EventsAreOwn, NumberingsAreOwn, UpdatesAreOwn, NumbersItsOwn, FinishesItsOwn, FinishesStayOwn, ReportsStayOwn, NobodyElseFinishes}
use Rattle.workload_law.proofs.OneCaller.{one_caller, numbered_stays}
use Rattle.request_form.proofs.Own.{none_own, events_by-append, own_behind, own_first}

-- ---- where a caller has no events
pub no_first : (caller : ℕ) (e : Event) (es : List Event) → caller_of e ≡ caller → events_by caller (e ∷ es) ≡ [] → ⊥
no_first caller e es own none = let no : (e ∷ events_by caller es) ≡ [] = sym (own_first caller e es own) ∙ none in cc

pub both_empty : (xs ys : List Event) → xs ++ ys ≡ [] → (xs ≡ []) × (ys ≡ [])
both_empty [] ys e = (refl, e)
both_empty (x ∷ xs) ys e = absurd (let no : (x ∷ (xs ++ ys)) ≡ [] = e in cc)

pub none_parts : (caller : ℕ) (xs ys : List Event) → events_by caller (xs ++ ys) ≡ [] → (events_by caller xs ≡ []) × (events_by caller ys ≡ [])
none_parts caller xs ys none = both_empty (events_by caller xs) (events_by caller ys) (sym (events_by-append caller xs ys) ∙ none)

-- ---- the caller's events in what comes
pub event_made : (caller : ℕ) (others : List Event) (event : Event) → AllOther caller others → caller_of event ≡ caller → events_by caller (others ++ event ∷ []) ≡ event ∷ []
event_made caller others event gap own = own_behind caller others (event ∷ []) gap ∙ own_first caller event [] own

module _ (caller blob version : ℕ) (place : Place) (bytes : List ℕ) (others later : List Event) (gap : AllOther caller others) (next : AllOther caller later) where
  abbrev this : Event
  this = Events.Assign caller blob place bytes

  abbrev finish : Event
  finish = Events.Finish caller blob version

  pub numbering_made : events_by caller (others ++ this ∷ later) ≡ this ∷ []
  numbering_made = own_behind caller others (this ∷ later) gap ∙ (own_first caller this later refl ∙ ap (λ (l : List Event). this ∷ l) (none_own caller later next))

  pub update_made : events_by caller (others ++ this ∷ (later ++ finish ∷ [])) ≡ this ∷ finish ∷ []
  update_made =
      own_behind caller others (this ∷ (later ++ finish ∷ [])) gap
      ∙ (own_first caller this (later ++ finish ∷ []) refl ∙ ap (λ (l : List Event). this ∷ l) (event_made caller later finish next refl))

-- they come behind those in what was seen
pub own_after : (caller : ℕ) (seen more own : List Event) → events_by caller more ≡ own → events_by caller (seen ++ more) ≡ events_by caller seen ++ own
own_after caller seen more own is = events_by-append caller seen more ∙ ap (λ (l : List Event). events_by caller seen ++ l) is

pub gap_has_none : GapsHaveNoOwn
gap_has_none caller seen others all = own_after caller seen others [] (none_own caller others all) ∙ append-nil (events_by caller seen)

pub event_is_own : EventsAreOwn
event_is_own caller seen others event gap own = own_after caller seen (others ++ event ∷ []) (event ∷ []) (event_made caller others event gap own)

pub numbering_is_own : NumberingsAreOwn
numbering_is_own caller blob place bytes seen others later gap next =
    let this : Event = Events.Assign caller blob place bytes in
    own_after caller seen (others ++ this ∷ later) (this ∷ []) (numbering_made caller blob 0 place bytes others later gap next)

pub update_is_own : UpdatesAreOwn
update_is_own caller blob version place bytes seen others later gap next =
    let this : Event = Events.Assign caller blob place bytes in
    let finish : Event = Events.Finish caller blob version in
    own_after caller seen (others ++ this ∷ (later ++ finish ∷ [])) (this ∷ finish ∷ []) (update_made caller blob version place bytes others later gap next)

-- ---- whose versions are finished
-- what stands in a list stands among its caller's events there
pub among_own : (caller : ℕ) (es : List Event) (e : Event) → caller_of e ≡ caller → Contains es e → Contains (events_by caller es) e
among_own caller [] e own (k, lt, is) = absurd (omega arith)
among_own caller (x ∷ xs) e own (zero, lt, is) =
    subst (λ (l : List Event). Contains l e) (sym (own_first caller x xs (ap (λ (y : Event). caller_of y) is ∙ own))) (0, omega arith, is)
among_own caller (x ∷ xs) e own (suc k, lt, is) =
    subst (λ (l : List Event). Contains l e) (sym (events_by-append caller (x ∷ []) xs))
    (Contains-append_right (events_by caller (x ∷ [])) (events_by caller xs) e (among_own caller xs e own (k, omega arith, is)))

pub nothing_in : (e : Event) → Contains [] e → ⊥
nothing_in e (k, lt, is) = omega arith

-- a finish is of what its caller numbered
abbrev pub IsOfItsOwn : Bounds → List Event → Event → Type 0
IsOfItsOwn limits history (Events.Finish caller blob version) = IsNumberedBy limits history caller blob version
IsOfItsOwn limits history _ = Unit {0}

-- who finishes only its own does so still once more came, where its own finishes in that are so
pub owns_more : (limits : Bounds) (caller : ℕ) (seen more own : List Event) → events_by caller more ≡ own → AllByRecursion (IsOfItsOwn limits (seen ++ more)) own
    → FinishesItsOwn limits seen caller → FinishesItsOwn limits (seen ++ more) caller
owns_more limits caller seen more own mine new was blob version there =
    let finish : Event = Events.Finish caller blob version in
    elim (Contains-append_cases seen more finish there) [
      | inl old ↦ numbered_stays limits seen more caller blob version (was blob version old)
      | inr now ↦
          All-contains (IsOfItsOwn limits (seen ++ more)) own finish (All-from_recursion (IsOfItsOwn limits (seen ++ more)) own new)
          (subst (λ (l : List Event). Contains l finish) mine (among_own caller more finish refl now))
    ]

pub numbers_own : NumbersItsOwn
numbers_own limits caller blob version at size place bytes seen others later answered = record {
  before = seen ++ others;
  after = later;
  place = place;
  bytes = bytes;
  at = at;
  size = size;
  split = sym (append_assoc seen others (Events.Assign caller blob place bytes ∷ later));
  answered = answered;
}

pub finishes_stay : FinishesStayOwn
finishes_stay limits caller blob version at size place bytes seen others later gap next answered was =
    let this : Event = Events.Assign caller blob place bytes in
    let last : List Event = Events.Finish caller blob version ∷ [] in (
      owns_more limits caller seen others [] (none_own caller others gap) tt was,
      owns_more limits caller seen (others ++ this ∷ later) (this ∷ []) (numbering_made caller blob version place bytes others later gap next) (tt, tt) was,
      owns_more limits caller seen (others ++ this ∷ (later ++ last)) (this ∷ last) (update_made caller blob version place bytes others later gap next)
          (tt, (numbers_own limits caller blob version at size place bytes seen others (later ++ last) answered, tt)) was,
    )

pub reports_stay : ReportsStayOwn
reports_stay limits caller blob version seen others gap numbered was =
    let finish : Event = Events.Finish caller blob version in
    owns_more limits caller seen (others ++ finish ∷ []) (finish ∷ []) (event_made caller others finish gap refl)
    (numbered_stays limits seen (others ++ finish ∷ []) caller blob version numbered, tt) was

-- who finishes it, where some event does
record Finisher (blob version : ℕ) (es : List Event) : Type 0 where
  other : ℕ
  there : Contains es (Events.Finish other blob version)

finisher_more : (blob version : ℕ) (e : Event) (es : List Event) → Finisher blob version es → Finisher blob version (e ∷ es)
finisher_more blob version e es f = record { other = f.other; there = Contains-append_right (e ∷ []) es (Events.Finish f.other blob version) f.there }

finisher : (blob version : ℕ) (es : List Event) → finishes blob version es ≡ true → Finisher blob version es
finisher blob version [] e = (let no : ⊥ = cc in absurd no)
finisher blob version (Events.Finish caller other v ∷ es) e =
    elim (or_cases ((other == blob) && (v == version)) (finishes blob version es) e) [
      | inl here ↦
          let parts = and_parts (other == blob) (v == version) here in
          let b : other ≡ blob = eqb-true other blob parts.0 in
          let n : v ≡ version = eqb-true v version parts.1 in
          record { other = caller; there = (0, omega arith, ap (λ (i : ℕ). Events.Finish caller i v) b ∙ ap (λ (i : ℕ). Events.Finish caller blob i) n) }
      | inr there ↦ finisher_more blob version _ es (finisher blob version es there)
    ]
finisher blob version (x ∷ es) e = finisher_more blob version x es (finisher blob version es e)

pub nobody_else : NobodyElseFinishes
nobody_else limits history legal each caller blob version at size place bytes before later more split answered gap =
    false_from_ne_true (finishes blob version later) (λ found.
    let f = finisher blob version later found in
    let finish : Event = Events.Finish f.other blob version in
    let in_rest : Contains (Events.Assign caller blob place bytes ∷ (later ++ more)) finish =
    Contains-append_right (Events.Assign caller blob place bytes ∷ []) (later ++ more) finish (Contains-append_left later more finish f.there) in
    let in_history : Contains history finish =
    subst (λ (h : List Event). Contains h finish) (sym split) (Contains-append_right before (Events.Assign caller blob place bytes ∷ (later ++ more)) finish in_rest) in
    let ours : IsNumberedBy limits history caller blob version =
    record { before = before; after = later ++ more; place = place; bytes = bytes; at = at; size = size; split = split; answered = answered } in
    let own : f.other ≡ caller = one_caller limits history legal blob version f.other caller (each f.other blob version in_history) ours in
    nothing_in finish (subst (λ (l : List Event). Contains l finish) (none_own caller later gap) (among_own caller later finish own f.there)))
