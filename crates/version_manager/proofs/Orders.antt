-- Finishes in order, as the history goes on.
use Rattle.std.proofs.Common.{◌≡◌, ◌⊎◌, inl, inr, ℕ, List, [], ◌∷◌, ◌++◌, refl, sym, ap, subst, ◌∙◌, append_assoc}
use Rattle.blob_model.specs.Limits.{Bounds}
use Rattle.blob_model.specs.Store.{Store}
use Rattle.blob_model.specs.History.{store_of}
use Rattle.blob_model.specs.declared.call.Event.{Event}
use Rattle.blob_model.specs.declared.call.Event.TheVariants as Events
use Rattle.version_manager.specs.Folds.{IsInOrder, AreInOrder}

-- the event may come in the store, if it is a finish
abbrev pub IsEventInOrder : ℕ → Store → Event → Type 0
IsEventInOrder p s (Events.Create by) = Unit {0}
IsEventInOrder p s (Events.Assign by blob place bytes) = Unit {0}
IsEventInOrder p s (Events.Finish by blob version) = IsInOrder p s blob version
IsEventInOrder p s (Events.Branch by blob version) = Unit {0}

-- an event of a list with one more at its end is that one, or one of the list
last_or_before : (before later h : List Event) (x e : Event) → h ++ e ∷ [] ≡ before ++ x ∷ later → ((h ≡ before) × (e ≡ x)) ⊎ ((rest : List Event) × (h ≡ before ++ x ∷ rest))
last_or_before [] later [] x e is = let same : e ≡ x = cc in inl (refl, same)
last_or_before [] later (y ∷ h) x e is = let same : y ≡ x = cc in inr (h, ap (λ (z : Event). z ∷ h) same)
last_or_before (b ∷ []) later [] x e is = absurd (let no : ⊥ = cc in no)
last_or_before (b ∷ (c ∷ before)) later [] x e is = absurd (let no : ⊥ = cc in no)
last_or_before (b ∷ before) later (y ∷ h) x e is =
    let same : y ≡ b = cc in
    let left : h ++ e ∷ [] ≡ before ++ x ∷ later = cc in
    elim (last_or_before before later h x e left) [
      | inl both ↦ inl (ap (λ (z : Event). z ∷ h) same ∙ ap (λ (l : List Event). b ∷ l) both.0, both.1)
      | inr more ↦ inr (more.0, ap (λ (z : Event). z ∷ h) same ∙ ap (λ (l : List Event). b ∷ l) more.1)
    ]

-- one event more
pub order_more : (p : ℕ) (limits : Bounds) (h h' : List Event) (e : Event) → h' ≡ h ++ e ∷ [] → AreInOrder p limits h → IsEventInOrder p (store_of limits h) e → AreInOrder p limits h'
order_more p limits h h' e is order own = λ before later by blob version split.
    elim (last_or_before before later h (Events.Finish by blob version) e (sym is ∙ split)) [
      | inl both ↦ subst (λ (l : List Event). IsInOrder p (store_of limits l) blob version) both.0 (subst (λ (x : Event). IsEventInOrder p (store_of limits h) x) both.1 own)
      | inr more ↦ order before more.0 by blob version more.1
    ]

-- no event, and the first events
pub none_in_order : (p : ℕ) (limits : Bounds) → AreInOrder p limits []
none_in_order p limits [] later by blob version is = absurd (let no : ⊥ = cc in no)
none_in_order p limits (x ∷ before) later by blob version is = absurd (let no : ⊥ = cc in no)

pub order_front : (p : ℕ) (limits : Bounds) (xs ys : List Event) → AreInOrder p limits (xs ++ ys) → AreInOrder p limits xs
order_front p limits xs ys order = λ before later by blob version is.
    order before (later ++ ys) by blob version (ap (λ (l : List Event). l ++ ys) is ∙ append_assoc before (Events.Finish by blob version ∷ later) ys)
