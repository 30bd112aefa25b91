-- The rows before the first missing one.
use Rattle.std.proofs.Common.{◌≡◌, ℕ, zero, suc, ◌+◌, ◌<◌, ◌≤◌, List, [], ◌∷◌, ◌++◌, length, take, drop, map, is_some, option_map, Option, None, Some, Bool, true, false, true≢false, arith, refl, ap, sym, ◌∙◌, get_or, set}
use Rattle.std.specs.Prelude.{All, IfSome}
use Rattle.std.specs.Bool.{OnFalse}
use Rattle.std.proofs.lemmas.List.{drop_more}
use Rattle.blob_model.specs.Store.{true_prefix}
use Rattle.tree_geom.specs.declared.touch.Touch.{Touch}
use Rattle.tree_geom.specs.Geometry.{no_touch}
use Rattle.node_store.specs.UpdateRows.{UpdateRow}
use Rattle.snapshot.specs.Versions.{no_row}
use Rattle.publisher.specs.Windows.{leading}
use Rattle.publisher.specs.WindowInvariant.{present, row_touches}

pub leading_over : (rows : List UpdateRow) (above : List (Option UpdateRow)) → leading (present rows ++ above) ≡ rows ++ leading above
leading_over [] above = refl
leading_over (r ∷ rs) above = ap (λ l. r ∷ l) (leading_over rs above)

pub published_counts : (xs : List (Option UpdateRow)) → true_prefix (map is_some xs) ≡ length (leading xs)
published_counts [] = refl
published_counts (None ∷ xs) = refl
published_counts (Some r ∷ xs) = omega (arith, published_counts xs)

pub present_drop : (xs : List (Option UpdateRow)) → present (leading xs) ++ drop (length (leading xs)) xs ≡ xs
present_drop [] = refl
present_drop (None ∷ xs) = refl
present_drop (Some r ∷ xs) = ap (λ l. Some r ∷ l) (present_drop xs)

pub leading_rest : (xs : List (Option UpdateRow)) → leading (drop (length (leading xs)) xs) ≡ []
leading_rest [] = refl
leading_rest (None ∷ xs) = refl
leading_rest (Some r ∷ xs) = leading_rest xs

none_leads : (r : UpdateRow) (rs : List UpdateRow) → r ∷ rs ≡ [] → ⊥
none_leads r rs e = let n : length (r ∷ rs) ≡ 0 = ap length e in omega arith

pub leading_set : (xs : List (Option UpdateRow)) (i : ℕ) (v : Option UpdateRow) → leading xs ≡ [] → 0 < i → leading (set xs i v) ≡ []
leading_set xs zero v e lt = absurd (omega arith)
leading_set [] (suc i) v e lt = refl
leading_set (None ∷ xs) (suc i) v e lt = refl
leading_set (Some r ∷ xs) (suc i) v e lt = absurd (none_leads r (leading xs) e)

pub leading_more : (xs : List (Option UpdateRow)) → leading xs ≡ [] → leading (xs ++ None ∷ []) ≡ []
leading_more [] e = refl
leading_more (None ∷ xs) e = refl
leading_more (Some r ∷ xs) e = absurd (none_leads r (leading xs) e)

-- what leads where the next slot has its row
pub slot_leads : {A : Type 0} (row : A → Option UpdateRow) (xs : List A) (i : ℕ) (x : A) (r : UpdateRow) → i < length xs → x ≡ get_or xs i x → row x ≡ Some r
    → leading (map row (drop i xs)) ≡ r ∷ leading (map row (drop (i + 1) xs))
slot_leads {A} row xs i x r lt at is =
    let rest : List (Option UpdateRow) = map row (drop (i + 1) xs) in
    ap (λ (l : List A). leading (map row l)) (drop_more xs i x lt) ∙ ap (λ (o : Option UpdateRow). leading (o ∷ rest)) (ap row (sym at) ∙ is)

-- nothing leads where there is no first slot, or it has no row
pub none_there : {A : Type 0} (row : A → Option UpdateRow) (xs : List A) → length xs ≡ 0 → leading (map row xs) ≡ []
none_there row [] e = refl
none_there row (x ∷ xs) e = absurd (omega arith)

no_first : (o : Option UpdateRow) (rest : List (Option UpdateRow)) → is_some o ≡ false → leading (o ∷ rest) ≡ []
no_first None rest e = refl
no_first (Some r) rest e = absurd (true≢false e)

pub first_leads : {A : Type 0} (row : A → Option UpdateRow) (xs : List A) (x : A) (there : Bool) → x ≡ get_or xs 0 x → there ≡ is_some (row x) → OnFalse there (leading (map row xs) ≡ [])
first_leads row xs x true at is = tt
first_leads row [] x false at is = refl
first_leads row (y ∷ xs) x false at is = no_first (row y) (map row xs) (ap (λ z. is_some (row z)) (sym at) ∙ sym is)

pub some_seen : {A B : Type 0} (view : A → B) (x : Option A) → is_some (option_map view x) ≡ is_some x
some_seen view None = refl
some_seen view (Some a) = refl

-- the slot of the least unfinished update is empty
pub first_missing : (xs : List (Option UpdateRow)) → leading xs ≡ [] → 0 < length xs → xs ≡ None ∷ drop 1 xs
first_missing [] e lt = absurd (omega arith)
first_missing (None ∷ xs) e lt = refl
first_missing (Some r ∷ xs) e lt = absurd (none_leads r (leading xs) e)

pub leading_at : (xs : List (Option UpdateRow)) (i : ℕ) (d : UpdateRow) → i < length (leading xs) → get_or xs i None ≡ Some (get_or (leading xs) i d)
leading_at [] i d lt = absurd (omega arith)
leading_at (None ∷ xs) i d lt = absurd (omega arith)
leading_at (Some r ∷ xs) zero d lt = refl
leading_at (Some r ∷ xs) (suc i) d lt = leading_at xs i d (omega arith)

-- what holds of each row that is there holds of these
pub leading_all : (P : UpdateRow → Type 0) (rows : List (Option UpdateRow)) → All (λ (o : Option UpdateRow). IfSome o P) rows → All P (leading rows)
leading_all P [] h k d lt = absurd (omega arith)
leading_all P (None ∷ rest) h k d lt = absurd (omega arith)
leading_all P (Some row ∷ rest) h zero d lt = h 0 None (omega arith)
leading_all P (Some row ∷ rest) h (suc k) d lt = leading_all P rest (λ i o l. h (suc i) o (omega arith)) k d (omega arith)

-- rows that touch what the first of these touches say
pub touches_match : (rows : List UpdateRow) (ts : List Touch) → length rows ≤ length ts → ((i : ℕ) → i < length rows → (get_or rows i no_row).touch ≡ get_or ts i no_touch) → row_touches rows ≡ take (length rows) ts
touches_match [] ts le same = refl
touches_match (r ∷ rs) [] le same = absurd (omega arith)
touches_match (r ∷ rs) (t ∷ ts) le same =
    ap (λ x. x ∷ row_touches rs) (same 0 (omega arith))
    ∙ ap (λ l. t ∷ l) (touches_match rs ts (omega arith) (λ i lt. same (suc i) (omega arith)))

pub leading_few : (xs : List (Option UpdateRow)) → length (leading xs) ≤ length xs
leading_few [] = omega arith
leading_few (None ∷ xs) = omega arith
leading_few (Some r ∷ xs) = omega (arith, leading_few xs)
