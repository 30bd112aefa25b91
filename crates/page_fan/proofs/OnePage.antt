-- One page that is stored alone.
use Rattle.std.proofs.Common.{◌≡◌, ℕ, ◌+◌, ◌≤◌, List, [], ◌∷◌, length, arith, inl, inr, refl, ap, subst, length-append}
use Rattle.std.specs.Prelude.{All, slice_index_or}
use Rattle.std.proofs.lemmas.Bool.{cases_lt}
use Rattle.std.proofs.lemmas.List.{get_or_past}
use Rattle.page_store.specs.House.{House}
use Rattle.page_store.specs.Stored.{IsCut, Stored, bytes_of_pages}
use Rattle.page_fan.specs.Fault.{OnLostPage, OnPageFault}
use Rattle.page_fan.specs.declared.storing.StoreFault.{StoreFault}
use Rattle.page_fan.specs.declared.storing.StoreFault.TheVariants as store
use Rattle.page_fan.specs.Lost.{IsFirstLost, NoneTook}

-- where pages are cut, the first has a byte
first_some : (p : ℕ) (page : Stored) (rest : List Stored) → 1 ≤ p → IsCut p (page ∷ rest) → 1 ≤ length page.bytes
first_some p page [] pos cut = cut.0
first_some p page (next ∷ rest) pos cut = omega (arith, cut.0, pos)

-- bytes of a page size at most are one page
pub one_page : (p : ℕ) (pages : List Stored) → 1 ≤ p → IsCut p pages → 1 ≤ length (bytes_of_pages pages) → length (bytes_of_pages pages) ≤ p → length pages ≡ 1
one_page p [] pos cut some few = absurd (omega (arith, some))
one_page p (page ∷ []) pos cut some few = refl
one_page p (page ∷ next ∷ rest) pos cut some few =
    let all : length (bytes_of_pages (page ∷ next ∷ rest)) ≡ length page.bytes + length (bytes_of_pages (next ∷ rest)) = length-append page.bytes (bytes_of_pages (next ∷ rest)) in
    let more : length (bytes_of_pages (next ∷ rest)) ≡ length next.bytes + length (bytes_of_pages rest) = length-append next.bytes (bytes_of_pages rest) in
    absurd (omega (arith, all, more, cut.0, few, first_some p next rest pos cut.1))

-- what holds of all of them holds of it
pub only_one : {X : Type 0} (P : X → Type 0) (x : X) (xs : List X) → xs ≡ x ∷ [] → All P xs → P x
only_one P x xs e all = let whole : All P (x ∷ []) = subst (λ l. All P l) e all in whole 0 x (omega arith)

-- where it wasn't stored, no door of its placement took it
pub none_took : (f : StoreFault) (houses : List House) (p : ℕ) (bytes : List ℕ) (providers replicas : ℕ) (before now : List ℕ)
    → OnLostPage f (IsFirstLost houses p bytes providers replicas before now) → OnPageFault f (λ _. NoneTook providers replicas before now)
none_took (store.PageFault page stored) houses p bytes providers replicas before now lost = record {
  chosen = slice_index_or lost.placements page [];
  spread = elim (cases_lt page (length lost.placements)) [
    | inl lt ↦ lost.spread page [] lt
    | inr past ↦ absurd (let n : length (slice_index_or lost.placements page []) ≡ 0 = ap length (get_or_past lost.placements page [] past) in omega (arith, n, lost.failed.some))
  ];
  some = lost.failed.some;
  failed = lost.failed.failed;
}
none_took store.NoMemory houses p bytes providers replicas before now lost = tt
