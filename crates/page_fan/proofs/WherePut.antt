-- Where pages were put that were stored, by the placements that there were for them.
use Rattle.std.proofs.Common.{◌≡◌, ℕ, zero, suc, ◌+◌, ◌*◌, ◌<◌, ◌≤◌, List, [], ◌∷◌, length, map, take, arith, inl, inr, refl, ap, sym, subst, length-append, ◌∙◌}
use Rattle.std.specs.Prelude.{All, Result, Ok, Err, IfOk}
use Rattle.std.proofs.lemmas.Bool.{cases_lt}
use Rattle.std.proofs.lemmas.List.{length-take-le, get_or-take}
use Rattle.std.proofs.lemmas.List.Elements.{All-take}
use Rattle.std.proofs.lemmas.Option.{slice_get_within}
use Rattle.page_store.specs.Stored.{Stored, Cut, IsCut, bytes_of_pages}
use Rattle.provider_manager.specs.Placed.{IsSpread}
use Rattle.page_fan.specs.Counts.{RoseAt}
use Rattle.page_fan.specs.Fault.{UnlessNoMemory}
use Rattle.page_fan.specs.Listed.{HasPages}
use Rattle.page_fan.specs.Replicas.{AreReplicated, StandAt, providers_of}
use Rattle.page_fan.specs.Used.{CalledAsPlaced}
use Rattle.page_fan.specs.declared.storing.StoreFault.{StoreFault}
use Rattle.page_fan.specs.Put.{ArePut, IsPut}

-- bytes are cut into as many pages as they are stored in
pub has_pages : (p : ℕ) (pages : List Stored) → 1 ≤ p → IsCut p pages → HasPages p (length (bytes_of_pages pages)) (length pages)
has_pages p [] pos cut = record { whole = omega arith; within = λ i lt. absurd (omega (arith, lt)) }
has_pages p (page ∷ []) pos cut =
    let all : length (bytes_of_pages (page ∷ [])) ≡ length page.bytes + 0 = length-append page.bytes [] in
    record { whole = omega (arith, all, cut.1); within = λ i lt. (let z : i ≡ 0 = omega (arith, lt) in rw z (omega (arith, all, cut.0))) }
has_pages p (page ∷ next ∷ rest) pos cut =
    let n : ℕ = length (bytes_of_pages (next ∷ rest)) in
    let all : length (bytes_of_pages (page ∷ next ∷ rest)) ≡ length page.bytes + n = length-append page.bytes (bytes_of_pages (next ∷ rest)) in
    let others = has_pages p (next ∷ rest) pos cut.1 in
    let more : (length (next ∷ rest) + 1) * p ≡ length (next ∷ rest) * p + p = omega arith in
    let count : length (page ∷ next ∷ rest) * p ≡ (length (next ∷ rest) + 1) * p = ap (λ k. k * p) (omega arith) in
    record {
      whole = omega (arith, all, cut.0, others.whole, more, count);
      within = within_all p page next rest n all cut.0 pos others.within;
    }
  where
    within_all : (p : ℕ) (page next : Stored) (rest : List Stored) (n : ℕ) → length (bytes_of_pages (page ∷ next ∷ rest)) ≡ length page.bytes + n → length page.bytes ≡ p → 1 ≤ p
        → ((i : ℕ) → i < length (next ∷ rest) → i * p < n) → (i : ℕ) → i < length (page ∷ next ∷ rest) → i * p < length (bytes_of_pages (page ∷ next ∷ rest))
    within_all p page next rest n all full pos below zero lt = omega (arith, all, full, pos)
    within_all p page next rest n all full pos below (suc i) lt =
        let step : suc i * p ≡ i * p + p = omega arith in
        omega (arith, all, full, step, below i (omega (arith, lt)))

-- no more pages than there are placements
enough : (p n pages placed : ℕ) → n ≤ placed * p → HasPages p n pages → pages ≤ placed
enough p n pages placed room has = elim (cases_lt placed pages) [
  | inl less ↦ absurd (omega (arith, room, has.within placed less))
  | inr most ↦ most
]

module _ {D : Type 0} where
  -- the pages of stored bytes, by the first of the placements
  pub are_put : (called : D → D → Type 0) (faults : D → ℕ) (providers replicas p : ℕ) (old new : List D) (placements : List (List ℕ)) (bytes : List ℕ) (pages : List Stored)
      → 1 ≤ p → bytes_of_pages pages ≡ bytes → IsCut p pages → length bytes ≤ length placements * p → All (IsSpread providers replicas) placements
      → ((count : ℕ) → HasPages p (length bytes) count → CalledAsPlaced called (take count placements) old new)
      → AreReplicated (map faults old) (map faults new) placements pages → ArePut called faults providers replicas old new pages
  are_put called faults providers replicas p old new placements bytes pages pos same cut room spread calls stand =
      let H : List ℕ → Type 0 = λ b. HasPages p (length b) (length pages) in
      let has : HasPages p (length bytes) (length pages) = subst H same (has_pages p pages pos cut) in
      record {
        placements = take (length pages) placements;
        count = length-take-le (length pages) placements (enough p (length bytes) (length pages) (length placements) room has);
        spread = All-take (IsSpread providers replicas) (length pages) placements spread;
        calls = calls (length pages) has;
        stand = λ i page is.
            let S : List ℕ → Type 0 = λ chosen. StandAt (RoseAt (map faults old) (map faults new)) chosen (providers_of page.spots) in
            subst S (sym (get_or-take (length pages) placements i [] (slice_get_within pages i page is))) (stand i page is);
      }

  -- so it is of what is said of them
  pub said_put : (called : D → D → Type 0) (faults : D → ℕ) (providers replicas p : ℕ) (old new : List D) (placements : List (List ℕ)) (bytes : List ℕ) (said : Result Cut StoreFault)
      → 1 ≤ p → length bytes ≤ length placements * p → All (IsSpread providers replicas) placements
      → IfOk said (λ pages. bytes_of_pages pages.pages ≡ bytes) → IfOk said (λ pages. IsCut p pages.pages)
      → ((count : ℕ) → HasPages p (length bytes) count → UnlessNoMemory said (CalledAsPlaced called (take count placements) old new))
      → IfOk said (λ pages. AreReplicated (map faults old) (map faults new) placements pages.pages)
      → IfOk said (λ pages. ArePut called faults providers replicas old new pages.pages)
  said_put called faults providers replicas p old new placements bytes (Ok pages) pos room spread same cut calls stand =
      are_put called faults providers replicas p old new placements bytes pages.pages pos same cut room spread calls stand
  said_put called faults providers replicas p old new placements bytes (Err fault) pos room spread same cut calls stand = tt

  -- one page that was put alone
  pub is_put : (called : D → D → Type 0) (faults : D → ℕ) (providers replicas : ℕ) (old new : List D) (page : Stored) (pages : List Stored) → pages ≡ page ∷ []
      → ArePut called faults providers replicas old new pages → IsPut called faults providers replicas old new page
  is_put called faults providers replicas old new page pages is put = one_put put.placements (put.count ∙ ap length is) put.spread put.calls
      (let S : List Stored → Type 0 = λ l. AreReplicated (map faults old) (map faults new) put.placements l in subst S is put.stand)
    where
      one_put : (placements : List (List ℕ)) → length placements ≡ 1 → All (IsSpread providers replicas) placements → CalledAsPlaced called placements old new
          → AreReplicated (map faults old) (map faults new) placements (page ∷ []) → IsPut called faults providers replicas old new page
      one_put [] one spread calls stand = absurd (omega (arith, one))
      one_put (chosen ∷ []) one spread calls stand = record { chosen = chosen; spread = spread 0 chosen (omega arith); calls = calls; stand = stand 0 page refl }
      one_put (chosen ∷ other ∷ rest) one spread calls stand = absurd (omega (arith, one))
