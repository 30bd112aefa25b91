-- The pages of a buffer that is stored, and the first that is lost behind those before it.
use Rattle.std.proofs.Common.{◌≡◌, ℕ, ◌+◌, ◌*◌, ◌<◌, ◌≤◌, List, [], length, map, get_or, arith, refl}
use Rattle.std.specs.Prelude.{All, Result, Ok, Err, IfErr, sum_by}
use Rattle.std.proofs.lemmas.Option.{slice_get_within, get_or_from_slice_get}
use Rattle.page_store.specs.Count.{HasRisen}
use Rattle.page_store.specs.House.{House, IsProvider}
use Rattle.page_store.specs.Stored.{Stored, Cut, IsCut}
use Rattle.page_fan.specs.Answer.{AreStored, IsLost, IsStoredAs, page_of}
use Rattle.page_fan.specs.Counts.{NoneFell}
use Rattle.page_fan.specs.Fault.{FirstFailed, OnLostPage, OnPageFault}
use Rattle.page_fan.specs.declared.storing.StoreFault.{StoreFault}
use Rattle.page_fan.specs.declared.storing.StoreFault.TheVariants as fault
use Rattle.page_fan.proofs.Joined.{full_before, index_within, joined_so_far, joined_whole}
use Rattle.page_fan.proofs.Rises.{sum_rises_at}

-- these are the first pages of the buffer, each of them stored at the providers of its placement
abbrev pub EachStored : List House → ℕ → List ℕ → List (List ℕ) → List ℕ → List ℕ → List Stored → Type 0
EachStored houses page_size buffer placements before now pages =
    (k : ℕ) (d : Stored) → k < length pages → IsStoredAs houses (page_of page_size buffer k) (get_or placements k []) before now (get_or pages k d)

-- as many as it takes are the whole buffer
pub all_stored : (houses : List House) (page_size : ℕ) (buffer : List ℕ) (placements : List (List ℕ)) (before now : List ℕ) (pages : Cut)
    → pages.page_size ≡ page_size → IsCut page_size pages.pages → EachStored houses page_size buffer placements before now pages.pages → length buffer ≤ length pages.pages * page_size
    → AreStored houses page_size buffer placements before now pages
all_stored houses page_size buffer placements before now pages size cut each whole =
    let d : Stored = record { bytes = []; spots = [] } in
    record {
      bytes = joined_whole page_size buffer pages.pages d (λ k l. (each k d l).bytes) whole;
      size = size;
      cut = cut;
      here = λ k e l. (each k e l).here;
      replicas = λ i page is. let s = each i page (slice_get_within pages.pages i page is) in rw (get_or_from_slice_get pages.pages i page page is) at s.replicas;
    }

-- and where the next one is lost, it is the first that is
pub first_failed : (houses : List House) (page_size : ℕ) (buffer : List ℕ) (placements : List (List ℕ)) (before now : List ℕ) (page : ℕ) (stored : Cut)
    → page ≡ length stored.pages → stored.page_size ≡ page_size → EachStored houses page_size buffer placements before now stored.pages
    → ((k : ℕ) → k ≤ length stored.pages → k * page_size < length buffer) → IsLost (get_or placements (length stored.pages) []) before now
    → FirstFailed houses page_size buffer placements before now page stored
first_failed houses page_size buffer placements before now page stored is size each within lost =
    let pages = stored.pages in
    let d : Stored = record { bytes = []; spots = [] } in
    rw is record {
      within = within (length pages) (omega arith);
      count = refl;
      size = size;
      full = full_before page_size buffer pages (λ k e l. (each k e l).bytes) (λ k l. within (k + 1) (omega (arith, l)));
      bytes = joined_so_far page_size buffer pages d (λ k l. (each k d l).bytes);
      here = λ k e l. (each k e l).here;
      replicas = λ i page e. let s = each i page (slice_get_within pages i page e) in rw (get_or_from_slice_get pages i page page e) at s.replicas;
      some = lost.some;
      failed = lost.failed;
    }

-- where a page is lost, the doors' counts rose in sum
pub lost_counted : {D : Type 0} (faults : D → ℕ) (houses : List House) (page_size : ℕ) (buffer : List ℕ) (placements : List (List ℕ)) (old new : List D) (result : Result Cut StoreFault)
    → NoneFell (map faults old) (map faults new) → All (All (IsProvider (length old))) placements → length buffer ≤ length placements * page_size
    → IfErr result (λ (f : StoreFault). OnLostPage f (FirstFailed houses page_size buffer placements (map faults old) (map faults new)))
    → IfErr result (λ (f : StoreFault). OnPageFault f (λ _. HasRisen (sum_by faults old) (sum_by faults new)))
lost_counted faults houses page_size buffer placements old new (Ok pages) kept served enough h = tt
lost_counted faults houses page_size buffer placements old new (Err fault.NoMemory) kept served enough h = tt
lost_counted faults houses page_size buffer placements old new (Err (fault.PageFault page before)) kept served enough h =
    let within : page < length placements = index_within page_size page (length placements) (omega (arith, h.within, enough)) in
    sum_rises_at faults old new (get_or (get_or placements page []) 0 0) kept (served page [] within 0 0 h.some) (h.failed 0 0 h.some)
