-- The first pages of a buffer, kept one after another up to the first that is lost.
use Rattle.std.proofs.Common.{◌≡◌, ℕ, ◌+◌, ◌-◌, ◌<◌, ◌≤◌, List, [], ◌∷◌, ◌++◌, length, length-append, length-take, length-drop, min, get_or, take, drop, arith, ap, ◌∙◌, inl, inr}
use Rattle.std.specs.Prelude.{Option, Some, None, IfSome}
use Rattle.std.proofs.lemmas.Bool.{cases_eq, eq-eqb, ne_eqb}
use Rattle.page_store.specs.House.{House}
use Rattle.page_store.specs.Stored.{Cut, Stored}
use Rattle.page_fan.specs.Answer.{IsLost, IsPageAnswer, IsStoredAs, page_of, with_page}
use Rattle.page_fan.specs.Counts.{NoneFell}
use Rattle.page_fan.proofs.Answering.{answer_later, each_more}
use Rattle.page_fan.proofs.Failing.{EachStored}

-- of so many first pages of the buffer these are the ones before the first that is lost, or all of them
pub record AreKept (houses : List House) (page_size : ℕ) (buffer : List ℕ) (placements : List (List ℕ)) (before now : List ℕ) (count : ℕ) (pages : List Stored) : Type 0 where
  pub each : EachStored houses page_size buffer placements before now pages
  pub few : length pages ≤ count
  pub lost : length pages < count → IsLost (get_or placements (length pages) []) before now

-- pages that were just begun
pub begun : (pages : Cut) (page_size room : ℕ) → pages ≡ record { page_size = page_size; room = room; pages = [] }
    → (pages.page_size ≡ page_size) × (pages.room ≡ room) × (pages.pages ≡ [])
begun pages page_size room is = (ap (λ (p : Cut). p.page_size) is, ap (λ (p : Cut). p.room) is, ap (λ (p : Cut). p.pages) is)

pub none_kept : (houses : List House) (page_size : ℕ) (buffer : List ℕ) (placements : List (List ℕ)) (before now : List ℕ) → AreKept houses page_size buffer placements before now 0 []
none_kept houses page_size buffer placements before now = record {
  each = λ k d l. absurd (omega (arith, l));
  few = omega arith;
  lost = λ l. absurd (omega (arith, l));
}

each_later : (houses : List House) (page_size : ℕ) (buffer : List ℕ) (placements : List (List ℕ)) (before mid now : List ℕ) (pages : List Stored) → NoneFell mid now
    → EachStored houses page_size buffer placements before mid pages → EachStored houses page_size buffer placements before now pages
each_later houses page_size buffer placements before mid now pages kept each = λ k d l.
    answer_later houses (page_of page_size buffer k) (get_or placements k []) before mid now (Some (get_or pages k d)) kept (each k d l)

-- one page more, which is not added
kept_same : (houses : List House) (page_size : ℕ) (buffer : List ℕ) (placements : List (List ℕ)) (before mid now : List ℕ) (count : ℕ) (pages : List Stored) → NoneFell mid now
    → AreKept houses page_size buffer placements before mid count pages → (length pages ≡ count → IsLost (get_or placements count []) before now)
    → AreKept houses page_size buffer placements before now (count + 1) pages
kept_same houses page_size buffer placements before mid now count pages kept h next = record {
  each = each_later houses page_size buffer placements before mid now pages kept h.each;
  few = omega (arith, h.few);
  lost = λ l. elim (cases_eq (length pages) count) [
    | inl same ↦ rw same (next same)
    | inr differs ↦
        let apart : length pages ≡ count → ⊥ = differs in
        let less : length pages < count = omega (arith, h.few, apart) in
        answer_later houses [] (get_or placements (length pages) []) before mid now None kept (h.lost less)
  ];
}

-- one page more, which is added
kept_one : (houses : List House) (page_size : ℕ) (buffer : List ℕ) (placements : List (List ℕ)) (before mid now : List ℕ) (count : ℕ) (pages : List Stored) (page : Stored) → NoneFell mid now
    → AreKept houses page_size buffer placements before mid count pages → length pages ≡ count
    → IsStoredAs houses (page_of page_size buffer count) (get_or placements count []) before now page
    → AreKept houses page_size buffer placements before now (count + 1) (pages ++ page ∷ [])
kept_one houses page_size buffer placements before mid now count pages page kept h all here =
    let long = length-append pages (page ∷ []) in
    record {
      each = λ k d l. each_more (λ n s. IsStoredAs houses (page_of page_size buffer n) (get_or placements n []) before now s) d pages page
          (λ n m. each_later houses page_size buffer placements before mid now pages kept h.each n d m) (rw all here) k l;
      few = omega (arith, long, all);
      lost = λ l. absurd (omega (arith, l, long, all));
    }

pub kept_next : (houses : List House) (page_size : ℕ) (buffer : List ℕ) (placements : List (List ℕ)) (before mid now : List ℕ) (count : ℕ) (pages : List Stored) (stored : Option Stored) → NoneFell mid now
    → AreKept houses page_size buffer placements before mid count pages → IsPageAnswer houses (page_of page_size buffer count) (get_or placements count []) before now stored
    → AreKept houses page_size buffer placements before now (count + 1) (with_page count stored pages)
kept_next houses page_size buffer placements before mid now count pages None kept h answer = kept_same houses page_size buffer placements before mid now count pages kept h (λ _. answer)
kept_next houses page_size buffer placements before mid now count pages (Some page) kept h answer = elim (cases_eq (length pages) count) [
  | inl same ↦ rw (eq-eqb (length pages) count same) (kept_one houses page_size buffer placements before mid now count pages page kept h same answer)
  | inr differs ↦
      let apart : length pages ≡ count → ⊥ = differs in
      rw (ne_eqb (length pages) count apart) (kept_same houses page_size buffer placements before mid now count pages kept h (λ e. absurd (apart e)))
]

-- a page of a buffer has a byte, and no more than the page size
pub page_fits : (houses : List House) (page_size : ℕ) (buffer : List ℕ) (at : ℕ) (chosen before now : List ℕ) (stored : Option Stored) → 1 ≤ page_size → at < length buffer
    → IsPageAnswer houses (take page_size (drop at buffer)) chosen before now stored → IfSome stored (λ (page : Stored). (1 ≤ length page.bytes) × (length page.bytes ≤ page_size))
page_fits houses page_size buffer at chosen before now None some within answer = tt
page_fits houses page_size buffer at chosen before now (Some page) some within answer =
    let long : length page.bytes ≡ min page_size (length buffer - at) = ap length answer.bytes ∙ (length-take page_size (drop at buffer) ∙ ap (λ n. min page_size n) (length-drop at buffer)) in
    (omega (arith, long, some, within), omega (arith, long))
