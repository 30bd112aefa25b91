-- What is read of stored pages.
use Rattle.std.proofs.Common.{◌≡◌, ℕ, ◌+◌, ◌-◌, ◌*◌, ◌/◌, ◌≤◌, List, length, take, drop, min, arith, ap, sym, subst, ◌∙◌}
use Rattle.std.specs.Prelude.{slice_range}
use Rattle.std.proofs.lemmas.List.{take-take, drop-take, drop-drop}
use Rattle.page_store.specs.Stored.{Cut, Stored, bytes_of_pages}
use Rattle.page_fan.specs.Counts.{NoneFell}
use Rattle.snapshot.specs.Versions.{Version}
use Rattle.border_hints.specs.Numbered.{NumberedUpdate}
use Rattle.range_reader.specs.Answers.{OnPastSize, OnPageFault as OnPageLost}
use Rattle.range_reader.specs.Faults.{PageFailed, PageFailedIn}
use Rattle.range_reader.specs.declared.reader.ReadFault.{ReadFault}
use Rattle.range_reader.specs.declared.reader.ReadFault.TheVariants as read
use Rattle.range_reader.proofs.Counting.{all_since}
use Rattle.range_reader.proofs.Walking.{div_is}
use Rattle.tree_weaver.specs.Anew.{OwnLost, OwnFailed}

-- ---- parts of the update's bytes
part_of_part : (b : List ℕ) (low high s n : ℕ) → s + n ≤ high - low → slice_range (slice_range b low high) s (s + n) ≡ slice_range b (low + s) (low + s + n)
part_of_part b low high s n fits =
    let m : ℕ = high - low - s in
    let e : high - low ≡ s + m = omega arith in
    let k : s + n - s ≡ n = omega arith in
    let j : low + s + n - (low + s) ≡ n = omega arith in
    ap (λ x. take x (drop s (take (high - low) (drop low b)))) k
    ∙ ap (λ x. take n (drop s (take x (drop low b)))) e
    ∙ ap (take n) (drop-take s m (drop low b))
    ∙ take-take n m (drop s (drop low b)) (omega arith)
    ∙ ap (take n) (drop-drop s low b)
    ∙ ap (λ x. take x (drop (low + s) b)) (sym j)

-- bytes of one stored page
pub stored_part : (pages told : Cut) (p number skip n : ℕ) (stored : Stored) → told ≡ pages → pages.page_size ≡ p
    → stored.bytes ≡ slice_range (bytes_of_pages told.pages) (number * told.page_size) (min ((number + 1) * told.page_size) (length (bytes_of_pages told.pages)))
    → skip + n ≤ p → number * p + skip + n ≤ length (bytes_of_pages pages.pages)
    → slice_range stored.bytes skip (skip + n) ≡ slice_range (bytes_of_pages pages.pages) (number * p + skip) (number * p + skip + n)
stored_part pages told p number skip n stored same size is fits within =
    let b : List ℕ = bytes_of_pages pages.pages in
    let Q : Cut → Type 0 = λ c. stored.bytes ≡ slice_range (bytes_of_pages c.pages) (number * c.page_size) (min ((number + 1) * c.page_size) (length (bytes_of_pages c.pages))) in
    let here : Q pages = subst Q same is in
    let R : ℕ → Type 0 = λ s. stored.bytes ≡ slice_range b (number * s) (min ((number + 1) * s) (length b)) in
    let there : R p = subst R size here in
    let next : (number + 1) * p ≡ number * p + p = omega arith in
    ap (λ l. slice_range l skip (skip + n)) there ∙ part_of_part b (number * p) (min ((number + 1) * p) (length b)) skip n (omega arith)

-- ---- doors that failed
pub own_since : (t : NumberedUpdate) (before mid now : List ℕ) (number : ℕ) → NoneFell before mid → OwnLost t mid now number → OwnLost t before now number
own_since t before mid now number kept lost = record { stored = lost.stored; is = lost.is; failed = all_since before mid now lost.stored.spots kept lost.failed }

pub part_since : (t : NumberedUpdate) (before mid now : List ℕ) (b n : ℕ) → NoneFell before mid → OwnFailed t mid now b n → OwnFailed t before now b n
part_since t before mid now b n kept f = record { number = f.number; begins = f.begins; ends = f.ends; lost = own_since t before mid now f.number kept f.lost }

-- a read within the size fails for a page alone
pub read_lost : (f : ReadFault) (past R : Type 0) (P Q : ℕ → Type 0) → OnPastSize f past → ¬ past → OnPageLost f P → OnPageLost f Q → ((i : ℕ) → P i → Q i → R) → R
read_lost (read.RangePastSize end size) past R P Q is within p q all = absurd (within is)
read_lost (read.PageFault page) past R P Q is within p q all = all page p q

-- where all bytes that were to be read lie in one page, that is it
pub page_lost : (s : Version) (begin page n : ℕ) (before now : List ℕ) (i : ℕ) → begin ≡ page * s.page_size → 1 ≤ n → n ≤ s.page_size → PageFailedIn s begin n before now i
    → PageFailed s before now page
page_lost s begin page n before now i at some few f =
    let q : ℕ = s.page_size in
    let low : begin / q ≡ page = div_is q page begin (omega arith) (omega arith) (omega arith) in
    let high : (begin + n - 1) / q ≡ page = div_is q page (begin + n - 1) (omega arith) (omega arith) (omega arith) in
    let is : i ≡ page = omega (arith, f.from, f.upto, low, high) in
    subst (λ j. PageFailed s before now j) is f.failed
