-- Many ranges of a version, one after another.
use Rattle.std.proofs.Common.{◌≡◌, ◌≢◌, refl, ◌∙◌, ap, ℕ, suc, ◌+◌, ◌-◌, ◌<◌, ◌≤◌, Bool, true, false, if◌then◌else◌, nat_lt, arith}
use Rattle.std.proofs.Common.{List, [], ◌∷◌, length, take, drop, slice_index_or, Option, Some, None, Err}
use Rattle.std.specs.Prelude.{All}
use Rattle.std.proofs.Math.Seq.{drop-cons}
use Rattle.std.proofs.lemmas.Bool.Decides.{nat_tests}
use Rattle.std.proofs.lemmas.List.Elements.{All-nil, All-cons, All-contains_itself}
use Rattle.std.proofs.lemmas.List.Sums.{sum_by-cons}
use Rattle.blob_model.specs.Content.{size_of}
use Rattle.range_log.specs.Extents.{Extent}
use Rattle.range_log.specs.Visits.{visits}
use Rattle.page_store.specs.Count.{HasRisen}
use Rattle.page_fan.specs.Counts.{NoneFell}
use Rattle.snapshot.specs.Versions.{Version}
use Rattle.range_reader.specs.Faults.{CountsKept, PageFailedIn}
use Rattle.range_reader.proofs.Counting.{page_since, risen_since}
use Rattle.range_reader.proofs.Parts.{length_part}
use Rattle.range_reader.specs.Ranges.{RangeAnswers, RangesAnswers, IsMetByOne, PageFailedInOne, OnRangePast, OnPageLost, first_end_past, bytes_in, visits_of}
use Rattle.range_reader.specs.declared.ranges.RangeFault.{RangeFault}
use Rattle.range_reader.specs.declared.ranges.RangeFault.TheVariants.{RangePastSize, PageFault, NoMemory}

-- those from index k on are the one there and those behind it
at_drop : (ranges : List (ℕ × ℕ)) (k : ℕ) → k < length ranges → drop k ranges ≡ slice_index_or ranges k (0, 0) ∷ drop (k + 1) ranges
at_drop ranges k within =
    let next : suc k ≡ k + 1 = omega arith in
    drop-cons ranges k (0, 0) within ∙ ap (λ (n : ℕ). slice_index_or ranges k (0, 0) ∷ drop n ranges) next

-- where neither one that ends there nor another one is past the size
pub none_past : (size end : ℕ) (o : Option ℕ) → (if nat_lt size end then Some end else o) ≡ None → (end ≤ size) × (o ≡ None)
none_past size end o = by_case (nat_lt size end) refl
  where
    by_case : (x : Bool) → nat_lt size end ≡ x → (if x then Some end else o) ≡ None → (end ≤ size) × (o ≡ None)
    by_case true is e = let never : ⊥ = cc in absurd never
    by_case false is e = (grind (arith, nat_tests, is), e)

-- where none of them ends past it, each ends within it
abbrev pub EndsWithin : ℕ → ℕ × ℕ → Type 0
EndsWithin size range = range.0 + range.1 ≤ size

pub each_within : (size : ℕ) (ranges : List (ℕ × ℕ)) → first_end_past size ranges ≡ None → All (EndsWithin size) ranges
each_within size [] none = All-nil (EndsWithin size)
each_within size (range ∷ ranges) none =
    let both = none_past size (range.0 + range.1) (first_end_past size ranges) none in
    All-cons (EndsWithin size) range ranges both.0 (each_within size ranges both.1)

-- what a fault tells, told otherwise
on_past : (fault : RangeFault) (A B : Type 0) → (A → B) → OnRangePast fault A → OnRangePast fault B
on_past (RangePastSize end size) A B f a = f a
on_past (PageFault page) A B f a = tt
on_past NoMemory A B f a = tt

on_both : (fault : RangeFault) (P Q R : ℕ → Type 0) → ((page : ℕ) → P page → Q page → R page) → OnPageLost fault P → OnPageLost fault Q → OnPageLost fault R
on_both (RangePastSize end size) P Q R f a b = tt
on_both (PageFault page) P Q R f a b = f page a b
on_both NoMemory P Q R f a b = tt

-- doors that failed since then failed since an earlier moment
failed_since : (s : Version) (o n : ℕ) (before mid now : List ℕ) (i : ℕ) → NoneFell before mid → PageFailedIn s o n mid now i → PageFailedIn s o n before now i
failed_since s o n before mid now i kept f = record { from = f.from; upto = f.upto; failed = page_since s before mid now i kept f.failed }

on_lost : (fault : RangeFault) (P Q : ℕ → Type 0) → ((page : ℕ) → P page → Q page) → OnPageLost fault P → OnPageLost fault Q
on_lost fault P Q f a = on_both fault P P Q (λ page x y. f page x) a a

-- ---- the range at index k, where as many bytes are filled as those before it have
pub record RangeHere (ranges : List (ℕ × ℕ)) (k filled : ℕ) (out : List ℕ) (r : ℕ × ℕ) : Type 0 where
  pub tail : drop k ranges ≡ r ∷ drop (k + 1) ranges
  pub bytes : bytes_in (drop k ranges) ≡ r.1 + bytes_in (drop (k + 1) ranges)
  pub part : length (take (filled + r.1 - filled) (drop filled out)) ≡ r.1

pub range_here : (ranges : List (ℕ × ℕ)) (k filled : ℕ) (out : List ℕ) → k < length ranges → filled + bytes_in (drop k ranges) ≡ length out
    → RangeHere ranges k filled out (slice_index_or ranges k (0, 0))
range_here ranges k filled out within left =
    let r : ℕ × ℕ = slice_index_or ranges k (0, 0) in
    let tail : drop k ranges ≡ r ∷ drop (k + 1) ranges = at_drop ranges k within in
    let bytes : bytes_in (drop k ranges) ≡ r.1 + bytes_in (drop (k + 1) ranges) = ap bytes_in tail ∙ sum_by-cons (λ (x : ℕ × ℕ). x.1) r (drop (k + 1) ranges) in
    let count : filled + r.1 - filled ≡ r.1 = omega arith in
    record {
      tail = tail;
      bytes = bytes;
      part = ap (λ (n : ℕ). length (take n (drop filled out))) count ∙ length_part out filled r.1 (omega (arith, left, bytes));
    }

-- the visits of it and of those behind it
pub visits_here : (ranges : List (ℕ × ℕ)) (k p v : ℕ) (falls : List Extent) → k < length ranges
    → let r = slice_index_or ranges k (0, 0) in visits_of p falls v (drop k ranges) ≡ visits p falls v r.0 r.1 + visits_of p falls v (drop (k + 1) ranges)
visits_here ranges k p v falls within =
    let r : ℕ × ℕ = slice_index_or ranges k (0, 0) in
    ap (visits_of p falls v) (at_drop ranges k within) ∙ sum_by-cons (λ (x : ℕ × ℕ). visits p falls v x.0 x.1) r (drop (k + 1) ranges)

-- the fault of it is one of all of them
pub one_lost : {A : Type 0} (s : Version) (ranges : List (ℕ × ℕ)) (k : ℕ) (before mid now : List ℕ) (x y z : ℕ) (fault : RangeFault) → k < length ranges → CountsKept before mid x y
    → (let r = slice_index_or ranges k (0, 0) in RangeAnswers {A = A} s r.0 r.1 mid now y z (Err fault)) → RangesAnswers {A = A} s ranges before now x z (Err fault)
one_lost s ranges k before mid now x y z fault within kept told =
    let r : ℕ × ℕ = slice_index_or ranges k (0, 0) in
    let among = All-contains_itself ranges k (0, 0) within in
    record {
      past = λ us tell.
          let size = size_of us (length s.rows) in
          on_past fault (size < r.0 + r.1) (first_end_past size ranges ≢ None)
          (λ past none. let ends : r.0 + r.1 ≤ size = each_within size ranges none k (0, 0) within in omega (arith, past, ends)) (told.past us tell);
      page = on_lost fault _ (IsMetByOne s.page_size ranges) (λ page met. record { range = r; among = among; met = met }) told.page;
      failed = on_both fault _ _ (PageFailedInOne s ranges before now)
          (λ page met lost. record { range = r; among = among; some = met.some; failed = failed_since s r.0 r.1 _ _ _ page kept.none_fell lost }) told.page told.failed;
      counted = on_lost fault _ (λ _. HasRisen x z) (λ _ risen. risen_since _ _ _ kept.total risen) told.counted;
    }
