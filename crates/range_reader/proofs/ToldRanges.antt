-- A range of a version, by the updates that its rows tell.
use Rattle.std.proofs.Common.{◌≡◌, ℕ, ◌+◌, ◌-◌, ◌*◌, ◌/◌, ◌<◌, ◌≤◌, List, ◌++◌, length, take, drop, Result, Ok, Err, inl, inr, arith, ap, sym, ◌∙◌}
use Rattle.std.proofs.lemmas.Bool.{cases_lt}
use Rattle.std.proofs.lemmas.List.{take-append-drop, length-map}
use Rattle.std.proofs.Math.Nat.{mul-div-le, lt-mul-div-succ, mul-le-mul_left}
use Rattle.blob_model.specs.Content.{Update, content, size_of}
use Rattle.range_log.specs.Extents.{Extent}
use Rattle.range_log.specs.Updates.{extents}
use Rattle.range_log.specs.Visits.{visits}
use Rattle.range_log.specs.Laws.{RowsStay, ExtentsStand}
use Rattle.snapshot.specs.Versions.{Version, size_now, updates_of, update_of_row}
use Rattle.snapshot.specs.Laws.{TellUpdates}
use Rattle.range_reader.specs.Reading.{bytes_at, bound}
use Rattle.range_reader.specs.declared.reader.ReadFault.{ReadFault}
use Rattle.range_reader.specs.declared.reader.ReadFault.TheVariants as read_fault
use Rattle.range_reader.specs.Answers.{ReadAnswers}
use Rattle.range_reader.specs.Ranges.{OverUpdates, IsMet, RangeAnswers, RangeSteps, RangesAnswers}
use Rattle.range_reader.specs.declared.ranges.RangeFault.{RangeFault}
use Rattle.range_reader.specs.declared.ranges.RangeFault.TheVariants.{RangePastSize, PageFault}

-- the size is that of the updates
pub size_told : (s : Version) (us : List Update) → TellUpdates s.page_size us s.rows → size_now s ≡ size_of us (length s.rows)
size_told s us tell = ap length (tell.leave (length s.rows) (omega arith))

-- the bytes are those of the updates
pub bytes_told : (s : Version) (us : List Update) (o n : ℕ) → TellUpdates s.page_size us s.rows → bytes_at s o n ≡ take n (drop o (content us (length s.rows)))
bytes_told s us o n tell =
    let count : o + n - o ≡ n = omega arith in
    ap (λ k. take k (drop o (content (updates_of s) (length s.rows)))) count ∙ ap (λ c. take n (drop o c)) (tell.leave (length s.rows) (omega arith))

-- the visit bound is that of the updates
pub bound_told : RowsStay → ExtentsStand → (s : Version) (us : List Update) (o n : ℕ) → TellUpdates s.page_size us s.rows → bound s o n ≡ visits s.page_size (extents us) (length s.rows) o n
bound_told stay stand s us o n tell =
    let v : ℕ = length s.rows in
    let told : List Extent = extents (updates_of s) in
    let more : List Extent = drop v (extents us) in
    let counted : v ≤ length told = omega (arith, (stand (updates_of s) tell.replayable).1, length-map s.rows update_of_row) in
    let whole : told ++ more ≡ extents us = ap (λ l. l ++ more) tell.fall ∙ take-append-drop v (extents us) in
    sym ((stay s.page_size v told more counted).4 o n) ∙ ap (λ l. visits s.page_size l v o n) whole

-- a page between those of the first and the last byte is one that the range meets
pub met_between : (p o n i : ℕ) → 4 ≤ p → 1 ≤ n → o / p ≤ i → i ≤ (o + n - 1) / p → IsMet p o n i
met_between p o n i least some from upto =
    let low : p * i ≤ p * ((o + n - 1) / p) = mul-le-mul_left p upto in
    let high : p * (o / p + 1) ≤ p * (i + 1) = mul-le-mul_left p (omega (arith, from)) in
    record {
      some = some;
      begins = omega (arith, low, mul-div-le (o + n - 1) p);
      ends = omega (arith, high, lt-mul-div-succ o {b = p} (omega arith));
    }

-- its node steps are told by the updates too
pub steps_told : RowsStay → ExtentsStand → (s : Version) (o n before now : ℕ) → now ≤ before + bound s o n → (size_now s < o + n → now ≡ before) → RangeSteps s o n before now
steps_told stay stand s o n before now few none = record {
  few = λ us tell. omega (arith, few, bound_told stay stand s us o n tell);
  none_past = λ us tell past. none (omega (arith, past, size_told s us tell));
}

-- ---- and so is what it answers
module _ (s : Version) (o n : ℕ) (before now : List ℕ) (sum_before sum_now : ℕ) where
  abbrev Read : {A : Type 0} → Result A ReadFault → Type 0
  Read result = ReadAnswers s o n before now sum_before sum_now result

  abbrev Told : {A : Type 0} → Result A RangeFault → Type 0
  Told result = RangeAnswers s o n before now sum_before sum_now result

  -- anything within the size
  ok_within : {B : Type 0} (y : B) → OverUpdates s (λ us. o + n ≤ size_of us (length s.rows)) → Told (Ok y)
  ok_within y within = record {
    within = within;
    refused = λ us tell past. let inside : o + n ≤ size_of us (length s.rows) = within us tell in absurd (omega (arith, past, inside));
    past = λ us tell. tt;
    lost_within = λ us tell. tt;
    page = tt;
    failed = tt;
    counted = tt;
  }

  pub told_ok : {A B : Type 0} (x : A) (y : B) → Read (Ok x) → Told (Ok y)
  told_ok x y read =
      ok_within y (λ us tell. elim (cases_lt (size_now s) (o + n)) [
        | inl past ↦ let other = read.refused past in cc
        | inr within ↦ omega (arith, within, size_told s us tell)
      ])

  pub told_past : {A B : Type 0} (end size : ℕ) → Read {A = A} (Err (read_fault.RangePastSize end size)) → Told {A = B} (Err (RangePastSize end size))
  told_past end size read = record {
    within = λ us tell. tt;
    refused = λ us tell past. let told = size_told s us tell in let is = read.refused (omega (arith, past, told)) in cc;
    past = λ us tell. omega (arith, read.past, size_told s us tell);
    lost_within = λ us tell. tt;
    page = tt;
    failed = tt;
    counted = tt;
  }

  pub told_lost : {A B : Type 0} (page : ℕ) → 4 ≤ s.page_size → Read {A = A} (Err (read_fault.PageFault page)) → Told {A = B} (Err (PageFault page))
  told_lost page least read = record {
    within = λ us tell. tt;
    refused = λ us tell past. let other = read.refused (omega (arith, past, size_told s us tell)) in cc;
    past = λ us tell. tt;
    lost_within = λ us tell. elim (cases_lt (size_now s) (o + n)) [
      | inl past ↦ let other = read.refused past in cc
      | inr within ↦ omega (arith, within, size_told s us tell)
    ];
    page = met_between s.page_size o n page least read.some read.failed.from read.failed.upto;
    failed = read.failed;
    counted = read.counted;
  }

  -- the same of a call that hands it on
  pub same_ok : {A B : Type 0} (x : A) (y : B) → Told (Ok x) → Told (Ok y)
  same_ok x y told = ok_within y told.within

  pub same_fault : {A B : Type 0} (fault : RangeFault) → Told {A = A} (Err fault) → Told {A = B} (Err fault)
  same_fault fault told = record {
    within = λ us tell. tt;
    refused = λ us tell past. let is = told.refused us tell past in cc;
    past = told.past;
    lost_within = told.lost_within;
    page = told.page;
    failed = told.failed;
    counted = told.counted;
  }

-- and of many ranges
pub same_ranges : {A B : Type 0} (s : Version) (ranges : List (ℕ × ℕ)) (before now : List ℕ) (sum_before sum_now : ℕ) (fault : RangeFault)
    → RangesAnswers {A = A} s ranges before now sum_before sum_now (Err fault) → RangesAnswers {A = B} s ranges before now sum_before sum_now (Err fault)
same_ranges s ranges before now sum_before sum_now fault told = record { past = told.past; page = told.page; failed = told.failed; counted = told.counted }
