-- Ranges of a version, and why one is not read.
use Rattle.std.specs.Prelude.{◌≡◌, ◌≢◌, ℕ, ◌+◌, ◌*◌, ◌<◌, ◌≤◌, nat_lt, if◌then◌else◌, List, [], ◌∷◌, ◌++◌, length, take, drop, sum_by, Option, Some, None, Contains, Result, Err, OnOk, IfErr}
use Rattle.blob_model.specs.Content.{Update, size_of}
use Rattle.range_log.specs.Extents.{Extent}
use Rattle.range_log.specs.Updates.{extents}
use Rattle.range_log.specs.Visits.{visits}
use Rattle.page_store.specs.Count.{HasRisen}
use Rattle.snapshot.specs.Versions.{Version}
use Rattle.snapshot.specs.Laws.{TellUpdates}
use Rattle.range_reader.specs.Faults.{PageFailedIn}
use Rattle.range_reader.specs.declared.ranges.RangeFault.{RangeFault}
use Rattle.range_reader.specs.declared.ranges.RangeFault.TheVariants.{RangePastSize, PageFault, NoMemory}

-- it holds of all updates that the version's rows tell
abbrev pub OverUpdates : Version → (List Update → Type 0) → Type 0
OverUpdates s P = (us : List Update) → TellUpdates s.page_size us s.rows → P us

-- page i is one that a range of a byte or more meets, which begins at byte o and has n of them
pub record IsMet (p o n i : ℕ) : Type 0 where
  pub some : 1 ≤ n
  pub begins : p * i < o + n
  pub ends : o < p * (i + 1)

-- ---- many ranges, each by the byte at which it begins and how many bytes it has
-- the bytes of these ranges of a content, one behind the other
abbrev pub joined : List ℕ → List (ℕ × ℕ) → List ℕ
joined content [] = []
joined content (range ∷ ranges) = take range.1 (drop range.0 content) ++ joined content ranges

-- how many bytes they have together
abbrev pub bytes_in : List (ℕ × ℕ) → ℕ
bytes_in ranges = sum_by (λ range. range.1) ranges

-- how many nodes the reads of them may visit together
abbrev pub visits_of : ℕ → List Extent → ℕ → List (ℕ × ℕ) → ℕ
visits_of p falls version ranges = sum_by (λ range. visits p falls version range.0 range.1) ranges

-- where the first of them ends that ends past the size
abbrev pub first_end_past : ℕ → List (ℕ × ℕ) → Option ℕ
first_end_past size [] = None
first_end_past size (range ∷ ranges) = if nat_lt size (range.0 + range.1) then Some (range.0 + range.1) else first_end_past size ranges

-- page i is one that one of them meets
pub record IsMetByOne (p : ℕ) (ranges : List (ℕ × ℕ)) (i : ℕ) : Type 0 where
  pub range : ℕ × ℕ
  pub among : Contains ranges range
  pub met : IsMet p range.0 range.1 i

-- the same, and all doors failed of a stored page that page i needs
pub record PageFailedInOne (s : Version) (ranges : List (ℕ × ℕ)) (before now : List ℕ) (i : ℕ) : Type 0 where
  pub range : ℕ × ℕ
  pub among : Contains ranges range
  pub some : 1 ≤ range.1
  pub failed : PageFailedIn s range.0 range.1 before now i

-- a fact, where the range ends past the size
abbrev pub OnRangePast : RangeFault → Type 0 → Type 0
OnRangePast (RangePastSize end size) P = P
OnRangePast (PageFault page) P = Unit {0}
OnRangePast NoMemory P = Unit {0}

-- a fact on the page's number, where no provider gave a page
abbrev pub OnPageLost : RangeFault → (ℕ → Type 0) → Type 0
OnPageLost (RangePastSize end size) P = Unit {0}
OnPageLost (PageFault page) P = P page
OnPageLost NoMemory P = Unit {0}

-- Why a read of n bytes of the version from byte o on gives none, by the doors' counts before and now: it ends past the size, exactly where it does,
-- or all doors failed of a stored page that one of the pages of the bytes needs.
pub record RangeAnswers {A : Type 0} (s : Version) (o n : ℕ) (before now : List ℕ) (sum_before sum_now : ℕ) (result : Result A RangeFault) : Type 0 where
  pub within : OverUpdates s (λ us. OnOk result (o + n ≤ size_of us (length s.rows)))
  pub refused : OverUpdates s (λ us. size_of us (length s.rows) < o + n → result ≡ Err (RangePastSize (o + n) (size_of us (length s.rows))))
  pub past : OverUpdates s (λ us. IfErr result (λ fault. OnRangePast fault (size_of us (length s.rows) < o + n)))
  pub lost_within : OverUpdates s (λ us. IfErr result (λ fault. OnPageLost fault (λ _. o + n ≤ size_of us (length s.rows))))
  pub page : IfErr result (λ fault. OnPageLost fault (IsMet s.page_size o n))
  pub failed : IfErr result (λ fault. OnPageLost fault (PageFailedIn s o n before now))
  pub counted : IfErr result (λ fault. OnPageLost fault (λ _. HasRisen sum_before sum_now))

-- the node steps of it: few, and none where it ends past the size
pub record RangeSteps (s : Version) (o n : ℕ) (before now : ℕ) : Type 0 where
  pub few : OverUpdates s (λ us. now ≤ before + visits s.page_size (extents us) (length s.rows) o n)
  pub none_past : OverUpdates s (λ us. size_of us (length s.rows) < o + n → now ≡ before)

-- the same of a read of many ranges
pub record RangesAnswers {A : Type 0} (s : Version) (ranges : List (ℕ × ℕ)) (before now : List ℕ) (sum_before sum_now : ℕ) (result : Result A RangeFault) : Type 0 where
  pub past : OverUpdates s (λ us. IfErr result (λ fault. OnRangePast fault (first_end_past (size_of us (length s.rows)) ranges ≢ None)))
  pub page : IfErr result (λ fault. OnPageLost fault (IsMetByOne s.page_size ranges))
  pub failed : IfErr result (λ fault. OnPageLost fault (PageFailedInOne s ranges before now))
  pub counted : IfErr result (λ fault. OnPageLost fault (λ _. HasRisen sum_before sum_now))
