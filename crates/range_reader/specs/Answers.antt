-- What a read answers.
use Rattle.std.specs.Prelude.{◌≡◌, ℕ, ◌+◌, ◌<◌, ◌≤◌, List, Result, Err, IfErr}
use Rattle.page_store.specs.Count.{HasRisen}
use Rattle.snapshot.specs.Versions.{Version, size_now}
use Rattle.range_reader.specs.Faults.{PageFailedIn}
use Rattle.range_reader.specs.declared.reader.ReadFault.{ReadFault}
use Rattle.range_reader.specs.declared.reader.ReadFault.TheVariants.{RangePastSize, PageFault}

-- a fact, where the range ends past the size
abbrev pub OnPastSize : ReadFault → Type 0 → Type 0
OnPastSize (RangePastSize end size) P = P
OnPastSize (PageFault page) P = Unit {0}

-- a fact on the page, where all its doors failed
abbrev pub OnPageFault : ReadFault → (ℕ → Type 0) → Type 0
OnPageFault (RangePastSize end size) P = Unit {0}
OnPageFault (PageFault page) P = P page

-- Why a read of n bytes of the version from byte o on gives none, by the doors' counts before and now: it ends past the size, exactly where it does,
-- or all doors failed of a stored page that one of the pages of the bytes needs.
pub record ReadAnswers {A : Type 0} (s : Version) (o n : ℕ) (before now : List ℕ) (sum_before sum_now : ℕ) (result : Result A ReadFault) : Type 0 where
  pub refused : size_now s < o + n → result ≡ Err (RangePastSize (o + n) (size_now s))
  pub past : IfErr result (λ fault. OnPastSize fault (size_now s < o + n))
  pub some : IfErr result (λ fault. OnPageFault fault (λ _. 1 ≤ n))
  pub failed : IfErr result (λ fault. OnPageFault fault (PageFailedIn s o n before now))
  pub counted : IfErr result (λ fault. OnPageFault fault (λ _. HasRisen sum_before sum_now))
