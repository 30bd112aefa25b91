-- What the keeper and the readers of a watch did.
use Rattle.std.specs.Prelude.{◌≡◌, ℕ, zero, suc, ◌+◌, ◌≤◌, List, [], ◌∷◌, ◌++◌, length, Option, Some, None, All}
use Rattle.workload_law.specs.declared.watch_plan.WatchPlan.{WatchPlan}
use Rattle.workload_law.specs.Watch.{piece_of}

-- the versions of the keeper's refreshes, in order; and the readers' reads, in the order of the readers
pub record NotesState : Type 0 where
  pub refreshes : List ℕ
  pub readings : List ℕ

-- a read as it is noted: the version, and then 1 and the bytes; or 0, where the version wasn't published yet
abbrev pub noted : ℕ → Option (List ℕ) → List ℕ
noted version (Some bytes) = version ∷ 1 ∷ bytes
noted version None = version ∷ 0 ∷ []

-- one more read of that version was noted: it gave bytes of which this holds, or the version wasn't published yet
pub data HasNotedOne (Is : List ℕ → Type 0) (version : ℕ) (before after : List ℕ) : Type 0 where
  read : (bytes : List ℕ) → Is bytes → after ≡ before ++ noted version (Some bytes) → HasNotedOne Is version before after
  unpublished : after ≡ before ++ noted version None → HasNotedOne Is version before after

-- These are a reader's first reads, in order: of the versions from 1 on, one each. Of the bytes that came of operation `op`, which makes version `op + 1`, `Is op` holds.
abbrev pub HasNoted : (ℕ → List ℕ → Type 0) → ℕ → List ℕ → Type 0
HasNoted Is zero list = list ≡ []
HasNoted Is (suc op) list = (before : List ℕ) × (HasNoted Is op before × HasNotedOne (Is op) (op + 1) before list)

-- so it is of each of so many readers, one reader's reads after another's
abbrev pub HaveNoted : (ℕ → List ℕ → Type 0) → ℕ → ℕ → List ℕ → Type 0
HaveNoted Is ops zero list = list ≡ []
HaveNoted Is ops (suc readers) list = (own : List ℕ) × ((rest : List ℕ) × (HasNoted Is ops own × (HaveNoted Is ops readers rest × (list ≡ own ++ rest))))

-- these are the bytes of an update of the plan
abbrev pub IsPiece : WatchPlan → ℕ → List ℕ → Type 0
IsPiece plan op bytes = bytes ≡ piece_of plan op

-- What a watch does: the keeper refreshed once for each operation, and the last session once more, each time to a version of the plan, and at last to the plan's last one. Each reader read
-- each version once, in order: the bytes of its update, or that it wasn't published yet.
pub record HasDone (plan : WatchPlan) (notes : NotesState) : Type 0 where
  pub count : length notes.refreshes ≡ plan.ops + 1
  pub few : All (λ (version : ℕ). version ≤ plan.ops) notes.refreshes
  pub last : (before : List ℕ) × (notes.refreshes ≡ before ++ plan.ops ∷ [])
  pub readings : HaveNoted (IsPiece plan) plan.ops plan.readers notes.readings
