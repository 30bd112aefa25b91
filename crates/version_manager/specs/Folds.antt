-- When an update may be finished that stores pages of its blob anew: it reads those pages from the version before it.
use Rattle.std.specs.Prelude.{◌≡◌, ◌≢◌, ℕ, ◌+◌, ◌≤◌, List, [], ◌∷◌, ◌++◌}
use Rattle.blob_model.specs.Limits.{Bounds}
use Rattle.blob_model.specs.Store.{Store, blob_at}
use Rattle.blob_model.specs.History.{store_of}
use Rattle.blob_model.specs.declared.call.Event.{Event}
use Rattle.blob_model.specs.declared.call.Event.TheVariants as Events
use Rattle.range_log.specs.Rows.{folds_of}
use Rattle.range_log.specs.Updates.{extents}
use Rattle.version_manager.specs.Desks.{updates_or_none, published_or_none}

-- That update may be finished in the store now: the version before it is published, if it stores a page anew.
abbrev pub IsInOrder : ℕ → Store → ℕ → ℕ → Type 0
IsInOrder p s blob version = folds_of p (extents (updates_or_none (blob_at s blob))) version ≢ [] → version ≤ published_or_none (blob_at s blob) + 1

-- each finish in the history might be made in the store that it found
abbrev pub AreInOrder : ℕ → Bounds → List Event → Type 0
AreInOrder p limits history =
    (before later : List Event) (by blob version : ℕ) → history ≡ before ++ Events.Finish by blob version ∷ later → IsInOrder p (store_of limits before) blob version
