-- The pages of a row, as it keeps them.
use Rattle.std.specs.Prelude.{List, []}
use Rattle.std.specs.Arc.{arc_value}
use Rattle.page_store.specs.Stored.{Cut, Stored}
use Rattle.node_store.specs.declared.row.Stored.{Stored as Kept}
use Rattle.node_store.specs.declared.row.Stored.TheVariants.{Own, Folding}

-- the update's own
abbrev pub pages_in : Kept → Cut
pages_in (Own pages) = arc_value pages
pages_in (Folding both) = arc_value both.value.pages

-- those of the blob that it stores anew
abbrev pub folds_in : Kept → List Stored
folds_in (Own pages) = []
folds_in (Folding both) = both.value.folds
