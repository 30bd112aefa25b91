use Rattle.std.proofs.Common.{◌≡◌, ◌-◌, List, length, map, All}
use Rattle.std.specs.List.{range_with_len}
use Rattle.page_store.specs.House.{House}
use Rattle.snapshot.specs.Versions.{PagesLieIn}
use Rattle.file_names.specs.declared.form.PageHolders.{PageHolders}
use Rattle.file_layer.specs.Files.{LieAt}
use Rattle.file_layer.proofs.places.places_met.Given as goal

abbrev pub invariant-loop-page : goal.invariant-loop-page
invariant-loop-page g l =
    (map (λ (p : PageHolders). p.page) l.places.items ≡ range_with_len l.first (l.page - l.first))
    × ((houses : List House) → PagesLieIn houses l.snapshot → All (LieAt (length houses)) l.places.items)
