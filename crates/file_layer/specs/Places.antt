-- One page more of those of which it is told where they lie.
use Rattle.std.specs.Prelude.{◌≡◌, ℕ, List, [], ◌∷◌, ◌++◌, length}
use Rattle.page_store.specs.House.{House}
use Rattle.snapshot.specs.Versions.{Version, PagesLieIn}
use Rattle.file_names.specs.declared.form.PageHolders.{PageHolders}
use Rattle.file_layer.specs.Files.{LieAt}

pub record AddsPage (s : Version) (old : List PageHolders) (page : ℕ) (new : List PageHolders) : Type 0 where
  pub place : PageHolders
  pub is : place.page ≡ page
  pub lies : (houses : List House) → PagesLieIn houses s → LieAt (length houses) place
  pub added : new ≡ old ++ place ∷ []
