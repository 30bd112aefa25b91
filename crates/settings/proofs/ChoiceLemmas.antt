-- The names of a command's options.
use Rattle.std.proofs.Common.{◌≡◌, ◌||◌, List, [], ◌∷◌, ℕ, refl, ap}
use Rattle.std.specs.List.{list_any}
use Rattle.std.specs.Str.{bytes_eq}
use Rattle.settings.specs.declared.table.Choice.{Choice}
use Rattle.settings.specs.Table.{choice_name}
use Rattle.settings.specs.Words.{is_listed, named, names_in}

pub listed_choices : (choices : List Choice) (name : List ℕ)
    → is_listed (names_in (named choices)) name ≡ list_any (λ choice. bytes_eq (choice_name choice) name) choices
listed_choices [] name = refl
listed_choices (choice ∷ choices) name = ap (λ b. bytes_eq (choice_name choice) name || b) (listed_choices choices name)
