-- The numbers of options, read one after another.
use Rattle.std.proofs.Math.Path.{fun_ext}
use Rattle.std.proofs.Common.{◌≡◌, ◌∙◌, Bool, true, false, if◌then◌else◌, List, [], ◌∷◌, fold, Option, Some, None, option_map, refl, sym, ap}
use Rattle.std.specs.List.{list_all}
use Rattle.settings.specs.declared.table.Key.{Key}
use Rattle.settings.specs.declared.table.Choice.TheVariants.{Listen, Settings}
use Rattle.settings.specs.Table.{keys, choice_name}
use Rattle.settings.specs.Values.{GivenValues, nothing, with_number}
use Rattle.settings.specs.Words.{Bytes, is_number, number_said, numbers_said, values_said, given_said}
use Rattle.settings.specs.Reading.{with_numbers}

with_numbers-all : (said : Bytes → Option Bytes) (ks : List Key) (given : GivenValues)
    → with_numbers said ks given ≡ (if list_all (is_number said) ks then Some (fold (λ g k. with_number k (number_said said k) g) given ks) else None)
with_numbers-all said [] given = refl
with_numbers-all said (key ∷ ks) given = go (is_number said key) refl (with_numbers-all said ks (with_number key (number_said said key) given))
  where
    go : (b : Bool) → is_number said key ≡ b
        → with_numbers said ks (with_number key (number_said said key) given)
        ≡ (if list_all (is_number said) ks then Some (fold (λ g k. with_number k (number_said said k) g) (with_number key (number_said said key) given) ks) else None)
        → with_numbers said (key ∷ ks) given ≡ (if list_all (is_number said) (key ∷ ks) then Some (fold (λ g k. with_number k (number_said said k) g) given (key ∷ ks)) else None)
    go true e rest = rw e rest
    go false e rest = rw e refl

-- all keys read one after another give what is said
pub with_numbers-keys : (said : Bytes → Option Bytes) → with_numbers said keys nothing ≡ (if list_all (is_number said) keys then Some (numbers_said said) else None)
with_numbers-keys said = with_numbers-all said keys nothing

-- ---- with the texts, they are all that is said

with_both : (b : Bool) (numbers given : GivenValues) (listen settings : Option Bytes) → (if b then Some numbers else None) ≡ Some given
    → (if b then Some (record numbers { listen = listen; settings = settings }) else None) ≡ Some (record given { listen = listen; settings = settings })
with_both true numbers given listen settings e = ap (option_map (λ (g : GivenValues). record g { listen = listen; settings = settings })) e
with_both false numbers given listen settings e = absurd (cc)

with_none : (b : Bool) (numbers values : GivenValues) → (if b then Some numbers else None) ≡ None → (if b then Some values else None) ≡ None
with_none true numbers values e = absurd (cc)
with_none false numbers values e = refl

pub given_said-texts : (said : Bytes → Option Bytes) (o : Option GivenValues) (given : GivenValues) (listen settings : Option Bytes)
    → o ≡ (if list_all (is_number said) keys then Some (numbers_said said) else None) → Some given ≡ o
    → listen ≡ said (choice_name Listen) → settings ≡ said (choice_name Settings)
    → given_said said ≡ Some (record given { listen = listen; settings = settings })
given_said-texts said o given listen settings e is l s =
    rw (l, s) (with_both (list_all (is_number said) keys) (numbers_said said) given (said (choice_name Listen)) (said (choice_name Settings)) (sym (is ∙ e)))

pub given_said-none : (said : Bytes → Option Bytes) (o : Option GivenValues)
    → o ≡ (if list_all (is_number said) keys then Some (numbers_said said) else None) → None ≡ o → given_said said ≡ None
given_said-none said o e is = with_none (list_all (is_number said) keys) (numbers_said said) (values_said said) (sym (is ∙ e))

-- ---- only what is said of each name counts

pub given_said-same : (said other : Bytes → Option Bytes) → ((name : Bytes) → said name ≡ other name) → given_said said ≡ given_said other
given_said-same said other same = ap given_said (fun_ext same)
