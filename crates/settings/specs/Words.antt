-- Which lists of words the program takes, and what they give.
use Rattle.std.specs.Prelude.{◌==◌, ◌&&◌, ◌||◌, ◌++◌, ℕ, Bool, true, false, not, List, [], ◌∷◌, map, length, Option, Some, None, is_some, if◌then◌else◌, option_map, option_and_then}
use Rattle.std.specs.List.{list_all, list_any, find, before_first, after_first}
use Rattle.std.specs.Option.{option_map_or}
use Rattle.std.specs.Str.{bytes_eq}
use Rattle.settings.specs.declared.table.Command.{Command}
use Rattle.settings.specs.declared.table.Key.{Key}
use Rattle.settings.specs.declared.table.Key.TheVariants.{Page, Providers, Replicas, MaxSize, MaxVersions, MaxOpen, MaxBlobs, Workers, Connections, Seed, Ops, Readers}
use Rattle.settings.specs.declared.table.Choice.{Choice}
use Rattle.settings.specs.declared.table.Choice.TheVariants.{Settings, Listen}
use Rattle.settings.specs.Table.{command_named, options_of, choice_name, is_needed, keys, key_name, range_of, fits}
use Rattle.items.specs.Numerals.{number_of}
use Rattle.settings.specs.Values.{GivenValues}

-- a text, as its bytes
abbrev pub Bytes : Type 0
Bytes = List ℕ

-- an option that was given: its name and its value
abbrev pub Pair : Type 0
Pair = Bytes × Bytes

-- ---- words

-- a value in a word of its own has a first byte, which is no hyphen
abbrev pub is_plain : Bytes → Bool
is_plain [] = false
is_plain (b ∷ bs) = not (b == 45)

-- the text before the first `=`, and the text behind it where there is one
abbrev pub name_and_value : Bytes → Bytes × Option Bytes
name_and_value text = (before_first (λ b. b == 61) text, if list_any (λ b. b == 61) text then Some (after_first (λ b. b == 61) text) else None)

abbrev pub strip_hyphen : Bytes → Option Bytes
strip_hyphen [] = None
strip_hyphen (b ∷ bs) = if b == 45 then Some bs else None

-- what follows two hyphens, as a name and a value
abbrev pub option_word : Bytes → Option (Bytes × Option Bytes)
option_word word = option_map name_and_value (option_and_then strip_hyphen (strip_hyphen word))

abbrev pub is_listed : List Bytes → Bytes → Bool
is_listed names name = list_any (λ n. bytes_eq n name) names

-- ---- pairs of options and values

abbrev pub with_pair : Bytes → Bytes → Option (List Pair) → Option (List Pair)
with_pair name value pairs = option_map (λ ps. (name, value) ∷ ps) pairs

abbrev pub after_name : Bytes → Option Bytes → (Option Bytes → Option (List Pair)) → Option (List Pair)
after_name name None rest = rest (Some name)
after_name name (Some value) rest = if length value == 0 then None else with_pair name value (rest None)

abbrev pub at_option : List Bytes → Option (Bytes × Option Bytes) → (Option Bytes → Option (List Pair)) → Option (List Pair)
at_option names None rest = None
at_option names (Some o) rest = if is_listed names o.0 then after_name o.0 o.1 rest else None

abbrev pub at_word : List Bytes → Option Bytes → Bytes → (Option Bytes → Option (List Pair)) → Option (List Pair)
at_word names None word rest = at_option names (option_word word) rest
at_word names (Some name) word rest = if is_plain word then with_pair name word (rest None) else None

abbrev pub at_end : Option Bytes → Option (List Pair)
at_end None = Some []
at_end (Some name) = None

-- the pairs that words spell with these names, where a name may wait for its value
abbrev pub pairs_of : List Bytes → List Bytes → Option Bytes → Option (List Pair)
pairs_of names [] waiting = at_end waiting
pairs_of names (word ∷ words) waiting = at_word names waiting word (pairs_of names words)

-- no name is given twice, and none that was seen before
abbrev pub is_new : List Bytes → List Pair → Bool
is_new seen [] = true
is_new seen (p ∷ ps) = not (is_listed seen p.0) && is_new (seen ++ p.0 ∷ []) ps

abbrev pub value_of : Bytes → List Pair → Option Bytes
value_of name pairs = option_map (λ p. p.1) (find (λ p. bytes_eq p.0 name) pairs)

-- ---- the options of a command

-- their names, and whether the command needs them
abbrev pub named : List Choice → List (Bytes × Bool)
named = map (λ choice. (choice_name choice, is_needed choice))

abbrev pub named_options : Command → List (Bytes × Bool)
named_options command = named (options_of command)

abbrev pub names_in : List (Bytes × Bool) → List Bytes
names_in = map (λ o. o.0)

abbrev pub names_of : Command → List Bytes
names_of command = names_in (named_options command)

-- each option that is needed is given
abbrev pub has_needed : List (Bytes × Bool) → List Pair → Bool
has_needed options pairs = list_all (λ o. not o.1 || is_some (value_of o.0 pairs)) options

-- no option is given twice, and none that the command needs is missing
abbrev pub is_whole : Command → List Pair → Bool
is_whole command pairs = is_new [] pairs && has_needed (named_options command) pairs

-- ---- what the options say, where `said` tells what each was given

-- a key's option isn't given, or with a number of the key's range
abbrev pub is_number : (Bytes → Option Bytes) → Key → Bool
is_number said key = option_map_or (λ text. option_map_or (fits (range_of key)) (number_of text) false) (said (key_name key)) true

-- the number that is given to a key
abbrev pub number_said : (Bytes → Option Bytes) → Key → Option ℕ
number_said said key = option_and_then number_of (said (key_name key))

-- what is given to the keys
abbrev pub numbers_said : (Bytes → Option Bytes) → GivenValues
numbers_said said = record {
  page = number_said said Page;
  providers = number_said said Providers;
  replicas = number_said said Replicas;
  max_size = number_said said MaxSize;
  max_versions = number_said said MaxVersions;
  max_open = number_said said MaxOpen;
  max_blobs = number_said said MaxBlobs;
  workers = number_said said Workers;
  connections = number_said said Connections;
  seed = number_said said Seed;
  ops = number_said said Ops;
  readers = number_said said Readers;
  listen = None;
  settings = None;
}

-- what is given to all options
abbrev pub values_said : (Bytes → Option Bytes) → GivenValues
values_said said = record (numbers_said said) { listen = said (choice_name Listen); settings = said (choice_name Settings) }

abbrev pub given_said : (Bytes → Option Bytes) → Option GivenValues
given_said said = if list_all (is_number said) keys then Some (values_said said) else None

-- ---- what words give

abbrev pub given_by_pairs : Command → List Pair → Option GivenValues
given_by_pairs command pairs = if is_whole command pairs then given_said (λ name. value_of name pairs) else None

abbrev pub given_behind : List Bytes → Command → Option (Command × GivenValues)
given_behind words command = option_map (λ given. (command, given)) (option_and_then (given_by_pairs command) (pairs_of (names_of command) words None))

-- the command and what its options give, or none where the words are refused
abbrev pub given_by_words : List Bytes → Option (Command × GivenValues)
given_by_words [] = None
given_by_words (word ∷ words) = option_and_then (given_behind words) (command_named word)
