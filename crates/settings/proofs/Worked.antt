-- Worked rows, computed from the definitions alone.
use Rattle.std.proofs.Common.{◌≡◌, [], ◌∷◌, Some, None, codes, refl}
use Rattle.settings.specs.declared.table.Command.TheVariants.{Run, Serve, Node, Files, Watch}
use Rattle.settings.specs.Table.{key_named}
use Rattle.settings.specs.Values.{nothing}
use Rattle.settings.specs.Words.{given_by_words}
use Rattle.settings.specs.Merged.{merged}

-- ---- words

no_words : given_by_words [] ≡ None
no_words = refl

command_alone : given_by_words (codes "run" ∷ []) ≡ Some (Run, nothing)
command_alone = refl

needed_option_missing : given_by_words (codes "serve" ∷ codes "--workers" ∷ codes "2" ∷ []) ≡ None
needed_option_missing = refl

value_with_equals_sign : given_by_words (codes "serve" ∷ codes "--listen" ∷ codes "a=b" ∷ []) ≡ Some (Serve, record nothing { listen = Some (codes "a=b") })
value_with_equals_sign = refl

hyphen_behind_equals_sign : given_by_words (codes "run" ∷ codes "--settings=-" ∷ []) ≡ Some (Run, record nothing { settings = Some (codes "-") })
hyphen_behind_equals_sign = refl

given_twice : given_by_words (codes "load" ∷ codes "--ops" ∷ codes "1" ∷ codes "--ops=1" ∷ []) ≡ None
given_twice = refl

past_the_range : given_by_words (codes "load" ∷ codes "--ops" ∷ codes "4097" ∷ []) ≡ None
past_the_range = refl

leading_zero : given_by_words (codes "load" ∷ codes "--ops" ∷ codes "01" ∷ []) ≡ None
leading_zero = refl

empty_value : given_by_words (codes "run" ∷ codes "--settings=" ∷ []) ≡ None
empty_value = refl

value_that_is_an_option : given_by_words (codes "load" ∷ codes "--ops" ∷ codes "--seed" ∷ codes "1" ∷ []) ≡ None
value_that_is_an_option = refl

option_of_another_command : given_by_words (codes "load" ∷ codes "--max-open" ∷ codes "1" ∷ []) ≡ None
option_of_another_command = refl

node_alone : given_by_words (codes "node" ∷ []) ≡ Some (Node, nothing)
node_alone = refl

files_alone : given_by_words (codes "files" ∷ []) ≡ Some (Files, nothing)
files_alone = refl

files_without_a_seed : given_by_words (codes "files" ∷ codes "--seed" ∷ codes "1" ∷ []) ≡ None
files_without_a_seed = refl

watch_with_readers : given_by_words (codes "watch" ∷ codes "--readers" ∷ codes "16" ∷ []) ≡ Some (Watch, record nothing { readers = Some 16 })
watch_with_readers = refl

watch_without_workers : given_by_words (codes "watch" ∷ codes "--workers" ∷ codes "2" ∷ []) ≡ None
watch_without_workers = refl

load_without_readers : given_by_words (codes "load" ∷ codes "--readers" ∷ codes "2" ∷ []) ≡ None
load_without_readers = refl

no_key_of_a_file : key_named (codes "readers") ≡ None
no_key_of_a_file = refl

node_without_a_file : given_by_words (codes "node" ∷ codes "--settings" ∷ codes "s" ∷ []) ≡ None
node_without_a_file = refl

-- ---- both

words_and_file : merged (record nothing { replicas = Some 1; ops = Some 7 }) (record nothing { page = Some 4; ops = Some 8 })
    ≡ record {
      page = 4;
      providers = 4;
      replicas = 1;
      limits = record { max_size = 1099511627776; max_versions = 1048576; max_open = 64; max_blobs = 65535 };
      workers = 4;
      connections = 4294967295;
      seed = 1;
      ops = 7;
      readers = 2;
      listen = [];
      settings = [];
    }
words_and_file = refl
