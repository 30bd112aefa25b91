-- The commands, their options, and the numbers that options and keys of the settings file take.
use Rattle.std.specs.Prelude.{ℕ, nat_le, Bool, true, false, not, ◌&&◌, ◌||◌, List, [], ◌∷◌, find, Option, codes}
use Rattle.std.specs.Str.{bytes_eq}
use Rattle.std.specs.Int.{is_power_of_two}
use Rattle.settings.specs.declared.table.Command.{Command}
use Rattle.settings.specs.declared.table.Command.TheVariants.{Run, Serve, Load, Node, Files, Watch}
use Rattle.settings.specs.declared.table.Key.{Key}
use Rattle.settings.specs.declared.table.Key.TheVariants.{Page, Providers, Replicas, MaxSize, MaxVersions, MaxOpen, MaxBlobs, Workers, Connections, Seed, Ops, Readers}
use Rattle.settings.specs.declared.table.Choice.{Choice}
use Rattle.settings.specs.declared.table.Choice.TheVariants.{Number, Settings, Listen}
use Rattle.settings.specs.declared.table.NumberRange.{NumberRange}

-- ---- commands and their options

abbrev pub commands : List Command
commands = Run ∷ Serve ∷ Load ∷ Node ∷ Files ∷ Watch ∷ []

abbrev pub command_name : Command → List ℕ
command_name Run = codes "run"
command_name Serve = codes "serve"
command_name Load = codes "load"
command_name Node = codes "node"
command_name Files = codes "files"
command_name Watch = codes "watch"

abbrev pub command_named : List ℕ → Option Command
command_named word = find (λ c. bytes_eq (command_name c) word) commands

abbrev pub options_of : Command → List Choice
options_of Run =
    Number Page ∷ Number Providers ∷ Number Replicas ∷ Settings ∷ Number MaxSize ∷ Number MaxVersions ∷ Number MaxOpen ∷ Number MaxBlobs ∷ []
options_of Serve =
    Number Page ∷ Number Providers ∷ Number Replicas ∷ Settings ∷ Number MaxSize ∷ Number MaxVersions ∷ Number MaxOpen ∷ Number MaxBlobs
    ∷ Listen ∷ Number Workers ∷ Number Connections ∷ []
options_of Load = Number Page ∷ Number Providers ∷ Number Replicas ∷ Settings ∷ Number Workers ∷ Number Seed ∷ Number Ops ∷ []
options_of Node = Number Page ∷ []
options_of Files =
    Number Page ∷ Number Providers ∷ Number Replicas ∷ Settings ∷ Number MaxSize ∷ Number MaxVersions ∷ Number MaxOpen ∷ Number MaxBlobs ∷ []
options_of Watch = Number Page ∷ Number Providers ∷ Number Replicas ∷ Settings ∷ Number Seed ∷ Number Ops ∷ Number Readers ∷ []

-- ---- keys and their numbers

abbrev pub keys : List Key
keys = Page ∷ Providers ∷ Replicas ∷ MaxSize ∷ MaxVersions ∷ MaxOpen ∷ MaxBlobs ∷ Workers ∷ Connections ∷ Seed ∷ Ops ∷ Readers ∷ []

abbrev pub key_name : Key → List ℕ
key_name Page = codes "page"
key_name Providers = codes "providers"
key_name Replicas = codes "replicas"
key_name MaxSize = codes "max-size"
key_name MaxVersions = codes "max-versions"
key_name MaxOpen = codes "max-open"
key_name MaxBlobs = codes "max-blobs"
key_name Workers = codes "workers"
key_name Connections = codes "connections"
key_name Seed = codes "seed"
key_name Ops = codes "ops"
key_name Readers = codes "readers"

-- whether a settings file may set the number
abbrev pub is_in_file : Key → Bool
is_in_file Readers = false
is_in_file key = true

-- the key of a settings file that has this name
abbrev pub key_named : List ℕ → Option Key
key_named name = find (λ k. is_in_file k && bytes_eq (key_name k) name) keys

-- each number from the least to the most, in a file too
abbrev pub plain : ℕ → ℕ → ℕ → NumberRange
plain least most default = record { least = least; most = most; most_in_file = most; is_power = false; default = default }

abbrev pub range_of : Key → NumberRange
range_of Page = record { least = 4; most = 1048576; most_in_file = 1048576; is_power = true; default = 4096 }
range_of Providers = plain 1 64 4
range_of Replicas = plain 1 8 2
range_of MaxSize = plain 1 1099511627776 1099511627776
range_of MaxVersions = plain 1 1048576 1048576
range_of MaxOpen = plain 1 64 64
range_of MaxBlobs = plain 1 65535 65535
range_of Workers = plain 1 16 4
range_of Connections = plain 1 4294967295 4294967295
range_of Seed = record { least = 0; most = 18446744073709551615; most_in_file = 9223372036854775807; is_power = false; default = 1 }
range_of Ops = plain 1 4096 100
range_of Readers = plain 1 16 2

-- the number is of the range
abbrev pub fits : NumberRange → ℕ → Bool
fits range n = nat_le range.least n && nat_le n range.most && (not range.is_power || is_power_of_two n)

-- and of that of a settings file
abbrev pub fits_in_file : NumberRange → ℕ → Bool
fits_in_file range n = fits range n && nat_le n range.most_in_file

-- ---- the names of options

abbrev pub choice_name : Choice → List ℕ
choice_name (Number key) = key_name key
choice_name Settings = codes "settings"
choice_name Listen = codes "listen"

abbrev pub is_needed : Choice → Bool
is_needed (Number key) = false
is_needed Settings = false
is_needed Listen = true
