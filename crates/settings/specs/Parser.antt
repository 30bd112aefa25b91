-- The parser's command: a subcommand for each command, whose options take one text each.
use Rattle.std.specs.Prelude.{Bool, true, List, [], Some, None, codes, fold, map, unwrap_or}
use Rattle.clap.specs.Walk.{Rule}
use Rattle.clap.specs.Simple.{App, new_app, new_rule, new_shape, with_rule, with_subcommand}
use Rattle.clap.specs.declared.builder.action.ArgAction.TheVariants.{Set}
use Rattle.settings.specs.declared.table.Command.{Command}
use Rattle.settings.specs.Table.{commands, command_name}
use Rattle.settings.specs.Words.{Bytes, Pair, named_options, names_of, pairs_of}

-- an option that takes one text, of this name, and whether it is needed
abbrev pub asked : Bytes × Bool → Rule
asked o = record (new_rule o.0) { long = Some o.0; action = Some Set; required = o.1 }

abbrev pub subcommand_app : Command → App
subcommand_app command = fold with_rule (new_app (command_name command)) (map asked (named_options command))

-- words are words from the first on, and nothing asks for help
abbrev pub bare : App
bare = record { top = record (new_shape (codes "blobseer")) { no_binary_name = true; disable_help_flag = true; disable_help_subcommand = true; disable_version_flag = true }; subs = [] }

abbrev pub with_command : App → Command → App
with_command app command = with_subcommand app (subcommand_app command).top

abbrev pub program_app : App
program_app = fold with_command bare commands

-- the pairs that the words behind the command spell
abbrev pub pairs_in : Command → List Bytes → List Pair
pairs_in command words = unwrap_or (pairs_of (names_of command) words None) []
