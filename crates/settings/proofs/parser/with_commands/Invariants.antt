use Rattle.std.proofs.Common.{◌≡◌, drop, fold}
use Rattle.clap.specs.Words.{app_of}
use Rattle.settings.specs.Parser.{with_command}
use Rattle.settings.proofs.parser.with_commands.Given as goal

abbrev pub invariant-loop-command : goal.invariant-loop-command
invariant-loop-command l = fold with_command (app_of l.program) (drop l.command-index l.commands) ≡ fold with_command (app_of l.fn.program) l.commands
