use Rattle.std.proofs.Common.{◌≡◌, false, map, drop, fold}
use Rattle.clap.specs.Words.{app_of, with_rule}
use Rattle.clap.specs.Simple.{new_app}
use Rattle.clap.specs.declared.builder.command.Command.TheViews.{out-Command as fields_of}
use Rattle.settings.specs.Words.{named}
use Rattle.settings.specs.Parser.{asked}
use Rattle.settings.proofs.parser.with_options.Given as goal

abbrev pub invariant-loop-choice : goal.invariant-loop-choice
invariant-loop-choice l =
    ((fields_of l.command).has_globals ≡ false)
    × (fold with_rule (app_of l.command) (map asked (named (drop l.choice-index l.choices))) ≡ fold with_rule (new_app l.fn.name) (map asked (named l.choices)))
