use Rattle.std.proofs.Common.{◌+◌, List, drop, ap, sym, ◌∙◌}
use Rattle.std.specs.Prelude.{fold}
use Rattle.std.proofs.lemmas.List.{drop_more}
use Rattle.clap.specs.Words.{App, app_of}
use Rattle.settings.specs.declared.table.Command.{Command}
use Rattle.settings.specs.Parser.{with_command}
use Rattle.settings.proofs.parser.with_commands.Goals as goal

pub loop-command-preserved : goal.loop-command-preserved
loop-command-preserved c =
    let commands : List Command = c.args.commands.now in
    ap (λ (app : App). fold with_command app (drop (c.loop-command.command-index + 1) commands)) c.in_ok-program.ensures
    ∙ sym (ap (λ (l : List Command). fold with_command (app_of c.loop-command.program) l) (drop_more commands c.loop-command.command-index _ c.loop-command-test.true))
    ∙ c.loop-command.invariant
