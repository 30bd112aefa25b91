use Rattle.std.proofs.Common.{ℕ, ◌+◌, Bool, List, map, drop, ap, ap₂, sym, ◌∙◌}
use Rattle.std.specs.Prelude.{◌||◌, fold}
use Rattle.std.proofs.lemmas.List.{drop_more}
use Rattle.clap.specs.Words.{App, Rule, app_of, with_rule}
use Rattle.settings.specs.declared.table.Choice.{Choice}
use Rattle.settings.specs.Words.{named}
use Rattle.settings.specs.Parser.{asked}
use Rattle.settings.proofs.parser.with_options.Goals as goal

pub loop-choice-preserved : goal.loop-choice-preserved
loop-choice-preserved c =
    let choices : List Choice = c.args.choices.now in
    let rest : List Rule = map asked (named (drop (c.loop-choice.choice-index + 1) choices)) in
    let before : App = app_of c.loop-choice.command in
    let rule = c.option.ensures.rule ∙ ap₂ (λ (name : List ℕ) (needed : Bool). asked (name, needed)) c.name-name.ensures c.is_needed.ensures in
    let shape = c.in_ok-command.ensures.shape c.option.ensures.local ∙ ap (with_rule before) rule in (
      c.in_ok-command.ensures.globals ∙ ap₂ (λ (a b : Bool). a || b) c.loop-choice.invariant.0 c.option.ensures.local,
      ap (λ (app : App). fold with_rule app rest) shape
          ∙ sym (ap (λ (l : List Choice). fold with_rule before (map asked (named l))) (drop_more choices c.loop-choice.choice-index _ c.loop-choice-test.true))
          ∙ c.loop-choice.invariant.1,
    )
