use Rattle.settings.proofs.MergeLemmas.{chosen_is_fit}
use Rattle.settings.proofs.merging.chosen_wide.Goals as goal

pub returns-clause-fits : goal.returns-clause-fits
returns-clause-fits c =
    chosen_is_fit c.args.key c.args.words c.args.file c.or.result c.setting.result.range c.unwrap_or.result
    c.requires.words c.requires.file c.or.ensures c.setting.ensures.range c.unwrap_or.ensures
