use Rattle.border_hints.proofs.Turning.{meets_from, meets_none}
use Rattle.border_hints.proofs.descent.reaches.Goals as goal

pub returns-then-first-number : goal.returns-then-first-number
returns-then-first-number c = λ p pos. meets_from p c.args.level c.args.number c.args.touch.now pos c.if-first-number.true

pub returns-else-first-number : goal.returns-else-first-number
returns-else-first-number c = λ p pos. meets_none p c.args.level c.args.number c.args.touch.now pos c.if-first-number.false
