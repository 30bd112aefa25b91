use Rattle.std.proofs.Common.{◌<◌, ℕ, List, length, subst, arith}
use Rattle.std.proofs.lemmas.List.{take_all}
use Rattle.items.specs.Text.{IsWithout}
use Rattle.file_names.proofs.FieldLemmas.{cut_at, cut_none}
use Rattle.file_names.proofs.fields.cut.Goals as goal

pub returns-then-at-text : goal.returns-then-at-text
returns-then-at-text c =
    let text = c.args.text.now in
    cut_none text (subst (λ (l : List ℕ). IsWithout 32 l) (take_all c.before_space-at.result text (omega (arith, c.if-at-text.true))) c.before_space-at.ensures.without)

pub returns : goal.returns
returns c =
    let e = c.before_space-at.ensures in
    let other = c.if-at-text.false in
    let within = e.within in
    let less : c.before_space-at.result < length c.args.text.now = omega arith in
    cut_at c.args.text.now c.before_space-at.result e.without less (e.enough less)
