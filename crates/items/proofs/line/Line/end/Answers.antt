use Rattle.std.proofs.Common.{sym, ap, ◌∙◌}
use Rattle.items.specs.Lines.{item_of_text, item_of}
use Rattle.items.specs.BegunLine.{begun_text}
use Rattle.items.specs.declared.begun_line.Begun.{Begun}
use Rattle.items.proofs.LineTaken.{item_whole, says_whole}
use Rattle.items.proofs.line.Line.end.Goals as goal

pub returns-clause-says : goal.returns-clause-says
returns-clause-says g c =
    let l = c.self.inside in
    says_whole g.B.Body.lining c.item.result c.args.self.now (begun_text g.B.Body.text c.replace-begun.result)
    (ap (item_of g.B.Body.lining) (sym c.self.view_is)
    ∙ item_whole g.B.Body.lining g.B.Body.lining.limit g.B.Body.text l.begun l.length l.returned c.self.invariant
    ∙ ap (λ (b : Begun g.row.B.Denot). item_of_text g.B.Body.lining (begun_text g.B.Body.text b)) (sym c.replace-begun.ensures.value))
    c.item.ensures.says
