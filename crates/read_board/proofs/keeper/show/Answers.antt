use Rattle.std.proofs.Common.{◌≡◌, ◌∙◌, refl, sym, ap, Global}
use Rattle.std.specs.Arc.{arc_value}
use Rattle.std.specs.declared.sync.Arc.{Arc}
use Rattle.left_right.specs.Sides.{view}
use Rattle.read_board.specs.Fronts.{FrontState}
use Rattle.read_board.specs.Boards.{front_of}
use Rattle.read_board.proofs.Boards.{turns, last_is, when_ok, shown_next}
use Rattle.read_board.proofs.keeper.show.Goals as goal

abbrev value_of : Arc FrontState Global → FrontState
value_of a = arc_value a

pub publish_as-writer-requires : goal.publish_as-writer-requires
publish_as-writer-requires g c next is =
    let pending = when_ok _ _ c.append.result (sym c.is_err.ensures.value ∙ c.if-is_err.false) c.append.ensures.pending in
    let state : arc_value next.chart ≡ arc_value c.args.chart = last_is value_of (arc_value next.chart) _ _ _ c.args.chart is pending.1 in
    turns _ _ c.append.new.self.desk.shown.value next (ap (λ x. x.board) state ∙ (c.requires ∙ sym (ap (λ d. (front_of d.shown.value).board) c.append.ensures.desk)))

pub returns : goal.returns
returns g c =
    let pending = when_ok _ _ c.append.result (sym c.is_err.ensures.value ∙ c.if-is_err.false) c.append.ensures.pending in
    let same = ap (λ d. d.shown.value) c.append.ensures.desk in
    rw (c.is_ok.ensures.value, ← same)
    (shown_next _ _ c.publish_as-writer.result.1 c.append.new.self.desk.shown.value c.publish_as-writer.result.0.desk.shown.value (view c.append.new.self.desk.place) (view c.publish_as-writer.result.0.desk.place) _ (arc_value c.args.chart)
    (last_is value_of _ (arc_value c.append.new.self.desk.shown.value.chart) _ _ c.args.chart refl pending.1) c.publish_as-writer.ensures.values c.publish_as-writer.ensures.rule)
