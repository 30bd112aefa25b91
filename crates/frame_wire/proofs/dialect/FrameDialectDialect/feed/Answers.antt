use Rattle.std.proofs.Common.{◌∙◌, OnOk, sym, ap, subst}
use Rattle.items.specs.Items.{IsFed}
use Rattle.frame_wire.specs.Fed.{Fed, heard_by, fed_by}
use Rattle.frame_wire.specs.declared.spoken.Spoken.TheVariants.{Second}
use Rattle.frame_wire.proofs.SpokenLemmas.{fed_second}
use Rattle.frame_wire.proofs.dialect.FrameDialectDialect.feed.Goals as goal

pub returns-in-Second : goal.returns-in-Second
returns-in-Second c =
    let seen = ap fed_by (sym c.in-Second.is) ∙ c.self.view_is in
    subst (λ (f : Fed). OnOk c.feed-in-Second.result (IsFed (heard_by f) c.args.piece.now (heard_by (fed_by (Second c.in-Second.told c.feed-in-Second.new.self))))) seen
    (fed_second c.feed-in-Second.result c.in-Second.told c.in-Second.frames c.feed-in-Second.new.self c.args.piece.now c.feed-in-Second.ensures)
