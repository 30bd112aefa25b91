use Rattle.std.proofs.Common.{subst}
use Rattle.std.specs.Prelude.{IfSome}
use Rattle.range_reader.specs.Opened.{Covers}
use Rattle.client_session.proofs.session.kept_view.Goals as goal

pub returns : goal.returns
returns c = record {
  whole = c.unwrap-kept.result.now;
  covers = subst (λ o. IfSome o (λ r. Covers c.args.opened.now c.args.blob c.args.version r.now)) c.unwrap-kept.ensures c.of.ensures.covers;
  stands = c.stands.ensures;
  is = c.view_at.ensures;
}
