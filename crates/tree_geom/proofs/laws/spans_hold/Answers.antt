use Rattle.tree_geom.proofs.Spans.{heights_hold, span_none, span_some, span_holds, within_span, page_within}
use Rattle.tree_geom.proofs.laws.spans_hold.Goals as goal

pub returns-clause-heights : goal.returns-clause-heights
returns-clause-heights c = heights_hold

pub returns-clause-none : goal.returns-clause-none
returns-clause-none c = span_none

pub returns-clause-some : goal.returns-clause-some
returns-clause-some c = span_some

pub returns-clause-hold : goal.returns-clause-hold
returns-clause-hold c = span_holds

pub returns-clause-within : goal.returns-clause-within
returns-clause-within c = within_span

pub returns-clause-page : goal.returns-clause-page
returns-clause-page c = page_within
