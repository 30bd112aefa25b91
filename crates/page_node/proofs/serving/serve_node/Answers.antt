use Rattle.std.proofs.Common.{◌≡◌, List, ℕ, [], ◌++◌, refl, sym, subst}
use Rattle.page_node.specs.declared.form.NodeHeard.{NodeHeard}
use Rattle.page_node.specs.Frames.{heard}
use Rattle.page_node.proofs.Served.{as_served_from, as_unserved}
use Rattle.page_node.proofs.serving.serve_node.Goals as goal

pub converse-end-requires-clause-fresh : goal.converse-end-requires-clause-fresh
converse-end-requires-clause-fresh g c = λ κs lives. subst (λ (l : List ℕ). ◌≡◌ {A = List NodeHeard} (heard (l ++ [])).whole []) (sym c.in-Ok.ensures) refl

pub returns-in-Err-clause-served : goal.returns-in-Err-clause-served
returns-in-Err-clause-served g c = as_unserved c.conversations_end_exactly.ensures _ _ _ _

pub returns-clause-served : goal.returns-clause-served
returns-clause-served g c =
    as_served_from c.conversations_end_exactly.ensures _ c.in-Ok.ensures _ _ _ _ _ _ _ _ _ _ c.take.ensures (sym c.into_shelf.ensures) c.converse-end.ensures.conversed
