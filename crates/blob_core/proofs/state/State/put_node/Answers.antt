use Rattle.std.proofs.Common.{◌≡◌, ◌↔◌, ℕ, true, List, ap, sym, subst, ◌∙◌}
use Rattle.std.specs.Prelude.{None}
use Rattle.std.specs.List.{Contains}
use Rattle.tree_geom.specs.declared.node.Node.{Node}
use Rattle.tree_geom.specs.declared.node.NodeKey.{NodeKey}
use Rattle.range_log.specs.Log.{HasNode}
use Rattle.blob_core.specs.World.{World, node_at, log_of}
use Rattle.blob_core.specs.Steps.{IsNumberedIn}
use Rattle.blob_core.specs.Standing.{IsSound}
use Rattle.blob_core.specs.Acts.{HasFold, IsDone}
use Rattle.blob_core.specs.declared.world.FoldKey.{FoldKey}
use Rattle.blob_core.specs.declared.step.Step.TheVariants as Moves
use Rattle.blob_core.specs.contracts.state.State.{the_view}
use Rattle.blob_core.proofs.Rowing.{none_of, some_of}
use Rattle.blob_core.proofs.Acting.{RowStands, row_stands, has_in_row, not_of_row, not_without_fold, node_kept, node_done}
use Rattle.blob_core.proofs.Onward.{on_err}
use Rattle.blob_core.proofs.state.State.put_node.Goals as goal
use Rattle.blob_core.proofs.state.State.put_node.Goals.{After-as_slice}

row_here : (c : After-as_slice) → RowStands c.args.p c.args.self.now c.args.key.blob c.args.key.version c.in-Some-blob.stored.now c.in-Some.row.log.items c.in-Some.row.keys.items
row_here c = row_stands (c.steps_hold.ensures.stays c.args.p c.args.self.now c.requires) c.in-Some-blob.ensures c.in_ok-row.ensures c.in-Some.is

-- the key's range is among those of the row exactly where it has a node there
among : (c : After-as_slice) → Contains c.as_slice.result.now c.args.key.range ↔ HasNode c.args.p (log_of c.args.p c.in-Some-blob.stored.now.updates) c.args.key.version c.args.key.range
among c =
    rw c.as_slice.ensures.value
    (has_in_row c.page_bytes_stay.ensures.extents c.row_keys_exact.ensures.exact c.args.p c.args.self.now c.args.key.blob c.args.key.version c.in-Some-blob.stored.now c.in-Some.row.log.items
    c.in-Some.row.keys.items c.args.key.range c.requires.some (row_here c))

pub returns-then-not-is_among-clause-refused : goal.returns-then-not-is_among-clause-refused
returns-then-not-is_among-clause-refused c answer =
    let only = (among (goal.at.returns-then-not-is_among-clause-refused c).After-as_slice).1 in
    not_of_row c.args.p c.args.self.now c.args.key c.in-Some-blob.stored.now c.in-Some-blob.ensures
    (λ has. (let yes : c.is_among.result ≡ true = c.is_among.ensures.1 (only has) in let never : ⊥ = cc c.if-not-is_among.true in never))

pub lacks_fold-requires : goal.lacks_fold-requires
lacks_fold-requires c =
    let here = (goal.at.lacks_fold-requires c).After-as_slice in
    record { log = rw c.as_slice-log.ensures.value (row_here here).touches; has = (among here).0 (c.is_among.ensures.0 c.if-not-is_among.false) }

pub row_node-requires : goal.row_node-requires
row_node-requires c =
    let here = (goal.at.row_node-requires c).After-as_slice in
    record { log = rw c.as_slice-log.ensures.value (row_here here).touches; has = (among here).0 (c.is_among.ensures.0 c.if-not-is_among.false) }

pub returns-then-lacks_fold-clause-refused : goal.returns-then-lacks_fold-clause-refused
returns-then-lacks_fold-clause-refused c answer =
    let row = row_here (goal.at.returns-then-lacks_fold-clause-refused c).After-as_slice in
    not_without_fold c.args.p c.args.self.now c.args.key c.in-Some-blob.stored.now row.sound c.in-Some-blob.ensures
    (rw (c.as_slice-2.ensures.value ∙ ap (λ (x : World). x.folded) c.self.view_is) at (c.lacks_fold.ensures.lacks c.if-lacks_fold.true))

pub returns-then-is_some-clause-done : goal.returns-then-is_some-clause-done
returns-then-is_some-clause-done c =
    let here = (goal.at.returns-then-is_some-clause-done c).After-as_slice in
    let row = row_here here in
    let (n, is) = some_of c.find_node.result (sym c.is_some.ensures ∙ c.if-is_some.true) in
    node_kept c.args.p c.args.self.now c.args.key c.in-Some-blob.stored.now n row.sound row.own ((among here).0 (c.is_among.ensures.0 c.if-not-is_among.false))
    (rw (c.as_slice-2.ensures.value ∙ ap (λ (x : World). x.folded) c.self.view_is) at (c.lacks_fold.ensures.has c.if-lacks_fold.false))
    (rw (c.as_slice-3.ensures.value ∙ ap (λ (x : World). x.nodes) c.self.view_is) at (sym c.find_node.ensures ∙ is))

pub returns-in_err-insert-clause-same : goal.returns-in_err-insert-clause-same
returns-in_err-insert-clause-same c =
    let v : World = the_view c.self.inside in
    let same : c.insert.new.self.items ≡ v.nodes = c.in_err-insert.ensures.items in
    on_err c.from_residual-in_err-insert.result (ap (λ (l : List (NodeKey × Node)). record v { nodes = l }) same ∙ c.self.view_is)

pub returns-clause-done : goal.returns-clause-done
returns-clause-done c =
    let here = (goal.at.returns-clause-done c).After-as_slice in
    let row = row_here here in
    let b = c.in-Some-blob.stored.now in
    let v : World = the_view c.self.inside in
    let to : v ≡ c.args.self.now = c.self.view_is in
    let Sound : World → Type 0 = λ x. IsSound c.args.p x c.args.key.blob b in
    let Own : World → Type 0 = λ x. IsNumberedIn x c.args.key.blob c.args.key.version b in
    let F : List (FoldKey × List ℕ) → Type 0 = λ l. HasFold c.args.p l c.args.key b in
    let none : node_at v.nodes c.args.key ≡ None =
    ap (λ (l : List (NodeKey × Node)). node_at l c.args.key) (sym c.as_slice-3.ensures.value) ∙ sym c.find_node.ensures ∙ none_of c.find_node.result (sym c.is_some.ensures ∙ c.if-is_some.false) in
    let Done : World → Type 0 = λ x. IsDone c.args.p x (Moves.NodePut c.args.key)
    (record v { nodes = c.insert.new.self.items }) in
    subst Done to
    (node_done c.args.p v c.args.key b c.in_ok-node.node c.insert.new.self.items (subst Sound (sym to) row.sound) (subst Own (sym to) row.own)
    ((among here).0 (c.is_among.ensures.0 c.if-not-is_among.false)) (subst F c.as_slice-2.ensures.value (c.lacks_fold.ensures.has c.if-lacks_fold.false)) none c.in_ok-node.ensures
    c.in_ok-insert.ensures.items)
