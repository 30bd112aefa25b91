use Rattle.std.proofs.Common.{◌≡◌, ℕ, ◌-◌, ◌*◌, ◌≤◌, List, [], ◌++◌, arith, refl, ap, sym, subst, ◌∙◌, Vec, Global}
use Rattle.std.specs.Prelude.{Option, Some, IfOk}
use Rattle.tree_geom.specs.declared.range.Range.{Range}
use Rattle.tree_geom.specs.declared.node.Node.{Node}
use Rattle.tree_geom.specs.declared.node.Node.TheVariants.{Inner, Leaf}
use Rattle.tree_geom.specs.declared.node.Piece.{Piece}
use Rattle.tree_geom.specs.Geometry.{page_range}
use Rattle.blob_core.specs.World.{World, UpdateEntry, kept_at, node_in, origin}
use Rattle.branching.specs.Parents.{origin_of}
use Rattle.blob_core.specs.Walk.{bytes_of_piece, leaf_walk}
use Rattle.branching.specs.declared.Parent.{Parent}
use Rattle.blob_core.specs.declared.world.UpdateKey.{UpdateKey}
use Rattle.blob_core.proofs.Walking.{leaf_last, leaf_gone, leaf_unkept, leaf_inner, leaf_on}
use Rattle.blob_core.proofs.state.State.+leaf_bytes.Goals as goal
use Rattle.blob_core.proofs.state.State.+leaf_bytes.Goals.{After-bytes-2, After-find_kept, then-back-eq0, else-back-eq0+in_ok-older}

pub returns-then-most-eq0 : goal.returns-then-most-eq0
returns-then-most-eq0 t c = c.new-own.ensures.items ∙ sym (leaf_last c.args.most c.args.p c.args.self.now c.args.blob c.args.version c.args.page c.if-most-eq0.true)

node_here : {t : ℕ} (c : After-bytes-2 t) → node_in c.args.self.now c.args.blob c.args.version (page_range c.args.p c.args.page)
    ≡ node_in c.args.self.now c.args.blob c.args.version (record { offset = c.args.page * c.bytes.result; size = c.bytes-2.result })
node_here c =
    let R : ℕ → ℕ → Range = λ a b. record { offset = c.args.page * a; size = b } in
    ap (λ (r : Range). node_in c.args.self.now c.args.blob c.args.version r) (sym (ap (λ (a : ℕ). R a c.bytes-2.result) c.bytes.ensures.is ∙ ap (λ (b : ℕ). R c.args.p b) c.bytes-2.ensures.is))

kept_here : {t : ℕ} (c : After-find_kept t) → kept_at c.args.self.now.updates (origin c.args.self.now c.args.blob c.args.version) c.args.version
    ≡ kept_at c.as_slice-2.result.now c.origin-numbered_in.result c.args.version
kept_here c =
    let w : World = c.args.self.now in
    let own : c.origin-numbered_in.result ≡ origin w c.args.blob c.args.version =
    c.origin-numbered_in.ensures ∙ ap (λ (l : List (Option Parent)). origin_of l c.args.blob c.args.version) (c.as_slice.ensures.value ∙ ap (λ (x : World). x.lineage) c.self.view_is) in
    let updates : c.as_slice-2.result.now ≡ w.updates = c.as_slice-2.ensures.value ∙ ap (λ (x : World). x.updates) c.self.view_is in
    ap (λ (o : ℕ). kept_at w.updates o c.args.version) (sym own) ∙ ap (λ (l : List (UpdateKey × UpdateEntry)). kept_at l c.origin-numbered_in.result c.args.version) (sym updates)

pub returns-in_default : goal.returns-in_default
returns-in_default t c =
    let w : World = c.args.self.now in
    let at = node_here (goal.at.returns-in_default t c).After-bytes-2 in
    c.new-own.ensures.items ∙ sym (leaf_gone c.args.most c.args.p w c.args.blob c.args.version c.args.page (at ∙ sym c.in_default.ensures))

pub returns-in_default-find_kept : goal.returns-in_default-find_kept
returns-in_default-find_kept t c =
    let w : World = c.args.self.now in
    let here = goal.at.returns-in_default-find_kept t c in
    let at = node_here here.After-bytes-2 in
    let there = kept_here here.After-find_kept in
    c.new-own.ensures.items ∙ sym (leaf_unkept c.args.most c.args.p w c.args.blob c.args.version c.args.page c.in-Some.node (at ∙ sym c.in-Some.ensures) (there ∙ c.in_default-find_kept.ensures))

pub returns-in_default-node : goal.returns-in_default-node
returns-in_default-node t c =
    let w : World = c.args.self.now in
    let here = goal.at.returns-in_default-node t c in
    let at = node_here here.After-bytes-2 in
    let there = kept_here here.After-find_kept in
    c.new-own.ensures.items
    ∙ sym (leaf_inner c.args.most c.args.p w c.args.blob c.args.version c.args.page (Inner c.in_default-node.field-0 c.in_default-node.field-1) c.in-Some-find_kept.kept.now refl (at ∙ sym c.in-Some.ensures ∙ ap {B = Option Node} Some c.in_default-node.is) (there ∙ c.in-Some-find_kept.ensures))

pub returns : goal.returns
returns t c =
    let w : World = c.args.self.now in
    let here = goal.at.returns t c in
    let at = node_here here.After-bytes-2 in
    let there = kept_here here.After-find_kept in
    let kept : UpdateEntry = c.in-Some-find_kept.kept.now in
    let pages : c.kept.inside.pages.items ≡ kept.pages = ap (λ (k : UpdateEntry). k.pages) c.kept.view_is in
    let older : List ℕ = c.if-back-eq0.older.items in
    let B : List ℕ → Piece → List ℕ = λ l q. bytes_of_piece w c.args.blob c.args.version c.args.page l q in
    let own_is : c.add_piece-2.new.bytes.items ≡ B kept.pages c.in-Leaf.first ++ B kept.pages c.in-Leaf.second =
    rw (c.in_ok-add_piece-2.ensures, c.in_ok-add_piece.ensures, c.new-own.ensures.items, c.as_slice-pages.ensures.value, pages) in
    let none : c.in-Leaf.back ≡ 0 → older ≡ [] = λ z.
    elim c.if-back-eq0.branch [
      | then-back-eq0 x ↦ ap (λ (v : Vec ℕ Global). v.items) x.older-is ∙ x.new-older.ensures.items
      | else-back-eq0+in_ok-older x ↦ absurd (omega arith)
    ] in
    let on : 1 ≤ c.in-Leaf.back → older ≡ (leaf_walk (c.args.most - 1) c.args.p w c.args.blob c.in-Leaf.back c.args.page).bytes = λ s.
    elim c.if-back-eq0.branch [
      | then-back-eq0 x ↦ absurd (omega arith)
      | else-back-eq0+in_ok-older x ↦ ap (λ (v : Vec ℕ Global). v.items) x.older-is ∙ x.in_ok-older.ensures
    ] in
    let is = leaf_on c.args.most c.args.p w c.args.blob c.args.version c.args.page (Leaf c.in-Leaf.start c.in-Leaf.count c.in-Leaf.first c.in-Leaf.second c.in-Leaf.depth c.in-Leaf.back) kept older c.add_piece-2.new.bytes.items (omega arith) refl
    (at ∙ sym c.in-Some.ensures ∙ ap {B = Option Node} Some c.in-Leaf.is) (there ∙ c.in-Some-find_kept.ensures) none on own_is in
    let Q : List ℕ → Type 0 = λ x. IfOk c.put_over.result (λ bytes. bytes.items ≡ x) in
    subst Q
    (rw (c.as_slice-3.ensures.value, c.as_slice-4.ensures.value) is)
    c.put_over.ensures
