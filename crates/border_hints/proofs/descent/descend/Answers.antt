use Rattle.std.proofs.Common.{◌≡◌, ℕ, ◌-◌, ◌/◌, ◌^◌, ◌≤◌, length, set, arith, refl, ap, sym, subst, ◌∙◌}
use Rattle.tree_geom.specs.declared.range.Range.{Range}
use Rattle.tree_geom.specs.Geometry.{tree_range, height_of}
use Rattle.range_log.specs.Laws.{NewestIsGreatest}
use Rattle.snapshot.specs.Versions.{Version, RowIn, NodesLieIn}
use Rattle.tree_geom.proofs.Spans.{page_pos}
use Rattle.border_hints.specs.Numbered.{log_of, log_upto}
use Rattle.border_hints.specs.Borders.{beside, newest_known}
use Rattle.border_hints.proofs.Published.{log_grown}
use Rattle.border_hints.proofs.Turning.{Down, down_started, down_turn, edge_known, page_is, newest_few}
use Rattle.border_hints.proofs.descent.descend.Given.{Over}
use Rattle.border_hints.proofs.descent.descend.Goals.{After-turn-on}
use Rattle.border_hints.proofs.descent.descend.Goals as goal

-- the height, as the code computes it
tall : (p q n m h : ℕ) → q ≡ p → m ≡ n → h ≡ height_of q m → h ≡ height_of p n
tall p q n m h e f is = is ∙ ap (λ x. height_of x m) e ∙ ap (height_of p) f

pub loop-level-init : goal.loop-level-init
loop-level-init g c =
    let t = c.args.ticket.now in
    let is = c.stands.ensures in
    let size = c.page_size-p.ensures ∙ ap (λ (s : Version). s.page_size) c.hints.ensures.snapshot in
    let pos = page_pos t.snapshot.page_size is.published.page_size in
    record {
      down =
          down_started c.newest_is_greatest.ensures.hit c.newest_is_greatest.ensures.none c.spans_hold.ensures.heights c.logs_are_grown.ensures.count c.logs_are_grown.ensures.grown
          (log_upto t) t (t.version - 1) c.args.page c.height-level.result c.version-at.result _ (omega arith) is pos
          (log_grown c.logs_are_grown.ensures.grown c.page_bytes_stay.ensures.extents t.snapshot is.published pos) c.requires.page
          (tall t.snapshot.page_size c.page_size-p.result t.size c.size.result c.height-level.result size c.size.ensures c.height-level.ensures.is)
          (c.version-at.ensures.count ∙ ap (λ (s : Version). length s.rows) c.hints.ensures.snapshot);
      version = ap (λ (r : RowIn). r.version) c.row_of-row.ensures ∙ c.view-view.ensures ∙ c.hints.ensures.snapshot;
      row = ap (λ (r : RowIn). r.update) c.row_of-row.ensures;
      counted = omega arith;
    }

-- one step further down
stepped : (g : Over) (c : After-turn-on g) → let t = c.args.ticket.now in Down t.snapshot.page_size (log_upto t) (log_of t.snapshot) (length t.snapshot.rows) (t.version - 1)
    (height_of t.snapshot.page_size t.size) c.args.page (c.loop-level.level - 1) c.turn-on.result.0 (set c.loop-level.edge.besides (c.loop-level.level - 1) c.turn-on.result.1)
stepped g c =
    let t = c.args.ticket.now in
    let inv = c.loop-level.invariant in
    let size = c.page_size-p.ensures ∙ ap (λ (s : Version). s.page_size) c.hints.ensures.snapshot in
    let high = tall t.snapshot.page_size c.page_size-p.result t.size c.size.result c.height-level.result size c.size.ensures c.height-level.ensures.is in
    down_turn t.snapshot.page_size (log_upto t) (log_of t.snapshot) (length t.snapshot.rows) (t.version - 1) (height_of t.snapshot.page_size t.size) c.args.page c.loop-level.level c.loop-level.at
    c.turn-on.result.0 c.turn-on.result.1 c.loop-level.edge.besides (omega (arith, c.loop-level-test.true)) (omega (arith, inv.down.below_root, high, c.height-level.ensures.bound))
    inv.down c.turn-on.ensures.on c.turn-on.ensures.off

pub loop-level-preserved : goal.loop-level-preserved
loop-level-preserved g c =
    let inv = c.loop-level.invariant in
    record {
      down = stepped g (goal.at.loop-level-preserved g c).After-turn-on;
      version = inv.version;
      row = inv.row ∙ sym c.if-on-at.false;
      counted = omega (arith, c.turn-on.ensures.steps, inv.counted, c.loop-level-test.true);
    }

-- the versions that links name are the snapshot's
newest_in : NewestIsGreatest → (s told : Version) (range : Range) (on : ℕ) → told ≡ s → on ≡ newest_known s range → on ≤ length told.rows
newest_in greatest s told range on e is =
    omega (arith, is, (greatest s.page_size (length s.rows) (log_of s) range).0.upto, ap (λ (v : Version). length v.rows) e)

pub row_of-row-requires-then-on-at : goal.row_of-row-requires-then-on-at
row_of-row-requires-then-on-at g c =
    newest_in c.newest_is_greatest.ensures.greatest c.args.ticket.now.snapshot c.view-view.result _ c.turn-on.result.0 (c.view-view.ensures ∙ c.hints.ensures.snapshot) c.turn-on.ensures.on

pub loop-level-preserved-then-on-at : goal.loop-level-preserved-then-on-at
loop-level-preserved-then-on-at g c =
    let row = c.row_of-row-then-on-at.ensures in
    record {
      down = stepped g (goal.at.loop-level-preserved-then-on-at g c).After-turn-on;
      version = ap (λ (r : RowIn). r.version) row ∙ c.view-view.ensures ∙ c.hints.ensures.snapshot;
      row = ap (λ (r : RowIn). r.update) row;
      counted = omega (arith, c.turn-on.ensures.steps, c.loop-level.invariant.counted, c.loop-level-test.true);
    }

-- the snapshot's newest version for the page, at the end of the path
newest_here : (s told : Version) (page h at : ℕ) → told ≡ s → h ≡ 0 → at ≡ newest_known s (tree_range s.page_size h (page / 2 ^ h)) → at ≡ newest_known told (tree_range told.page_size 0 page)
newest_here s told page h at e low is =
    is ∙ ap (newest_known s) (page_is s.page_size page h low) ∙ ap (λ (x : Version). newest_known x (tree_range x.page_size 0 page)) (sym e)

pub depth_known-known-requires-clause-here : goal.depth_known-known-requires-clause-here
depth_known-known-requires-clause-here g c = subst (NodesLieIn c.args.nodes.now) (sym c.loop-level.invariant.version) c.requires.here

pub depth_known-known-requires-clause-at : goal.depth_known-known-requires-clause-at
depth_known-known-requires-clause-at g c =
    let inv = c.loop-level.invariant in
    newest_here c.args.ticket.now.snapshot c.loop-level.row.version c.args.page c.loop-level.level c.loop-level.at inv.version (omega (arith, c.loop-level-test.false)) inv.down.newest

pub newest_below-requires-clause-known : goal.newest_below-requires-clause-known
newest_below-requires-clause-known g c =
    let s = c.args.ticket.now.snapshot in
    newest_here s s c.args.page c.loop-level.level c.loop-level.at refl (omega (arith, c.loop-level-test.false)) c.loop-level.invariant.down.newest

pub overflow_cast-edge : goal.overflow_cast-edge
overflow_cast-edge g c =
    let t = c.args.ticket.now in
    let h : ℕ = c.loop-level.level - 1 in
    omega (arith, newest_few c.newest_is_greatest.ensures.greatest t (tree_range t.snapshot.page_size h (beside (c.args.page / 2 ^ h))) c.turn-on.result.1 c.stands.ensures (omega (arith, c.stands-2.ensures.few, ap length c.hints-2.ensures.waiting)) c.turn-on.ensures.off)

pub overflow_cast-edge-2 : goal.overflow_cast-edge-2
overflow_cast-edge-2 g c =
    let t = c.args.ticket.now in
    omega (arith, newest_few c.newest_is_greatest.ensures.greatest t (tree_range t.snapshot.page_size 0 c.args.page) c.newest_below.result c.stands.ensures (omega (arith, c.stands-2.ensures.few, ap length c.hints-2.ensures.waiting)) c.newest_below.ensures)

pub returns-clause-knows : goal.returns-clause-knows
returns-clause-knows g c =
    let t = c.args.ticket.now in
    let p = t.snapshot.page_size in
    edge_known p (log_upto t) (log_of t.snapshot) (length t.snapshot.rows) (t.version - 1) (height_of p t.size) c.args.page c.loop-level.level c.loop-level.at c.newest_below.result c.depth_below-edge.result c.loop-level.edge.besides
    (tree_range p 0 c.args.page) (omega (arith, c.loop-level-test.false)) c.loop-level.invariant.down
    (sym (c.ranges_align.ensures.pages p c.args.page)) c.newest_below.ensures c.depth_below-edge.ensures.depth
