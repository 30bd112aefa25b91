use Rattle.std.proofs.Common.{◌≡◌, ℕ, ◌≤◌, arith, ap, sym, subst, ◌∙◌, Bool}
use Rattle.tree_geom.specs.declared.touch.Touch.{Touch}
use Rattle.tree_geom.specs.Geometry.{leaves_open}
use Rattle.border_hints.specs.Borders.{BorderLinks}
use Rattle.border_hints.proofs.Depths.{whole_edge, part_edge}
use Rattle.border_hints.proofs.border.Borders.depth.Goals as goal

-- the same of the borders as of the fields of the code
some_bytes : (p q : ℕ) → p ≡ q → 4 ≤ p → 1 ≤ q
some_bytes p q same wide = omega arith

in_order : (t u : Touch) → t ≡ u → t.first ≤ t.last → u.first ≤ u.last
in_order t u same le = let P : Touch → Type 0 = λ x. x.first ≤ x.last in subst P same le

opens : (t u : Touch) (page : ℕ) (test value : Bool) → t ≡ u → test ≡ leaves_open t page → test ≡ value → leaves_open u page ≡ value
opens t u page test value same is was = ap (λ x. leaves_open x page) (sym same) ∙ sym is ∙ was

pub returns-then-not-leaves_open : goal.returns-then-not-leaves_open
returns-then-not-leaves_open c = λ log k are own.
    let i = c.self.inside in
    let b = c.args.self.now in
    let touch = ap (λ (x : BorderLinks). x.touch) c.self.view_is in
    whole_edge c.meets_is_decided.ensures.met b c.args.page (some_bytes i.page_size b.page_size (ap (λ (x : BorderLinks). x.page_size) c.self.view_is) c.stands.ensures.bounds.0)
    (in_order i.touch b.touch touch c.self.invariant.0) c.requires.edge (opens i.touch b.touch c.args.page c.leaves_open.result _ touch c.leaves_open.ensures c.if-not-leaves_open.true) log k own

pub returns : goal.returns
returns c = λ log k are own.
    let i = c.self.inside in
    let b = c.args.self.now in
    let touch = ap (λ (x : BorderLinks). x.touch) c.self.view_is in
    c.deeper.ensures.is
    ∙ part_edge c.meets_is_decided.ensures.met b c.args.page (some_bytes i.page_size b.page_size (ap (λ (x : BorderLinks). x.page_size) c.self.view_is) c.stands.ensures.bounds.0)
    (in_order i.touch b.touch touch c.self.invariant.0) c.requires.edge (opens i.touch b.touch c.args.page c.leaves_open.result _ touch c.leaves_open.ensures c.if-not-leaves_open.false)
    c.edge.result.now.depth log k (c.edge.ensures.knows log k are).depth own
