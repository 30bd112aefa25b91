use Rattle.std.proofs.Common.{arith, ℕ, sym, ap, ◌∙◌, ◌≡◌, ◌-◌, suc}
use Rattle.branching.specs.Line.{Line, origin_of, begun_before}
use Rattle.branching.specs.declared.Branch.{Branch}
use Rattle.branching.proofs.Origins.{origin_none, origin_some}
use Rattle.branching.proofs.Lineage.origin.Goals as goal

pub returns-then-begun-eq0 : goal.returns-then-begun-eq0
returns-then-begun-eq0 c =
    let none : begun_before c.self.inside.branches.items c.args.version ≡ 0 = ap (λ (l : Line). begun_before l.branches c.args.version) c.self.view_is ∙ (sym c.begun_before-begun.ensures.is ∙ c.if-begun-eq0.true) in
    sym (origin_none c.self.inside.root c.self.inside.branches.items c.args.version none) ∙ ap (λ (l : Line). origin_of l c.args.version) c.self.view_is

pub returns-else-begun-eq0 : goal.returns-else-begun-eq0
returns-else-begun-eq0 c =
    let n : ℕ = c.begun_before-begun.result - 1 in
    let some : begun_before c.self.inside.branches.items c.args.version ≡ suc n = ap (λ (l : Line). begun_before l.branches c.args.version) c.self.view_is ∙ (sym c.begun_before-begun.ensures.is ∙ omega arith) in
    ap (λ (b : Branch). b.blob) c.index.ensures ∙ (sym (origin_some c.self.inside.root c.self.inside.branches.items c.args.version n c.index.result.now some) ∙ ap (λ (l : Line). origin_of l c.args.version) c.self.view_is)
