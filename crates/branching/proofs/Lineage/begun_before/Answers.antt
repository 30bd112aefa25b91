use Rattle.std.proofs.Common.{nat_lt, arith, rules, List, sym, ap, subst, ◌∙◌}
use Rattle.std.proofs.lemmas.List.Sorted.{IsPartitionPoint-from_clause, IsPartitionedBy-ltb}
use Rattle.branching.specs.Line.{Line, begun_before}
use Rattle.branching.specs.Rising.{IsRising}
use Rattle.branching.specs.declared.Branch.{Branch}
use Rattle.branching.proofs.Origins.{count_is}
use Rattle.branching.proofs.Lineage.begun_before.Goals as goal

pub returns-clause-is : goal.returns-clause-is
returns-clause-is c =
    let items : List Branch = c.deref.result.now in
    let parted = IsPartitionedBy-ltb (λ b. b.after) items c.args.version (subst IsRising (sym c.deref.ensures.value) c.self.invariant) in
    let point = IsPartitionPoint-from_clause (λ b. nat_lt b.after c.args.version) _ _ c.partition_point.ensures.partitioned parted (λ a r q k. search rules) in
    count_is items c.args.version _ (omega arith) (λ k d h. point.0 k d (omega arith) h) (λ k d h l. point.1 k d h l)
    ∙ (ap (λ (xs : List Branch). begun_before xs c.args.version) c.deref.ensures.value
    ∙ ap (λ (l : Line). begun_before l.branches c.args.version) c.self.view_is)
