use Rattle.std.proofs.Common.{rules, ◌≡◌, List, [], ◌∷◌, sym, subst}
use Rattle.atomic_table.specs.Table.{opening}
use Rattle.turn_lock.specs.Turns.{IsKept, opener}
use Rattle.turn_lock.proofs.Passes.{opens}
use Rattle.turn_lock.proofs.turn.Turn.new.Goals as goal

pub new-requires : goal.new-requires
new-requires g c = let items : c.push_reserved.new.self.items ≡ c.args.state ∷ [] = search rules in let value : c.of-about.result.value ≡ c.args.state = search rules in
    subst (λ (z : List g.row.S.Denot × g.row.S.Denot). IsKept g.S.Journaled.history g.S.Journaled.fixed (opening (18446744073709551613 ∷ 18446744073709551613 ∷ 0 ∷ []) z.0 (opener (g.S.Journaled.fixed z.1))))
    (λ i. (sym items i, sym value i)) (opens g.S.Journaled.history g.S.Journaled.fixed c.args.state c.requires)
