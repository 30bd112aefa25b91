use Rattle.std.proofs.Common.{◌≡◌, ℕ, ◌+◌, List, [], ◌∷◌, ◌++◌, map, take, set, sym, ap, subst, ◌∙◌, arith}
use Rattle.std.proofs.lemmas.List.{take_more_set, map_push}
use Rattle.replica_place.specs.Chosen.{chosen}
use Rattle.provider_manager.proofs.Turns.{IsAfter, after-more}
use Rattle.provider_manager.proofs.book.LoadBook.place_each.Goals as goal

pub loop-page-preserved : goal.loop-page-preserved
loop-page-preserved c =
    let pages = c.loop-page.pages in
    let i = c.loop-page.page-index in
    let placement = c.place_one.result in
    let one = c.place_one.ensures in
    let more : map chosen (take (i + 1) (set pages i placement)) ≡ map chosen (take i pages) ++ chosen placement ∷ [] = ap (map chosen) (take_more_set pages i placement (omega arith)) ∙ map_push chosen (take i pages) placement in
    let P : List (List ℕ) → Type 0 = IsAfter c.args.self.now c.place_one.new.self in
    subst P (sym more) (after-more c.args.self.now c.loop-page.self c.place_one.new.self (map chosen (take i pages)) (chosen placement) c.loop-page.invariant one.least one.spread one.loads one.count one.sum one.replicas one.even)
