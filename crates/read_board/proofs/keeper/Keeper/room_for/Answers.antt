use Rattle.std.proofs.Common.{◌∙◌, ap, refl, rules, List}
use Rattle.read_board.specs.declared.refresh.Refresh.{Refresh}
use Rattle.read_board.specs.Refreshes.{place}
use Rattle.read_board.proofs.Latest.{full_here, only_full}
use Rattle.read_board.proofs.keeper.Keeper.room_for.Goals as goal

pub returns-then-at-eq-MOST : goal.returns-then-at-eq-MOST
returns-then-at-eq-MOST g c =
    let i = c.self.inside in
    let is = c.place_of-at.ensures.place ∙ ap (λ (s : List Refresh). place c.args.blob s) c.as_slice.ensures.value in
    rw (← c.self.view_is) (record { full = (λ _. full_here c.args.blob 0 i.author.list i.on.items c.place_of-at.result c.self.invariant.latest is (search rules) (search rules) c.self.invariant.few, λ _. refl) })

pub returns-else-at-eq-MOST : goal.returns-else-at-eq-MOST
returns-else-at-eq-MOST g c =
    let i = c.self.inside in
    let is = c.place_of-at.ensures.place ∙ ap (λ (s : List Refresh). place c.args.blob s) c.as_slice.ensures.value in
    rw (← c.self.view_is)
    (record { full = (λ e. absurd (cc (e)), λ full. absurd (c.if-at-eq-MOST.false (only_full c.args.blob 0 i.author.list i.on.items c.place_of-at.result c.self.invariant.latest is (search rules) full))) })
