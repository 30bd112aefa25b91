use Rattle.std.proofs.Common.{◌≡◌, ◌<◌, ◌≤◌, ◌∙◌, ◌++◌, ◌∷◌, [], length, sym, ap, subst, arith, List}
use Rattle.read_board.specs.declared.refresh.Refresh.{Refresh}
use Rattle.read_board.specs.Fronts.{BoardId}
use Rattle.read_board.specs.Refreshes.{place, put, IsFullFor, IsOn}
use Rattle.read_board.specs.Boards.{front_of}
use Rattle.read_board.proofs.Latest.{room_below}
use Rattle.read_board.proofs.Kept.{added}
use Rattle.read_board.proofs.keeper.Keeper.add.Goals as goal

pub invariant_of-self-2 : goal.invariant_of-self-2
invariant_of-self-2 g c =
    let i = c.self.inside in
    let r : Refresh = c.args.refresh in
    let slice = c.as_slice.ensures.value in
    let is : c.place_of-at.result ≡ place r.blob i.on.items = c.place_of-at.ensures.place ∙ ap (λ (s : List Refresh). place r.blob s) slice in
    let bound : c.place_of-at.result ≤ length i.on.items = omega (arith, c.place_of-at.ensures.bound, ap length slice) in
    let free : IsFullFor r.blob i.author.list → ⊥ = λ full. c.requires.room (subst (λ (l : List Refresh). IsFullFor r.blob l) (ap (λ s. s.all) c.self.view_is) full) in
    let below = room_below r.blob 0 i.author.list i.on.items c.place_of-at.result c.self.invariant.latest is bound c.self.invariant.few free in
    let there : place r.blob i.on.items < 64 = omega (arith, is, below) in
    let put_is : c.lay.new.on.items ≡ put i.on.items r = c.lay.ensures.placed ∙ ap (λ (l : List Refresh). put l r) c.reserve.ensures.items in
    let of_store : IsOn i.author.board.store r = subst (λ (b : BoardId). IsOn b.store r) (sym (ap (λ s. s.board) c.self.view_is)) c.requires.of_store in
    added i.author c.add.new.self i.shown (front_of i.writer.desk.shown.value) i.on.items c.lay.new.on.items r c.self.invariant c.if-not-add.ensures.added c.add.ensures.board put_is there of_store

pub returns-clause-added : goal.returns-clause-added
returns-clause-added g c = c.if-not-add.ensures.added ∙ ap (λ (l : List Refresh). l ++ c.args.refresh ∷ []) (ap (λ s. s.all) c.self.view_is)

pub invariant_of-self : goal.invariant_of-self
invariant_of-self g c = rw c.reserve.ensures.items c.self.invariant
