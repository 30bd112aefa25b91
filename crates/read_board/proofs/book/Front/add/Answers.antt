use Rattle.std.proofs.Common.{◌≡◌, ◌+◌, sym, ◌∙◌, ap, subst, List, length, arith}
use Rattle.read_board.specs.declared.refresh.Refresh.{Refresh}
use Rattle.read_board.specs.Refreshes.{MayFollow}
use Rattle.read_board.specs.Rules.{head_of, IsPenOf}
use Rattle.read_board.proofs.Adding.{adds_moves}
use Rattle.read_board.proofs.book.Front.add.Goals as goal

pub compare_exchange-found-requires : goal.compare_exchange-found-requires
compare_exchange-found-requires c =
    let i = c.self.inside in
    let h : c.args.head.now ≡ head_of i.seen.book = c.requires.head ∙ ap (λ s. head_of s.board.book) (sym c.self.view_is) in
    let list = ap (λ s. s.list) (sym c.self.view_is) in
    let rising : MayFollow i.seen.log c.args.refresh.now = subst (λ (l : List Refresh). MayFollow l c.args.refresh.now) list c.requires.rising in
    let pen : IsPenOf (length i.seen.log + 2) c.args.pen.now.nib = subst (λ (l : List Refresh). IsPenOf (length l + 2) c.args.pen.now.nib) list c.requires.pen in
    let offer = c.plain-offer.ensures in
    let all : i.count + (i.count + 4) ≡ length i.seen.log + (length i.seen.log + 4) = omega (arith, c.self.invariant.0) in (
      ap (λ w. w.tracked) h,
      sym (ap (λ w. w.book) h),
      c.requires.book ∙ (ap (λ s. s.board.book) (sym c.self.view_is) ∙ sym (ap (λ w. w.book) h)),
      offer.0,
      rw (ap (λ w. w.key) h, offer.1, offer.3) (adds_moves i.seen.log c.args.refresh.now c.args.pen.now.nib (i.count + (i.count + 4)) pen all rising),
    )
