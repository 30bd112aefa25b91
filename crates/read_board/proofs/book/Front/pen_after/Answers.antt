use Rattle.std.proofs.Common.{◌≡◌, ◌≤◌, ◌+◌, sym, ◌∙◌, ap, length, arith}
use Rattle.read_board.specs.Rules.{head_of, no_entry}
use Rattle.read_board.proofs.Adding.{opens_moves}
use Rattle.read_board.proofs.book.Front.pen_after.Goals as goal

pub compare_exchange-found-requires : goal.compare_exchange-found-requires
compare_exchange-found-requires c =
    let i = c.self.inside in
    let h : c.args.head.now ≡ head_of i.seen.book = c.requires.head ∙ ap (λ s. head_of s.board.book) (sym c.self.view_is) in
    let seen = c.again-seen.ensures in
    let offer = c.plain-offer.ensures in
    let pen = c.no_pen-pen.ensures in
    let few : i.count + c.args.words ≤ length c.again-seen.result.log + (length c.again-seen.result.log + 3) = omega (arith, c.self.invariant.0, c.requires.few, ap (λ s. length s.log) seen, ap (λ s. length s.list) c.self.view_is) in (
      ap (λ w. w.tracked) h,
      ap (λ s. s.book) seen ∙ sym (ap (λ w. w.book) h),
      pen.0 ∙ (ap (λ s. s.book) seen ∙ sym (ap (λ w. w.book) h)),
      offer.0,
      rw (ap (λ w. w.key) h, pen.1, offer.3) (opens_moves c.again-seen.result.log no_entry (i.count + c.args.words) few),
    )
