use Rattle.std.proofs.Common.{◌≡◌, sym, ◌∙◌, ap, subst, List, length, arith}
use mathlib.Core.List.{IsPrefix}
use Rattle.read_board.specs.declared.refresh.Refresh.{Refresh}
use Rattle.read_board.specs.Rules.{head_of, no_entry}
use Rattle.read_board.proofs.Adding.{meets_moves}
use Rattle.read_board.proofs.Fronts.{prefix_whole, prefix_trans, prefix_as}
use Rattle.read_board.proofs.book.Front.meet.Goals as goal

pub compare_exchange-count-requires : goal.compare_exchange-count-requires
compare_exchange-count-requires c =
    let i = c.self.inside in
    let h : c.args.head.now ≡ head_of i.seen.book = c.requires.head ∙ ap (λ s. head_of s.board.book) (sym c.self.view_is) in
    let book : c.learn.new.self.book ≡ i.seen.book = c.learn.ensures.0 ∙ ap (λ s. s.book) c.again-both.ensures in
    let offer = c.plain-offer.ensures in (
      ap (λ w. w.tracked) h,
      book ∙ sym (ap (λ w. w.book) h),
      c.requires.book ∙ (ap (λ s. s.board.book) (sym c.self.view_is) ∙ sym (ap (λ w. w.book) h)),
      offer.0,
      rw (ap (λ w. w.key) h, offer.3) (meets_moves c.learn.new.self.log no_entry c.args.pen.now.nib c.requires.pen.right),
    )

pub returns-clause-begins : goal.returns-clause-begins
returns-clause-begins c =
    let i = c.self.inside in
    let all = c.compare_exchange-count.new.seen.log in
    let both = c.learn.new.self.log in
    let list = ap (λ s. s.list) c.self.view_is in
    let told = c.compare_exchange-count.ensures.7 in
    let pre : IsPrefix both all = c.compare_exchange-count.ensures.6 in
    let mine : IsPrefix i.seen.log both = subst (λ (l : List Refresh). IsPrefix l both) (ap (λ s. s.log) c.again-both.ensures) c.learn.ensures.2 in
    let theirs : IsPrefix c.other.inside.seen.log all = prefix_trans c.other.inside.seen.log both all c.learn.ensures.3 pre in
    let whole : i.seen.log ≡ all = prefix_whole i.seen.log all (prefix_trans i.seen.log both all mine pre) (omega (arith, told.0, c.requires.pen.key, ap (λ (l : List Refresh). length l) list)) in
    prefix_as (ap (λ s. s.list) c.other.view_is) (sym whole ∙ list) theirs
