use Rattle.std.proofs.Common.{◌≡◌, ℕ, ◌+◌, ◌<◌, length, arith, refl, true, false}
use Rattle.range_reader.specs.Reading.{page_in, own_start, own_len}
use Rattle.range_reader.proofs.Counting.{kept_yet}
use Rattle.range_reader.proofs.Taking.{lens}
use Rattle.range_reader.proofs.Joining.{overlaid_none, taken_none}
use Rattle.range_reader.proofs.page.fill_wanted.Given.{Over}
use Rattle.range_reader.proofs.page.fill_wanted.Goals.{Then-not-meets}
use Rattle.range_reader.proofs.page.fill_wanted.Goals as goal

-- none of the leaf's bytes is the buffer's
apart : (g : Over) (c : Then-not-meets g) (n : ℕ) → n ≡ length c.args.out.now
    → (c.args.begin < own_start c.args.source.now.view.now c.args.leaf.version c.args.leaf.page + own_len c.args.source.now.view.now c.args.leaf.version c.args.leaf.page)
    × (own_start c.args.source.now.view.now c.args.leaf.version c.args.leaf.page < c.args.begin + n) → ⊥
apart g c n same both =
    let parts = c.requires.leaf in
    let len = lens c.args.source.now.view.now c.args.leaf.version c.args.leaf.page c.args.leaf.parts parts in
    let met : c.meets.result ≡ true = c.meets.ensures.1 (omega (arith, both.0, parts.start, len), omega (arith, both.1, parts.start, same)) in
    let no : c.meets.result ≡ false = c.if-not-meets.true in
    cc

pub returns-then-not-meets-clause-overlaid : goal.returns-then-not-meets-clause-overlaid
returns-then-not-meets-clause-overlaid g c = λ all some.
    let s = c.args.source.now.view.now in
    let st = own_start s c.args.leaf.version c.args.leaf.page in
    let rest = (goal.at.returns-then-not-meets-clause-overlaid g c).Then-not-meets in
    overlaid_none st (own_len s c.args.leaf.version c.args.leaf.page) st c.args.begin (page_in s c.args.leaf.version c.args.leaf.page) c.args.marks.now c.args.out.now
    (apart g rest (length c.args.out.now) refl)

pub returns-then-not-meets-clause-taken : goal.returns-then-not-meets-clause-taken
returns-then-not-meets-clause-taken g c = λ some.
    let s = c.args.source.now.view.now in
    let rest = (goal.at.returns-then-not-meets-clause-taken g c).Then-not-meets in
    taken_none (own_start s c.args.leaf.version c.args.leaf.page) (own_len s c.args.leaf.version c.args.leaf.page) c.args.begin c.args.marks.now
    (apart g rest (length c.args.marks.now) c.requires.marked)

pub returns-then-not-meets-clause-kept : goal.returns-then-not-meets-clause-kept
returns-then-not-meets-clause-kept g c = kept_yet _ _
