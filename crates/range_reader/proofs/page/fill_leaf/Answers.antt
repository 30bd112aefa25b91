use Rattle.std.proofs.Common.{◌≡◌, ◌+◌, arith, refl, true}
use Rattle.std.specs.Prelude.{All}
use Rattle.range_reader.specs.Filling.{Overlaid}
use Rattle.range_reader.specs.Reading.{page_in, own_start, stored_bytes}
use Rattle.range_reader.proofs.Counting.{kept_twice, risen_since, stored_since}
use Rattle.range_reader.proofs.Taking.{LeafPieces, leaf_pieces}
use Rattle.range_reader.proofs.Joining.{taken_twice, overlaid_twice, overlaid_same, overlaid_in, taken_same}
use Rattle.range_reader.proofs.page.fill_leaf.Given.{Over}
use Rattle.range_reader.proofs.page.fill_leaf.Goals.{After-stands, After-fill_piece}
use Rattle.range_reader.proofs.page.fill_leaf.Goals as goal

pieces : (g : Over) (c : After-stands g) → LeafPieces c.args.source.now.view.now c.args.leaf
pieces g c =
    let f = c.leaves_fill.ensures in
    leaf_pieces f.fill f.fit f.pieces c.folds_are.ensures.folds c.page_bytes_stay.ensures.bytes c.page_bytes_stay.ensures.extents c.args.source.now.view.now c.stands.ensures c.args.leaf
    c.requires.has c.requires.leaf

-- the first piece's bytes are the page's
first_over : (g : Over) (c : After-fill_piece g) → LeafPieces c.args.source.now.view.now c.args.leaf → All g.D.Door.is_true c.args.doors.now → c.fill_piece.result ≡ true
    → let s = c.args.source.now.view.now in let leaf = c.args.leaf in let begins = own_start s leaf.version leaf.page in
    Overlaid leaf.parts.start leaf.parts.first.len begins c.args.begin (page_in s leaf.version leaf.page) c.args.marks.now c.args.out.now c.fill_piece.new.out
first_over g c of all ok =
    let s = c.args.source.now.view.now in
    let leaf = c.args.leaf in
    let first = leaf.parts.first in
    overlaid_in leaf.parts.start first.len first.from (own_start s leaf.version leaf.page) c.args.begin (stored_bytes s leaf.version first.page) (page_in s leaf.version leaf.page)
    c.args.marks.now c.args.out.now c.fill_piece.new.out of.first.same (c.fill_piece.ensures.overlaid all ok)

pub fill_piece-requires-clause-version : goal.fill_piece-requires-clause-version
fill_piece-requires-clause-version g c = (pieces g (goal.at.fill_piece-requires-clause-version g c).After-stands).of.bounds

pub fill_piece-requires-clause-number : goal.fill_piece-requires-clause-number
fill_piece-requires-clause-number g c = (pieces g (goal.at.fill_piece-requires-clause-number g c).After-stands).first.number

pub fill_piece-requires-clause-fits : goal.fill_piece-requires-clause-fits
fill_piece-requires-clause-fits g c = (pieces g (goal.at.fill_piece-requires-clause-fits g c).After-stands).first.fits

pub fill_piece-requires-clause-placed : goal.fill_piece-requires-clause-placed
fill_piece-requires-clause-placed g c = let inside = (pieces g (goal.at.fill_piece-requires-clause-placed g c).After-stands).inside in omega (arith, inside)

pub fill_piece-requires-2-clause-version : goal.fill_piece-requires-2-clause-version
fill_piece-requires-2-clause-version g c = (pieces g (goal.at.fill_piece-requires-2-clause-version g c).After-stands).of.bounds

pub fill_piece-requires-2-clause-number : goal.fill_piece-requires-2-clause-number
fill_piece-requires-2-clause-number g c = ((pieces g (goal.at.fill_piece-requires-2-clause-number g c).After-stands).second (omega (arith, c.if-parts-eq0.false))).number

pub fill_piece-requires-2-clause-fits : goal.fill_piece-requires-2-clause-fits
fill_piece-requires-2-clause-fits g c = ((pieces g (goal.at.fill_piece-requires-2-clause-fits g c).After-stands).second (omega (arith, c.if-parts-eq0.false))).fits

pub fill_piece-requires-2-clause-placed : goal.fill_piece-requires-2-clause-placed
fill_piece-requires-2-clause-placed g c = let inside = (pieces g (goal.at.fill_piece-requires-2-clause-placed g c).After-stands).inside in omega (arith, inside)

pub returns-then-not-fill_piece-clause-failed : goal.returns-then-not-fill_piece-clause-failed
returns-then-not-fill_piece-clause-failed g c = λ no. record {
  number = c.args.leaf.parts.first.page;
  piece = (pieces g (goal.at.returns-then-not-fill_piece-clause-failed g c).After-stands).first_in;
  failed = c.fill_piece.ensures.failed c.if-not-fill_piece.true;
}

pub returns-then-parts-eq0-clause-overlaid : goal.returns-then-parts-eq0-clause-overlaid
returns-then-parts-eq0-clause-overlaid g c = λ all ok.
    let at = goal.at.returns-then-parts-eq0-clause-overlaid g c in
    let of = pieces g at.After-stands in
    overlaid_same _ _ _ _ _ _ c.args.begin _ c.args.marks.now c.args.out.now c.fill_piece.new.out c.requires.leaf.start (omega (arith, of.lens, c.if-parts-eq0.true)) refl
    (first_over g at.After-fill_piece of all c.if-not-fill_piece.false)

pub returns-then-parts-eq0-clause-taken : goal.returns-then-parts-eq0-clause-taken
returns-then-parts-eq0-clause-taken g c = λ ok.
    let len = (pieces g (goal.at.returns-then-parts-eq0-clause-taken g c).After-stands).lens in
    taken_same _ _ _ _ c.args.begin c.args.marks.now c.fill_piece.new.marks c.requires.leaf.start (omega (arith, len, c.if-parts-eq0.true)) (c.fill_piece.ensures.taken c.if-not-fill_piece.false)

pub returns-clause-overlaid : goal.returns-clause-overlaid
returns-clause-overlaid g c = λ all ok.
    let s = c.args.source.now.view.now in
    let leaf = c.args.leaf in
    let at = goal.at.returns-clause-overlaid g c in
    let of = pieces g at.After-stands in
    let page = page_in s leaf.version leaf.page in
    let begins = own_start s leaf.version leaf.page in
    let a = leaf.parts.first.len in
    let piece = leaf.parts.second in
    let second = overlaid_in (leaf.parts.start + a) piece.len piece.from (begins + a) c.args.begin (stored_bytes s leaf.version piece.page) page
    c.fill_piece.new.marks c.fill_piece.new.out c.fill_piece-2.new.out (of.second (omega (arith, c.if-parts-eq0.false))).same
    (c.fill_piece-2.ensures.overlaid (c.fill_piece.ensures.truth_stays all) ok) in
    overlaid_same _ _ _ _ _ _ c.args.begin page c.args.marks.now c.args.out.now c.fill_piece-2.new.out c.requires.leaf.start of.lens refl
    (overlaid_twice leaf.parts.start a piece.len begins c.args.begin page c.args.marks.now c.fill_piece.new.marks c.fill_piece-2.new.marks
    c.args.out.now c.fill_piece.new.out c.fill_piece-2.new.out c.fill_piece.auto.out c.requires.marked c.fill_piece.auto.marks
    (c.fill_piece.ensures.taken c.if-not-fill_piece.false) (first_over g at.After-fill_piece of all c.if-not-fill_piece.false) second)

pub returns-clause-taken : goal.returns-clause-taken
returns-clause-taken g c = λ ok.
    let parts = c.args.leaf.parts in
    let page = page_in c.args.source.now.view.now c.args.leaf.version c.args.leaf.page in
    taken_same _ _ _ _ c.args.begin c.args.marks.now c.fill_piece-2.new.marks c.requires.leaf.start (pieces g (goal.at.returns-clause-taken g c).After-stands).lens
    (taken_twice parts.start parts.first.len parts.second.len 0 c.args.begin page c.args.marks.now c.fill_piece.new.marks c.fill_piece-2.new.marks
    c.fill_piece.auto.marks (c.fill_piece.ensures.taken c.if-not-fill_piece.false) (c.fill_piece-2.ensures.taken ok))

pub returns-clause-failed : goal.returns-clause-failed
returns-clause-failed g c = λ no. record {
  number = c.args.leaf.parts.second.page;
  piece = (pieces g (goal.at.returns-clause-failed g c).After-stands).second_in (omega (arith, c.if-parts-eq0.false));
  failed = stored_since c.args.source.now.view.now _ _ _ c.args.leaf.version _ c.fill_piece.ensures.kept.none_fell (c.fill_piece-2.ensures.failed no);
}

pub returns-clause-counted : goal.returns-clause-counted
returns-clause-counted g c = λ no. risen_since _ _ _ c.fill_piece.ensures.kept.total (c.fill_piece-2.ensures.counted no)

pub returns-clause-kept : goal.returns-clause-kept
returns-clause-kept g c = kept_twice _ _ _ _ _ _ c.fill_piece.ensures.kept c.fill_piece-2.ensures.kept

pub returns-clause-truth_stays : goal.returns-clause-truth_stays
returns-clause-truth_stays g c = λ all. c.fill_piece-2.ensures.truth_stays (c.fill_piece.ensures.truth_stays all)
