use Rattle.std.proofs.Common.{◌≡◌, ◌+◌, ◌++◌, ◌≤◌, length, arith, ap, ◌∙◌}
use Rattle.std.specs.Prelude.{slice_range}
use Rattle.range_reader.specs.Reading.{page_in}
use Rattle.range_reader.proofs.Counting.{kept_twice, risen_since, stored_since}
use Rattle.range_reader.proofs.Parts.{range_join}
use Rattle.range_reader.proofs.Taking.{LeafPieces, leaf_pieces, taken_first, taken_second}
use Rattle.range_reader.proofs.whole.take_leaf.Given.{Over}
use Rattle.range_reader.proofs.whole.take_leaf.Goals.{After-stands, Else-skip-out}
use Rattle.range_reader.proofs.whole.take_leaf.Goals as goal

pieces : (g : Over) (c : After-stands g) → LeafPieces c.args.source.now.view.now c.args.leaf
pieces g c =
    let f = c.leaves_fill.ensures in
    leaf_pieces f.fill f.fit f.pieces c.folds_are.ensures.folds c.page_bytes_stay.ensures.bytes c.page_bytes_stay.ensures.extents c.args.source.now.view.now c.stands.ensures c.args.leaf
    c.requires.has c.requires.leaf

-- not all of it lies in the first piece
some : (g : Over) (c : Else-skip-out g) → 1 ≤ c.args.leaf.parts.second.len
some g c = omega (arith, c.requires.low, c.requires.high, c.if-skip-out.false)

pub take_piece-requires-clause-version : goal.take_piece-requires-clause-version
take_piece-requires-clause-version g c = (pieces g (goal.at.take_piece-requires-clause-version g c).After-stands).of.bounds

pub take_piece-requires-clause-number : goal.take_piece-requires-clause-number
take_piece-requires-clause-number g c = (pieces g (goal.at.take_piece-requires-clause-number g c).After-stands).first.number

pub take_piece-requires-clause-fits : goal.take_piece-requires-clause-fits
take_piece-requires-clause-fits g c = (pieces g (goal.at.take_piece-requires-clause-fits g c).After-stands).first.fits

pub take_piece-requires-then-first-skip-clause-version : goal.take_piece-requires-then-first-skip-clause-version
take_piece-requires-then-first-skip-clause-version g c = (pieces g (goal.at.take_piece-requires-then-first-skip-clause-version g c).After-stands).of.bounds

pub take_piece-requires-then-first-skip-clause-number : goal.take_piece-requires-then-first-skip-clause-number
take_piece-requires-then-first-skip-clause-number g c =
    let at = goal.at.take_piece-requires-then-first-skip-clause-number g c in
    ((pieces g at.After-stands).second (some g at.Else-skip-out)).number

pub take_piece-requires-then-first-skip-clause-fits : goal.take_piece-requires-then-first-skip-clause-fits
take_piece-requires-then-first-skip-clause-fits g c =
    let at = goal.at.take_piece-requires-then-first-skip-clause-fits g c in
    ((pieces g at.After-stands).second (some g at.Else-skip-out)).fits

pub take_piece-requires-2-clause-version : goal.take_piece-requires-2-clause-version
take_piece-requires-2-clause-version g c = (pieces g (goal.at.take_piece-requires-2-clause-version g c).After-stands).of.bounds

pub take_piece-requires-2-clause-number : goal.take_piece-requires-2-clause-number
take_piece-requires-2-clause-number g c = (pieces g (goal.at.take_piece-requires-2-clause-number g c).After-stands).first.number

pub take_piece-requires-2-clause-fits : goal.take_piece-requires-2-clause-fits
take_piece-requires-2-clause-fits g c = (pieces g (goal.at.take_piece-requires-2-clause-fits g c).After-stands).first.fits

pub take_piece-requires-3-clause-version : goal.take_piece-requires-3-clause-version
take_piece-requires-3-clause-version g c = (pieces g (goal.at.take_piece-requires-3-clause-version g c).After-stands).of.bounds

pub take_piece-requires-3-clause-number : goal.take_piece-requires-3-clause-number
take_piece-requires-3-clause-number g c =
    let at = goal.at.take_piece-requires-3-clause-number g c in
    ((pieces g at.After-stands).second (some g at.Else-skip-out)).number

pub take_piece-requires-3-clause-fits : goal.take_piece-requires-3-clause-fits
take_piece-requires-3-clause-fits g c =
    let at = goal.at.take_piece-requires-3-clause-fits g c in
    ((pieces g at.After-stands).second (some g at.Else-skip-out)).fits

pub returns-then-skip-out-clause-bytes : goal.returns-then-skip-out-clause-bytes
returns-then-skip-out-clause-bytes g c = λ all ok.
    let leaf = c.args.leaf in
    let of = (pieces g (goal.at.returns-then-skip-out-clause-bytes g c).After-stands).of in
    c.take_piece.ensures.bytes all ok
    ∙ taken_first c.args.source.now.view.now leaf.version leaf.page leaf.parts c.requires.leaf of _ (length c.args.out.now) c.args.begin (omega (arith, c.if-skip-out.true))
    (omega (arith, c.requires.low, c.requires.leaf.start))

pub returns-then-skip-out-clause-failed : goal.returns-then-skip-out-clause-failed
returns-then-skip-out-clause-failed g c = λ no. record {
  number = c.args.leaf.parts.first.page;
  piece = (pieces g (goal.at.returns-then-skip-out-clause-failed g c).After-stands).first_in;
  failed = c.take_piece.ensures.failed no;
}

pub returns-then-first-skip-clause-bytes : goal.returns-then-first-skip-clause-bytes
returns-then-first-skip-clause-bytes g c = λ all ok.
    let leaf = c.args.leaf in
    let at = goal.at.returns-then-first-skip-clause-bytes g c in
    c.take_piece-then-first-skip.ensures.bytes all ok
    ∙ taken_second c.args.source.now.view.now leaf.version leaf.page leaf.parts c.requires.leaf (pieces g at.After-stands).of _ (length c.args.out.now) c.args.begin (some g at.Else-skip-out)
    (omega (arith, c.requires.high, c.requires.low, c.if-first-skip.true)) (omega (arith, c.requires.low, c.requires.leaf.start, c.if-first-skip.true))

pub returns-then-first-skip-clause-failed : goal.returns-then-first-skip-clause-failed
returns-then-first-skip-clause-failed g c = λ no.
    let at = goal.at.returns-then-first-skip-clause-failed g c in
    record {
      number = c.args.leaf.parts.second.page;
      piece = (pieces g at.After-stands).second_in (some g at.Else-skip-out);
      failed = c.take_piece-then-first-skip.ensures.failed no;
    }

pub returns-then-not-take_piece-clause-failed : goal.returns-then-not-take_piece-clause-failed
returns-then-not-take_piece-clause-failed g c = λ no. record {
  number = c.args.leaf.parts.first.page;
  piece = (pieces g (goal.at.returns-then-not-take_piece-clause-failed g c).After-stands).first_in;
  failed = c.take_piece-2.ensures.failed c.if-not-take_piece.true;
}

pub returns-clause-bytes : goal.returns-clause-bytes
returns-clause-bytes g c = λ all ok.
    let s = c.args.source.now.view.now in
    let leaf = c.args.leaf in
    let at = goal.at.returns-clause-bytes g c in
    let of = (pieces g at.After-stands).of in
    let n = length c.args.out.now in
    let begin = c.args.begin in
    let page = page_in s leaf.version leaf.page in
    let front = length c.split_at_mut-front.result.0.now in
    let back = length c.split_at_mut-front.result.1.now in
    let cut = c.split_at_mut-front.ensures.front_len in
    let rest = c.split_at_mut-front.ensures.back_len in
    let first = c.take_piece-2.ensures.bytes all c.if-not-take_piece.false
    ∙ taken_first s leaf.version leaf.page leaf.parts c.requires.leaf of _ front begin (omega (arith, cut, c.if-first-skip.false)) (omega (arith, c.requires.low, c.requires.leaf.start)) in
    let second = c.take_piece-3.ensures.bytes (c.take_piece-2.ensures.truth_stays all) ok
    ∙ taken_second s leaf.version leaf.page leaf.parts c.requires.leaf of _ back (begin + front) (some g at.Else-skip-out)
    (omega (arith, cut, rest, c.requires.high, c.requires.low, c.if-first-skip.false)) (omega (arith, cut, c.requires.low, c.requires.leaf.start, c.if-first-skip.false)) in
    let whole : begin + front + back ≡ begin + n = omega (arith, cut, rest) in
    ap (λ l. l ++ c.take_piece-3.new.out) first ∙ ap (λ l. slice_range page begin (begin + front) ++ l) (second ∙ ap (slice_range page (begin + front)) whole)
    ∙ range_join page begin (begin + front) (begin + n) (omega arith) (omega (arith, whole))

pub returns-clause-failed : goal.returns-clause-failed
returns-clause-failed g c = λ no.
    let at = goal.at.returns-clause-failed g c in
    record {
      number = c.args.leaf.parts.second.page;
      piece = (pieces g at.After-stands).second_in (some g at.Else-skip-out);
      failed = stored_since c.args.source.now.view.now _ _ _ c.args.leaf.version _ c.take_piece-2.ensures.kept.none_fell (c.take_piece-3.ensures.failed no);
    }

pub returns-clause-counted : goal.returns-clause-counted
returns-clause-counted g c = λ no. risen_since _ _ _ c.take_piece-2.ensures.kept.total (c.take_piece-3.ensures.counted no)

pub returns-clause-kept : goal.returns-clause-kept
returns-clause-kept g c = kept_twice _ _ _ _ _ _ c.take_piece-2.ensures.kept c.take_piece-3.ensures.kept

pub returns-clause-truth_stays : goal.returns-clause-truth_stays
returns-clause-truth_stays g c = λ all. c.take_piece-3.ensures.truth_stays (c.take_piece-2.ensures.truth_stays all)
