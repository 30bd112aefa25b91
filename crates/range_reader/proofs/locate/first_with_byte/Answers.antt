use Rattle.std.proofs.Common.{ℕ, length, arith, sym, subst}
use Rattle.range_reader.specs.Reading.{falls}
use Rattle.range_reader.specs.Holders.{IsReached, Newest}
use Rattle.range_reader.proofs.Along.{same_backs}
use Rattle.range_reader.proofs.Holding.{valid_newest, byte_in}
use Rattle.range_reader.proofs.locate.first_with_byte.Goals as goal

pub first_with-requires-clause-fits : goal.first_with-requires-clause-fits
first_with-requires-clause-fits g c =
    let fits = c.stands.ensures.fits (length c.args.snapshot.now.rows) (omega arith) in
    omega (arith, c.requires.valid, fits)

pub first_with-requires-clause-valid : goal.first_with-requires-clause-valid
first_with-requires-clause-valid g c =
    let valid = valid_newest c.page_bytes_stay.ensures.bytes c.args.snapshot.now c.stands.ensures c.args.page c.args.newest c.args.byte c.requires.newest c.requires.within c.requires.valid in
    omega (arith, valid)

pub returns-clause-reached : goal.returns-clause-reached
returns-clause-reached g c =
    let P : ℕ → Type 0 = λ j. IsReached c.args.snapshot.now c.args.page c.args.byte j in
    c.first_with.ensures.reached c.args.byte (omega arith) (omega arith) (subst P (sym c.requires.newest) Newest)

pub returns-clause-has : goal.returns-clause-has
returns-clause-has g c = byte_in c.args.snapshot.now c.first_with.result.0 c.args.page c.args.byte c.first_with.result.1 c.first_with.ensures.leaf c.first_with.ensures.met

pub returns-clause-steps : goal.returns-clause-steps
returns-clause-steps g c =
    let s = c.args.snapshot.now in
    omega (
      arith,
      same_backs c.newest_is_greatest.ensures.greatest c.backs_step.ensures s.page_size (length s.rows) c.args.newest c.args.page (falls s) c.requires.stands c.requires.newest,
      c.first_with.ensures.steps,
    )
