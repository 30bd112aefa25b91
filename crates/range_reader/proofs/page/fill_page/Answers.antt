use Rattle.std.proofs.Common.{ℕ, length, arith, sym, ◌∙◌, subst}
use Rattle.range_reader.specs.Faults.{IsLedTo, Newest}
use Rattle.range_reader.proofs.Along.{same_backs}
use Rattle.range_reader.proofs.Going.{newest_length, newest_bytes}
use Rattle.range_reader.proofs.Narrowing.{alike_slice}
use Rattle.range_reader.specs.Reading.{falls, page_in}
use Rattle.range_reader.proofs.page.fill_page.Goals as goal

pub first_with-version-requires-clause-fits : goal.first_with-version-requires-clause-fits
first_with-version-requires-clause-fits g c =
    let fits = c.stands.ensures.fits (length c.args.source.now.view.now.rows) (omega arith) in
    omega (arith, c.requires.valid, fits)

pub first_with-version-requires-clause-valid : goal.first_with-version-requires-clause-valid
first_with-version-requires-clause-valid g c =
    let held = newest_length c.page_bytes_stay.ensures.bytes c.args.source.now.view.now c.stands.ensures c.args.page c.args.newest c.requires.newest in
    omega (arith, held, c.requires.within, c.requires.valid)

pub returns-then-has_all-clause-bytes : goal.returns-then-has_all-clause-bytes
returns-then-has_all-clause-bytes g c = λ all ok.
    let s = c.args.source.now.view.now in
    let n = length c.args.out.now in
    let held = newest_length c.page_bytes_stay.ensures.bytes s c.stands.ensures c.args.page c.args.newest c.requires.newest in
    c.take_leaf.ensures.bytes all ok
    ∙ alike_slice (page_in s c.args.newest c.args.page) (page_in s c.first_with-version.result.0 c.args.page) c.args.begin n (omega (arith, held, c.requires.within, c.requires.valid)) c.first_with-version.ensures.alike
    ∙ newest_bytes c.page_bytes_stay.ensures.bytes s c.stands.ensures c.args.page c.args.newest c.args.begin n c.requires.newest c.requires.within c.requires.valid

pub returns-then-has_all-clause-failed : goal.returns-then-has_all-clause-failed
returns-then-has_all-clause-failed g c = λ no.
    let s = c.args.source.now.view.now in
    let f = c.take_leaf.ensures.failed no in
    let P : ℕ → Type 0 = λ j. IsLedTo s c.args.page j in
    record {
      version = c.first_with-version.result.0;
      number = f.number;
      needed = record { led = c.first_with-version.ensures.led (subst P (sym c.requires.newest) Newest); has = c.first_with-version.ensures.has; piece = f.piece };
      failed = f.failed;
    }

pub returns-then-has_all-clause-steps : goal.returns-then-has_all-clause-steps
returns-then-has_all-clause-steps g c =
    let s = c.args.source.now.view.now in
    omega (
      arith,
      same_backs c.newest_is_greatest.ensures.greatest c.backs_step.ensures s.page_size (length s.rows) c.args.newest c.args.page (falls s) c.requires.has c.requires.newest,
      c.first_with-version.ensures.steps,
    )

pub fill_ends-requires-clause-led : goal.fill_ends-requires-clause-led
fill_ends-requires-clause-led g c =
    let s = c.args.source.now.view.now in
    let P : ℕ → Type 0 = λ j. IsLedTo s c.args.page j in
    c.first_with-version.ensures.led (subst P (sym c.requires.newest) Newest)

pub fill_ends-requires-clause-valid : goal.fill_ends-requires-clause-valid
fill_ends-requires-clause-valid g c = c.first_with-version.ensures.alike.valid

pub fill_ends-requires-clause-fits : goal.fill_ends-requires-clause-fits
fill_ends-requires-clause-fits g c =
    let fits = c.stands.ensures.fits (length c.args.source.now.view.now.rows) (omega arith) in
    omega (arith, c.requires.valid, fits)

pub returns-clause-bytes : goal.returns-clause-bytes
returns-clause-bytes g c = λ all ok.
    let s = c.args.source.now.view.now in
    let n = length c.args.out.now in
    let held = newest_length c.page_bytes_stay.ensures.bytes s c.stands.ensures c.args.page c.args.newest c.requires.newest in
    c.fill_ends.ensures.bytes all ok
    ∙ alike_slice (page_in s c.args.newest c.args.page) (page_in s c.first_with-version.result.0 c.args.page) c.args.begin n (omega (arith, held, c.requires.within, c.requires.valid)) c.first_with-version.ensures.alike
    ∙ newest_bytes c.page_bytes_stay.ensures.bytes s c.stands.ensures c.args.page c.args.newest c.args.begin n c.requires.newest c.requires.within c.requires.valid

pub returns-clause-steps : goal.returns-clause-steps
returns-clause-steps g c =
    let s = c.args.source.now.view.now in
    omega (
      arith,
      same_backs c.newest_is_greatest.ensures.greatest c.backs_step.ensures s.page_size (length s.rows) c.args.newest c.args.page (falls s) c.requires.has c.requires.newest,
      c.first_with-version.ensures.steps,
      c.fill_ends.ensures.steps,
    )
