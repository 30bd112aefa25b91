use Rattle.std.proofs.Common.{◌≡◌, ℕ, ◌+◌, ◌-◌, ◌*◌, ◌≤◌, List, length, min, arith, ap, subst, ◌∙◌}
use Rattle.std.specs.Prelude.{Some, All, slice_get}
use Rattle.std.proofs.lemmas.Option.{slice_get_within, get_or_from_slice_get}
use Rattle.page_store.specs.House.{House}
use Rattle.page_store.specs.Page.{IsAmong}
use Rattle.page_store.specs.Stored.{Cut, Stored, LieAmong, bytes_of_pages}
use Rattle.page_fan.proofs.Using.{true_at_all}
use Rattle.range_reader.proofs.Counting.{served}
use Rattle.range_reader.proofs.Parts.{length_part}
use Rattle.tree_weaver.proofs.Lost.{can_still}
use Rattle.tree_weaver.proofs.StoredParts.{stored_part}
use Rattle.tree_weaver.proofs.folding.Folding.fetch_stored.Goals as goal

-- a page lies in the houses, where all do
page_lies : (houses : List House) (pages told : Cut) (number : ℕ) (stored : Stored) → told ≡ pages → LieAmong houses pages.pages
    → slice_get told.pages number ≡ Some stored → All (IsAmong houses) stored.spots
page_lies houses pages told number stored same here is =
    let this = rw same at is in
    let Q : Stored → Type 0 = λ s. All (IsAmong houses) s.spots in
    subst Q (get_or_from_slice_get pages.pages number stored stored this) (here number stored (slice_get_within pages.pages number stored this))

pub returns-clause-bytes : goal.returns-clause-bytes
returns-clause-bytes g c = λ ok.
    let t = c.args.self.now.ticket.now in
    c.fetch.ensures.got ok (true_at_all g.D.Door.is_true c.args.doors.now c.page-stored.result.now.spots c.requires.can.true_doors)
    ∙ stored_part t.pages c.deref-3.result.now t.snapshot.page_size c.args.number c.args.skip (length c.args.out.now) c.page-stored.result.now (c.deref-3.ensures ∙ c.pages-pages.ensures)
    c.stands.ensures.page_size c.page-stored.ensures.bytes c.requires.fits (omega (arith, c.requires.within, c.stands.ensures.len))

pub returns-clause-failed : goal.returns-clause-failed
returns-clause-failed g c = λ no.
    record { stored = c.page-stored.result.now; is = rw (c.deref-3.ensures ∙ c.pages-pages.ensures) at c.page-stored.ensures.this; failed = c.fetch.ensures.failed no }

pub returns-clause-kept : goal.returns-clause-kept
returns-clause-kept g c = record { none_fell = c.fetch.ensures.none_fell; total = c.fetch.ensures.sum_never_falls }

pub returns-clause-can : goal.returns-clause-can
returns-clause-can g c = can_still _ _ _ _ c.requires.can c.fetch.ensures.count c.fetch.ensures.truth_stays

pub fetch-requires-clause-here : goal.fetch-requires-clause-here
fetch-requires-clause-here g c =
    page_lies c.args.self.now.houses.now _ _ c.args.number c.page-stored.result.now (c.deref-3.ensures ∙ c.pages-pages.ensures) c.requires.can.pages c.page-stored.ensures.this

pub fetch-requires-clause-served : goal.fetch-requires-clause-served
fetch-requires-clause-served g c =
    let houses = c.args.self.now.houses.now in
    let stored = c.page-stored.result.now in
    served houses (length c.args.doors.now) stored.spots c.requires.can.housed
    (page_lies houses _ _ c.args.number stored (c.deref-3.ensures ∙ c.pages-pages.ensures) c.requires.can.pages c.page-stored.ensures.this)

pub fetch-requires-clause-room : goal.fetch-requires-clause-room
fetch-requires-clause-room g c =
    let t = c.args.self.now.ticket.now in
    let told = c.deref-3.result.now in
    let bytes = bytes_of_pages told.pages in
    let number = c.args.number in
    let same : told ≡ t.pages = c.deref-3.ensures ∙ c.pages-pages.ensures in
    let size = ap (λ (x : Cut). x.page_size) same ∙ c.stands.ensures.page_size in
    let begin : number * told.page_size ≡ number * t.snapshot.page_size = ap (λ x. number * x) size in
    let next : (number + 1) * told.page_size ≡ number * told.page_size + told.page_size = omega arith in
    let all = ap (λ (x : Cut). length (bytes_of_pages x.pages)) same in
    let within : number * told.page_size + c.args.skip + length c.args.out.now ≤ length bytes = omega (arith, begin, all, c.requires.within, c.stands.ensures.len) in
    let part = length_part bytes (number * told.page_size) (min ((number + 1) * told.page_size) (length bytes) - number * told.page_size) (omega (arith, next, within)) in
    omega (arith, ap length c.page-stored.ensures.bytes, part, next, size, within, c.requires.fits)
