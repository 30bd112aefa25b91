use Rattle.std.proofs.Common.{◌≡◌, Some, slice_get, refl, arith}
use Rattle.std.proofs.lemmas.Option.{slice_get_read}
use Rattle.page_store.specs.PagesInvariant.{pages_in}
use Rattle.page_store.proofs.Cuts.{page_range}
use Rattle.page_store.proofs.stored.Pages.page.Goals as goal

pub returns-in-Several-clause-bytes : goal.returns-in-Several-clause-bytes
returns-in-Several-clause-bytes c =
    let i = c.self.inside in
    let here = rw c.in-Several.is at (rw (← c.self.view_is) at c.requires) in
    let read = slice_get_read c.in-Several.pages.items _ c.args.i _ refl (omega (arith, here)) c.index.ensures in
    let at : slice_get (pages_in i.pages) c.args.i ≡ Some c.index.result.now = rw c.in-Several.is read in
    rw (← c.self.view_is) (page_range i.page_size (pages_in i.pages) c.args.i c.index.result.now c.self.invariant.cut at)
