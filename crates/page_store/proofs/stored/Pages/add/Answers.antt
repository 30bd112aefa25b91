use Rattle.std.proofs.Common.{[], ◌∷◌, ◌++◌, arith, refl, ap, sym, subst, ◌∙◌, List}
use Rattle.page_store.specs.Stored.{Stored, IsCut}
use Rattle.page_store.specs.PagesInvariant.{pages_in, room_in}
use Rattle.page_store.specs.declared.stored.PageList.{PageList}
use Rattle.page_store.proofs.Cuts.{IsCut-push}
use Rattle.page_store.proofs.Keeping.{keeps_more}
use Rattle.page_store.proofs.stored.Pages.add.Goals as goal

pub invariant_of-self-in-Several : goal.invariant_of-self-in-Several
invariant_of-self-in-Several c =
    let i = c.self.inside in
    let more = c.push_reserved.ensures.items ∙ ap (λ (l : PageList). pages_in l ++ c.args.page ∷ []) (sym c.in-Several.is) in
    let room = c.push_reserved.ensures.capacity ∙ ap room_in (sym c.in-Several.is) in
    let free = rw (← c.self.view_is) at c.requires.room in
    let full = rw (← c.self.view_is) at c.requires.full in
    let fits = rw (← c.self.view_is) at c.requires.fits in
    keeps_more i _ c.args.page c.self.invariant more refl refl room (omega (arith, c.from.ensures, c.len.ensures)) full c.requires.some fits free

pub returns-in-Several-clause-cut : goal.returns-in-Several-clause-cut
returns-in-Several-clause-cut c =
    let i = c.self.inside in
    let more = c.push_reserved.ensures.items ∙ ap (λ (l : PageList). pages_in l ++ c.args.page ∷ []) (sym c.in-Several.is) in
    let full = rw (← c.self.view_is) at c.requires.full in
    let fits = rw (← c.self.view_is) at c.requires.fits in
    let P : List Stored → Type 0 = λ l. IsCut i.page_size l in
    subst P (sym more) (IsCut-push i.page_size (pages_in i.pages) c.args.page full c.requires.some fits)
