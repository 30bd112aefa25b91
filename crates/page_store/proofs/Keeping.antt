-- Pages of one update that keep what they should.
use Rattle.std.proofs.Common.{◌≡◌, ◌+◌, ◌<◌, ◌≤◌, [], ◌∷◌, ◌++◌, length, arith, ap, ◌∙◌, length-append}
use Rattle.page_store.specs.Stored.{Stored, bytes_of_pages, AllFull}
use Rattle.page_store.specs.PagesInvariant.{KeepsPages, pages_in, room_in}
use Rattle.page_store.specs.declared.stored.Pages.TheInside.{Inside}
use Rattle.page_store.proofs.Cuts.{IsCut-push, length-bytes_of_pages-push}

-- one more page after full ones
pub keeps_more : (g h : Inside) (page : Stored) → KeepsPages g → pages_in h.pages ≡ pages_in g.pages ++ page ∷ [] → h.page_size ≡ g.page_size → h.room ≡ g.room
    → room_in h.pages ≡ room_in g.pages → h.len ≡ g.len + length page.bytes → AllFull g.page_size (pages_in g.pages) → 1 ≤ length page.bytes → length page.bytes ≤ g.page_size
    → length (pages_in g.pages) < g.room → KeepsPages h
keeps_more g h page kept more size room capacity len full some fits free =
    let count = ap length more ∙ length-append (pages_in g.pages) (page ∷ []) in
    let total = ap (λ l. length (bytes_of_pages l)) more ∙ length-bytes_of_pages-push (pages_in g.pages) page in
    record {
      least = omega (arith, kept.least);
      greatest = omega (arith, kept.greatest);
      fewer = omega (arith, count);
      reserved = omega (arith, kept.reserved);
      total = omega (arith, total, kept.total);
      bounded = rw (size, count) (omega (arith, kept.bounded));
      cut = rw (size, more) (IsCut-push g.page_size (pages_in g.pages) page full some fits);
    }
