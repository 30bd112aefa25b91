use Rattle.std.proofs.Common.{◌≡◌, ℕ, List, length}
use Rattle.std.specs.Prelude.{All}
use Rattle.std.proofs.lemmas.List.Elements.{All-weaker}
use Rattle.std.proofs.lemmas.Option.{get_or_from_slice_get}
use Rattle.page_store.specs.House.{House, IsProvider}
use Rattle.page_store.specs.Page.{Spot, IsAmong}
use Rattle.page_tests.proofs.pages.fetched.Goals as goal

-- a page that is among as many houses as there are doors has doors
served : (houses : List House) (doors : ℕ) (spots : List Spot) → doors ≡ length houses → All (IsAmong houses) spots → All (λ spot. IsProvider doors spot.provider) spots
served houses doors spots same among =
    All-weaker (IsAmong houses) (λ (spot : Spot). IsProvider doors spot.provider) (λ spot is. rw same is.known) spots among

pub fetch-requires-clause-here : goal.fetch-requires-clause-here
fetch-requires-clause-here g c =
    let page = c.page-page.result.now in
    let here = c.requires.here c.args.i page c.requires.page in
    rw (get_or_from_slice_get c.args.pages.now.pages c.args.i page page c.page-page.ensures.this) at here

pub fetch-requires-clause-served : goal.fetch-requires-clause-served
fetch-requires-clause-served g c =
    let page = c.page-page.result.now in
    let here = c.requires.here c.args.i page c.requires.page in
    let among = rw (get_or_from_slice_get c.args.pages.now.pages c.args.i page page c.page-page.ensures.this) at here in
    served _ _ _ c.requires.doors among
