use Rattle.std.proofs.Common.{◌≡◌, drop}
use Rattle.blob_core.specs.World.{page_at}
use Rattle.blob_core.proofs.finds.find_page.Given as goal

abbrev pub invariant-loop-entry : goal.invariant-loop-entry
invariant-loop-entry l = page_at (drop l.entry-index l.pages) l.page ≡ page_at l.pages l.page
