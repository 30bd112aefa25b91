use Rattle.std.proofs.Common.{◌≡◌, subst, sym, Some, rules}
use Rattle.file_names.specs.Tree.{IsListing}
use Rattle.file_names.specs.Folders.{entries_at}
use Rattle.file_names.proofs.Listings.{listing_ok}
use Rattle.file_names.proofs.names.Names.list_folder.Goals as goal

pub returns-in-Ok : goal.returns-in-Ok
returns-in-Ok c =
    let at : entries_at c.self.inside.folders c.args.path.now ≡ Some c.in-Some.entries.now = search rules in
    let listing = listing_ok c.self.inside.history.items c.self.inside.folders c.self.invariant c.args.path.now c.requires.path c.in-Some.entries.now at c.in-Ok.ensures.in_order c.in-Ok.ensures.found in
    subst (λ log. IsListing log c.args.path.now c.in-Ok.listing) c.self.view_is (subst (λ l. IsListing c.self.inside.history.items c.args.path.now l) (sym c.in-Ok.ensures.listed) listing)
