use Rattle.std.proofs.Common.{subst, ap, map, length, arith}
use Rattle.std.proofs.lemmas.List.{length-map}
use Rattle.snapshot.specs.Versions.{Version, IsVersion}
use Rattle.publisher.specs.Windows.{WindowState}
use Rattle.publisher.specs.WindowInvariant.{row_in, update_in}
use Rattle.publisher.proofs.Windows.{told, counts}
use Rattle.publisher.proofs.window.Window.stands.Goals as goal

pub returns-clause-version : goal.returns-clause-version
returns-clause-version g c =
    let P : Version → Type 0 = λ s. IsVersion s in
    subst P c.snapshot.ensures c.stands.ensures

pub returns-clause-waits : goal.returns-clause-waits
returns-clause-waits g c =
    let w = c.self.inside in
    let items = w.slots.items in
    let n = counts w.snapshot w.waiting (map row_in items) c.args.self.now.numbered (told c.self.view_is) c.self.invariant.0 in
    let given = ap (λ (x : WindowState g.row.U.Denot). length x.updates) c.self.view_is in
    omega (arith, n.published, n.assigned, given, length-map items update_in, length-map items row_in, c.self.invariant.0.paired)
