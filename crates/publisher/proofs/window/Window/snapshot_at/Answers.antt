use Rattle.std.proofs.Common.{◌≡◌, IfOk, arith, ap, ◌∙◌, subst, map}
use Rattle.snapshot.specs.Versions.{Version, older_version}
use Rattle.publisher.specs.Windows.{version_of}
use Rattle.publisher.specs.WindowInvariant.{row_in}
use Rattle.publisher.proofs.Windows.{told, counts, version_is}
use Rattle.publisher.proofs.window.Window.snapshot_at.Goals as goal

pub at-requires : goal.at-requires
at-requires g c =
    let w = c.self.inside in
    let n = counts w.snapshot w.waiting (map row_in w.slots.items) c.args.self.now.numbered (told c.self.view_is) c.self.invariant.0 in
    omega (arith, c.requires, n.published)

pub returns : goal.returns
returns g c =
    let w = c.self.inside in
    let P : Version → Type 0 = λ x. IfOk c.at.result (λ s. s ≡ older_version x c.args.version) in
    subst P (version_is w.snapshot w.waiting (map row_in w.slots.items) c.self.invariant.0.least ∙ ap version_of (told c.self.view_is)) c.at.ensures
