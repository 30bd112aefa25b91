use Rattle.std.proofs.Common.{ap, ◌∙◌, map}
use Rattle.publisher.specs.Windows.{version_of}
use Rattle.publisher.specs.WindowInvariant.{row_in}
use Rattle.publisher.proofs.Windows.{told, version_is}
use Rattle.publisher.proofs.window.Window.snapshot.Goals as goal

pub returns : goal.returns
returns g c =
    let w = c.self.inside in
    version_is w.snapshot w.waiting (map row_in w.slots.items) c.self.invariant.0.least ∙ ap version_of (told c.self.view_is)
