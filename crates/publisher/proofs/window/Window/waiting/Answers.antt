use Rattle.std.proofs.Common.{ap, ◌∙◌, map}
use Rattle.publisher.specs.Windows.{waiting_of}
use Rattle.publisher.specs.WindowInvariant.{row_in}
use Rattle.publisher.proofs.Windows.{told, waiting_is}
use Rattle.publisher.proofs.window.Window.waiting.Goals as goal

pub returns : goal.returns
returns g c =
    let w = c.self.inside in
    waiting_is w.snapshot w.waiting (map row_in w.slots.items) c.self.invariant.0 ∙ ap waiting_of (told c.self.view_is)
