use Rattle.std.proofs.Common.{sym, ◌∙◌, map}
use Rattle.publisher.specs.WindowInvariant.{row_in}
use Rattle.publisher.proofs.Windows.{told, counts}
use Rattle.publisher.proofs.window.Window.published.Goals as goal

pub returns : goal.returns
returns g c =
    let w = c.self.inside in
    c.version.ensures.count ∙ sym (counts w.snapshot w.waiting (map row_in w.slots.items) c.args.self.now.numbered (told c.self.view_is) c.self.invariant.0).published
