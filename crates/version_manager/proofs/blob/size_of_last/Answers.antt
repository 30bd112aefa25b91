use Rattle.std.proofs.Common.{◌-◌, sym, ap, ◌∙◌, arith, length}
use Rattle.range_log.specs.Open.{open_at}
use Rattle.snapshot.specs.Versions.{size_now}
use Rattle.version_manager.proofs.Blobs.{size_alone, last_size}
use Rattle.version_manager.proofs.blob.size_of_last.Goals as goal

pub returns-in-0 : goal.returns-in-0
returns-in-0 c limits b k =
    let is = c.stands.ensures.version in
    c.size.ensures.size
    ∙ ap size_now c.snapshot.ensures
    ∙ size_alone limits c.args.window.now.numbered b k (omega arith) is (sym (ap length c.waiting-waiting.ensures) ∙ sym c.count.ensures.count ∙ c.in-0.is)

pub returns-in_default : goal.returns-in_default
returns-in_default c limits b k =
    let count = ap length c.waiting-waiting.ensures in
    ap (λ o. o.touch.size) c.at.ensures
    ∙ ap (λ l. (open_at l (c.count.result - 1)).touch.size) c.waiting-waiting.ensures
    ∙ last_size limits c.args.window.now.numbered b k (omega arith) (c.count.result - 1) (omega arith)
