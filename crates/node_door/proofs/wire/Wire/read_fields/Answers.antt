use Rattle.std.proofs.Common.{◌∙◌, ◌∷◌, ◌+◌, ℕ, List, [], take, sym, ap, arith}
use Rattle.std.proofs.lemmas.List.{length-take-le}
use Rattle.items.specs.BegunFrame.{frame_part}
use Rattle.items.proofs.FrameBegun.{frame_part-append}
use Rattle.node_door.proofs.Passing.{hears_told}
use Rattle.node_door.proofs.Replies.{has_few}
use Rattle.node_door.proofs.wire.Wire.read_fields.Goals as goal

pub returns : goal.returns
returns g c =
    let fields : List ℕ = take c.args.count c.fill_front.new.buf in
    let few = has_few c.args.operation c.args.count c.requires.have c.requires.other in
    record {
      hears = hears_told c.args.want.now _ fields _ _ _ c.fill_front.result c.told.result c.if-not-fill_front.false c.fill_front.ensures.fills
          (frame_part-append (1 + c.args.count) (c.args.operation ∷ []) fields
          ∙ ap (λ (n : ℕ). frame_part (1 + n) (c.args.operation ∷ fields)) (sym (length-take-le c.args.count c.fill_front.new.buf (omega (arith, c.fill_front.ensures.length)))))
          c.told.ensures;
    }
