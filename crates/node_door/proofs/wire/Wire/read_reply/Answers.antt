use Rattle.std.proofs.Common.{◌∙◌, ◌∷◌, [], ℕ, sym, ap, arith}
use Rattle.items.specs.BegunFrame.{frame_part}
use Rattle.node_door.proofs.Passing.{hears_behind, hears_cast}
use Rattle.node_door.proofs.wire.Wire.read_reply.Goals as goal

pub returns-then-operation-clause-hears : goal.returns-then-operation-clause-hears
returns-then-operation-clause-hears g c =
    let n : ℕ = c.head_of-length.result.0 in
    let some = c.begins_reply.ensures.some c.if-not-begins_reply.false in
    hears_behind c.args.want.now _ _ _ _ _ c.fill.result _ c.if-not-fill.false c.fill.ensures.fills c.head_of-length.ensures
    (hears_cast c.args.want.now _ _ _ _ _
    (ap (λ (m : ℕ). frame_part m (161 ∷ [])) (omega arith) ∙ ap (λ (o : ℕ). frame_part n (o ∷ [])) (sym c.if-operation.true)) c.read_given.ensures.hears)

pub returns-else-operation-clause-hears : goal.returns-else-operation-clause-hears
returns-else-operation-clause-hears g c =
    let n : ℕ = c.head_of-length.result.0 in
    let some = c.begins_reply.ensures.some c.if-not-begins_reply.false in
    hears_behind c.args.want.now _ _ _ _ _ c.fill.result _ c.if-not-fill.false c.fill.ensures.fills c.head_of-length.ensures
    (hears_cast c.args.want.now _ _ _ _ _ (ap (λ (m : ℕ). frame_part m (c.head_of-length.result.1 ∷ [])) (omega arith)) c.read_fields.ensures.hears)
