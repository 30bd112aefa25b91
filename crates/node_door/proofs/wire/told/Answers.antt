use Rattle.std.proofs.Common.{◌∙◌, ◌∷◌, ◌+◌, ℕ, List, length, sym, ap, subst, inl, inr, true≢false}
use Rattle.items.specs.BegunFrame.{frame_part}
use Rattle.frame_wire.specs.Said.{frame_of}
use Rattle.node_door.specs.Link.{IsOther}
use Rattle.node_door.proofs.Replies.{whole_is_frame, bye_other, told_outside, is_same, same_test}
use Rattle.node_door.proofs.wire.told.Goals as goal
use Rattle.node_door.proofs.wire.told.Goals.{else-operation-eq141-via-then-operation-eq141+else-is_empty, else-operation-eq141-via-else-operation-eq141}

pub returns-then-fields-eq8 : goal.returns-then-fields-eq8
returns-then-fields-eq8 c =
    ap (λ (n : ℕ). frame_part (1 + length c.args.fields.now) (n ∷ c.args.fields.now)) c.if-operation-eq160.true
    ∙ whole_is_frame 160 c.args.fields.now
    ∙ ap (λ (l : List ℕ). frame_of (160 ∷ l)) (sym c.number.ensures)

pub returns-then-is_empty : goal.returns-then-is_empty
returns-then-is_empty c =
    subst (λ (n : ℕ). IsOther c.args.want.now (frame_part (1 + length c.args.fields.now) (n ∷ c.args.fields.now))) (sym c.if-operation-eq141.true)
    (bye_other c.args.fields.now c.args.want.now (is_same (length c.args.fields.now) 0 (sym c.is_empty.ensures ∙ c.if-is_empty.true)))

pub returns : goal.returns
returns c =
    told_outside c.args.operation c.args.fields.now c.requires.few c.requires.other
    (λ e k. elim c.else-operation-eq160.either [ inl both ↦ both.1 k | inr other ↦ other e ])
    (λ e k. elim c.else-operation-eq141.branch [ else-operation-eq141-via-then-operation-eq141+else-is_empty w ↦ true≢false (sym (same_test (length c.args.fields.now) 0 k) ∙ sym w.is_empty.ensures ∙ w.if-is_empty.false) | else-operation-eq141-via-else-operation-eq141 w ↦ w.if-operation-eq141.false e ])
    (λ e. c.if-operation-eq255.false e)
