use Rattle.std.proofs.Common.{◌∙◌, ◌∷◌, ℕ, List, length, sym, ap, arith}
use Rattle.frame_wire.specs.Requests.{number_at}
use Rattle.frame_wire.specs.Said.{frame_of}
use Rattle.page_node.specs.Grammar.{is_refusal}
use Rattle.node_door.proofs.Replies.{whole_is_frame, refusal_other, refusal_outside, short_refusal, not_nine, is_nine, nine_has}
use Rattle.node_door.proofs.wire.refusal.Goals as goal

pub returns-then-fields-lt8 : goal.returns-then-fields-lt8
returns-then-fields-lt8 c = refusal_outside c.args.fields.now c.requires (short_refusal (number_at 0 c.args.fields.now) (length c.args.fields.now) c.if-fields-lt8.true)

pub returns-then-not-is_refusal : goal.returns-then-not-is_refusal
returns-then-not-is_refusal c = refusal_outside c.args.fields.now c.requires (ap (λ (n : ℕ). is_refusal n (length c.args.fields.now)) (sym c.number_at-number.ensures) ∙ sym c.is_refusal.ensures ∙ c.if-not-is_refusal.true)

pub returns-then-number-eq9 : goal.returns-then-number-eq9
returns-then-number-eq9 c =
    let fields : List ℕ = c.args.fields.now in
    whole_is_frame 255 fields
    ∙ ap (λ (l : List ℕ). frame_of (255 ∷ l))
    (sym (is_nine fields (nine_has c.number_at-number.result (length fields) (sym c.is_refusal.ensures ∙ c.if-not-is_refusal.false) c.if-number-eq9.true) (λ i. omega (arith, c.type_inv.fields i)) (sym c.number_at-number.ensures ∙ c.if-number-eq9.true)))

pub returns-else-number-eq9 : goal.returns-else-number-eq9
returns-else-number-eq9 c =
    let fields : List ℕ = c.args.fields.now in
    refusal_other fields c.args.want.now c.requires
    (ap (λ (n : ℕ). is_refusal n (length fields)) (sym c.number_at-number.ensures) ∙ sym c.is_refusal.ensures ∙ c.if-not-is_refusal.false)
    (not_nine fields (λ e. c.if-number-eq9.false (c.number_at-number.ensures ∙ e)))
