use Rattle.std.proofs.Common.{◌∙◌, ℕ, List, length, refl, sym, ap, arith, inl, inr, true≢false}
use Rattle.items.proofs.FramesHeard.{whole_is}
use Rattle.page_node.specs.declared.form.NodeFault.TheVariants as Faults
use Rattle.page_node.specs.declared.form.NodeReply.TheVariants as Replies
use Rattle.node_door.proofs.Replies.{same_test}
use Rattle.items.proofs.Texts.{tail_is}
use Rattle.node_door.proofs.Looping.{replied_by, replied_as, item_long, item_empty, item_none}
use Rattle.node_door.proofs.loop_link.reply.Goals as goal
use Rattle.node_door.proofs.loop_link.reply.Goals.{else-operation-eq13-via-then-operation-eq13+else-is_empty, else-operation-eq13-via-else-operation-eq13}

pub returns-then-count-gt-MAX_FRAME-clause-replied : goal.returns-then-count-gt-MAX_FRAME-clause-replied
returns-then-count-gt-MAX_FRAME-clause-replied c =
    replied_as _ _ c.args.room c.args.shelf.now c.args.shelf.now _ _ _ (item_long c.args.frame.now (omega (arith, c.length_of-count.ensures, c.if-count-gt-MAX_FRAME.true)))
    (replied_by _ c.args.room c.args.shelf.now _ _ _ _ (Replies.Refused (Faults.FrameTooLong c.from-length.result)) (ap (λ (n : ℕ). Replies.Refused (Faults.FrameTooLong n)) (c.from-length.ensures ∙ c.length_of-count.ensures)) refl refl
    c.refuse.ensures.done c.refuse.ensures.not)

pub returns-then-frame-eq4-clause-replied : goal.returns-then-frame-eq4-clause-replied
returns-then-frame-eq4-clause-replied c =
    replied_as _ _ c.args.room c.args.shelf.now c.args.shelf.now _ _ _ (item_empty c.args.frame.now (omega (arith, c.length_of-count.ensures, c.if-count-gt-MAX_FRAME.false)) c.if-frame-eq4.true)
    (replied_by _ c.args.room c.args.shelf.now _ _ _ _ (Replies.Refused Faults.BadFrame) refl refl refl c.refuse-then-frame-eq4.ensures.done c.refuse-then-frame-eq4.ensures.not)

pub returns-clause-replied : goal.returns-clause-replied
returns-clause-replied c =
    let frame : List ℕ = c.args.frame.now in
    let four = (whole_is frame c.requires.whole).0 in
    let not_four = c.if-frame-eq4.false in
    let rest = tail_is frame 5 (omega (arith, four, not_four)) in
    replied_as _ _ c.args.room c.args.shelf.now c.args.shelf.now _ _ _
    (item_none frame (omega (arith, c.length_of-count.ensures, c.if-count-gt-MAX_FRAME.false)) (omega (arith, four, not_four)) c.if-operation-eq32.false
    (λ e k. elim c.else-operation-eq33.either [ inl both ↦ both.1 (ap (λ (l : List ℕ). length l) rest ∙ k) | inr other ↦ other e ])
    (λ e k. elim c.else-operation-eq13.branch [ else-operation-eq13-via-then-operation-eq13+else-is_empty w ↦ true≢false (sym (same_test _ 0 (ap (λ (l : List ℕ). length l) rest ∙ k)) ∙ sym w.is_empty.ensures ∙ w.if-is_empty.false) | else-operation-eq13-via-else-operation-eq13 w ↦ w.if-operation-eq13.false e ]))
    (replied_by _ c.args.room c.args.shelf.now _ _ _ _ (Replies.Refused Faults.BadFrame) refl refl refl c.refuse-2.ensures.done c.refuse-2.ensures.not)
