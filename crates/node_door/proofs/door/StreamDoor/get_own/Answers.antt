use Rattle.std.proofs.Common.{◌∙◌, ℕ, length, refl, sym, ap, append-nil}
use Rattle.page_store.specs.declared.door.GetAnswer.TheVariants as get
use Rattle.page_node.specs.declared.form.NodeRequest.TheVariants as Requests
use Rattle.page_node.specs.Said.{asked}
use Rattle.node_door.specs.Door.{DoorAt}
use Rattle.node_door.proofs.Calls.{get_spent, get_given, get_failed, own_want}
use Rattle.node_door.proofs.door.StreamDoor.get_own.Goals as goal

pub returns-then-is_spent-clause-asked : goal.returns-then-is_spent-clause-asked
returns-then-is_spent-clause-asked g c = get_spent c.args.self.now _ _ c.args.id c.args.from _ refl (ap (λ (d : DoorAt). d.spent) (sym c.self.view_is) ∙ sym c.is_spent.ensures ∙ c.if-is_spent.true) c.fail.ensures

pub returns-then-is_same-clause-asked : goal.returns-then-is_same-clause-asked
returns-then-is_same-clause-asked g c =
    own_want _ _ c.args.id c.args.from _ _ get.Got c.copy_to.ensures
    (get_given _ _ _ c.copy_to.new.out _ _ _ c.args.id c.args.from c.talk-exchanged.result c.self.view_is (sym c.is_spent.ensures ∙ c.if-is_spent.false)
    (append-nil c.as_slice.result.now ∙ c.as_slice.ensures.value ∙ c.get_frame-front.ensures ∙ ap (λ (f : ℕ). asked (Requests.Get c.args.id f (length c.copy_to.new.out))) c.from.ensures)
    c.talk-exchanged.ensures (c.is_same.ensures.same c.if-is_same.true))

pub returns-clause-asked : goal.returns-clause-asked
returns-clause-asked g c =
    own_want _ _ c.args.id c.args.from _ _ get.Failed c.copy_to.ensures
    (get_failed _ _ _ _ c.copy_to.new.out _ _ _ c.args.id c.args.from c.talk-exchanged.result c.self.view_is (sym c.is_spent.ensures ∙ c.if-is_spent.false)
    (append-nil c.as_slice.result.now ∙ c.as_slice.ensures.value ∙ c.get_frame-front.ensures ∙ ap (λ (f : ℕ). asked (Requests.Get c.args.id f (length c.copy_to.new.out))) c.from.ensures)
    c.talk-exchanged.ensures (c.is_same.ensures.other c.if-is_same.false) c.fail-2.ensures)
