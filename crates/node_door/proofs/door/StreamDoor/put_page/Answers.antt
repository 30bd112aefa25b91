use Rattle.std.proofs.Common.{◌∙◌, ◌++◌, ℕ, List, refl, sym, ap}
use Rattle.page_store.specs.declared.door.PutAnswer.TheVariants as put
use Rattle.node_door.specs.declared.wire.Exchanged.TheVariants as Exchange
use Rattle.node_door.specs.Door.{DoorAt}
use Rattle.node_door.proofs.Calls.{put_spent, put_no_room, put_done, put_refused, adds_after}
use Rattle.node_door.proofs.door.StreamDoor.put_page.Goals as goal

pub returns-then-is_spent-clause-put : goal.returns-then-is_spent-clause-put
returns-then-is_spent-clause-put g c = put_spent c.args.self.now _ _ c.args.bytes.now refl (ap (λ (d : DoorAt). d.spent) (sym c.self.view_is) ∙ sym c.is_spent.ensures ∙ c.if-is_spent.true) c.fail.ensures

pub returns-then-is_err-clause-put : goal.returns-then-is_err-clause-put
returns-then-is_err-clause-put g c = put_no_room _ _ c.args.bytes.now _ c.self.view_is (sym c.is_spent.ensures ∙ c.if-is_spent.false) c.reserve.ensures.same

pub returns-in-Ok-clause-put : goal.returns-in-Ok-clause-put
returns-in-Ok-clause-put g c =
    put_done _ _ _ c.args.bytes.now _ _ _ _ _ (put.Stored c.in-Ok.page) (Exchange.Kept c.in-Kept.id) c.self.view_is (sym c.is_spent.ensures ∙ c.if-is_spent.false)
    (ap (λ (l : List ℕ). l ++ c.args.bytes.now) c.as_slice.ensures.value ∙ c.put_front-front.ensures c.args.bytes.now refl)
    c.in-Kept.ensures refl (adds_after _ _ _ _ _ _ c.place.ensures c.reserve.ensures.same c.add.ensures)

pub returns-in-Err-clause-put : goal.returns-in-Err-clause-put
returns-in-Err-clause-put g c =
    put_done _ _ _ c.args.bytes.now _ _ _ _ _ put.NoMemory (Exchange.Kept c.in-Kept.id) c.self.view_is (sym c.is_spent.ensures ∙ c.if-is_spent.false)
    (ap (λ (l : List ℕ). l ++ c.args.bytes.now) c.as_slice.ensures.value ∙ c.put_front-front.ensures c.args.bytes.now refl)
    c.in-Kept.ensures refl c.reserve.ensures.same

pub returns-in-NoMemory-clause-put : goal.returns-in-NoMemory-clause-put
returns-in-NoMemory-clause-put g c =
    put_done _ _ _ c.args.bytes.now _ _ _ _ _ put.NoMemory Exchange.NoMemory c.self.view_is (sym c.is_spent.ensures ∙ c.if-is_spent.false)
    (ap (λ (l : List ℕ). l ++ c.args.bytes.now) c.as_slice.ensures.value ∙ c.put_front-front.ensures c.args.bytes.now refl)
    c.in-NoMemory.ensures refl c.reserve.ensures.same

pub returns-in-Same : goal.returns-in-Same
returns-in-Same g c = record {
  put =
      put_refused _ _ _ _ c.args.bytes.now _ _ _ _ c.talk.result c.self.view_is (sym c.is_spent.ensures ∙ c.if-is_spent.false)
      (ap (λ (l : List ℕ). l ++ c.args.bytes.now) c.as_slice.ensures.value ∙ c.put_front-front.ensures c.args.bytes.now refl)
      c.talk.ensures c.in-Same.is c.reserve.ensures.same c.fail-in-Same.ensures;
  here = tt;
  bytes = tt;
}
