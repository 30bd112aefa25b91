use Rattle.std.proofs.Common.{◌∙◌, ℕ, sym, ap}
use Rattle.node_door.specs.Door.{DoorAt, id_of}
use Rattle.node_door.proofs.Calls.{get_some, get_none}
use Rattle.node_door.proofs.door.StreamDoor.get_page.Goals as goal

pub returns-in-Some-clause-get : goal.returns-in-Some-clause-get
returns-in-Some-clause-get g c =
    get_some _ _ _ c.in-Some.id _ _ _
    (ap (λ (d : DoorAt). id_of d.own c.args.page.now.spot.place) (sym c.self.view_is) ∙ ap (λ (p : ℕ). id_of c.self.inside.own.pages p) (sym c.place.ensures) ∙ sym c.id.ensures ∙ c.in-Some.is)
    c.get_own.ensures.asked

pub returns-in-None-clause-get : goal.returns-in-None-clause-get
returns-in-None-clause-get g c =
    get_none _ _ _ _
    (ap (λ (d : DoorAt). id_of d.own c.args.page.now.spot.place) (sym c.self.view_is) ∙ ap (λ (p : ℕ). id_of c.self.inside.own.pages p) (sym c.place.ensures) ∙ sym c.id.ensures ∙ c.in-None.is)
