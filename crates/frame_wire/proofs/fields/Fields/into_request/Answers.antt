use Rattle.std.proofs.Common.{◌∙◌, refl, sym, ap}
use Rattle.items.specs.Come.{Come}
use Rattle.frame_wire.specs.Requests.{request_of}
use Rattle.frame_wire.proofs.RequestLemmas.{AllSmall, decoded_asks}
use Rattle.frame_wire.proofs.fields.Fields.into_request.Goals as goal

pub returns : goal.returns
returns c = λ version later.
    let f = c.self.inside in
    let seen = c.self.view_is in
    let numbers = c.as_slice.ensures.value in
    let small : AllSmall f.numbers.items = λ i. rw (← numbers) (c.request.ensures.numbers_fit i) in
    ap (λ (come : Come). request_of version come.bytes) (sym seen)
    ∙ decoded_asks f.operation f.numbers.items f.part.items f.bytes.items f.left version c.self.invariant (ap (λ (come : Come). come.left) seen ∙ c.requires) small later
    ∙ rw (c.request.ensures.request, numbers, c.of.ensures) refl
