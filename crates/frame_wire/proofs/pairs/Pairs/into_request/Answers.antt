use Rattle.std.proofs.Common.{◌∙◌, ◌∷◌, ◌++◌, [], ℕ, List, Option, sym, ap}
use Rattle.items.specs.Come.{Come}
use Rattle.request_form.specs.Operations.{number_of, request_with}
use Rattle.frame_wire.specs.Requests.{request_of}
use Rattle.frame_wire.specs.Said.{pair_fields}
use Rattle.frame_wire.specs.Decoded.{all_pairs}
use Rattle.frame_wire.proofs.PairLemmas.{ranges_asked, numbers_asked, target_is}
use Rattle.frame_wire.proofs.pairs.Pairs.into_request.Goals as goal

pub returns-then-has_ranges : goal.returns-then-has_ranges
returns-then-has_ranges c =
    let p = c.self.inside in
    let decoded = target_is p.operation p.target _ p.ranges.items p.part.items p.left c.in-Some.is c.self.invariant in
    let none = ap (λ (come : Come). come.left) c.self.view_is ∙ c.requires in
    ap (λ (come : Come). request_of 2 come.bytes) (sym c.self.view_is)
    ∙ rw (c.in-Some.is, c.of.ensures) (ranges_asked p.operation (c.in-Some.blob, c.in-Some.version) p.ranges.items p.part.items p.left none decoded (sym c.has_ranges.ensures ∙ c.if-has_ranges.true))

pub returns-else-has_ranges : goal.returns-else-has_ranges
returns-else-has_ranges c =
    let p = c.self.inside in
    let decoded = target_is p.operation p.target _ p.ranges.items p.part.items p.left c.in-Some.is c.self.invariant in
    let none = ap (λ (come : Come). come.left) c.self.view_is ∙ c.requires in
    ap (λ (come : Come). request_of 2 come.bytes) (sym c.self.view_is)
    ∙ ap (λ (t : Option (ℕ × ℕ)). request_of 2 (number_of p.operation ∷ (pair_fields (all_pairs t p.ranges.items) ++ p.part.items))) c.in-Some.is
    ∙ numbers_asked p.operation (c.in-Some.blob, c.in-Some.version) p.ranges.items p.part.items p.left none decoded (sym c.has_ranges.ensures ∙ c.if-has_ranges.false)
    ∙ ap (λ (l : List ℕ). request_with p.operation (c.in-Some.blob ∷ c.in-Some.version ∷ []) l) (sym (c.of-else-has_ranges.ensures ∙ c.new.ensures.items))
    ∙ sym c.request.ensures.request
