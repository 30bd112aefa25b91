use Rattle.std.proofs.Common.{◌≡◌, ◌==◌, ℕ, length, List, Option, Some, None, ◌∙◌, refl, sym, ap, arith}
use Rattle.std.proofs.lemmas.Bool.{eqb-true}
use Rattle.script_text.specs.Requests.{request_of}
use Rattle.script_text.specs.Lines.{fields_of}
use Rattle.script_text.specs.declared.fields.Part.TheVariants.{Number, Dash, Digits}
use Rattle.script_text.proofs.DecodedLemmas.{lacks_by, whole_by, part_asks, dash_whole, pairs_whole, pairs_lack, digit_lacks, number_lacks, some_length}
use Rattle.script_text.proofs.fields.Fields.into_request.Goals as goal

pub returns-then-is_some : goal.returns-then-is_some
returns-then-is_some c =
    let f = c.self.inside in
    let some_number = rw c.in-Number-Some.is at c.in-Number-Some.field-0-is in
    sym (ap (λ (l : List ℕ). request_of (fields_of l)) (sym c.self.view_is)
    ∙ lacks_by f.operation f.numbers.items f.part f.bytes.items c.in-Number-Some.field-0 c.in-Number-Some.number c.len.result c.field_behind.result c.self.invariant c.in-Number-Some.is some_number c.len.ensures.value
    c.field_behind.ensures (sym c.is_some.ensures ∙ c.if-is_some.true))

pub returns-else-is_some : goal.returns-else-is_some
returns-else-is_some c =
    let f = c.self.inside in
    let some_number = rw c.in-Number-Some.is at c.in-Number-Some.field-0-is in
    sym (ap (λ (l : List ℕ). request_of (fields_of l)) (sym c.self.view_is)
    ∙ whole_by f.operation f.numbers.items f.part f.bytes.items c.in-Number-Some.field-0 c.in-Number-Some.number c.len.result c.field_behind.result c.self.invariant c.in-Number-Some.is some_number c.len.ensures.value
    c.field_behind.ensures (sym c.is_some.ensures ∙ c.if-is_some.false)
    ∙ sym (rw (c.request.ensures.request, c.as_slice.ensures.value, c.push.ensures.items, c.of.ensures) refl))

pub returns-in-Number-None : goal.returns-in-Number-None
returns-in-Number-None c =
    let f = c.self.inside in
    let none = rw c.in-Number-None.is at c.in-Number-None.field-0-is in
    let is : f.part ≡ Number None = c.in-Number-None.is ∙ ap (λ (n : Option ℕ). Number n) none in
    sym (ap (λ (l : List ℕ). request_of (fields_of l)) (sym c.self.view_is)
    ∙ part_asks f.operation f.numbers.items f.part (Number None) f.bytes.items None is c.self.invariant (λ d. number_lacks f.operation f.numbers.items f.bytes.items d))

pub returns-in-Digits-Some : goal.returns-in-Digits-Some
returns-in-Digits-Some c =
    let f = c.self.inside in
    let high = rw c.in-Digits-Some.is at c.in-Digits-Some.field-0-is in
    let is : f.part ≡ Digits (Some c.in-Digits-Some.field-0-0) = c.in-Digits-Some.is ∙ ap (λ (h : Option ℕ). Digits h) high in
    sym (ap (λ (l : List ℕ). request_of (fields_of l)) (sym c.self.view_is)
    ∙ part_asks f.operation f.numbers.items f.part (Digits (Some c.in-Digits-Some.field-0-0)) f.bytes.items None is c.self.invariant (λ d. digit_lacks f.operation f.numbers.items f.bytes.items c.in-Digits-Some.field-0-0 d))

pub returns-then-is_empty : goal.returns-then-is_empty
returns-then-is_empty c =
    let f = c.self.inside in
    let none = rw c.in-Digits-None.is at c.in-Digits-None.field-0-is in
    let is : f.part ≡ Digits None = c.in-Digits-None.is ∙ ap (λ (h : Option ℕ). Digits h) none in
    let same : f.bytes.len ≡ length f.bytes.items = omega (arith, f.bytes.ok.0) in
    let test = sym (c.is_empty.ensures ∙ ap (λ (n : ℕ). n == 0) same) ∙ c.if-is_empty.true in
    sym (ap (λ (l : List ℕ). request_of (fields_of l)) (sym c.self.view_is)
    ∙ part_asks f.operation f.numbers.items f.part (Digits None) f.bytes.items None is c.self.invariant
    (λ d. pairs_lack f.operation f.numbers.items f.bytes.items d (eqb-true (length f.bytes.items) 0 test)))

pub returns-else-is_empty : goal.returns-else-is_empty
returns-else-is_empty c =
    let f = c.self.inside in
    let none = rw c.in-Digits-None.is at c.in-Digits-None.field-0-is in
    let is : f.part ≡ Digits None = c.in-Digits-None.is ∙ ap (λ (h : Option ℕ). Digits h) none in
    let same : f.bytes.len ≡ length f.bytes.items = omega (arith, f.bytes.ok.0) in
    let test = sym (c.is_empty.ensures ∙ ap (λ (n : ℕ). n == 0) same) ∙ c.if-is_empty.false in
    sym (ap (λ (l : List ℕ). request_of (fields_of l)) (sym c.self.view_is)
    ∙ part_asks f.operation f.numbers.items f.part (Digits None) f.bytes.items _ is c.self.invariant (λ d. pairs_whole f.operation f.numbers.items f.bytes.items d (some_length f.bytes.items test))
    ∙ sym (rw (c.request-in-Digits-None.ensures.request, c.as_slice-in-Digits-None.ensures.value, c.of-in-Digits-None.ensures) refl))

pub returns-in-Dash : goal.returns-in-Dash
returns-in-Dash c =
    let f = c.self.inside in
    sym (ap (λ (l : List ℕ). request_of (fields_of l)) (sym c.self.view_is)
    ∙ part_asks f.operation f.numbers.items f.part Dash f.bytes.items _ c.in-Dash.is c.self.invariant (λ d. dash_whole f.operation f.numbers.items f.bytes.items d)
    ∙ sym (rw (c.request-in-Dash.ensures.request, c.as_slice-in-Dash.ensures.value, c.of-in-Dash.ensures) refl))
