use Rattle.std.proofs.Common.{◌≡◌, ◌∙◌, ◌==◌, ℕ, length, List, Option, Some, None, ap, sym, refl, subst, arith}
use Rattle.script_text.specs.Decoded.{Adds}
use Rattle.script_text.specs.declared.fields.Part.TheVariants.{Digits}
use Rattle.script_text.proofs.DecodedLemmas.{ends_number, number_grows, number_stops, dash_stops, begins_pair, pair_stops, pair_comes, empty_is, empty_from}
use Rattle.script_text.proofs.fields.next_part.Goals as goal

pub returns-in-Number-clause-adds : goal.returns-in-Number-clause-adds
returns-in-Number-clause-adds c =
    let d = rw c.in-Number.is at c.requires in
    rw (c.in-Number.is, c.if-byte-eq32.true)
    (ends_number c.args.operation c.args.numbers.now.items c.args.bytes.now.items c.in-Number.number c.end_number.new.numbers.items c.end_number.result d c.end_number.ensures)

pub returns-in-Some-clause-adds : goal.returns-in-Some-clause-adds
returns-in-Some-clause-adds c =
    let d = rw c.in-Number-2.is at c.requires in
    rw c.in-Number-2.is
    (number_grows c.args.operation c.args.numbers.now.items c.args.bytes.now.items c.in-Number-2.number c.in-Some.more c.args.byte d (omega arith) c.in-Some.ensures)

pub returns-in-None-clause-adds : goal.returns-in-None-clause-adds
returns-in-None-clause-adds c =
    let d = rw c.in-Number-2.is at c.requires in
    rw c.in-Number-2.is
    (number_stops c.args.operation c.args.numbers.now.items c.in-Number-2.number c.args.bytes.now.items c.args.byte d c.if-byte-eq32.false c.in-None.ensures, refl, refl)

pub returns-in-Dash-clause-adds : goal.returns-in-Dash-clause-adds
returns-in-Dash-clause-adds c =
    let d = rw c.in-Dash.is at c.requires in
    rw c.in-Dash.is (dash_stops c.args.operation c.args.numbers.now.items c.args.bytes.now.items c.args.byte d, refl, refl)

pub returns-in-Digits-None-clause-adds : goal.returns-in-Digits-None-clause-adds
returns-in-Digits-None-clause-adds c =
    let none = rw c.in-Digits-None.is at c.in-Digits-None.field-0-is in
    let is : c.args.part ≡ Digits None = c.in-Digits-None.is ∙ ap (λ (h : Option ℕ). Digits h) none in
    let d = rw is at c.requires in
    let same : c.args.bytes.now.len ≡ length c.args.bytes.now.items = omega (arith, c.args.bytes.now.ok.0) in
    let test = c.is_empty.ensures ∙ ap (λ (n : ℕ). n == 0) same in
    rw is
    (begins_pair c.args.operation c.args.numbers.now.items c.args.bytes.now.items c.is_empty.result c.args.byte c.first_digit.result d
    (empty_is c.args.bytes.now.items c.is_empty.result test) (empty_from c.args.bytes.now.items c.is_empty.result test) c.first_digit.ensures)

pub returns-in-None-pair-clause-adds : goal.returns-in-None-pair-clause-adds
returns-in-None-pair-clause-adds c =
    let high = rw c.in-Digits-Some.is at c.in-Digits-Some.field-0-is in
    let is : c.args.part ≡ Digits (Some c.in-Digits-Some.high) = c.in-Digits-Some.is ∙ ap (λ (h : Option ℕ). Digits h) high in
    let d = rw is at c.requires in
    rw is (pair_stops c.args.operation c.args.numbers.now.items c.args.bytes.now.items c.in-Digits-Some.high c.args.byte d (sym c.in-None-pair.ensures), refl, refl)

pub returns-in-Ok-clause-adds : goal.returns-in-Ok-clause-adds
returns-in-Ok-clause-adds c =
    let high = rw c.in-Digits-Some.is at c.in-Digits-Some.field-0-is in
    let is : c.args.part ≡ Digits (Some c.in-Digits-Some.high) = c.in-Digits-Some.is ∙ ap (λ (h : Option ℕ). Digits h) high in
    let d = rw is at c.requires in
    let grown : List ℕ → Type 0 = λ l. Adds c.args.operation c.args.numbers.now.items (Digits (Some c.in-Digits-Some.high)) c.args.bytes.now.items c.args.byte c.args.numbers.now.items l (Some (Digits None)) in
    rw is
    (subst grown (sym c.in-Ok.ensures.items)
    (pair_comes c.args.operation c.args.numbers.now.items c.args.bytes.now.items c.in-Digits-Some.high c.args.byte c.in-Some-pair.whole d (omega arith) (sym c.in-Some-pair.ensures)))
