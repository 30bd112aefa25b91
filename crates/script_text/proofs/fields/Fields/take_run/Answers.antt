use Rattle.std.proofs.Common.{◌≡◌, ◌∙◌, ℕ, Option, None, refl, sym, ap}
use Rattle.script_text.specs.declared.fields.Part.TheVariants.{Digits}
use Rattle.script_text.proofs.DecodedLemmas.{fields_plain, plain_same}
use Rattle.script_text.proofs.PairLemmas.{pairs_decoded, pairs_taken, none_taken}
use Rattle.script_text.proofs.RunLemmas.{number_taken}
use Rattle.script_text.proofs.fields.Fields.take_run.Goals as goal

pub returns-in_err-push_pairs-in-Digits-None-clause-plain : goal.returns-in_err-push_pairs-in-Digits-None-clause-plain
returns-in_err-push_pairs-in-Digits-None-clause-plain c =
    let f = c.self.inside in
    plain_same f.operation f.numbers.items f.part f.bytes.items f.numbers.items c.push_pairs.new.bytes.items c.self.invariant refl c.in_err-push_pairs-in-Digits-None.ensures.err

pub invariant_of-self-in-None-1 : goal.invariant_of-self-in-None-1
invariant_of-self-in-None-1 c =
    let f = c.self.inside in
    let none = rw c.in-Digits-None.is at c.in-Digits-None.field-0-is in
    let is : f.part ≡ Digits None = c.in-Digits-None.is ∙ ap (λ (h : Option ℕ). Digits h) none in
    pairs_decoded f.operation f.numbers.items f.part f.bytes.items c.pairs_of-digits.result.now c.push_pairs.new.bytes.items is c.self.invariant c.in_ok-push_pairs-in-Digits-None.ensures.ok

pub returns-in_ok-push_pairs-in-Digits-None-clause-takes : goal.returns-in_ok-push_pairs-in-Digits-None-clause-takes
returns-in_ok-push_pairs-in-Digits-None-clause-takes c =
    let f = c.self.inside in
    let d = c.pairs_of-digits.ensures in
    let none = rw c.in-Digits-None.is at c.in-Digits-None.field-0-is in
    let is : f.part ≡ Digits None = c.in-Digits-None.is ∙ ap (λ (h : Option ℕ). Digits h) none in
    rw (sym c.self.view_is)
    (pairs_taken f.operation f.numbers.items f.part f.bytes.items c.pairs_of-digits.result.now c.push_pairs.new.bytes.items c.args.piece.now _ is c.self.invariant c.in_ok-push_pairs-in-Digits-None.ensures.ok d.front refl d.within)

pub returns-in_ok-push_pairs-in-Digits-None-clause-plain : goal.returns-in_ok-push_pairs-in-Digits-None-clause-plain
returns-in_ok-push_pairs-in-Digits-None-clause-plain c =
    let f = c.self.inside in
    let none = rw c.in-Digits-None.is at c.in-Digits-None.field-0-is in
    let is : f.part ≡ Digits None = c.in-Digits-None.is ∙ ap (λ (h : Option ℕ). Digits h) none in
    fields_plain f.operation f.numbers.items f.part c.push_pairs.new.bytes.items
    (pairs_decoded f.operation f.numbers.items f.part f.bytes.items c.pairs_of-digits.result.now c.push_pairs.new.bytes.items is c.self.invariant c.in_ok-push_pairs-in-Digits-None.ensures.ok)

pub returns-in-Number-clause-plain : goal.returns-in-Number-clause-plain
returns-in-Number-clause-plain c =
    let f = c.self.inside in
    let t = c.take_number-taken in
    let taken = number_taken f.operation f.numbers.items f.part f.bytes.items c.args.piece.now t.new.numbers.items c.in-Number.number t.result.part t.result.count c.in-Number.is c.self.invariant t.ensures in
    fields_plain f.operation t.new.numbers.items t.result.part f.bytes.items taken.1

pub returns-in_default-clause-plain : goal.returns-in_default-clause-plain
returns-in_default-clause-plain c =
    let f = c.self.inside in
    rw (sym c.self.view_is) (fields_plain f.operation f.numbers.items f.part f.bytes.items c.self.invariant)

pub returns-in_default-2 : goal.returns-in_default-2
returns-in_default-2 c =
    let f = c.self.inside in
    record {
      takes = none_taken c.args.self.now c.args.piece.now c.args.self.now refl;
      plain = rw (sym c.self.view_is) (fields_plain f.operation f.numbers.items f.part f.bytes.items c.self.invariant);
    }
