use Rattle.script_text.proofs.DecodedLemmas.{fields_plain, plain_same}
use Rattle.script_text.proofs.fields.Fields.add.Goals as goal

pub returns-in_err-next-clause-plain : goal.returns-in_err-next-clause-plain
returns-in_err-next-clause-plain c =
    let f = c.self.inside in
    plain_same f.operation f.numbers.items f.part f.bytes.items c.next_part.new.numbers.items c.next_part.new.bytes.items c.self.invariant c.in_err-next.ensures.numbers c.in_err-next.ensures.bytes

pub returns-in-Some-clause-plain : goal.returns-in-Some-clause-plain
returns-in-Some-clause-plain c =
    let f = c.self.inside in
    let adds = rw c.in-Some.is at c.in_ok-next.ensures.adds in
    fields_plain f.operation c.next_part.new.numbers.items c.in-Some.part c.next_part.new.bytes.items adds.1

pub returns-in-None-clause-plain : goal.returns-in-None-clause-plain
returns-in-None-clause-plain c =
    let f = c.self.inside in
    let adds = rw c.in-None.is at c.in_ok-next.ensures.adds in
    plain_same f.operation f.numbers.items f.part f.bytes.items c.next_part.new.numbers.items c.next_part.new.bytes.items c.self.invariant adds.1 adds.2
