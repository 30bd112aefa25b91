use Rattle.std.proofs.Common.{◌≡◌, ℕ, List, [], ◌++◌, length, sym, ◌∙◌, subst, append-nil, eqb-true}
use Rattle.std.proofs.lemmas.List.{nil_from_length}
use Rattle.server_core.specs.Conversing.{IsPut}
use Rattle.server_core.proofs.Writing.{head_fault, head_unsaid, put_body}
use Rattle.server_core.proofs.gather.Gathered.put_reply.Goals as goal

pub returns-in-Goes-clause-put : goal.returns-in-Goes-clause-put
returns-in-Goes-clause-put g c =
    put_body c.args.self.now.bytes.items c.args.head.now c.args.body.now _ _ c.put-2.new.self.bytes.items c.in-Goes.ensures.put _ _ c.put-in-Goes.result c.put-in-Goes.ensures.put

pub returns-in-WriteFault-clause-put : goal.returns-in-WriteFault-clause-put
returns-in-WriteFault-clause-put g c =
    head_fault c.args.self.now.bytes.items c.args.head.now c.args.body.now _ _ c.put-2.new.self.bytes.items c.in-WriteFault.ensures.put

pub returns-in-NoMemory-clause-put : goal.returns-in-NoMemory-clause-put
returns-in-NoMemory-clause-put g c =
    head_unsaid c.args.self.now.bytes.items c.args.head.now c.args.body.now _ _ c.put-2.new.self.bytes.items c.in-NoMemory.ensures.put

pub returns-then-is_empty-2-clause-put : goal.returns-then-is_empty-2-clause-put
returns-then-is_empty-2-clause-put g c =
    let none : c.args.body.now ≡ [] = nil_from_length c.args.body.now (eqb-true (length c.args.body.now) 0 (sym c.is_empty-2.ensures ∙ c.if-is_empty-2.true)) in
    let is : c.args.head.now ≡ c.args.head.now ++ c.args.body.now = rw none (sym (append-nil c.args.head.now)) in
    subst (λ (text : List ℕ). IsPut c.args.self.now.bytes.items text (g.I.Ends.written c.args.io.now) c.put-then-is_empty-2.new.self.bytes.items (g.I.Ends.written c.put-then-is_empty-2.new.io) c.put-then-is_empty-2.result) is c.put-then-is_empty-2.ensures.put
