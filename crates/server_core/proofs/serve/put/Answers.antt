use Rattle.std.proofs.Common.{◌≡◌, ◌∙◌, ◌++◌, ℕ, List, ap₂, subst}
use Rattle.server_core.specs.Conversing.{IsPut}
use Rattle.server_core.proofs.Writing.{put_none}
use Rattle.server_core.proofs.serve.put.Goals as goal

pub returns-in-Err-clause-put : goal.returns-in-Err-clause-put
returns-in-Err-clause-put g c = λ text said. put_none c.args.gathered.now.bytes.items text (g.I.Ends.written c.args.io.now)

pub returns-in-Ok-clause-put : goal.returns-in-Ok-clause-put
returns-in-Ok-clause-put g c = λ text said.
    let parts : c.in-Ok.parts.head.items ++ c.in-Ok.parts.body ≡ text = rw c.in-Ok.is at said in
    let joined : c.as_slice.result.now ++ c.as_slice-in-Ok.result.now ≡ text = ap₂ (λ (a b : List ℕ). a ++ b) c.as_slice.ensures.value c.as_slice-in-Ok.ensures ∙ parts in
    subst (λ (x : List ℕ). IsPut c.args.gathered.now.bytes.items x (g.I.Ends.written c.args.io.now) c.put_reply.new.self.bytes.items (g.I.Ends.written c.put_reply.new.io) c.put_reply.result) joined
    c.put_reply.ensures.put
