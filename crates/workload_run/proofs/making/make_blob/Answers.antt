use Rattle.std.proofs.Common.{◌≡◌, [], subst, ◌∙◌}
use Rattle.client_session.specs.Sessions.{session_of}
use Rattle.request_form.specs.Session.{Session}
use Rattle.request_form.specs.declared.form.Fault.{Fault}
use Rattle.request_form.specs.declared.form.Reply.TheVariants as Replies
use Rattle.workload_law.specs.Ends.{CreateEnds, CreateHindered}
use Rattle.workload_run.specs.Making.{HasNotMade}
use Rattle.workload_run.proofs.making.make_blob.Goals as goal

-- why it wasn't made
not_made : (s s' : Session) (fault : Fault) → CreateEnds s (Replies.Refused fault) s' → s.tickets ≡ [] → HasNotMade s fault s'
not_made s s' fault (CreateEnds.does blob is leaves kept) none = (let never : ⊥ = cc in absurd never)
not_made s s' fault (CreateEnds.hinders f is hindered leaves kept) none =
    let same : f ≡ fault = cc in
    record { left = record { leaves = leaves; none_held = kept ∙ none }; hindered = subst (λ (x : Fault). CreateHindered s.fixed.limits s.caller s.seen s'.seen x) same hindered }

pub returns-in-Err-clause-ends : goal.returns-in-Err-clause-ends
returns-in-Err-clause-ends g c =
    let s = session_of c.args.session.now in
    let after = session_of c.create.new.self in
    not_made s after c.in-Err.fault (c.calls_end.ensures.creates s (Replies.Refused c.in-Err.fault) after c.in-Err.ensures.answers) c.requires.none_held
