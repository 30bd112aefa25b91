use Rattle.std.proofs.Common.{◌≡◌, [], ◌∙◌, ap, sum_by, arith}
use Rattle.turn_lock.specs.History.{longer}
use Rattle.turn_lock.specs.Shown.{PassView, OwnerView}
use Rattle.server_core.specs.Conversed.{Input}
use Rattle.server_core.specs.declared.flow.End.TheVariants as Ends
use Rattle.file_names.specs.Tree as Names
use Rattle.file_names.specs.declared.tree.Entered.{Entered}
use Rattle.blobseer_run.proofs.FilesStored.{named_none, named_of}
use Rattle.blobseer_run.proofs.filing.serve_named.Goals as goal

pub returns-in_default-clause-lines : goal.returns-in_default-clause-lines
returns-in_default-clause-lines g c =
    let script = c.args.script.now in
    let input : Input = record { given = g.S.Ends.given script; left = g.S.Ends.left script; ends = g.S.Ends.ends script } in
    named_none c.args.shared.now c.args.pass (sum_by g.D.Door.faults c.args.doors) input (g.K.Ends.written c.args.out.now)

pub returns-in_default-new-clause-lines : goal.returns-in_default-new-clause-lines
returns-in_default-new-clause-lines g c =
    let script = c.args.script.now in
    let input : Input = record { given = g.S.Ends.given script; left = g.S.Ends.left script; ends = g.S.Ends.ends script } in
    named_none c.args.shared.now c.args.pass (sum_by g.D.Door.faults c.args.doors) input (g.K.Ends.written c.args.out.now)

pub returns-clause-lines : goal.returns-clause-lines
returns-clause-lines g c =
    let served = c.serve_session-end in
    let fresh = c.in-Ok-new.ensures in
    let given = c.in-Ok-pass.ensures in
    let Own : Type 0 = OwnerView Entered (Unit {0}) in
    let none_made = ap (λ (o : Own). o.made) fresh in
    let none_seen = ap (λ (o : Own). o.seen) fresh in
    let made : c.take_back.new.self.made ≡ 1 = ap (λ (o : Own). o.made) c.take_back.ensures.counts.1 ∙ ap (λ (o : Own). o.made) given.counts ∙ omega (arith, none_made) in
    let before : c.pass.new.self.seen ≡ [] = ap (λ (o : Own). o.seen) given.counts ∙ none_seen in
    let caller : c.in-Ok-pass.names.caller ≡ 1 = ap (λ (p : PassView Entered (Unit {0})). p.caller) given.pass ∙ omega (arith, none_made) in
    let none : c.in-Ok-pass.names.seen ≡ [] = ap (λ (p : PassView Entered (Unit {0})). p.seen) given.pass ∙ none_seen in
    let longest : c.take_back.new.self.seen ≡ longer [] served.result.1.names.seen = c.take_back.ensures.seen ∙ ap (λ (l : Names.NameLog). longer l served.result.1.names.seen) before in
    let closed = c.in-Ok-close in
    named_of c.args.shared.now c.args.pass c.in-Ok-pass.names served.result.1.names closed.tree c.take_back.new.self.seen c.take_back.new.self.made _ _ _ _ _ _ _ _ caller none made
    closed.ensures.no_other closed.ensures.history longest c.history-entered.ensures.legal served.ensures.lines
