use Rattle.std.proofs.Common.{◌∙◌, sym, Ok, Err}
use Rattle.std.proofs.lemmas.Slice.Eq.{bytes_eq-Decides}
use Rattle.request_form.specs.Answers.{read_fault}
use Rattle.client_session.specs.Results.{read_reply}
use Rattle.workload_run.proofs.Refusals.{by_turn}
use Rattle.workload_run.proofs.Idling.{idles_read}
use Rattle.workload_run.proofs.agreeing.compare_by_turn.Goals as goal

pub returns-in-Ok-clause-agrees : goal.returns-in-Ok-clause-agrees
returns-in-Ok-clause-agrees g c =
    let x = c.in-Ok.ensures in
    c.eq.ensures ∙ (bytes_eq-Decides _ _).1 (c.as_slice.ensures ∙ (by_turn c.args.session.now c.read.new.self c.args.last.now c.requires.seen x.goes_on (Ok c.in-Ok.bytes) c.len-count.result c.len-count.ensures x.answers x.stays ∙ sym c.as_slice-in-Ok.ensures))

pub returns-clause-stop : goal.returns-clause-stop
returns-clause-stop g c =
    let x = c.in-Err.ensures in
    by_turn c.args.session.now c.read.new.self c.args.last.now c.requires.seen x.goes_on (Err c.in-Err.fault) c.len-count.result c.len-count.ensures x.answers x.stays

pub returns-in-Ok-clause-idles : goal.returns-in-Ok-clause-idles
returns-in-Ok-clause-idles g c =
    let x = c.in-Ok.ensures in
    let count = c.len-count.result in
    idles_read c.sessions_own.ensures.gaps c.args.session.now c.read.new.self x.goes_on 1 c.args.last.now.version 0 count (read_reply (Ok c.in-Ok.bytes)) (read_fault count) x.answers

pub returns-clause-idles : goal.returns-clause-idles
returns-clause-idles g c =
    let x = c.in-Err.ensures in
    let count = c.len-count.result in
    idles_read c.sessions_own.ensures.gaps c.args.session.now c.read.new.self x.goes_on 1 c.args.last.now.version 0 count (read_reply (Err c.in-Err.fault)) (read_fault count) x.answers
