use Rattle.std.specs.Prelude.{sum_by}
use Rattle.blob_model.specs.declared.call.Place.TheVariants.{WriteAt, Append}
use Rattle.client_session.specs.Sessions.{session_of}
use Rattle.workload_run.proofs.Updates.{update_fits, once_append, once_write, rose_told, settled_append, settled_write}
use Rattle.workload_run.proofs.trying.update_once.Goals as goal

pub returns-in-Append-clause-ends : goal.returns-in-Append-clause-ends
returns-in-Append-clause-ends g c =
    let s = session_of c.args.session.now in
    once_append c.calls_end.ensures.updates s c.args.blob c.args.place c.args.bytes.now c.append.result (session_of c.append.new.self)
    (update_fits s c.args.bytes.now c.requires.bytes c.requires.ready) c.in-Append.is c.append.ensures.answers

pub returns-in-Append-clause-faults : goal.returns-in-Append-clause-faults
returns-in-Append-clause-faults g c =
    let faults = g.D.Door.faults in
    rose_told Append c.append.result (session_of c.append.new.self) c.args.blob (sum_by faults c.args.session.now.doors) (sum_by faults c.append.new.self.doors) c.append.ensures.faults

pub returns-in-WriteAt-clause-ends : goal.returns-in-WriteAt-clause-ends
returns-in-WriteAt-clause-ends g c =
    let s = session_of c.args.session.now in
    once_write c.calls_end.ensures.updates s c.args.blob c.args.place c.args.bytes.now c.write.result (session_of c.write.new.self)
    (update_fits s c.args.bytes.now c.requires.bytes c.requires.ready) c.in-WriteAt.offset c.in-WriteAt.is c.write.ensures.answers

pub returns-in-WriteAt-clause-faults : goal.returns-in-WriteAt-clause-faults
returns-in-WriteAt-clause-faults g c =
    let faults = g.D.Door.faults in
    rose_told (WriteAt c.in-WriteAt.offset) c.write.result (session_of c.write.new.self) c.args.blob (sum_by faults c.args.session.now.doors)
    (sum_by faults c.write.new.self.doors) c.write.ensures.faults

pub returns-in-Append-clause-settled : goal.returns-in-Append-clause-settled
returns-in-Append-clause-settled g c =
    let s = session_of c.args.session.now in
    settled_append s c.args.blob c.args.place c.args.bytes.now c.append.result (session_of c.append.new.self) (update_fits s c.args.bytes.now c.requires.bytes c.requires.ready)
    c.in-Append.is c.append.ensures.answers

pub returns-in-WriteAt-clause-settled : goal.returns-in-WriteAt-clause-settled
returns-in-WriteAt-clause-settled g c =
    let s = session_of c.args.session.now in
    settled_write s c.args.blob c.args.place c.args.bytes.now c.write.result (session_of c.write.new.self) (update_fits s c.args.bytes.now c.requires.bytes c.requires.ready)
    c.in-WriteAt.offset c.in-WriteAt.is c.write.ensures.answers
