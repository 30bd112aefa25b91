use Rattle.std.proofs.Common.{List, ap}
use Rattle.std.specs.Prelude.{sum_by}
use Rattle.client_session.specs.HangUp.{counts_of}
use Rattle.client_session.specs.Sessions.{session_of}
use Rattle.client_session.specs.Tickets.{OpenUpdate, tickets_of}
use Rattle.workload_run.specs.Left.{left_faults}
use Rattle.workload_run.proofs.Updates.{hung_up_for, rose_sum, rose_less}
use Rattle.workload_run.proofs.finishing.finish_and_hang_up.Goals as goal

pub returns-clause-hung_up : goal.returns-clause-hung_up
returns-clause-hung_up g c =
    let laws = c.calls_leave.ensures in
    hung_up_for laws.add laws.held_own laws.reports c.args.blob c.args.held c.finish_last-left.result (session_of c.args.session.now) (session_of c.finish_last-left.new.session)
    (counts_of c.hang_up.result) (session_of c.hang_up.new.self)
    (ap (λ (l : List OpenUpdate). tickets_of l) c.hang_up.ensures.none_held) c.hang_up.ensures.hung_up c.finish_last-left.ensures.stands

pub returns-clause-faults : goal.returns-clause-faults
returns-clause-faults g c =
    let count = sum_by g.D.Door.faults in
    let left = left_faults c.finish_last-left.result in
    let first = count c.args.session.now.doors in
    let last = count c.hang_up.new.self.doors in
    rose_less left c.hang_up.result.page_fault first last (rose_sum left c.hang_up.result.page_fault first (count c.finish_last-left.new.session.doors) last c.finish_last-left.ensures.faults c.hang_up.ensures.faults)
