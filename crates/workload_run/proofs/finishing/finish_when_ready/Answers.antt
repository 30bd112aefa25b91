use Rattle.std.proofs.Common.{refl, sym, append-nil, [], arith}
use Rattle.std.specs.Prelude.{sum_by}
use Rattle.request_form.specs.Replies.{fault_count}
use Rattle.client_session.specs.Results.{finish_reply}
use Rattle.client_session.specs.Sessions.{session_of}
use Rattle.client_session.proofs.Waiting.{goes_both}
use Rattle.workload_run.proofs.Updates.{rose_none, rose_both, finish_told, finish_waits, holds_waited}
use Rattle.workload_run.proofs.finishing.finish_when_ready.Goals as goal

pub tries-init : goal.tries-init
tries-init g c =
    record {
      holds = λ s place bytes version none holds. holds;
      rose = record { later = omega arith; by = λ less. omega arith };
      goes_on = record { store = refl; caller = refl; begins = ([], sym (append-nil c.args.session.now.log)) };
    }

pub returns-in-None-awaited-clause-told : goal.returns-in-None-awaited-clause-told
returns-in-None-awaited-clause-told g c s place bytes version none holds =
    finish_told c.calls_end.ensures.finishes (session_of c.tries.session) c.args.blob c.args.ticket c.finish-told.result (session_of c.finish-told.new.self) c.finish-told.ensures.answers
    c.finished_by_events.ensures c.old_versions_stay.ensures (sym c.in-None-awaited.ensures) s place bytes version none (c.tries.invariant.holds s place bytes version none holds)

pub tries-preserved : goal.tries-preserved
tries-preserved g c =
    let faults = g.D.Door.faults in
    let start = c.args.session.now in
    let mid = c.tries.session in
    let after = c.finish-told.new.self in
    let last = c.wait_for.new.session in
    let said = fault_count (finish_reply c.finish-told.result) in
    record {
      holds = λ s place bytes version none holds.
          holds_waited c.calls_leave.ensures.held c.args.blob c.args.ticket (session_of after) (session_of last) c.wait_for.ensures.waited s place bytes version
          (finish_waits c.calls_end.ensures.finishes (session_of mid) c.args.blob c.args.ticket c.finish-told.result (session_of after) c.finish-told.ensures.answers c.in-Some-awaited.version
          (sym c.in-Some-awaited.ensures) s place bytes version none (c.tries.invariant.holds s place bytes version none holds));
      rose =
          rose_both 0 0 (sum_by faults start.doors) (sum_by faults after.doors) (sum_by faults last.doors)
          (rose_none said (sum_by faults start.doors) (sum_by faults after.doors)
          (rose_both 0 said (sum_by faults start.doors) (sum_by faults mid.doors) (sum_by faults after.doors) c.tries.invariant.rose c.finish-told.ensures.faults))
          c.wait_for.ensures.faults;
      goes_on = goes_both start after last (goes_both start mid after c.tries.invariant.goes_on c.finish-told.ensures.goes_on) c.wait_for.ensures.goes_on;
    }
