use Rattle.std.proofs.Common.{◌≡◌, refl, sym, ◌∙◌, append-nil, [], true, false, arith}
use Rattle.std.specs.Prelude.{sum_by}
use Rattle.client_session.specs.Sessions.{session_of}
use Rattle.workload_run.specs.Updates.{is_full, told_faults}
use Rattle.client_session.proofs.Waiting.{goes_both}
use Rattle.workload_run.proofs.Updates.{waited_start, waited_both, full_waited, tried, ready_then, rose_none, rose_both}
use Rattle.workload_run.proofs.trying.update_when_room.Goals as goal

pub tries-init : goal.tries-init
tries-init g c =
    record {
      waited = waited_start (session_of c.args.session.now);
      rose = record { later = omega arith; by = λ less. omega arith };
      goes_on = record { store = refl; caller = refl; begins = ([], sym (append-nil c.args.session.now.log)) };
    }

pub update_once-told-requires-clause-ready : goal.update_once-told-requires-clause-ready
update_once-told-requires-clause-ready g c κs within = ready_then (session_of c.args.session.now) (session_of c.tries.session) c.requires.ready c.tries.invariant.waited

pub returns-then-not-is_full-clause-told : goal.returns-then-not-is_full-clause-told
returns-then-not-is_full-clause-told g c =
    let once = c.update_once-told in
    let laws = c.calls_leave.ensures in
    let short : is_full once.result ≡ false = sym c.is_full.ensures ∙ c.if-not-is_full.true in
    tried laws.add laws.stops laws.holds (session_of c.args.session.now) (session_of c.tries.session) c.args.blob c.args.place c.args.bytes.now (session_of once.new.session)
    c.requires.ready.none_held c.tries.invariant.waited once.result once.ensures.ends short once.ensures.settled

pub tries-preserved : goal.tries-preserved
tries-preserved g c =
    let faults = g.D.Door.faults in
    let once = c.update_once-told in
    let start = c.args.session.now in
    let mid = c.tries.session in
    let after = once.new.session in
    let last = c.wait_for_room.new.session in
    let full : is_full once.result ≡ true = sym c.is_full.ensures ∙ c.if-not-is_full.false in
    let once_waited = full_waited (session_of mid) c.args.blob c.args.place c.args.bytes.now (session_of after) once.result once.ensures.ends full in
    let two = waited_both c.calls_leave.ensures.add (session_of start) (session_of mid) (session_of after) c.tries.invariant.waited once_waited in
    record {
      waited = waited_both c.calls_leave.ensures.add (session_of start) (session_of after) (session_of last) two c.wait_for_room.ensures.waited;
      rose =
          rose_both 0 0 (sum_by faults start.doors) (sum_by faults after.doors) (sum_by faults last.doors)
          (rose_none (told_faults once.result) (sum_by faults start.doors) (sum_by faults after.doors)
          (rose_both 0 (told_faults once.result) (sum_by faults start.doors) (sum_by faults mid.doors) (sum_by faults after.doors) c.tries.invariant.rose once.ensures.faults))
          c.wait_for_room.ensures.faults;
      goes_on = goes_both start after last (goes_both start mid after c.tries.invariant.goes_on once.ensures.goes_on) c.wait_for_room.ensures.goes_on;
    }
