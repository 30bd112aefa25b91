use Rattle.std.proofs.Common.{◌+◌, ◌*◌, ℕ, Err, refl, sym, subst}
use Rattle.std.specs.Prelude.{sum_by}
use Rattle.faults.specs.Counts.{RoseBy}
use Rattle.read_board.specs.Reads.{goes_by}
use Rattle.workload_run.specs.Readers.{ReadHindered}
use Rattle.workload_run.proofs.Idling.{idles_goes}
use Rattle.workload_run.proofs.WatchCrews.{gave, not_given, bytes_noted, passed_over}
use Rattle.workload_run.proofs.Refusals.{read_stops, stopped}
use Rattle.workload_run.proofs.notes.read_noted.Goals as goal

pub returns-in-Ok-clause-read : goal.returns-in-Ok-clause-read
returns-in-Ok-clause-read g c =
    let x = c.in-Ok.ensures in
    let r = c.read.new.self in
    record {
      board = x.kept.0;
      place = x.kept.1;
      idles = idles_goes c.sessions_own.ensures.gaps c.args.reader.now.session r.session x.goes_on 1 (c.args.op + 1) (16 * c.args.op) 16 (goes_by r.has_place r.list 1 (c.args.op + 1)) _ _ _ x.goes;
      rose = x.faults;
    }

pub returns-clause-stop : goal.returns-clause-stop
returns-clause-stop g c =
    let x = c.in-Err.ensures in
    let r = c.read.new.self in
    let e = c.stop_of.ensures in
    stopped c.stop_of.result c.in-Err.fault (λ fault. ReadHindered r fault) e.same e.other
    (λ other. read_stops c.args.reader.now.session r.session x.goes_on c.args.op c.in-Err.fault other r.has_place r.list (goes_by r.has_place r.list 1 (c.args.op + 1)) refl r refl refl refl _ _ x.goes)

pub returns-clause-read : goal.returns-clause-read
returns-clause-read g c =
    let x = c.in-Err.ensures in
    let r = c.read.new.self in
    record {
      board = x.kept.0;
      place = x.kept.1;
      idles = idles_goes c.sessions_own.ensures.gaps c.args.reader.now.session r.session x.goes_on 1 (c.args.op + 1) (16 * c.args.op) 16 (goes_by r.has_place r.list 1 (c.args.op + 1)) (Err c.in-Err.fault) _ _ x.goes;
      rose = subst (λ (n : ℕ). RoseBy n (sum_by g.D.Door.faults c.args.reader.now.session.doors) (sum_by g.D.Door.faults r.session.doors)) (sym c.stop_of.ensures.faults) x.faults;
    }

pub returns-in-Ok-clause-noted : goal.returns-in-Ok-clause-noted
returns-in-Ok-clause-noted g c =
    let x = c.in-Ok.ensures in
    let old = c.args.reader.now in
    let r = c.read.new.self in
    bytes_noted old r c.args.op _ _ _ _ c.as_slice.ensures (gave old r x.goes_on c.args.op (goes_by r.has_place r.list 1 (c.args.op + 1)) refl _ _ _ _ x.goes) c.add.ensures

pub returns-clause-noted : goal.returns-clause-noted
returns-clause-noted g c =
    let x = c.in-Err.ensures in
    let e = c.stop_of.ensures in
    let old = c.args.reader.now in
    let r = c.read.new.self in
    passed_over old r c.args.op c.stop_of.result c.in-Err.fault _ _ e.passes e.noted
    (λ version last is. not_given old r x.goes_on c.args.op c.in-Err.fault version last is (goes_by r.has_place r.list 1 (c.args.op + 1)) refl _ _ x.goes)
