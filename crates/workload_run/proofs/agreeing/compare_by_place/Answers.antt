use Rattle.std.proofs.Common.{◌∙◌, sym, subst, arith, Err}
use Rattle.std.proofs.lemmas.Slice.Eq.{bytes_eq-Decides}
use Rattle.std.specs.Prelude.{sum_by}
use Rattle.faults.specs.Counts.{RoseBy}
use Rattle.request_form.specs.Replies.{page_faults}
use Rattle.client_session.specs.Sessions.{SessionState}
use Rattle.read_board.specs.Laws.{Agrees}
use Rattle.read_board.specs.Reads.{goes_by}
use Rattle.workload_law.specs.Ends.{IsOutside}
use Rattle.workload_run.specs.Agreeing.{IsPageOfLast}
use Rattle.workload_run.specs.Idling.{Idles}
use Rattle.workload_run.proofs.Idling.{idles_goes}
use Rattle.workload_run.proofs.Refusals.{prefix_both, place_reads, place_stop}
use Rattle.workload_run.proofs.agreeing.compare_by_place.Goals as goal

pub returns-in-Ok-clause-agrees : goal.returns-in-Ok-clause-agrees
returns-in-Ok-clause-agrees g c =
    let t = c.requires.told in
    let last = c.args.last.now in
    let x = c.in-Ok.ensures in
    let r = c.read.new.self in
    let agrees : Agrees t.fixed t.log r.list 1 last.version =
    c.reads_agree.ensures t.fixed t.log c.args.note.list r.list 1 last.version t.refresh (prefix_both c.args.note.list c.learn.new.self.list r.list c.learn.ensures.learnt x.seen) x.rising t.latest t.holds (omega (arith, t.version_is))
    in
    c.eq.ensures ∙ (bytes_eq-Decides _ _).1 (c.as_slice.ensures ∙ (place_reads t.fixed t.log r.list 1 last.version agrees r.has_place (x.kept.1 ∙ (c.learn.ensures.kept.1 ∙ c.requires.place)) _ _ c.len-count.result last.bytes _ _ _ _ x.goes c.len-count.ensures t.is_version.bytes_are ∙ sym c.as_slice-in-Ok.ensures))

pub returns-clause-stop : goal.returns-clause-stop
returns-clause-stop g c =
    let t = c.requires.told in
    let last = c.args.last.now in
    let x = c.in-Err.ensures in
    let r = c.read.new.self in
    let agrees : Agrees t.fixed t.log r.list 1 last.version =
    c.reads_agree.ensures t.fixed t.log c.args.note.list r.list 1 last.version t.refresh (prefix_both c.args.note.list c.learn.new.self.list r.list c.learn.ensures.learnt x.seen) x.rising t.latest t.holds (omega (arith, t.version_is))
    in
    subst (λ (s : SessionState _). IsOutside (IsPageOfLast s.store.fixed.page_size last) c.in-Err.fault) c.learn.ensures.kept.2
    (place_stop t.fixed t.log r.list 1 last.version agrees r.has_place (x.kept.1 ∙ (c.learn.ensures.kept.1 ∙ c.requires.place)) c.learn.new.self.session r.session c.len-count.result last.bytes c.in-Err.fault _ _ x.goes c.len-count.ensures t.is_version.bytes_are t.is_version.few)

pub returns-in-Ok-clause-read : goal.returns-in-Ok-clause-read
returns-in-Ok-clause-read g c =
    let x = c.in-Ok.ensures in
    let last = c.args.last.now in
    let learnt = c.learn.ensures.kept in
    let r = c.read.new.self in
    record {
      board = x.kept.0 ∙ learnt.0;
      place = x.kept.1 ∙ learnt.1;
      idles = subst (λ (s : SessionState _). Idles s r.session) learnt.2
          (idles_goes c.sessions_own.ensures.gaps c.learn.new.self.session r.session x.goes_on 1 last.version 0 c.len-count.result (goes_by r.has_place r.list 1 last.version) _ _ _ x.goes);
      rose = subst (λ (s : SessionState _). RoseBy 0 (sum_by g.D.Door.faults s.doors) (sum_by g.D.Door.faults r.session.doors)) learnt.2 x.faults;
    }

pub returns-clause-read : goal.returns-clause-read
returns-clause-read g c =
    let x = c.in-Err.ensures in
    let last = c.args.last.now in
    let learnt = c.learn.ensures.kept in
    let r = c.read.new.self in
    record {
      board = x.kept.0 ∙ learnt.0;
      place = x.kept.1 ∙ learnt.1;
      idles = subst (λ (s : SessionState _). Idles s r.session) learnt.2
          (idles_goes c.sessions_own.ensures.gaps c.learn.new.self.session r.session x.goes_on 1 last.version 0 c.len-count.result (goes_by r.has_place r.list 1 last.version) (Err c.in-Err.fault) _ _ x.goes);
      rose = subst (λ (s : SessionState _). RoseBy (page_faults c.in-Err.fault) (sum_by g.D.Door.faults s.doors) (sum_by g.D.Door.faults r.session.doors)) learnt.2 x.faults;
    }
