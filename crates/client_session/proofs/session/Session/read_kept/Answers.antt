use Rattle.std.proofs.Common.{◌+◌, length}
use Rattle.blob_model.specs.Content.{size_of}
use Rattle.range_reader.specs.Opened.{all_kept}
use Rattle.client_session.specs.Sessions.{SessionState, longest}
use Rattle.client_session.proofs.Kept.{found_by_view}
use Rattle.client_session.proofs.RangeAnswers.{reads_range, range_starved}
use Rattle.client_session.proofs.Losses.{range_lost}
use Rattle.client_session.proofs.session.Session.read_kept.Goals as goal

pub returns-clause-by : goal.returns-clause-by
returns-clause-by g c =
    let i = c.self.inside in
    let s : SessionState g.row.D.Denot = record { store = i.shared.now; caller = i.pass.caller; log = i.pass.seen; held = i.held; next = i.next; doors = i.doors; limit = longest i.limit; looks_first = i.looks_first; turns = i.pass.turns; opened = all_kept i.opened } in
    let v = c.kept_view-view.result in
    let x = c.read_range.ensures in
    let a = x.answers in
    rw (c.range_told.ensures.is, ← c.self.view_is) (record {
      v = v;
      found = found_by_view c.rows_tell.ensures s i.opened c.args.blob c.args.version v c.self.invariant.kept c.kept_view-view.ensures;
      reads = λ us tells. reads_range v c.args.offset c.args.count _ _ _ _ us tells c.read_range.result c.requires.few (x.bytes us tells) a;
      steps = x.steps.few;
      no_step = x.steps.none_past;
      failed = range_lost c.read_range.result _ a.failed;
      memory = λ us tells. range_starved (size_of us (length v.rows)) (c.args.offset + c.args.count) c.read_range.result (a.refused us tells);
    })
