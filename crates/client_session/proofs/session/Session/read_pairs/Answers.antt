use Rattle.std.proofs.Common.{length}
use Rattle.blob_model.specs.Content.{size_of}
use Rattle.range_reader.specs.Opened.{all_kept}
use Rattle.client_session.specs.Sessions.{SessionState, longest}
use Rattle.client_session.proofs.Kept.{found_by_view}
use Rattle.client_session.proofs.ManyRanges.{reads_ranges, ranges_starved}
use Rattle.client_session.proofs.Losses.{range_lost}
use Rattle.client_session.proofs.session.Session.read_pairs.Goals as goal

pub returns-clause-by : goal.returns-clause-by
returns-clause-by g c =
    let i = c.self.inside in
    let s : SessionState g.row.D.Denot = record { store = i.shared.now; caller = i.pass.caller; log = i.pass.seen; held = i.held; next = i.next; doors = i.doors; limit = longest i.limit; looks_first = i.looks_first; turns = i.pass.turns; opened = all_kept i.opened } in
    let v = c.kept_view-view.result in
    let x = c.read_ranges.ensures in
    rw (c.range_told.ensures.is, ← c.self.view_is) (record {
      v = v;
      found = found_by_view c.rows_tell.ensures s i.opened c.args.blob c.args.version v c.self.invariant.kept c.kept_view-view.ensures;
      reads = λ us tells. reads_ranges v c.args.pairs.now _ _ _ _ us tells c.read_ranges.result (x.bytes us tells) (x.refused us tells) x.answers;
      steps = x.steps;
      no_step = x.no_steps;
      failed = range_lost c.read_ranges.result _ x.answers.failed;
      memory = λ us tells. ranges_starved (size_of us (length v.rows)) c.args.pairs.now c.read_ranges.result (x.refused us tells);
    })
