use Rattle.std.proofs.Common.{◌≡◌, sym, subst, ap, ◌∙◌, Result, List, ℕ, map, sum_by}
use Rattle.std.specs.Prelude.{IfErr}
use Rattle.faults.specs.Counts.{RoseBy}
use Rattle.request_form.specs.Replies.{fault_count}
use Rattle.request_form.specs.declared.form.Fault.{Fault}
use Rattle.range_reader.specs.Faults.{PageFailedIn}
use Rattle.snapshot.specs.Versions.{Version, older_version}
use Rattle.client_session.specs.Losses.{IfPageLost}
use Rattle.client_session.specs.Opening.{IsOfStore}
use Rattle.client_session.specs.Results.{read_reply}
use Rattle.read_board.specs.declared.standing.Way.{Way}
use Rattle.read_board.specs.declared.standing.Way.TheVariants as Ways
use Rattle.read_board.specs.Reads.{ByBoard, bytes_said}
use Rattle.tree_geom.proofs.Spans.{page_pos}
use Rattle.read_board.proofs.Reading.{board_read, of_store_older, same_bytes, lost_as, stays_on}
use Rattle.read_board.proofs.standing.read_refresh.Goals as goal

pub read_view-requires : goal.read_view-requires
read_view-requires g c = record {
  of_store = subst (λ (v : Version). IsOfStore c.args.session.now.store v) (sym c.view_at-older.ensures) (of_store_older c.args.session.now.store c.args.on.now.snapshot c.args.version c.requires.of_store);
}

pub returns-clause-board : goal.returns-clause-board
returns-clause-board g c =
    let on = c.args.on.now in
    let x = c.read_view.ensures in
    let some = page_pos on.snapshot.page_size c.stands.ensures.page_size in
    subst (λ (said : Result (List ℕ × Way) Fault). ByBoard on c.args.session.now c.args.version c.args.offset c.args.count said c.read_view.new.self c.args.steps.now c.read_view.new.steps) (sym c.by.ensures)
    (board_read on c.args.session.now c.read_view.new.self c.args.version c.args.offset c.args.count c.rows_tell.ensures some c.stands.ensures c.requires.of_store c.requires.within c.view_at-older.result c.view_at-older.ensures c.read_view.result c.args.steps.now c.read_view.new.steps x.seen_stays x.reads x.too_long x.past x.steps x.no_step x.no_step_too_long)

pub returns-clause-failed : goal.returns-clause-failed
returns-clause-failed g c =
    let on = c.args.on.now in
    let before = map g.D.Door.faults c.args.session.now.doors in
    let now = map g.D.Door.faults c.read_view.new.self.doors in
    let P : Fault → Type 0 = λ fault. IfPageLost fault (PageFailedIn (older_version on.snapshot c.args.version) c.args.offset c.args.count before now) in
    let failed = subst (λ (v : Version). IfErr c.read_view.result (λ fault. IfPageLost fault (PageFailedIn v c.args.offset c.args.count before now))) c.view_at-older.ensures c.read_view.ensures.failed in
    subst (λ (said : Result (List ℕ × Way) Fault). IfErr said P) (sym c.by.ensures) (lost_as Ways.Board c.read_view.result P failed)

pub returns-clause-faults : goal.returns-clause-faults
returns-clause-faults g c =
    let same : bytes_said c.by.result ≡ c.read_view.result = ap bytes_said c.by.ensures ∙ same_bytes Ways.Board c.read_view.result in
    subst (λ (said : Result (List ℕ) Fault). RoseBy (fault_count (read_reply said)) (sum_by g.D.Door.faults c.args.session.now.doors) (sum_by g.D.Door.faults c.read_view.new.self.doors)) (sym same) c.read_view.ensures.faults

pub returns-clause-goes_on : goal.returns-clause-goes_on
returns-clause-goes_on g c = stays_on c.args.session.now c.read_view.new.self c.read_view.ensures.seen_stays
