use Rattle.std.proofs.Common.{◌≡◌, ◌+◌, ◌*◌, ◌<◌, ◌≤◌, length, map, arith, ap, sym, ◌∙◌}
use Rattle.snapshot.specs.Versions.{Version, size_now}
use Rattle.range_reader.specs.Faults.{PageFailed}
use Rattle.tree_weaver.proofs.Filled.{page_read}
use Rattle.tree_weaver.proofs.Lost.{can_still}
use Rattle.tree_weaver.proofs.StoredParts.{read_lost, page_lost}
use Rattle.tree_weaver.proofs.folding.Folding.read_before.Goals as goal

pub overflow_mul-begin : goal.overflow_mul-begin
overflow_mul-begin g c =
    let begin : c.args.page * c.bytes.result ≡ c.args.page * c.args.self.now.ticket.now.snapshot.page_size = ap (λ x. c.args.page * x) (c.bytes.ensures.is ∙ c.page_size.ensures) in
    let is = c.stands.ensures in
    omega (arith, begin, c.requires.changed.older, c.requires.changed.size, is.fits)

pub read-requires-clause-here : goal.read-requires-clause-here
read-requires-clause-here g c = rw c.hints.ensures.snapshot c.requires.can.here

pub read-requires-clause-room : goal.read-requires-clause-room
read-requires-clause-room g c = c.requires.room ∙ ap (λ (s : Version). s.page_size) (sym c.hints.ensures.snapshot)

pub returns-in-Ok-clause-bytes : goal.returns-in-Ok-clause-bytes
returns-in-Ok-clause-bytes g c = λ _.
    let s = c.args.self.now.ticket.now.snapshot in
    let begin = ap (λ x. c.args.page * x) (c.bytes.ensures.is ∙ c.page_size.ensures) in
    (rw c.hints.ensures.snapshot at (rw c.in-Ok.is at (c.read.ensures.bytes c.requires.can.true_doors)))
    ∙ page_read s _ (length c.args.out.now) c.args.page begin c.requires.older

pub returns-in-Ok-clause-kept : goal.returns-in-Ok-clause-kept
returns-in-Ok-clause-kept g c = record { none_fell = c.read.ensures.none_fell; total = c.read.ensures.sum_never_falls }

pub returns-in-Ok-clause-can : goal.returns-in-Ok-clause-can
returns-in-Ok-clause-can g c = can_still _ _ _ _ c.requires.can c.read.ensures.count c.read.ensures.truth_stays

pub returns-clause-failed : goal.returns-clause-failed
returns-clause-failed g c = λ _.
    let s = c.args.self.now.ticket.now.snapshot in
    let e = c.in-Err.ensures in
    let page = c.args.page in
    let before = map g.D.Door.faults c.args.doors.now in
    let now = map g.D.Door.faults c.read.new.doors in
    let begin : page * c.bytes.result ≡ page * s.page_size = ap (λ x. page * x) (c.bytes.ensures.is ∙ c.page_size.ensures) in
    let known : page * s.page_size + length c.args.out.now ≤ size_now s = omega (arith, c.requires.older, c.requires.changed.older) in
    read_lost c.in-Err.field-0 (size_now s < page * c.bytes.result + length c.args.out.now) (PageFailed s before now page) _ _ (rw c.hints.ensures.snapshot at e.past)
    (λ past. omega (arith, past, begin, known)) e.some (rw c.hints.ensures.snapshot at e.failed)
    (λ i some failed. page_lost s _ page (length c.args.out.now) before now i begin some (omega (arith, c.requires.older)) failed)

pub returns-clause-counted : goal.returns-clause-counted
returns-clause-counted g c = λ _.
    let s = c.args.self.now.ticket.now.snapshot in
    let e = c.in-Err.ensures in
    let page = c.args.page in
    let begin : page * c.bytes.result ≡ page * s.page_size = ap (λ x. page * x) (c.bytes.ensures.is ∙ c.page_size.ensures) in
    read_lost c.in-Err.field-0 (size_now s < page * c.bytes.result + length c.args.out.now) _ _ _ (rw c.hints.ensures.snapshot at e.past)
    (λ past. omega (arith, past, begin, c.requires.older, c.requires.changed.older)) e.some e.counted (λ i some risen. risen)

pub returns-clause-kept : goal.returns-clause-kept
returns-clause-kept g c = record { none_fell = c.read.ensures.none_fell; total = c.read.ensures.sum_never_falls }

pub returns-clause-can : goal.returns-clause-can
returns-clause-can g c = can_still _ _ _ _ c.requires.can c.read.ensures.count c.read.ensures.truth_stays
