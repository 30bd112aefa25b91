use Rattle.std.proofs.Common.{◌≡◌, ◌+◌, ◌-◌, length, ap, sym, ◌∙◌, arith}
use Rattle.std.specs.Arc.{arc_value}
use Rattle.page_store.specs.Stored.{Cut, bytes_of_pages}
use Rattle.version_manager.proofs.Reissuing.{tell_all, size_all}
use Rattle.version_manager.proofs.blob.next_ticket.Goals as goal

pub of-requires-clause-waiting : goal.of-requires-clause-waiting
of-requires-clause-waiting c =
    let may = c.requires.falls.3.takes in
    let h = c.in_ok-hints.ensures in
    (tell_all _ _ _ _ _ may.kept may.even h.snapshot h.waiting c.stands-2.ensures).first

pub of-requires-clause-version : goal.of-requires-clause-version
of-requires-clause-version c =
    let may = c.requires.falls.3.takes in
    let h = c.in_ok-hints.ensures in
    omega (arith, (tell_all _ _ _ _ _ may.kept may.even h.snapshot h.waiting c.stands-2.ensures).count)

pub of-requires-clause-of_updates : goal.of-requires-clause-of_updates
of-requires-clause-of_updates c =
    let may = c.requires.falls.3.takes in
    let h = c.in_ok-hints.ensures in
    (tell_all _ _ _ _ _ may.kept may.even h.snapshot h.waiting c.stands-2.ensures).log

pub of-requires-clause-at : goal.of-requires-clause-at
of-requires-clause-at c =
    let f = c.requires.falls.3 in
    let h = c.in_ok-hints.ensures in
    let size = size_all _ _ _ _ _ f.takes.kept f.takes.even h.snapshot h.waiting c.stands-2.ensures (c.assigned.result + 1 - 1) (omega arith) in
    omega (arith, size, f.takes.begins, f.at_is)

pub of-requires-clause-size : goal.of-requires-clause-size
of-requires-clause-size c =
    let f = c.requires.falls.3 in
    let h = c.in_ok-hints.ensures in
    let size = size_all _ _ _ _ _ f.takes.kept f.takes.even h.snapshot h.waiting c.stands-2.ensures (c.assigned.result + 1 - 1) (omega arith) in
    let n : length (bytes_of_pages (arc_value c.args.pages.now).pages) ≡ c.len-len.result = sym (c.len-len.ensures ∙ ap (λ (x : Cut). length (bytes_of_pages x.pages)) c.deref.ensures) in
    omega (arith, size, f.at_is, f.size_is, n)

pub of-requires-clause-fits : goal.of-requires-clause-fits
of-requires-clause-fits c = let f = c.requires.falls.3 in omega (arith, f.size_is, f.takes.fits, f.takes.bounds.size)
