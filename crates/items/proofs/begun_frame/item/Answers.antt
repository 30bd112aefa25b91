use Rattle.std.proofs.Common.{◌+◌, ◌<◌, ◌≤◌, length, sym, ◌∙◌, arith}
use Rattle.items.proofs.FrameBegun.{item_short, item_long, item_bad}
use Rattle.items.proofs.begun_frame.item.Goals as goal

pub returns-in-Asked-clause-says : goal.returns-in-Asked-clause-says
returns-in-Asked-clause-says g c =
    let come = g.B.Body.come c.in-Asked.body in
    let begun = rw c.in-Asked.is at c.requires.begun in
    rw c.in-Asked.is (item_short g.B.Body.framing g.met.B.Body.is_framing (length come.bytes + come.left) come.bytes begun.1 ∙ c.into_item.ensures.item)

pub returns-in-Wrong-clause-says : goal.returns-in-Wrong-clause-says
returns-in-Wrong-clause-says g c =
    let wrong = rw c.in-Wrong.is at c.requires.begun in
    let long : g.B.Body.framing.limit < c.in-Wrong.frame.length = omega (arith, c.limit.ensures, c.if-frame-limit.true) in
    rw c.in-Wrong.is (item_long g.B.Body.framing g.met.B.Body.is_framing c.in-Wrong.frame.length _ wrong.fits long ∙ sym c.too_long.ensures.item)

pub returns-in-Wrong-2-clause-says : goal.returns-in-Wrong-2-clause-says
returns-in-Wrong-2-clause-says g c =
    let short : c.in-Wrong.frame.length ≤ g.B.Body.framing.limit = omega (arith, c.limit.ensures, c.if-frame-limit.false) in
    rw c.in-Wrong.is (item_bad g.B.Body.framing g.met.B.Body.is_framing c.in-Wrong.frame.length c.in-Wrong.frame.left short ∙ sym c.bad.ensures.item)
