use Rattle.std.proofs.Common.{length, arith, ap}
use Rattle.std.specs.Prelude.{All}
use Rattle.page_store.specs.Page.{IsAmong}
use Rattle.page_store.specs.Stored.{Stored}
use Rattle.page_fan.proofs.OnePage.{one_page, only_one, none_took}
use Rattle.page_fan.proofs.WherePut.{is_put}
use Rattle.page_fan.proofs.writing.store_page.Goals as goal

pub into_page-requires : goal.into_page-requires
into_page-requires g c =
    let same = ap length c.in-Ok.ensures.bytes in
    let bounds = c.stands.ensures.bounds in
    record { one = one_page c.args.p c.in-Ok.pages.pages (omega (arith, bounds.0)) c.in-Ok.ensures.cut (omega (arith, same, c.requires.some)) (omega (arith, same, c.requires.few)) }

pub returns-in-Ok-clause-here : goal.returns-in-Ok-clause-here
returns-in-Ok-clause-here g c =
    only_one (λ (s : Stored). All (IsAmong c.args.houses.now) s.spots) c.into_page.result c.in-Ok.pages.pages c.into_page.ensures.this c.in-Ok.ensures.here

pub returns-in-Err-clause-failed : goal.returns-in-Err-clause-failed
returns-in-Err-clause-failed g c =
    none_took c.in-Err.fault _ _ _ _ _ _ _ c.in-Err.ensures.first_lost

pub returns-in-Ok-clause-put : goal.returns-in-Ok-clause-put
returns-in-Ok-clause-put g c =
    is_put g.D.Door.called g.D.Door.faults c.args.loads.now.providers c.args.loads.now.replicas c.args.doors.now c.store_pages.new.doors c.into_page.result c.in-Ok.pages.pages c.into_page.ensures.this
    c.in-Ok.ensures.put
