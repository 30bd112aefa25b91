use Rattle.std.proofs.Common.{Ok, Err}
use Rattle.client_session.proofs.Finished.{took_fresh, went_fresh, fresh_found, fresh_missed}
use Rattle.client_session.proofs.finishing.fresh_ticket.Goals as goal

pub returns-in-Ok-clause-went : goal.returns-in-Ok-clause-went
returns-in-Ok-clause-went g c =
    let f = c.args.shared.now.fixed in
    let v = c.args.pass.now in
    let w = c.ticket_of.new.pass in
    went_fresh f v.caller v.seen w.seen c.args.blob c.args.version (Ok c.in-Ok.ticket) (took_fresh c.gaps_are_of_others.ensures f v w c.args.blob c.args.version (Ok c.in-Ok.ticket) c.requires.pass.fixed c.in-Ok.ensures.turned)

pub returns-in-Ok-clause-looked : goal.returns-in-Ok-clause-looked
returns-in-Ok-clause-looked g c =
    let f = c.args.shared.now.fixed in
    let v = c.args.pass.now in
    let w = c.ticket_of.new.pass in
    fresh_found f v.caller v.seen w.seen c.args.blob c.args.version c.in-Ok.ticket c.stands.ensures
    (took_fresh c.gaps_are_of_others.ensures f v w c.args.blob c.args.version (Ok c.in-Ok.ticket) c.requires.pass.fixed c.in-Ok.ensures.turned)

pub returns-in-Err-clause-went : goal.returns-in-Err-clause-went
returns-in-Err-clause-went g c =
    let f = c.args.shared.now.fixed in
    let v = c.args.pass.now in
    let w = c.ticket_of.new.pass in
    went_fresh f v.caller v.seen w.seen c.args.blob c.args.version (Err c.in-Err.fault) (took_fresh c.gaps_are_of_others.ensures f v w c.args.blob c.args.version (Err c.in-Err.fault) c.requires.pass.fixed c.in-Err.ensures.turned)

pub returns-in-Err-clause-looked : goal.returns-in-Err-clause-looked
returns-in-Err-clause-looked g c =
    let f = c.args.shared.now.fixed in
    let v = c.args.pass.now in
    let w = c.ticket_of.new.pass in
    fresh_missed f v.caller v.seen w.seen c.args.blob c.args.version c.in-Err.fault
    (took_fresh c.gaps_are_of_others.ensures f v w c.args.blob c.args.version (Err c.in-Err.fault) c.requires.pass.fixed c.in-Err.ensures.turned)
