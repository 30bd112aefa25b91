use Rattle.std.proofs.Common.{List, arith}
use Rattle.crossbeam_queue.specs.Passes.{view}
use Rattle.blob_model.specs.declared.call.Event.{Event}
use Rattle.blob_server.specs.Serving.{IsBeginningOf, WasServed}
use Rattle.blob_server.proofs.Accounting.{accounts_elsewhere, narrowed, then}
use Rattle.blob_server.proofs.Beginnings.{begins_on}
use Rattle.blob_server.proofs.pool.lead.Goals as goal

pub returns-clause-served : goal.returns-clause-served
returns-clause-served g c =
    let s = g.S.PeerServer in
    let t = c.take_peers-taken.ensures in
    let w = c.work.ensures in
    let Served = WasServed s.home s.saw s.gives (s.home c.args.service.now) in
    let Seen : List Event → Type 0 = IsBeginningOf (s.saw c.work.new.service) in
    let first = narrowed Served (IsBeginningOf (s.saw c.take_peers-taken.new.service)) Seen _ _ _ (λ history on. begins_on _ _ _ w.saw on) t.served in
    let rest = accounts_elsewhere s.home s.saw s.gives _ _ t.home Seen 0 (view c.take_peers-taken.new.pass) (view c.work.new.pass) w.served in
    then Served Seen _ 0 _ _ _ _ (omega arith) first rest
