use Rattle.std.proofs.Common.{List, arith, rules, refl}
use Rattle.std.proofs.lemmas.Grind.{common_steps}
use Rattle.crossbeam_queue.specs.Passes.{view}
use Rattle.blob_model.specs.declared.call.Event.{Event}
use Rattle.blob_server.specs.Serving.{IsBeginningOf, WasServed}
use Rattle.blob_server.proofs.Accounting.{accounts_elsewhere, narrowed, nothing, then}
use Rattle.blob_server.proofs.Beginnings.{begins_on}
use Rattle.blob_server.proofs.Taking.{fails}
use Rattle.blob_server.proofs.pool.take_peers.Goals as goal

pub loop-taken-preserved : goal.loop-taken-preserved
loop-taken-preserved g c =
    let i = c.loop-taken.invariant in
    let s = g.S.PeerServer in
    let Served = WasServed s.home s.saw s.gives (s.home c.args.service.now) in
    let Seen : List Event → Type 0 = IsBeginningOf (s.saw c.place_peer.new.service) in
    let so = narrowed Served (IsBeginningOf (s.saw c.loop-taken.service)) Seen _ _ _ (λ history on. begins_on _ _ _ c.place_peer.ensures.saw on) i.served in
    let one = accounts_elsewhere s.home s.saw s.gives _ _ i.home Seen 1 (view c.loop-taken.pass) (view c.place_peer.new.pass) c.place_peer.ensures.served in
    record {
      listens = first_of (search rules, grind (arith, common_steps));
      here = first_of (search rules, grind (arith, common_steps));
      took = first_of (search rules, grind (arith, common_steps));
      ready = first_of (search rules, grind (arith, common_steps));
      home = first_of (search rules, grind (arith, common_steps));
      of_queue = first_of (search rules, grind (arith, common_steps));
      pass = first_of (search rules, grind (arith, common_steps));
      served = then Served Seen c.loop-taken.taken 1 _ _ _ _ refl so one;
    }

pub returns-in-Failed-clause-took : goal.returns-in-Failed-clause-took
returns-in-Failed-clause-took g c =
    let e = c.in-Failed.ensures in
    fails _ _ _ _ _ c.loop-taken.invariant.took (first_of (search rules, grind (arith, common_steps))) e.handed e.done e.faults

pub loop-taken-init : goal.loop-taken-init
loop-taken-init g c = record {
  listens = first_of (search rules, grind (arith, common_steps));
  here = first_of (search rules, grind (arith, common_steps));
  took = first_of (search rules, grind (arith, common_steps));
  ready = first_of (search rules, grind (arith, common_steps));
  home = first_of (search rules, grind (arith, common_steps));
  of_queue = first_of (search rules, grind (arith, common_steps));
  pass = first_of (search rules, grind (arith, common_steps));
  served = nothing _ _ _;
}
