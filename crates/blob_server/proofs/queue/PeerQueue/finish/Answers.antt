use Rattle.std.proofs.Common.{List, arith, rules}
use Rattle.std.proofs.lemmas.Grind.{common_steps}
use Rattle.crossbeam_queue.specs.Passes.{view}
use Rattle.blob_model.specs.declared.call.Event.{Event}
use Rattle.blob_server.specs.Serving.{IsBeginningOf, WasServed}
use Rattle.blob_server.proofs.Rule.{takes, learns}
use Rattle.blob_server.proofs.Accounting.{elsewhere, narrowed, nothing, took_one}
use Rattle.blob_server.proofs.Beginnings.{begins_itself, begins_on}
use Rattle.blob_server.proofs.queue.PeerQueue.finish.Goals as goal

pub pop_as-requires-clause-rule : goal.pop_as-requires-clause-rule
pop_as-requires-clause-rule g c =
    let same = c.loop.invariant.served.parts in
    let some = c.requires.parts in
    (takes _ _ (omega (arith, same, some)), learns _ _)

pub loop-preserved : goal.loop-preserved
loop-preserved g c =
    let i = c.loop.invariant in
    let s = g.S.PeerServer in
    let Served = WasServed s.home s.saw s.gives (s.home c.args.service.now) in
    let Seen : List Event → Type 0 = IsBeginningOf (s.saw c.serve_one.new.service) in
    record {
      ready = first_of (search rules, grind (arith, common_steps));
      home = first_of (search rules, grind (arith, common_steps));
      of_queue = first_of (search rules, grind (arith, common_steps));
      pass = first_of (search rules, grind (arith, common_steps));
      saw = begins_on _ _ _ i.saw c.serve_one.ensures.saw;
      served = took_one Served Seen 0 (view c.args.pass.now) (view c.loop.pass) (view c.pop_as.new.pass) c.in-Some-pop_as.peer
          (narrowed Served (IsBeginningOf (s.saw c.loop.service)) Seen 0 (view c.args.pass.now) (view c.loop.pass) (λ history on. begins_on _ _ _ c.serve_one.ensures.saw on) i.served)
          c.in-Some-pop_as.ensures.rule (λ history on. elsewhere s.home s.saw s.gives _ _ i.home history _ (c.serve_one.ensures.served history on));
    }

pub loop-init : goal.loop-init
loop-init g c = record {
  ready = first_of (search rules, grind (arith, common_steps));
  home = first_of (search rules, grind (arith, common_steps));
  saw = begins_itself _;
  of_queue = first_of (search rules, grind (arith, common_steps));
  pass = first_of (search rules, grind (arith, common_steps));
  served = nothing _ _ _;
}
