use Rattle.std.proofs.Common.{◌≡◌, ◌-◌, ◌∙◌, List, [], ap, arith, subst}
use Rattle.crossbeam_queue.specs.Passes.{view}
use Rattle.blob_model.specs.declared.call.Event.{Event}
use Rattle.blob_server.specs.Tallies.{tally, all_parts}
use Rattle.blob_server.specs.Serving.{IsBeginningOf, AllBegin, WasServed, Accounts}
use Rattle.blob_server.proofs.Accounting.{accounts_elsewhere, all_served, narrowed, then, together}
use Rattle.blob_server.proofs.Beginnings.{begins_on}
use Rattle.blob_server.proofs.pool.work_all.Goals as goal

pub returns-clause-served : goal.returns-clause-served
returns-clause-served g c history begun all_begun =
    let s = g.S.PeerServer in
    let place = c.args.shared.now in
    let Served = WasServed s.home s.saw s.gives place in
    let r = c.run_beside-others.result in
    let theirs = view r.0.1 in
    let own = view r.1.2 in
    let taken = r.1.0.peers in
    let These : List Event → Type 0 = AllBegin s.saw r.0.0.items in
    let Led : List Event → Type 0 = IsBeginningOf (s.saw r.1.1) in
    let Last : List Event → Type 0 = IsBeginningOf (s.saw c.finish.new.service) in
    let Each : List Event → Type 0 = λ h. Last h × These h in
    let whole = c.requires.pass.1 in
    let left : view c.cut-own.new.pass ≡ tally (all_parts - 1) 0 [] = c.cut-own.ensures.left ∙ ap (λ v. tally (v.parts - 1) v.put v.taken) whole in
    let home = c.requires.first.1 in
    let others = narrowed Served These Each _ _ _ (λ h on. on.1) (subst (λ u. Accounts Served These 0 u theirs) left c.run_beside-others.ensures.other.1.1.1) in
    let led = accounts_elsewhere s.home s.saw s.gives _ place home Led taken (view c.cut-own.result) own c.run_beside-others.ensures.mine.7 in
    let mine = narrowed Served Led Each _ _ _ (λ h on. begins_on _ _ _ c.finish.ensures.saw on.0) (subst (λ u. Accounts Served Led taken u own) c.cut-own.ensures.right led) in
    let finished = accounts_elsewhere s.home s.saw s.gives _ place (c.run_beside-others.ensures.mine.5 ∙ home) Last 0 (view c.absorb.new.pass) (view c.finish.new.pass) c.finish.ensures.served in
    let end = narrowed Served Last Each _ _ _ (λ h on. on.0) (subst (λ u. Accounts Served Last 0 u (view c.finish.new.pass)) c.absorb.ensures.both finished) in
    let all = then Served Each taken 0 taken _ _ _ (omega arith) (together Served Each taken theirs own others mine) end in
    all_served Served Each taken (view c.finish.new.pass) all c.finish.ensures.all history (begun, all_begun)
