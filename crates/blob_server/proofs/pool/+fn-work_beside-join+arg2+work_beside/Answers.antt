use Rattle.std.proofs.Common.{◌≡◌, ◌<◌, List, [], ◌∷◌, ◌++◌, arith, refl, subst}
use Rattle.std.specs.List.{All}
use Rattle.std.proofs.lemmas.Grind.{common_steps}
use Rattle.crossbeam_queue.specs.Passes.{view}
use Rattle.blob_model.specs.declared.call.Event.{Event}
use Rattle.blob_server.specs.Serving.{IsBeginningOf, AllBegin, WasServed, Accounts}
use Rattle.blob_server.proofs.Accounting.{accounts_elsewhere, beside, narrowed, nothing}
use Rattle.blob_server.proofs.Idling.{all_front, last_of}
use Rattle.blob_server.proofs.pool.+fn-work_beside-join+arg2+work_beside.Goals as goal

pub returns-clause-served : goal.returns-clause-served
returns-clause-served g t c =
    let s = g.S.PeerServer in
    let Served = WasServed s.home s.saw s.gives c.args.shared.now in
    let ready = subst (λ (l : List g.row.S.Denot). All (λ x. s.is_ready x × (s.home x ≡ c.args.shared.now)) l) c.in-Some.ensures.items c.requires.ready in
    let here = (last_of (λ x. s.is_ready x × (s.home x ≡ c.args.shared.now)) c.pop.new.self.items c.in-Some.service ready).1 in
    let j = c.join-services.ensures in
    let v = view c.args.pass in
    let some : 1 < v.parts = grind (arith, common_steps) in
    let those = c.join-services.result.0.0.items in
    let this = c.join-services.result.1.0 in
    let These : List Event → Type 0 = AllBegin s.saw those in
    let This : List Event → Type 0 = IsBeginningOf (s.saw this) in
    let Each : List Event → Type 0 = AllBegin s.saw c.push_reserved-2.new.self.items in
    let all : (history : List Event) → Each history → AllBegin s.saw (those ++ this ∷ []) history = λ history on. subst (λ (l : List g.row.S.Denot). AllBegin s.saw l history) c.push_reserved-2.ensures.items on in
    let others = narrowed Served These Each _ _ _ (λ history on. all_front (λ x. IsBeginningOf (s.saw x) history) those this (all history on)) j.first.1.1.1 in
    let own = narrowed Served This Each _ _ _ (λ history on. last_of (λ x. IsBeginningOf (s.saw x) history) those this (all history on))
    (accounts_elsewhere s.home s.saw s.gives _ _ here This 0 (view c.cut-own.result) (view c.join-services.result.1.1) j.second.1.1) in
    let rest = subst (λ u. Accounts Served Each 0 u (view c.join-services.result.0.1)) c.cut-own.ensures.left others in
    let mine = subst (λ u. Accounts Served Each 0 u (view c.join-services.result.1.1)) c.cut-own.ensures.right own in
    rw c.absorb.ensures.both (beside Served Each 0 0 0 v (view c.join-services.result.0.1) (view c.join-services.result.1.1) refl some rest mine)

pub returns-in_default-clause-served : goal.returns-in_default-clause-served
returns-in_default-clause-served g t c = nothing _ _ _

pub returns-then-is_empty-clause-served : goal.returns-then-is_empty-clause-served
returns-then-is_empty-clause-served g t c =
    let s = g.S.PeerServer in
    let Served = WasServed s.home s.saw s.gives c.args.shared.now in
    let ready = subst (λ (l : List g.row.S.Denot). All (λ x. s.is_ready x × (s.home x ≡ c.args.shared.now)) l) c.in-Some.ensures.items c.requires.ready in
    let here = (last_of (λ x. s.is_ready x × (s.home x ≡ c.args.shared.now)) c.pop.new.self.items c.in-Some.service ready).1 in
    let This : List Event → Type 0 = IsBeginningOf (s.saw c.work_by-service.result.0) in
    let Each : List Event → Type 0 = AllBegin s.saw c.push_reserved.new.self.items in
    narrowed Served This Each _ _ _ (λ history on. last_of (λ x. IsBeginningOf (s.saw x) history) _ _ (subst (λ (l : List g.row.S.Denot). AllBegin s.saw l history) c.push_reserved.ensures.items on))
    (accounts_elsewhere s.home s.saw s.gives _ _ here This 0 (view c.args.pass) (view c.work_by-service.result.1) c.work_by-service.ensures.served)
