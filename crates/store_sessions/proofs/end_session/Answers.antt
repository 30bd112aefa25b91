use Rattle.std.proofs.Common.{ℕ, ◌∙◌, ap, subst}
use Rattle.page_store.specs.Calls.{Traffic}
use Rattle.client_session.specs.Sessions.{StoreState}
use Rattle.store_sessions.proofs.end_session.Goals as goal

pub returns-clause-taken_back : goal.returns-clause-taken_back
returns-clause-taken_back g c =
    let m = g.M.DoorMaker in
    let all = c.into_parts-pass.ensures.count ∙ ap (λ (s : StoreState). s.providers) c.requires.of_store in
    subst (λ (n : ℕ). Traffic m.hands_out m.takes_back 0 n c.args.maker.now c.give_back.new.maker) all c.give_back.ensures.taken_back
