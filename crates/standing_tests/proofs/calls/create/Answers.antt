use Rattle.std.proofs.Common.{◌∙◌, ◌∷◌, [], sym, ap, subst}
use Rattle.version_manager.specs.declared.journal.DeskFixed.{DeskFixed}
use Rattle.client_session.specs.Sessions.{StoreState}
use Rattle.read_board.specs.Refreshing.{AllHold}
use Rattle.standing_tests.proofs.calls.create.Goals as goal

pub returns : goal.returns
returns g c =
    let on = c.create.ensures.goes_on in
    let s = c.args.session.now in
    let s' = c.create.new.self in
    record {
      store = c.requires.store ∙ ap (λ (x : StoreState). x ∷ []) (sym on.store);
      hold = subst (λ (f : DeskFixed). AllHold f s'.log c.args.keeper.now.all) (ap (λ (x : StoreState). x.fixed) (sym on.store))
          (c.refreshes_stay.ensures s.store.fixed s.log s'.log c.args.keeper.now.all on.begins c.requires.hold);
    }
