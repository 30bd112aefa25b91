use Rattle.std.proofs.Common.{◌≡◌, ℕ, List, [], length, ◌∙◌, ap, subst, sym, sum_by, arith, Contains}
use Rattle.blob_model.specs.declared.call.Event.{Event}
use Rattle.turn_lock.specs.History.{entries_by}
use Rattle.turn_lock.specs.Shown.{OwnerView, PassView}
use Rattle.version_manager.specs.declared.journal.DeskFixed.{DeskFixed}
use Rattle.client_session.specs.Sessions.{SessionState}
use Rattle.page_store.specs.Calls.{Traffic}
use Rattle.store_sessions.proofs.Fresh.{fresh_doors}
use Rattle.store_sessions.proofs.Traffics.{went_back}
use Rattle.store_sessions.proofs.open_session.Goals as goal

pub returns-in-Ok-new-clause-session : goal.returns-in-Ok-new-clause-session
returns-in-Ok-new-clause-session g c =
    let faults = g.M.Door.Door.faults in
    let is = c.in-Ok-new.ensures.session in
    let p = c.in-Ok-pass.ensures.pass in
    let caller : c.in-Ok-new.session.caller ≡ c.in-Ok-pass.pass.caller = ap (λ (s : SessionState _). s.caller) is in
    let log : c.in-Ok-new.session.log ≡ c.in-Ok-pass.pass.seen = ap (λ (s : SessionState _). s.log) is in
    record {
      of_store = ap (λ (s : SessionState _). s.store) is;
      caller = caller ∙ ap (λ (v : PassView Event DeskFixed). v.caller) p;
      log = log ∙ ap (λ (v : PassView Event DeskFixed). v.seen) p;
      none =
          subst (λ (l : List (ℕ × Event)). entries_by c.in-Ok-new.session.caller l ≡ []) (sym log)
          (subst (λ (n : ℕ). entries_by n c.in-Ok-pass.pass.seen ≡ []) (sym caller) c.in-Ok-pass.ensures.own);
      none_held = ap (λ (s : SessionState _). s.held) is;
      first_next = ap (λ (s : SessionState _). s.next) is;
      limit = ap (λ (s : SessionState _). s.limit) is;
      no_fault = ap (λ (s : SessionState _). sum_by faults s.doors) is ∙ fresh_doors faults c.in-Ok.doors c.in-Ok.ensures.fresh;
    }

pub returns-in-Ok-new-clause-keeps : goal.returns-in-Ok-new-clause-keeps
returns-in-Ok-new-clause-keeps g c k there =
    subst (λ (l : List ℕ). Contains l k) (sym (ap (λ (o : OwnerView Event DeskFixed). o.kept) c.in-Ok-pass.ensures.counts)) there

pub returns-in-Ok-new-clause-handed_out : goal.returns-in-Ok-new-clause-handed_out
returns-in-Ok-new-clause-handed_out g c =
    let m = g.M.DoorMaker in
    subst (λ (n : ℕ). Traffic m.hands_out m.takes_back n 0 c.args.maker.now c.new.new.maker) c.providers.ensures c.in-Ok.ensures.handed_out

pub returns-in-Err-clause-count_stays : goal.returns-in-Err-clause-count_stays
returns-in-Err-clause-count_stays g c few =
    let faults = g.M.Door.Door.faults in
    let none = ap (sum_by faults) c.in-Err.ensures.doors_back ∙ fresh_doors faults c.in-Ok.doors c.in-Ok.ensures.fresh in
    let stays = c.new.ensures.count_stays in
    let adds = c.give_back.ensures.adds (omega (arith, few, stays)) in
    omega (arith, few, stays, none, adds)

pub returns-in-Err-clause-all_back : goal.returns-in-Err-clause-all_back
returns-in-Err-clause-all_back g c =
    let m = g.M.DoorMaker in
    let p = c.providers.result in
    let all = ap length c.in-Err.ensures.doors_back ∙ c.in-Ok.ensures.count in (
      p,
      went_back m.hands_out m.takes_back p c.args.maker.now c.new.new.maker c.give_back.new.maker c.in-Ok.ensures.handed_out
          (subst (λ (n : ℕ). Traffic m.hands_out m.takes_back 0 n c.new.new.maker c.give_back.new.maker) all c.give_back.ensures.taken_back),
    )
