use Rattle.std.proofs.Common.{◌≡◌, ◌+◌, ℕ, List, [], ◌∷◌, ◌++◌, sym, ap, subst, ◌∙◌, Contains}
use Rattle.blob_model.specs.declared.call.Event.{Event}
use Rattle.turn_lock.specs.History.{entries_by}
use Rattle.turn_lock.specs.Shown.{PassView, OwnerView}
use Rattle.version_manager.specs.declared.journal.DeskFixed.{DeskFixed}
use Rattle.client_session.specs.Sessions.{StoreState, SessionState}
use Rattle.store_sessions.proofs.Kept.{keeps_both, none_more}
use Rattle.store_sessions.proofs.renew_session.Goals as goal

abbrev Owner : Type 0
Owner = OwnerView Event DeskFixed

pub new-requires-clause-served : goal.new-requires-clause-served
new-requires-clause-served g c = c.into_parts-ended.ensures.count ∙ ap (λ (s : StoreState). s.providers) c.requires.of_store

pub returns-in-Ok-new-clause-session : goal.returns-in-Ok-new-clause-session
returns-in-Ok-new-clause-session g c =
    let is = c.in-Ok-new.ensures.session in
    let p = c.in-Ok.ensures.pass in
    let back = c.take_back.ensures.counts.1 in
    let given = c.in-Ok.ensures.counts in
    let caller : c.in-Ok-new.renewed.caller ≡ c.in-Ok.next.caller = ap (λ (s : SessionState _). s.caller) is in
    let log : c.in-Ok-new.renewed.log ≡ c.in-Ok.next.seen = ap (λ (s : SessionState _). s.log) is in
    record {
      of_store = ap (λ (s : SessionState _). s.store) is;
      caller = caller ∙ (ap (λ (v : PassView Event DeskFixed). v.caller) p ∙ ap (λ (o : Owner). o.made + 1) back);
      log = log ∙ (ap (λ (v : PassView Event DeskFixed). v.seen) p ∙ sym (ap (λ (o : Owner). o.seen) given));
      none =
          subst (λ (l : List (ℕ × Event)). entries_by c.in-Ok-new.renewed.caller l ≡ []) (sym log)
          (subst (λ (n : ℕ). entries_by n c.in-Ok.next.seen ≡ []) (sym caller) c.in-Ok.ensures.own);
      none_held = ap (λ (s : SessionState _). s.held) is;
      first_next = ap (λ (s : SessionState _). s.next) is;
      limit = ap (λ (s : SessionState _). s.limit) is;
      doors = ap (λ (s : SessionState _). s.doors) is ∙ c.into_parts-ended.ensures.doors;
    }

pub returns-in-Ok-new-clause-keeps : goal.returns-in-Ok-new-clause-keeps
returns-in-Ok-new-clause-keeps g c k there =
    let old = c.args.owner.now in
    let ended = ap (λ (p : PassView Event DeskFixed). old.kept ++ p.caller ∷ []) c.into_parts-ended.ensures.pass in
    let kept = ap (λ (o : Owner). o.kept) c.in-Ok.ensures.counts ∙ (ap (λ (o : Owner). o.kept) c.take_back.ensures.counts.1 ∙ ended) in
    subst (λ (l : List ℕ). Contains l k) (sym kept) there

pub returns-in-Err-clause-keeps : goal.returns-in-Err-clause-keeps
returns-in-Err-clause-keeps g c =
    let old = c.args.owner.now in
    let ended = ap (λ (p : PassView Event DeskFixed). old.kept ++ p.caller ∷ []) c.into_parts-ended.ensures.pass in
    let kept = ap (λ (o : Owner). o.kept) c.in-Ok.ensures.counts ∙ (ap (λ (o : Owner). o.kept) c.take_back.ensures.counts.1 ∙ ended) in
    keeps_both old.kept c.pass.new.owner.kept c.give_back.new.owner.kept c.args.session.caller c.in-Err.unused.caller kept (ap (λ (o : Owner). o.kept) c.give_back.ensures.counts.1)

pub returns-in-Err-clause-none_entered : goal.returns-in-Err-clause-none_entered
returns-in-Err-clause-none_entered g c =
    let old = c.args.owner.now in
    let ended = ap (λ (p : PassView Event DeskFixed). old.kept ++ p.caller ∷ []) c.into_parts-ended.ensures.pass in
    let kept = ap (λ (o : Owner). o.kept) c.in-Ok.ensures.counts ∙ (ap (λ (o : Owner). o.kept) c.take_back.ensures.counts.1 ∙ ended) in
    let none = subst (λ (p : PassView Event DeskFixed). entries_by p.caller p.seen ≡ []) (sym c.in-Err.ensures.pass_back) c.in-Ok.ensures.own in
    none_more old.kept c.pass.new.owner.kept c.give_back.new.owner.kept c.args.session.caller c.in-Err.unused.caller kept (ap (λ (o : Owner). o.kept) c.give_back.ensures.counts.1) c.give_back.new.owner.seen
    (c.give_back.ensures.own ∙ none)
