use Rattle.std.proofs.Common.{◌≡◌, ◌∙◌, ℕ, true, false, refl, sym, ap, subst, List, [], append-nil, inl, inr, Option, Result, Ok, Err}
use Rattle.std.specs.Prelude.{◌↔◌, is_some}
use Rattle.blob_model.specs.declared.call.Event.{Event}
use Rattle.request_form.specs.declared.form.Fault.{Fault}
use Rattle.request_form.specs.declared.form.Fault.TheVariants.{NoMemory}
use Rattle.client_session.specs.Sessions.{session_of}
use Rattle.read_board.specs.declared.keeper.RefreshFault.{RefreshFault}
use Rattle.read_board.specs.declared.keeper.RefreshFault.TheVariants.{Fault as Refused, BoardFull}
use Rattle.read_board.specs.declared.refresh.Refresh.{Refresh}
use Rattle.read_board.specs.Refreshes.{version_of}
use Rattle.read_board.specs.Refreshing.{AllHold, IsNotThere, IsRecent}
use Rattle.read_board.proofs.Boards.{when_ok, when_err}
use Rattle.read_board.proofs.Reading.{stays_on}
use Rattle.read_board.proofs.Refreshed.{still_hold, follows, all_hold}
use Rattle.read_board.proofs.keeper.Keeper.refresh.Goals as goal

-- the board isn't full, and that isn't said
not_full : (full : Type 0) (room : Option ℕ) (said : Result ℕ RefreshFault) → (full → is_some room ≡ false) → is_some room ≡ true → (said ≡ Err BoardFull → ⊥) → (said ≡ Err BoardFull) ↔ full
not_full full room said told some other = (λ e. absurd (other e), λ f. let none = told f in absurd (cc (none, some)))

refused_not_full : (fault : Fault) → ◌≡◌ {A = Result ℕ RefreshFault} (Err (Refused fault)) (Err BoardFull) → ⊥
refused_not_full fault e = absurd (cc (e))

done_not_full : (version : ℕ) → ◌≡◌ {A = Result ℕ RefreshFault} (Ok version) (Err BoardFull) → ⊥
done_not_full version e = absurd (cc (e))

pub returns-in-Err-clause-hold : goal.returns-in-Err-clause-hold
returns-in-Err-clause-hold g c =
    still_hold c.old_versions_stay.ensures c.older_versions_stay.ensures.extents c.extents_hold.ensures.count c.args.session.now c.open_recent.new.session c.open_recent.ensures.goes_on c.args.self.now.all c.requires.hold

pub add-requires-clause-rising : goal.add-requires-clause-rising
add-requires-clause-rising g c =
    let r : Refresh = c.in-Ok.refresh in
    let recent : IsRecent c.args.session.now c.open_recent.new.session r.blob (version_of r) =
    subst (λ (b : ℕ). IsRecent c.args.session.now c.open_recent.new.session b (version_of r)) (sym c.in-Ok.ensures.blob) c.in-Ok.ensures.recent
    in
    follows c.old_versions_stay.ensures c.older_versions_stay.ensures.extents c.extents_hold.ensures.count c.args.session.now c.open_recent.new.session c.open_recent.ensures.goes_on c.args.self.now.all r c.requires.hold c.in-Ok.ensures.holds recent

pub returns-then-is_err-clause-hold : goal.returns-then-is_err-clause-hold
returns-then-is_err-clause-hold g c =
    let s' = c.open_recent.new.session in
    let same = when_err _ _ c.add.result (sym c.is_err.ensures.value ∙ c.if-is_err.true) c.add.ensures.added in
    subst (λ (l : List Refresh). AllHold s'.store.fixed s'.log l) (sym same.1)
    (still_hold c.old_versions_stay.ensures c.older_versions_stay.ensures.extents c.extents_hold.ensures.count c.args.session.now s' c.open_recent.ensures.goes_on c.args.self.now.all c.requires.hold)

pub returns-then-is_err-2-clause-hold : goal.returns-then-is_err-2-clause-hold
returns-then-is_err-2-clause-hold g c =
    let s' = c.open_recent.new.session in
    let more = when_ok _ _ c.add.result (sym c.is_err.ensures.value ∙ c.if-is_err.false) c.add.ensures.added in
    subst (λ (l : List Refresh). AllHold s'.store.fixed s'.log l) (sym (c.publish.ensures.all ∙ more.1))
    (all_hold c.old_versions_stay.ensures c.older_versions_stay.ensures.extents c.extents_hold.ensures.count c.args.session.now s' c.open_recent.ensures.goes_on c.args.self.now.all c.in-Ok.refresh c.requires.hold c.in-Ok.ensures.holds)

pub returns-clause-hold : goal.returns-clause-hold
returns-clause-hold g c =
    let s' = c.open_recent.new.session in
    let more = when_ok _ _ c.add.result (sym c.is_err.ensures.value ∙ c.if-is_err.false) c.add.ensures.added in
    subst (λ (l : List Refresh). AllHold s'.store.fixed s'.log l) (sym (c.publish.ensures.all ∙ more.1))
    (all_hold c.old_versions_stay.ensures c.older_versions_stay.ensures.extents c.extents_hold.ensures.count c.args.session.now s' c.open_recent.ensures.goes_on c.args.self.now.all c.in-Ok.refresh c.requires.hold c.in-Ok.ensures.holds)

pub returns-then-is_none-clause-full : goal.returns-then-is_none-clause-full
returns-then-is_none-clause-full g c = (λ _. c.room_for.ensures.full.0 c.if-is_none.ensures, λ _. refl)

pub returns-in-Err-clause-full : goal.returns-in-Err-clause-full
returns-in-Err-clause-full g c = not_full _ c.room_for.result _ c.room_for.ensures.full.1 c.if-is_none.ensures (refused_not_full c.in-Err.fault)

pub returns-then-is_err-clause-full : goal.returns-then-is_err-clause-full
returns-then-is_err-clause-full g c = not_full _ c.room_for.result _ c.room_for.ensures.full.1 c.if-is_none.ensures (refused_not_full NoMemory)

pub returns-then-is_err-2-clause-full : goal.returns-then-is_err-2-clause-full
returns-then-is_err-2-clause-full g c = not_full _ c.room_for.result _ c.room_for.ensures.full.1 c.if-is_none.ensures (refused_not_full NoMemory)

pub returns-clause-full : goal.returns-clause-full
returns-clause-full g c = not_full _ c.room_for.result _ c.room_for.ensures.full.1 c.if-is_none.ensures (done_not_full c.version-version.result)

pub returns-then-is_none-clause-left : goal.returns-then-is_none-clause-left
returns-then-is_none-clause-left g c = record { shown = refl; all = inl refl }

pub returns-in-Err-clause-left : goal.returns-in-Err-clause-left
returns-in-Err-clause-left g c = record { shown = refl; all = inl refl }

pub returns-then-is_none-clause-goes_on : goal.returns-then-is_none-clause-goes_on
returns-then-is_none-clause-goes_on g c = stays_on c.args.session.now c.args.session.now refl

pub returns-then-is_none-clause-looked : goal.returns-then-is_none-clause-looked
returns-then-is_none-clause-looked g c =
    let s = session_of c.args.session.now in
    record {
      others = [];
      is_gap = tt;
      seen = ap (λ (h : List Event). record s { seen = h }) (sym (append-nil s.seen));
      rest = refl;
    }

pub returns-then-is_err-clause-cause : goal.returns-then-is_err-clause-cause
returns-then-is_err-clause-cause g c = IsNotThere.no_memory refl

pub returns-then-is_err-2-clause-cause : goal.returns-then-is_err-2-clause-cause
returns-then-is_err-2-clause-cause g c = IsNotThere.no_memory refl

pub returns-then-is_err-clause-left : goal.returns-then-is_err-clause-left
returns-then-is_err-clause-left g c =
    let same = when_err _ _ c.add.result (sym c.is_err.ensures.value ∙ c.if-is_err.true) c.add.ensures.added in
    record { shown = c.add.ensures.shown; all = inl same.1 }

pub returns-then-is_err-2-clause-left : goal.returns-then-is_err-2-clause-left
returns-then-is_err-2-clause-left g c =
    let more = when_ok _ _ c.add.result (sym c.is_err.ensures.value ∙ c.if-is_err.false) c.add.ensures.added in
    let same = when_err _ _ c.publish.result (sym c.is_err-2.ensures.value ∙ c.if-is_err-2.true) c.publish.ensures.published in
    record { shown = same.1 ∙ c.add.ensures.shown; all = inr (c.in-Ok.refresh, c.in-Ok.ensures.blob, c.publish.ensures.all ∙ more.1) }

pub returns-clause-done : goal.returns-clause-done
returns-clause-done g c =
    let more = when_ok _ _ c.add.result (sym c.is_err.ensures.value ∙ c.if-is_err.false) c.add.ensures.added in
    let shown = when_ok _ _ c.publish.result (sym c.is_err-2.ensures.value ∙ c.if-is_err-2.false) c.publish.ensures.published in
    record {
      refresh = c.in-Ok.refresh;
      blob_is = c.in-Ok.ensures.blob;
      version_is = sym c.version-version.ensures.count;
      all = c.publish.ensures.all ∙ more.1;
      shown = shown.1 ∙ sym c.publish.ensures.all;
    }

pub returns-clause-recent : goal.returns-clause-recent
returns-clause-recent g c =
    subst (λ (version : ℕ). IsRecent c.args.session.now c.open_recent.new.session c.args.blob version) (sym c.version-version.ensures.count) c.in-Ok.ensures.recent
