-- A refresh comes after those that the keeper has, and all hold what they held.
use Rattle.std.proofs.Common.{ℕ, ◌≤◌, List, [], ◌∷◌, ◌++◌, ap, sym, subst, arith}
use Rattle.std.proofs.lemmas.List.Elements.{All-push}
use Rattle.std.proofs.lemmas.Option.{slice_get_within, get_or_from_slice_get}
use Rattle.blob_model.specs.Laws.{OldVersionsStay}
use Rattle.range_log.specs.Laws.{ExtentsGrow, ExtentsAre}
use Rattle.version_manager.specs.Desks.{published_in}
use Rattle.version_manager.specs.Log.{desk_at}
use Rattle.version_manager.specs.declared.journal.DeskFixed.{DeskFixed}
use Rattle.client_session.specs.Sessions.{SessionState, StoreState, Continues}
use Rattle.read_board.specs.declared.refresh.Refresh.{Refresh}
use Rattle.read_board.specs.Refreshes.{version_of, MayFollow}
use Rattle.read_board.specs.Refreshing.{Holds, AllHold, IsRecent}
use Rattle.read_board.proofs.Holding.{grown, all_hold_on, may_follow}

module _ {D : Type 0} (stay : OldVersionsStay) (grow : ExtentsGrow) (are : ExtentsAre) (s s' : SessionState D) (on : Continues s s') where
  pub still_hold : (rs : List Refresh) → AllHold s.store.fixed s.log rs → AllHold s'.store.fixed s'.log rs
  still_hold rs all =
      subst (λ (f : DeskFixed). AllHold f s'.log rs) (ap (λ (st : StoreState). st.fixed) (sym on.store)) (all_hold_on stay grow are s.store.fixed s.log s'.log on.begins rs all)

  pub follows : (rs : List Refresh) (r : Refresh) → AllHold s.store.fixed s.log rs → Holds s.store.fixed s'.log r → IsRecent s s' r.blob (version_of r) → MayFollow rs r
  follows rs r all holds recent =
      may_follow are s.store.fixed s'.log rs r (all_hold_on stay grow are s.store.fixed s.log s'.log on.begins rs all) holds
      (λ a i at same.
      let h : Holds s.store.fixed s.log a = subst (Holds s.store.fixed s.log) (get_or_from_slice_get rs i a a at) (all i a (slice_get_within rs i a at)) in
      let g = grown stay s.store.fixed s.log recent.mid r.blob recent.begins in
      let below : version_of a ≤ published_in (desk_at s.store.fixed s.log) r.blob = subst (λ (blob : ℕ). version_of a ≤ published_in (desk_at s.store.fixed s.log) blob) same h.published in
      omega (arith, below, g.published, recent.is))

  pub all_hold : (rs : List Refresh) (r : Refresh) → AllHold s.store.fixed s.log rs → Holds s.store.fixed s'.log r → AllHold s'.store.fixed s'.log (rs ++ r ∷ [])
  all_hold rs r all holds =
      All-push (Holds s'.store.fixed s'.log) rs r (still_hold rs all) (subst (λ (f : DeskFixed). Holds f s'.log r) (ap (λ (st : StoreState). st.fixed) (sym on.store)) holds)
