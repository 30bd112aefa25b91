-- The doors that were made for a command came back.
use Rattle.std.proofs.Common.{◌≡◌, inl, inr, ℕ, refl, sym, ap, subst}
use Rattle.std.specs.Prelude.{Err}
use Rattle.page_store.specs.Calls.{Traffic, no_door, AllCameBack}
use Rattle.store_sessions.proofs.Traffics.{went_back}
use Rattle.blob_server.specs.Serving.{LendsDoors}
use Rattle.blob_server.specs.declared.server.ServeFault.{ServeFault}
use Rattle.blob_server.specs.declared.server.ServeFault.TheVariants as ServeFaults
use Rattle.settings.specs.declared.table.Command.{Command}
use Rattle.settings.specs.Values.{SettingsValues}
use Rattle.blobseer_run.specs.declared.status.Status.{Status}
use Rattle.blobseer_run.specs.Status.{code_of, out_of_memory}
use Rattle.blobseer_run.specs.Hosting as hosting
use Rattle.blobseer_run.specs.Lending.{CameBack, LendsBy, Lends}
use Rattle.blobseer_run.proofs.Early.{IsEarly}

module _ {M : Type 0} (hands_out takes_back : M → M → Type 0) where
  -- no door was made
  pub none_made : (doors : ℕ) (maker : M) → Lends doors (CameBack hands_out takes_back maker maker) out_of_memory
  none_made doors maker = Lends.early 0 no_door (inl refl)

  -- no memory was found for all of them
  pub starved : (doors : ℕ) (first last : M) → AllCameBack hands_out takes_back first last → Lends doors (CameBack hands_out takes_back first last) out_of_memory
  starved doors first last back = Lends.early back.0 back.1 (inl refl)

  -- the doors of one session, which has as many in the end
  pub one_session : (doors made left status : ℕ) (first maker last : M) → made ≡ doors → left ≡ doors → Traffic hands_out takes_back made 0 first maker → Traffic hands_out takes_back 0 left maker last
      → Lends doors (CameBack hands_out takes_back first last) status
  one_session doors made left status first maker last as_many all out back =
      let handed : Traffic hands_out takes_back doors 0 first maker = subst (λ (n : ℕ). Traffic hands_out takes_back n 0 first maker) as_many out in
      let taken : Traffic hands_out takes_back 0 doors maker last = subst (λ (n : ℕ). Traffic hands_out takes_back 0 n maker last) all back in
      Lends.whole (went_back hands_out takes_back doors first maker last handed taken)

  -- all sessions had their doors
  pub all_sessions : (doors n status : ℕ) (first last : M) → n ≡ doors → Traffic hands_out takes_back n n first last → Lends doors (CameBack hands_out takes_back first last) status
  all_sessions doors n status first last is back = Lends.whole (subst (λ (m : ℕ). CameBack hands_out takes_back first last m) is back)

  -- a server that was ended early
  faulted_as : (doors : ℕ) (first last : M) (fault : ServeFault) → LendsDoors hands_out takes_back doors first last (Err fault) → Lends doors (CameBack hands_out takes_back first last) (code_of (hosting.status_of fault))
  faulted_as doors first last ServeFaults.Listener back = Lends.whole back
  faulted_as doors first last ServeFaults.NoMemory back = Lends.early back.0 back.1 (inl refl)

  pub faulted : (doors n : ℕ) (first last : M) (fault : ServeFault) (status : Status) → n ≡ doors → status ≡ hosting.status_of fault → LendsDoors hands_out takes_back n first last (Err fault)
      → Lends doors (CameBack hands_out takes_back first last) (code_of status)
  faulted doors n first last fault status as_many is back =
      let there : LendsDoors hands_out takes_back doors first last (Err fault) = subst (λ (m : ℕ). LendsDoors hands_out takes_back m first last (Err fault)) as_many back in
      subst (λ (s : Status). Lends doors (CameBack hands_out takes_back first last) (code_of s)) (sym is) (faulted_as doors first last fault there)

  -- a measure that was ended early
  pub ended_early : (doors : ℕ) (first last : M) (status : Status) (before after : ℕ) → IsEarly status before after → AllCameBack hands_out takes_back first last
      → Lends doors (CameBack hands_out takes_back first last) (code_of status)
  ended_early doors first last status before after (inl e) back = Lends.early back.0 back.1 (inl (ap code_of e))
  ended_early doors first last status before after (inr e) back = Lends.early back.0 back.1 (inr (ap code_of e.0))

-- what is said of a command is said of each that is the same
pub by_command : (command k : Command) (settings : SettingsValues) (Back : ℕ → Type 0) (status : ℕ) → command ≡ k → LendsBy k settings Back status → LendsBy command settings Back status
by_command command k settings Back status is lends = subst (λ (c : Command). LendsBy c settings Back status) (sym is) lends
