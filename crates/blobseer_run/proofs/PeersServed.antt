-- How a server ended, from what its parts did.
use Rattle.std.proofs.Common.{◌≡◌, ◌⊎◌, inr, ℕ, ◌<◌, true, List, [], length, take, drop, refl, sym, ◌∙◌, ap, subst, arith, take-append-drop}
use Rattle.std.specs.Prelude.{Option, IfSome, Err}
use Rattle.std.specs.Io.KnownBytes.{Appends}
use Rattle.std.proofs.KnownBytes.{Appends-nil}
use Rattle.std.proofs.lemmas.List.{length-drop, length-map}
use Rattle.faults.specs.Counts.{RoseBy, count_after}
use Rattle.faults.proofs.Counts.{RoseBy-trans}
use Rattle.blob_model.specs.declared.call.Event.{Event}
use Rattle.request_form.specs.Session.{Fixed}
use Rattle.version_manager.specs.Log.{IsLog, IsHistory, events}
use Rattle.client_session.specs.Sessions.{StoreState, SessionState, session_of}
use Rattle.blob_server.specs.Serving.{Handing, TookPeers, FailedAfter, EndsAs, WasServed, ServedMany, ServesAll}
use Rattle.blob_server.specs.declared.server.ServeFault.{ServeFault}
use Rattle.blob_server.specs.declared.server.ServeFault.TheVariants as Faults
use Rattle.blobseer_run.specs.declared.status.Status.{Status}
use Rattle.blobseer_run.specs.Status.{code_of, write_fault, out_of_memory, listener_fault}
use Rattle.blobseer_run.specs.Outside.{Net, Outside, LeavesInput}
use Rattle.blobseer_run.specs.Hosting.{HandsOutNone, ListensAt, ListensAsBefore, ServedByStore, Hosted, DidServe, served_line, status_of}
use Rattle.blobseer_run.specs.Writing.{WritesLine, ToldLine}

-- a write that failed after so many bytes of a line
pub told_part : (line : List ℕ) (n : ℕ) (written written' : Option (List ℕ)) (writes writes' : ℕ) → Appends written written' (take n line) → RoseBy 1 writes writes' → n < length line
    → ToldLine line written written' writes writes' write_fault
told_part line n written written' writes writes' adds rose less = record {
  text = take n line;
  adds = adds;
  is_line = WritesLine.part refl (drop n line) (take-append-drop n line) (omega (arith, length-drop n line, less)) rose;
}

-- ---- what the store came to

-- what its owner has seen in the end is a history of a desk
pub by_store : {D P : Type 0} (Converses : SessionState D → P → SessionState D → Type 0) (store : StoreState) (fixed : Fixed) (seen : List (ℕ × Event))
    → record { limits = store.fixed.limits; page = store.fixed.page_size } ≡ fixed → IsLog store.fixed seen → (n : ℕ)
    → ServedMany (WasServed (λ s. s.store) (λ s. (session_of s).seen) Converses store (events seen)) n → ServedByStore Converses fixed n
by_store Converses store fixed seen is log n many =
    let history : IsHistory store.fixed.page_size store.fixed.limits (events seen) =
    record { legal = log.legal; short = omega (arith, log.short, length-map seen (λ (x : ℕ × Event). x.1)); in_order = log.in_order } in
    let P : Fixed → Type 0 = λ f. IsHistory f.page f.limits (events seen) in
    record { store = store; keeps_to = is; history = events seen; is_history = subst P is history; served = many }

-- ---- what the listener did, from before it listened
module _ (connections : ℕ) (old mid new : Handing) (handed : mid.handed ≡ old.handed) (done : mid.is_done ≡ old.is_done) (rose : RoseBy 0 old.faults mid.faults) where
  pub took_since : (peers : ℕ) → TookPeers connections peers mid new → TookPeers connections peers old new
  took_since peers t = record {
    within = t.within;
    handed = t.handed ∙ ap (count_after peers) handed;
    fewer = t.fewer;
    all = λ e. t.all e ∙ done;
    faults = RoseBy-trans 0 0 old.faults mid.faults new.faults rose t.faults;
  }

  pub failed_since : FailedAfter connections mid new → FailedAfter connections old new
  failed_since f = record {
    peers = f.peers;
    fewer = f.fewer;
    handed = f.handed ∙ ap (count_after f.peers) handed;
    done = f.done ∙ done;
    failed = RoseBy-trans 0 1 old.faults mid.faults new.faults rose f.failed;
  }

  pub none_since : new ≡ mid → HandsOutNone 0 old new
  none_since is = subst (HandsOutNone 0 old) (sym is) (record { handed = handed; done = done; rose = rose })

-- ---- at which address

-- it listens there still, at the address that was told
pub listens_there : (address told : List ℕ) (mid : Option (List ℕ)) (net : Net) → told ≡ address → net.listens ≡ true → IfSome mid (λ here. here ≡ told) → net.address ≡ mid → ListensAt address net
listens_there address told mid net is listens here stays =
    let P : Option (List ℕ) → List ℕ → Type 0 = λ o a. IfSome o (λ at. at ≡ a) in
    record { listens = listens; here = subst (λ (o : Option (List ℕ)). P o address) (sym stays) (subst (P mid) is here) }

-- ---- how it ended, where the input was left alone

module _ (address : List ℕ) (connections : ℕ) (Served : ℕ → Type 0) (old new : Outside) (input : LeavesInput old new) where
  pub served_there : (peers status : ℕ) → ListensAt address new.net → TookPeers connections peers old.net.handing new.net.handing → Served peers
      → ToldLine (served_line peers) old.written new.written old.writes new.writes status → DidServe address connections Served old new status
  served_there peers status listens took each told = record { text = told.text; adds = told.adds; ended = Hosted.served peers listens took each told.is_line; input = input }

  module _ (written : new.written ≡ old.written) where
    unwritten : (status : ℕ) → Hosted address connections Served old.net new.net [] old.writes new.writes status → DidServe address connections Served old new status
    unwritten status hosted =
        let P : Option (List ℕ) → Type 0 = λ o. Appends old.written o [] in
        record { text = []; adds = subst P (sym written) (Appends-nil old.written); ended = hosted; input = input }

    pub deaf_there : ListensAsBefore old.net new.net → HandsOutNone 1 old.net.handing new.net.handing → DidServe address connections Served old new listener_fault
    deaf_there before none = unwritten listener_fault (Hosted.deaf refl before none refl)

    unserved_there : ListensAt address new.net → (failed : FailedAfter connections old.net.handing new.net.handing) → Served failed.peers → DidServe address connections Served old new listener_fault
    unserved_there listens failed each = unwritten listener_fault (Hosted.unserved refl listens failed each refl)

    pub starved_there : ListensAsBefore old.net new.net ⊎ ListensAt address new.net → HandsOutNone 0 old.net.handing new.net.handing → DidServe address connections Served old new out_of_memory
    starved_there listens none = unwritten out_of_memory (Hosted.starved refl listens none refl)

    -- it was ended early, by what the listener did from before it listened
    module _ {P : Type 0} (Was : P → Type 0) (each : (n : ℕ) → ServedMany Was n → Served n) (mid : Handing) (listens : ListensAt address new.net) (handed : mid.handed ≡ old.net.handing.handed)
        (done : mid.is_done ≡ old.net.handing.is_done) (rose : RoseBy 0 old.net.handing.faults mid.faults) where
      faulted : (fault : ServeFault) → EndsAs connections mid new.net.handing (Err fault) → ServesAll Was connections mid new.net.handing (Err fault)
          → DidServe address connections Served old new (code_of (status_of fault))
      unfolding failed_since
      faulted Faults.Listener ended all = unserved_there listens (failed_since connections old.net.handing mid new.net.handing handed done rose all.0) (each all.0.peers all.1)
      faulted Faults.NoMemory ended all = starved_there (inr listens) (none_since connections old.net.handing mid new.net.handing handed done rose ended)

      pub faulted_there : (fault : ServeFault) (status : Status) → status ≡ status_of fault → EndsAs connections mid new.net.handing (Err fault)
          → ServesAll Was connections mid new.net.handing (Err fault) → DidServe address connections Served old new (code_of status)
      faulted_there fault status is ended all = subst (λ (s : Status). DidServe address connections Served old new (code_of s)) (sym is) (faulted fault ended all)
