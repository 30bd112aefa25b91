-- Which page is named where one is lost, by what the parts below say.
use Rattle.std.proofs.Common.{◌≡◌, sym, ◌∙◌, ap, subst, ℕ, List, Result, Ok, Err, arith}
use Rattle.std.specs.Prelude.{IfErr, map, true}
use Rattle.std.proofs.lemmas.Bool.{false≢true}
use Rattle.blob_model.specs.declared.call.Event.{Event}
use Rattle.page_fan.specs.Counts.{NoneFell}
use Rattle.page_fan.specs.Fault.{OnLostPage}
use Rattle.page_fan.specs.declared.storing.StoreFault.{StoreFault}
use Rattle.page_fan.specs.declared.storing.StoreFault.TheVariants as StoreFaults
use Rattle.border_hints.specs.Numbered.{NumberedUpdate}
use Rattle.snapshot.specs.Versions.{Version}
use Rattle.range_reader.specs.Faults.{PageFailedIn}
use Rattle.version_manager.specs.Log.{IsSnapshotOf, IsWaitingTicket}
use Rattle.request_form.specs.Replies.{page_faults, fault_count}
use Rattle.request_form.specs.declared.form.Fault.{Fault}
use Rattle.request_form.specs.declared.form.Fault.TheVariants as Faults
use Rattle.tree_weaver.specs.Anew.{IsStoredAnew, FoldFailed, OnLostFold}
use Rattle.tree_weaver.proofs.Lost.{fold_since}
use Rattle.page_fan.specs.Lost.{IsFirstLost}
use Rattle.range_reader.specs.Ranges.{OnPageLost, PageFailedInOne}
use Rattle.client_session.specs.Tickets.{OpenUpdate, IsHeldAt}
use Rattle.tree_weaver.specs.declared.folding.WeaveFault.{WeaveFault}
use Rattle.tree_weaver.specs.declared.folding.WeaveFault.TheVariants as WeaveFaults
use Rattle.range_reader.specs.declared.ranges.RangeFault.{RangeFault}
use Rattle.range_reader.specs.declared.ranges.RangeFault.TheVariants as RangeFaults
use Rattle.client_session.specs.Results.{store_fault, weave_fault, range_of, repair_reply}
use Rattle.client_session.specs.Losses.{IfPageLost, LostFirst, LostInRead, LostInRanges, LostAnew, LostOfHeld}
use Rattle.client_session.specs.Finishing.{NotWoven, settles}
use Rattle.client_session.specs.Kept.{Found}
use Rattle.client_session.specs.Sessions.{SessionState, StoreState}

-- ---- a fault that names a page
other_page : (a b : ℕ) → Faults.PageFault a ≡ Faults.PageFault b → a ≡ b
other_page a b e = cc

pub calm_lost : (fault : Fault) (P : ℕ → Type 0) → page_faults fault ≡ 0 → IfPageLost fault P
calm_lost fault P calm page is =
    let one : page_faults fault ≡ 1 = ap (λ (f : Fault). page_faults f) is in
    absurd (omega (arith, one, calm))

pub calm_result : {A : Type 0} (said : Result A Fault) (P : ℕ → Type 0) → IfErr said (λ fault. page_faults fault ≡ 0) → IfErr said (λ fault. IfPageLost fault P)
calm_result (Ok a) P calm = tt
calm_result (Err fault) P calm = calm_lost fault P calm

pub calm_repair : (said : Result ℕ Fault) (P : ℕ → Type 0) → fault_count (repair_reply said) ≡ 0 → IfErr said (λ fault. IfPageLost fault P)
calm_repair (Ok published) P calm = tt
calm_repair (Err fault) P calm = calm_lost fault P calm

-- ---- of an update
pub first_lost : (store : StoreState) (bytes before now : List ℕ) (fault : StoreFault)
    → OnLostPage fault (IsFirstLost store.fixed.houses store.fixed.page_size bytes store.providers store.replicas before now) → IfPageLost (store_fault fault) (LostFirst store bytes before now)
first_lost store bytes before now (StoreFaults.PageFault lost stored) first page is =
    subst (LostFirst store bytes before now) (other_page lost page is) (record { stored = stored; lost = first })
first_lost store bytes before now StoreFaults.NoMemory first page is = let never : ⊥ = cc in absurd never

-- ---- of a read
pub range_lost : (said : Result (List ℕ) RangeFault) (P : ℕ → Type 0) → IfErr said (λ fault. OnPageLost fault P) → IfErr (range_of said) (λ fault. IfPageLost fault P)
range_lost (Ok bytes) P lost = tt
range_lost (Err (RangeFaults.RangePastSize end size)) P lost = λ page is. let never : ⊥ = cc in absurd never
range_lost (Err (RangeFaults.PageFault at)) P lost = λ page is. subst P (other_page at page is) lost
range_lost (Err RangeFaults.NoMemory) P lost = λ page is. let never : ⊥ = cc in absurd never

module _ {D : Type 0} (faults : D → ℕ) (s m s' : SessionState D) (blob version : ℕ) (v : Version) (o : Found s blob version v m) (same : s' ≡ record m { doors = s'.doors }) where
  pub read_lost : (offset count : ℕ) (said : Result (List ℕ) Fault) → IfErr said (λ fault. IfPageLost fault (PageFailedIn v offset count (map faults m.doors) (map faults s'.doors)))
      → IfErr said (λ fault. IfPageLost fault (LostInRead s.store s'.log blob version offset count (map faults s.doors) (map faults s'.doors)))
  read_lost offset count (Ok bytes) lost = tt
  read_lost offset count (Err fault) lost = λ page is.
      let doors : m.doors ≡ s.doors = ap (λ (x : SessionState D). x.doors) o.same in
      record {
        snapshot = v;
        is = subst (λ (l : List (ℕ × Event)). IsSnapshotOf s.store.fixed l blob version v) (sym (ap (λ (x : SessionState D). x.log) same)) o.snapshot;
        lost = subst (λ (ds : List D). PageFailedIn v offset count (map faults ds) (map faults s'.doors) page) doors (lost page is);
      }

  -- the same of many ranges
  pub ranges_lost : (ranges : List (ℕ × ℕ)) (said : Result (List ℕ) Fault) → IfErr said (λ fault. IfPageLost fault (PageFailedInOne v ranges (map faults m.doors) (map faults s'.doors)))
      → IfErr said (λ fault. IfPageLost fault (LostInRanges s.store s'.log blob version ranges (map faults s.doors) (map faults s'.doors)))
  ranges_lost ranges (Ok bytes) lost = tt
  ranges_lost ranges (Err fault) lost = λ page is.
      let doors : m.doors ≡ s.doors = ap (λ (x : SessionState D). x.doors) o.same in
      record {
        snapshot = v;
        is = subst (λ (l : List (ℕ × Event)). IsSnapshotOf s.store.fixed l blob version v) (sym (ap (λ (x : SessionState D). x.log) same)) o.snapshot;
        lost = subst (λ (ds : List D). PageFailedInOne v ranges (map faults ds) (map faults s'.doors) page) doors (lost page is);
      }

-- ---- of a page that is stored anew
pub weave_lost : (fault : WeaveFault) (P : ℕ → Type 0) → OnLostFold fault P → IfPageLost (weave_fault fault) P
weave_lost (WeaveFaults.PageFault lost) P failed page is = subst P (other_page lost page is) failed
weave_lost WeaveFaults.NoMemory P failed page is = let never : ⊥ = cc in absurd never

module _ (store : StoreState) (log : List (ℕ × Event)) (blob version : ℕ) (t : NumberedUpdate) (w : IsWaitingTicket store.fixed log blob version t) (before now : List ℕ) where
  pub anew_lost : (fault : Fault) → NotWoven t fault → IfPageLost fault (FoldFailed t store.providers store.replicas before now) → IfPageLost fault (LostAnew store log blob version before now)
  anew_lost fault (NotWoven.no_memory said) lost page is = let never : ⊥ = cc in absurd never
  anew_lost fault (NotWoven.waits said below some) lost page is = let never : ⊥ = cc in absurd never
  anew_lost fault (NotWoven.lost at said follows anew) lost page is =
      record { ticket = t; waiting = w; follows = follows; anew = subst (IsStoredAnew t) (other_page at page (sym said ∙ is)) anew; lost = lost page is }

-- an earlier beginning sees the same, and equal things are told alike
pub lost_since : (store store' : StoreState) (log log' : List (ℕ × Event)) (blob blob' version version' : ℕ) (before mid now now' : List ℕ) (page : ℕ) → store ≡ store' → log ≡ log' → blob ≡ blob' → version ≡ version' → now ≡ now'
    → NoneFell before mid → LostAnew store log blob version mid now page → LostAnew store' log' blob' version' before now' page
lost_since store store' log log' blob blob' version version' before mid now now' page stores logs blobs versions nows fell l =
    let earlier : LostAnew store log blob version before now page =
    record { ticket = l.ticket; waiting = l.waiting; follows = l.follows; anew = l.anew; lost = fold_since l.ticket store.providers store.replicas before mid now page fell l.lost } in
    subst (λ (x : StoreState). LostAnew x log' blob' version' before now' page) stores
    (subst (λ (x : List (ℕ × Event)). LostAnew store x blob' version' before now' page) logs
    (subst (λ (x : ℕ). LostAnew store log x version' before now' page) blobs
    (subst (λ (x : ℕ). LostAnew store log blob x before now' page) versions
    (subst (λ (x : List ℕ). LostAnew store log blob version before x page) nows earlier))))

-- ---- of a finish
-- where the update is finished no page is named
pub settled_lost : (said : Result ℕ Fault) (P : ℕ → Type 0) → settles said ≡ true → IfErr said (λ fault. IfPageLost fault P)
settled_lost (Ok published) P settled = tt
settled_lost (Err fault) P settled = λ page is. absurd (false≢true (sym (ap (λ (f : Fault). settles (Err f)) is) ∙ settled))

pub held_lost : (store : StoreState) (log : List (ℕ × Event)) (held : List OpenUpdate) (number index : ℕ) (at : IsHeldAt held number index) (before now : List ℕ) (said : Result ℕ Fault)
    → IfErr said (λ fault. IfPageLost fault (LostAnew store log at.update.ticket.blob at.update.ticket.version before now))
    → IfErr said (λ fault. IfPageLost fault (LostOfHeld store log held number before now))
held_lost store log held number index at before now (Ok published) lost = tt
held_lost store log held number index at before now (Err fault) lost = λ page is. record { index = index; at = at; lost = lost page is }
