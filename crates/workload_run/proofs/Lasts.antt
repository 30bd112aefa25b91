-- What the last session of a watch reads, and what comes then.
use Rattle.std.proofs.Common.{◌≡◌, inl, inr, ℕ, ◌*◌, ◌<◌, ◌≤◌, List, [], ◌∷◌, ◌++◌, length, take, refl, sym, ap, subst, ◌∙◌, arith}
use Rattle.std.specs.Prelude.{Some, Result, Ok, Err}
use Rattle.std.proofs.lemmas.List.{get_or_push, length-append, take_all}
use Rattle.blob_model.specs.Content.{Update, content, size_of}
use Rattle.blob_model.specs.Store.{Blob, blob_at, published}
use Rattle.blob_model.specs.History.{store_of}
use Rattle.blob_model.specs.Laws.{OldVersionsStay}
use Rattle.blob_model.specs.declared.call.Call.TheVariants as Calls
use Rattle.blob_model.specs.declared.call.Event.{Event}
use Rattle.blob_model.specs.declared.call.Outcome.TheVariants as Outcomes
use Rattle.turn_lock.proofs.Histories.{begins_both}
use Rattle.snapshot.specs.Versions.{Version, size_now}
use Rattle.snapshot.specs.Laws.{TellUpdates}
use Rattle.version_manager.specs.Desks.{OnRefused, updates_in, published_in, published_or_none}
use Rattle.version_manager.specs.Log.{IsSnapshotOf, desk_at, events, outcome_in}
use Rattle.version_manager.specs.declared.journal.DeskFixed.{DeskFixed}
use Rattle.version_manager.specs.declared.fault.DeskFault.{DeskFault}
use Rattle.version_manager.specs.declared.fault.DeskFault.TheVariants as DeskFaults
use Rattle.request_form.specs.PublishedReads.{IsPublishedIn}
use Rattle.request_form.specs.Replies.{page_faults}
use Rattle.request_form.specs.declared.form.Fault.{Fault}
use Rattle.request_form.specs.declared.form.Fault.TheVariants as Faults
use Rattle.client_session.specs.Opening.{OverUpdates, ReadsRange, RangeCause, Opening, NotOpened}
use Rattle.client_session.specs.Results.{desk_fault}
use Rattle.client_session.specs.Sessions.{SessionState, StoreState, Continues, session_of}
use Rattle.client_session.proofs.Turns.{seen_gap}
use Rattle.read_board.specs.declared.refresh.Refresh.{Refresh}
use Rattle.read_board.specs.Keeping.{KeeperState}
use Rattle.read_board.specs.Refreshes.{version_of, on_board}
use Rattle.read_board.specs.Refreshing.{Holds, AllHold, IsRecent, Refreshed}
use Rattle.read_board.specs.Laws.{RefreshesStay}
use Rattle.read_board.proofs.Recent.{size_not_refused}
use Rattle.workload_law.specs.Sessions.{GapsHaveNoOwn}
use Rattle.workload_law.specs.Ends.{IsOutside}
use Rattle.workload_law.proofs.Later.{outside_as}
use Rattle.workload_run.proofs.Returns.{events_append}
use Rattle.workload_run.specs.Idling.{Idles}
use Rattle.workload_run.specs.Keeping.{MayRefresh, RefreshHindered}
use Rattle.workload_run.specs.Lasts.{updates_seen, WholeRead, IsLast, LastHindered}
use Rattle.workload_run.specs.Stops.{IsPageSeen, Stops}
use Rattle.turn_lock.specs.History.{Begins}
use Rattle.workload_run.specs.declared.last.Last.{Last}
use Rattle.workload_run.specs.Agreeing.{IsVersionIn, IsToldBy, IsSeenIn}
use Rattle.workload_run.specs.WatchEnding.{IsSeenLast, HasReadBack, HasFinished, FinishHindered}
use Rattle.workload_run.specs.WatchStages.{Entries, Owner, LeavesWatch}
use Rattle.workload_run.proofs.Idling.{idles_gap, on_pushed}
use Rattle.workload_run.proofs.Refusals.{itself, outside_on, stops_on}
use Rattle.workload_run.proofs.WatchStages.{leaves_both}

-- ---- one read
module _ (p : ℕ) (us : List Update) (n size : ℕ) (is_size : size ≡ size_of us n) where
  whole_in : (said : Result (List ℕ) Fault) → ReadsRange p us n 0 size said → WholeRead p us n said
  whole_in (Ok bytes) reads =
      let all : bytes ≡ content us n = reads.bytes ∙ (ap (λ (k : ℕ). take k (content us n)) is_size ∙ take_all (length (content us n)) (content us n) (omega arith)) in
      (all, omega (arith, ap (λ (l : List ℕ). length l) all, is_size, reads.few))
  whole_in (Err fault) reads = by_cause reads.cause
    where
      by_cause : RangeCause p us n 0 size fault → WholeRead p us n (Err fault)
      by_cause (RangeCause.too_long is long) = inr (omega (arith, long, is_size))
      by_cause (RangeCause.past is within past) = absurd (omega (arith, past, is_size))
      by_cause (RangeCause.lost page is within ends met) = inl (IsOutside.lost page (omega (arith, met.begins, is_size)) is)
      by_cause (RangeCause.no_memory is) = inl (IsOutside.starved is)

-- a read of the whole of a version that was opened is one of what the store holds
pub whole_opened : (f : DeskFixed) (log : Entries) (version : ℕ) (snapshot : Version) (size : ℕ) (said : Result (List ℕ) Fault) → IsSnapshotOf f log 1 version snapshot → size ≡ size_now snapshot
    → OverUpdates snapshot (λ us. ReadsRange snapshot.page_size us (length snapshot.rows) 0 size said) → WholeRead f.page_size (updates_in (desk_at f log) 1) version said
whole_opened f log version snapshot size said is is_size reads =
    let us : List Update = updates_in (desk_at f log) 1 in
    let n : ℕ = length snapshot.rows in
    let tells : TellUpdates snapshot.page_size us snapshot.rows = subst (λ (p : ℕ). TellUpdates p us snapshot.rows) (sym is.page_size) is.tells in
    let same : size ≡ size_of us n = is_size ∙ ap (λ (l : List ℕ). length l) (is.tells.leave n (omega arith)) in
    subst (λ (k : ℕ). WholeRead f.page_size us k said) is.rows (subst (λ (p : ℕ). WholeRead p us n said) is.page_size (whole_in snapshot.page_size us n size same said (reads us tells)))

-- a version that is published is opened, if memory is found
open_starved : (f : DeskFixed) (log : Entries) (caller version : ℕ) (fault : Fault) → IsPublishedIn (store_of f.limits (events log)) 1 version → NotOpened f log caller 1 version fault → fault ≡ Faults.NoMemory
open_starved f log caller version fault (b, at, le) cause = by_why cause.why cause.said cause.refused
  where
    by_why : (d : DeskFault) → fault ≡ desk_fault d → OnRefused d (λ refusal. outcome_in f log caller (Calls.Size 1 version) ≡ Outcomes.Refused refusal) → fault ≡ Faults.NoMemory
    by_why DeskFaults.NoMemory said refused = said
    by_why (DeskFaults.Refused r) said refused = absurd (size_not_refused (blob_at (store_of f.limits (events log)) 1) b 1 version r (store_of f.limits (events log)) at le refused)

-- what is published stays so
published_on : OldVersionsStay → (f : DeskFixed) (log log' gap : Entries) (version : ℕ) → log' ≡ log ++ gap → IsPublishedIn (store_of f.limits (events log)) 1 version → IsPublishedIn (store_of f.limits (events log')) 1 version
published_on stay f log log' gap version is (b, at, le) =
    let (new, there, stays) = stay f.limits (events log) (events gap) 1 b at in
    let all : events log' ≡ events log ++ events gap = ap events is ∙ events_append log gap in
    (new, ap (λ (h : List Event). blob_at (store_of f.limits h) 1) all ∙ there, omega (arith, le, stays.published))

module _ {D : Type 0} (s mid s' : SessionState D) (version : ℕ) where
  module _ (said : Result Version Fault) (o : Opening s 1 version said mid) where
    -- the session has opened a version, or not
    pub idles_opened : GapsHaveNoOwn → Continues s mid → Idles s mid
    idles_opened gaps on =
        idles_gap gaps s mid on (events o.gap) o.others (ap (λ (x : SessionState D). session_of x) o.same ∙ seen_gap s.store.fixed s.caller s.log mid.log o.gap s.held s.next s.limit o.log)

    seen_opened : updates_seen mid ≡ updates_in (desk_at s.store.fixed mid.log) 1
    seen_opened = ap (λ (x : SessionState D). updates_seen x) o.same

  pub opened_read : (snapshot : Version) → Opening s 1 version (Ok snapshot) mid → (size : ℕ) (said : Result (List ℕ) Fault) → s' ≡ record mid { doors = s'.doors } → size ≡ size_now snapshot
      → OverUpdates snapshot (λ us. ReadsRange snapshot.page_size us (length snapshot.rows) 0 size said) → WholeRead s'.store.fixed.page_size (updates_seen s') version said
  opened_read snapshot o size said rest is_size reads =
      subst (λ (us : List Update). WholeRead s'.store.fixed.page_size us version said) (sym (ap (λ (x : SessionState D). updates_seen x) rest ∙ seen_opened (Ok snapshot) o))
      (subst (λ (p : ℕ). WholeRead p (updates_in (desk_at s.store.fixed mid.log) 1) version said)
      (sym (ap (λ (x : SessionState D). x.store.fixed.page_size) rest ∙ ap (λ (x : SessionState D). x.store.fixed.page_size) o.same))
      (whole_opened s.store.fixed mid.log version snapshot size said o.snapshot is_size reads))

  pub not_opened : OldVersionsStay → (fault : Fault) → Opening s 1 version (Err fault) mid → IsPublishedIn (store_of s.store.fixed.limits (events s.log)) 1 version → WholeRead mid.store.fixed.page_size (updates_seen mid) version (Err fault)
  not_opened stay fault o published =
      inl (IsOutside.starved (open_starved s.store.fixed mid.log s.caller version fault (published_on stay s.store.fixed s.log mid.log o.gap version o.log published) o.refused))

-- ---- the last refresh
-- where a refresh of the blob holds, its version is published
pub holds_published : (f : DeskFixed) (log : Entries) (r : Refresh) → r.blob ≡ 1 → Holds f log r → IsPublishedIn (store_of f.limits (events log)) 1 (version_of r)
holds_published f log r one h =
    let at : (b : Blob) × (blob_at (store_of f.limits (events log)) 1 ≡ Some b) = subst (λ (n : ℕ). (b : Blob) × (blob_at (store_of f.limits (events log)) n ≡ Some b)) one h.there in
    let le : version_of r ≤ published_in (desk_at f log) 1 = subst (λ (n : ℕ). version_of r ≤ published_in (desk_at f log) n) one h.published in
    (at.0, at.1, subst (λ (n : ℕ). version_of r ≤ n) (ap published_or_none at.1) le)

last_holds : (f : DeskFixed) (log : Entries) (rs : List Refresh) (r : Refresh) → AllHold f log (rs ++ r ∷ []) → Holds f log r
last_holds f log rs r all = subst (λ (x : Refresh). Holds f log x) (get_or_push rs r r (length rs) refl) (all (length rs) r (omega (arith, length-append rs (r ∷ []))))

module _ {D : Type 0} (k k' : KeeperState) (s mid s' : SessionState D) (version : ℕ) (done : Refreshed k k' 1 version) (may : MayRefresh k' mid) where
  pub latest_is : on_board 1 k'.all ≡ Some done.refresh
  latest_is = ap (λ (l : List Refresh). on_board 1 l) done.all ∙ on_pushed k.all done.refresh done.blob_is

  -- the version that the refresh answered is published where the refresh holds
  published_by : (f : DeskFixed) (log : Entries) → Holds f log done.refresh → IsPublishedIn (store_of f.limits (events log)) 1 version
  published_by f log h = subst (λ (v : ℕ). IsPublishedIn (store_of f.limits (events log)) 1 v) done.version_is (holds_published f log done.refresh done.blob_is h)

  pub published_mid : IsPublishedIn (store_of mid.store.fixed.limits (events mid.log)) 1 version
  published_mid =
      let f = mid.store.fixed in
      published_by f mid.log (last_holds f mid.log k.all done.refresh (subst (λ (l : List Refresh). AllHold f mid.log l) done.all may.hold))

  module _ (stay : RefreshesStay) (on : Continues mid s') where
    last_holds_now : Holds s'.store.fixed s'.log done.refresh
    last_holds_now =
        let f = mid.store.fixed in
        let all : AllHold f s'.log k'.all = stay f mid.log s'.log k'.all on.begins may.hold in
        let holds : Holds f s'.log done.refresh = last_holds f s'.log k.all done.refresh (subst (λ (l : List Refresh). AllHold f s'.log l) done.all all) in
        subst (λ (x : StoreState). Holds x.fixed s'.log done.refresh) (sym on.store) holds

    recent_now : IsRecent s mid 1 version → IsRecent s s' 1 version
    recent_now r = record { mid = r.mid; begins = r.begins; goes_on = begins_both r.mid mid.log s'.log r.goes_on on.begins; is = r.is }

    pub last_read : (bytes : List ℕ) → IsRecent s mid 1 version → WholeRead s'.store.fixed.page_size (updates_seen s') version (Ok bytes) → IsLast k' s s' version bytes
    last_read bytes recent whole = record {
      refresh = done.refresh;
      of_one = done.blob_is;
      latest = latest_is;
      shown = done.shown;
      version_is = done.version_is;
      holds = last_holds_now;
      recent = recent_now recent;
      bytes_are = whole.0;
      few = whole.1;
    }

    -- a page that it lost is one of that version
    page_there : (page : ℕ) → s'.store.fixed.page_size * page < size_of (updates_seen s') version → IsPageSeen s'.store.fixed s'.log page
    page_there page lt = record { before = s'.log; begins = itself s'.log; version = version; published = published_by s'.store.fixed s'.log last_holds_now; within = lt }

    pub last_unread : (fault : Fault) → IsRecent s mid 1 version → WholeRead s'.store.fixed.page_size (updates_seen s') version (Err fault) → LastHindered s s' fault
    last_unread fault recent (inl out) =
        LastHindered.outside (outside_as (λ page. s'.store.fixed.page_size * page < size_of (updates_seen s') version) (IsPageSeen s'.store.fixed s'.log) page_there fault out)
    last_unread fault recent (inr long) = LastHindered.too_long version (recent_now recent) long

pub last_missing : {D : Type 0} (s s' : SessionState D) (fault : Fault) → RefreshHindered s' fault → LastHindered s s' fault
last_missing s s' fault (RefreshHindered.starved is) = LastHindered.outside (IsOutside.starved is)
last_missing s s' fault (RefreshHindered.missing is none) = LastHindered.missing none

-- no page was lost where a refresh isn't done
pub no_page : {D : Type 0} (s' : SessionState D) (fault : Fault) → RefreshHindered s' fault → page_faults fault ≡ 0
no_page s' fault (RefreshHindered.starved is) = ap page_faults is
no_page s' fault (RefreshHindered.missing is none) = ap page_faults is

module _ {D : Type 0} (k : KeeperState) (s s' : SessionState D) (last : Last) (is : IsLast k s s' last.version last.bytes) where
  version_in : IsVersionIn s'.store.fixed s'.log last
  version_in = record { bytes_are = is.bytes_are; few = is.few }

  pub told_by : IsToldBy k.shown last
  told_by = record {
    fixed = s'.store.fixed;
    log = s'.log;
    refresh = is.refresh;
    latest = ap (λ (l : List Refresh). on_board 1 l) is.shown ∙ is.latest;
    version_is = is.version_is;
    holds = is.holds;
    is_version = version_in;
  }

  module _ (store : StoreState) (of_store : s'.store ≡ store) where
    published_now : IsPublishedIn (store_of store.fixed.limits (events s'.log)) 1 last.version
    published_now =
        subst (λ (f : DeskFixed). IsPublishedIn (store_of f.limits (events s'.log)) 1 last.version) (ap (λ (x : StoreState). x.fixed) of_store)
        (subst (λ (v : ℕ). IsPublishedIn (store_of s'.store.fixed.limits (events s'.log)) 1 v) is.version_is (holds_published s'.store.fixed s'.log is.refresh is.of_one is.holds))

    pub seen_in : (seen : Entries) → Begins s'.log seen → IsSeenIn store.fixed seen last
    seen_in seen begins = record {
      before = s'.log;
      begins = begins;
      published = published_now;
      is_version = subst (λ (f : DeskFixed). IsVersionIn f s'.log last) (ap (λ (x : StoreState). x.fixed) of_store) version_in;
    }

  pub seen_last : (store : StoreState) (old : Entries) → s.store ≡ store → s'.store ≡ store → s.log ≡ old → IsSeenLast store.fixed old s'.log last.version (length last.bytes)
  seen_last store old before after log = record {
    mid = is.recent.mid;
    begins = subst (λ (l : Entries). Begins l is.recent.mid) log is.recent.begins;
    goes_on = is.recent.goes_on;
    is = is.recent.is ∙ ap (λ (x : StoreState). published_in (desk_at x.fixed is.recent.mid) 1) before;
    size_is = ap (λ (l : List ℕ). length l) is.bytes_are ∙ ap (λ (x : StoreState). size_of (updates_in (desk_at x.fixed s'.log) 1) last.version) after;
  }

-- ---- what goes on from there
-- why nothing came of it
pub finish_hindered : {D : Type 0} (s s' : SessionState D) (fault : Fault) (store : StoreState) (old new : Owner) → LastHindered s s' fault → s.store ≡ store → s'.store ≡ store → s.log ≡ old.seen → Begins s.log s'.log
    → LeavesWatch old new → Begins s'.log new.seen → FinishHindered store.fixed old new fault
finish_hindered s s' fault store old new (LastHindered.outside out) before after log goes leaves begins =
    FinishHindered.stops leaves (Stops.outside (outside_on store.fixed s'.log new.seen fault begins (subst (λ (x : StoreState). IsOutside (IsPageSeen x.fixed s'.log) fault) after out)))
finish_hindered s s' fault store old new (LastHindered.missing none) before after log goes leaves begins = FinishHindered.missing leaves s'.log (subst (λ (l : Entries). Begins l s'.log) log goes) begins none
finish_hindered s s' fault store old new (LastHindered.too_long version recent long) before after log goes leaves begins =
    FinishHindered.too_long leaves s'.log begins version (size_of (updates_seen s') version) (record {
      mid = recent.mid;
      begins = subst (λ (l : Entries). Begins l recent.mid) log recent.begins;
      goes_on = recent.goes_on;
      is = recent.is ∙ ap (λ (x : StoreState). published_in (desk_at x.fixed recent.mid) 1) before;
      size_is = ap (λ (x : StoreState). size_of (updates_in (desk_at x.fixed s'.log) 1) version) after;
    }) long

-- ---- what comes later
pub finish_later : {f : DeskFixed} {old mid new : Owner} {fault : Fault} → FinishHindered f old mid fault → LeavesWatch mid new → FinishHindered f old new fault
finish_later {f = f} {mid = mid} {new = new} {fault = fault} (FinishHindered.stops leaves by) more = FinishHindered.stops (leaves_both leaves more) (stops_on f mid.seen new.seen fault more.comes.begins by)
finish_later {mid = mid} {new = new} (FinishHindered.missing leaves seen from to none) more =
    FinishHindered.missing (leaves_both leaves more) seen from (begins_both seen mid.seen new.seen to more.comes.begins) none
finish_later {mid = mid} {new = new} (FinishHindered.too_long leaves seen to version size last long) more =
    FinishHindered.too_long (leaves_both leaves more) seen (begins_both seen mid.seen new.seen to more.comes.begins) version size last long

pub finished : {f : DeskFixed} {shown : List Refresh} {readers : ℕ} {old mid new : Owner} {last : Last} → HasReadBack f shown old mid last → LeavesWatch mid new → (size agree : ℕ) → size ≡ length last.bytes → agree ≡ readers
    → HasFinished f readers old new (record { size = size; versions = last.version; agree = agree })
finished {f = f} {old = old} {mid = mid} {new = new} {last = last} back more size agree sized all = record {
  leaves = leaves_both back.leaves more;
  seen = back.seen;
  begins = begins_both back.seen mid.seen new.seen back.begins more.comes.begins;
  last = subst (λ (n : ℕ). IsSeenLast f old.seen back.seen last.version n) (sym sized) back.seen_last;
  agree = all;
}

-- how the last session's read ended
module _ {D : Type 0} (k : KeeperState) (s s' : SessionState D) (store : StoreState) (old new : Owner) (before : s.store ≡ store) (after : s'.store ≡ store) (log : s.log ≡ old.seen) (leaves : LeavesWatch old new) (begins : Begins s'.log new.seen) where
  pub read_back : (last : Last) → IsLast k s s' last.version last.bytes → HasReadBack store.fixed k.shown old new last
  read_back last is = record {
    leaves = leaves;
    told = told_by k s s' last is;
    known = seen_in k s s' last is store after new.seen begins;
    seen = s'.log;
    begins = begins;
    seen_last = seen_last k s s' last is store old.seen before after log;
  }
