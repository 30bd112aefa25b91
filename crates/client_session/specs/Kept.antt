-- What a session keeps of the versions that it has opened, and reads by it.
use Rattle.std.specs.Prelude.{◌≡◌, ◌≢◌, ◌⊎◌, ⊤, ℕ, ◌+◌, ◌<◌, ◌≤◌, true, false, List, ◌++◌, length, map, Result, Ok, Err, None, IfOk, IfErr}
use Rattle.blob_model.specs.Content.{size_of}
use Rattle.blob_model.specs.History.{AllOther, store_of}
use Rattle.blob_model.specs.declared.call.Call.TheVariants as Calls
use Rattle.blob_model.specs.declared.call.Event.{Event}
use Rattle.blob_model.specs.declared.call.Outcome.TheVariants as Outcomes
use Rattle.range_log.specs.Updates.{extents}
use Rattle.range_log.specs.Visits.{visits}
use Rattle.range_reader.specs.Faults.{PageFailedIn}
use Rattle.snapshot.specs.Versions.{Version, IsVersion, older_version}
use Rattle.turn_lock.specs.History.{Begins}
use Rattle.version_manager.specs.Log.{IsSnapshotOf, events, outcome_in}
use Rattle.version_manager.specs.Desks.{unopened_size}
use Rattle.version_manager.specs.declared.journal.DeskFixed.{DeskFixed}
use Rattle.version_manager.specs.declared.fault.OpenFault.{OpenFault}
use Rattle.request_form.specs.PublishedReads.{IsPublishedIn}
use Rattle.request_form.specs.declared.form.Fault.{Fault}
use Rattle.request_form.specs.Replies.{page_faults}
use Rattle.range_reader.specs.Ranges.{OverUpdates, first_end_past, visits_of, PageFailedInOne}
pub use Rattle.range_reader.specs.Opened.{KeptVersion, Covers, kept_of, all_kept, has_opened}
use Rattle.client_session.specs.Losses.{IfPageLost}
use Rattle.client_session.specs.Memory.{IfNoMemory}
use Rattle.client_session.specs.Opening.{ReadsRange, ReadsRanges}
use Rattle.client_session.specs.Sessions.{SessionState}

-- It is the snapshot of a version that was published in a beginning of that history.
pub record IsKept (f : DeskFixed) (log : List (ℕ × Event)) (v : Version) : Type 0 where
  pub front : List (ℕ × Event)
  pub begins : Begins front log
  pub snapshot : IsSnapshotOf f front v.blob (length v.rows) v
  pub published : IsPublishedIn (store_of f.limits (events front)) v.blob (length v.rows)

-- the view of that version, by a snapshot that is one of these
pub record IsViewAmong (vs : List Version) (blob version : ℕ) (view : Version) : Type 0 where
  pub whole : Version
  pub covers : Covers vs blob version whole
  pub stands : IsVersion whole
  pub is : view ≡ older_version whole version

-- the read came to the pages of its version: it has them, or one was lost
abbrev pub CameThere : Result (List ℕ) Fault → Type 0
CameThere (Ok bytes) = ⊤
CameThere (Err fault) = page_faults fault ≡ 1

-- What is kept after a read, by what was kept before: the version, where the read came to its pages; else that too, or the same as before.
pub record KeptAfter (said : Result (List ℕ) Fault) (blob version : ℕ) (before after : List KeptVersion) : Type 0 where
  pub there : CameThere said → has_opened after blob version ≡ true
  pub or_before : (has_opened after blob version ≡ true) ⊎ (after ≡ before)

-- A session comes to a version that it reads then. What it keeps serves for that, and nothing changes; or others' events came, and it opened the
-- version in a turn and keeps it, unless the store refused it or no memory was found, where what is kept stays.
pub record Coming {A D : Type 0} (s : SessionState D) (blob version : ℕ) (said : Result A OpenFault) (s' : SessionState D) : Type 0 where
  pub gap : List (ℕ × Event)
  pub others : AllOther s.caller (events gap)
  pub log : s'.log ≡ s.log ++ gap
  pub same : s' ≡ record s { log = s'.log; turns = s'.turns; opened = s'.opened }
  pub by_kept : has_opened s.opened blob version ≡ true → s' ≡ s
  pub one_turn : has_opened s.opened blob version ≡ false → s'.turns ≡ s.turns + 1
  pub keeps : IfOk said (λ _. has_opened s'.opened blob version ≡ true)
  pub stays : IfErr said (λ _. s'.opened ≡ s.opened)
  pub not_opened : IfErr said (λ fault. outcome_in s.store.fixed s'.log s.caller (Calls.Size blob version) ≡ unopened_size fault)

-- Others' events came, and then this was the snapshot of the version, which is published.
pub record Found {D : Type 0} (s : SessionState D) (blob version : ℕ) (v : Version) (s' : SessionState D) : Type 0 where
  pub gap : List (ℕ × Event)
  pub others : AllOther s.caller (events gap)
  pub log : s'.log ≡ s.log ++ gap
  pub same : s' ≡ record s { log = s'.log; turns = s'.turns; opened = s'.opened }
  pub size : ℕ
  pub done : outcome_in s.store.fixed s'.log s.caller (Calls.Size blob version) ≡ Outcomes.Size size
  pub snapshot : IsSnapshotOf s.store.fixed s'.log blob version v

-- A read of a range by the snapshot of a version, which the session has seen published.
pub record ReadByKept {D : Type 0} (faults : D → ℕ) (s : SessionState D) (blob version offset count : ℕ) (said : Result (List ℕ) Fault) (s' : SessionState D) (before after : ℕ) : Type 0 where
  pub v : Version
  pub found : Found s blob version v s
  pub reads : OverUpdates v (λ us. ReadsRange v.page_size us (length v.rows) offset count said)
  pub steps : OverUpdates v (λ us. after ≤ before + visits v.page_size (extents us) (length v.rows) offset count)
  pub no_step : OverUpdates v (λ us. size_of us (length v.rows) < offset + count → after ≡ before)
  pub failed : IfErr said (λ fault. IfPageLost fault (PageFailedIn v offset count (map faults s.doors) (map faults s'.doors)))
  pub memory : OverUpdates v (λ us. IfErr said (λ fault. IfNoMemory fault (offset + count ≤ size_of us (length v.rows))))

-- the same of many ranges
pub record RangesByKept {D : Type 0} (faults : D → ℕ) (s : SessionState D) (blob version : ℕ) (ranges : List (ℕ × ℕ)) (said : Result (List ℕ) Fault) (s' : SessionState D) (before after : ℕ) : Type 0 where
  pub v : Version
  pub found : Found s blob version v s
  pub reads : OverUpdates v (λ us. ReadsRanges v.page_size us (length v.rows) ranges said)
  pub steps : OverUpdates v (λ us. after ≤ before + visits_of v.page_size (extents us) (length v.rows) ranges)
  pub no_step : OverUpdates v (λ us. first_end_past (size_of us (length v.rows)) ranges ≢ None → after ≡ before)
  pub failed : IfErr said (λ fault. IfPageLost fault (PageFailedInOne v ranges (map faults s.doors) (map faults s'.doors)))
  pub memory : OverUpdates v (λ us. IfErr said (λ fault. IfNoMemory fault (first_end_past (size_of us (length v.rows)) ranges ≡ None)))
