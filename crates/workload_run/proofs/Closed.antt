-- What a watch came to, and why it ended early, once its store is closed.
use Rattle.std.proofs.Common.{◌≡◌, ◌≢◌, ◌⊎◌, inl, inr, ℕ, zero, suc, ◌+◌, ◌*◌, ◌<◌, ◌≤◌, List, [], ◌∷◌, ◌++◌, length, refl, sym, ap, subst, ◌∙◌, append_assoc, append-nil, arith, Contains, get_or}
use Rattle.std.specs.Prelude.{Option, Some, None, Result, Ok, Err, All}
use Rattle.std.proofs.lemmas.Bool.{cases_eq, cases_lt, true≢false}
use Rattle.std.proofs.lemmas.List.{length-append, length-map}
use Rattle.std.proofs.lemmas.List.Elements.{All-push}
use Rattle.blob_model.specs.Content.{size_of}
use Rattle.blob_model.specs.Limits.{Bounds, greatest}
use Rattle.blob_model.specs.Store.{Blob, blob_at, empty_store}
use Rattle.blob_model.specs.Answer.{answer}
use Rattle.blob_model.specs.History.{store_of, events_by, IsLegal, is_refused}
use Rattle.blob_model.specs.declared.call.Call.TheVariants as Calls
use Rattle.blob_model.specs.declared.call.Event.{Event}
use Rattle.blob_model.specs.declared.call.Event.TheVariants as Events
use Rattle.blob_model.specs.declared.call.Outcome.{Outcome}
use Rattle.blob_model.specs.declared.call.Outcome.TheVariants as Outcomes
use Rattle.blob_model.specs.declared.call.Place.TheVariants.{Append}
use Rattle.turn_lock.specs.History.{Begins, LacksUngiven}
use Rattle.turn_lock.proofs.Histories.{begins_both}
use Rattle.version_manager.specs.Desks.{updates_or_none, published_or_none}
use Rattle.version_manager.specs.Log.{tagged, events}
use Rattle.version_manager.specs.Laws.{EntriesAreEvents}
use Rattle.version_manager.specs.declared.journal.DeskFixed.{DeskFixed}
use Rattle.request_form.specs.Answers.{max_read}
use Rattle.request_form.specs.PublishedReads.{IsPublishedIn, read_outcome}
use Rattle.request_form.specs.Replies.{reply_of}
use Rattle.request_form.specs.declared.form.Reply.TheVariants as Replies
use Rattle.request_form.specs.declared.form.Fault.{Fault}
use Rattle.request_form.specs.declared.form.Fault.TheVariants as Faults
use Rattle.workload_law.specs.Ends.{IsOutside, NoPage, UpdateHindered, CreateHindered}
use Rattle.workload_law.proofs.Closing.{nobodys_are_none}
use Rattle.workload_law.proofs.OwnEvents.{both_empty, none_parts}
use Rattle.workload_law.proofs.Later.{outside_as}
use Rattle.workload_law.proofs.OneCaller.{legal_front}
use Rattle.workload_run.proofs.Returns.{none_by, events_append}
use Rattle.workload_law.specs.declared.watch_plan.WatchPlan.{WatchPlan}
use Rattle.workload_law.specs.declared.watch_plan.WatchSummary.{WatchSummary}
use Rattle.workload_law.specs.Watch.{IsSized, piece_of, range_of, IsWatchPage, HasWritten, HaveCome, IsUnderway, IsWatch, summary_of}
use Rattle.workload_law.specs.WatchNotes.{NotesState, IsPiece, HasDone}
use Rattle.workload_law.specs.WatchLaws.{ComeTogether, WatchesAreDone, BlobsAreThere, NothingElseHinders, IsDone, VersionsAreSized, PieceOutcome, PiecesAreTold}
use Rattle.workload_run.specs.WatchStages.{Entries, Owner, IsUnopened, IsWatched}
use Rattle.workload_run.specs.Stops.{IsPageSeen, Stops}
use Rattle.workload_run.specs.Noting.{IsPieceSeen}
use Rattle.workload_run.specs.WatchEnding.{IsSeenLast, HasWrittenAll, EndsBy, WatchEnds, TellsWatch, NotesSeen}
use Rattle.workload_run.proofs.Refusals.{same_content}
use Rattle.workload_run.proofs.WatchCrews.{all_noted_as}
use Rattle.workload_run.proofs.Updates.{same_fault}
use Rattle.workload_law.proofs.CallEnds.{none_after}

-- two summaries that tell the same
same_summary : (a b : WatchSummary) → a.size ≡ b.size → a.versions ≡ b.versions → a.agree ≡ b.agree → a ≡ b
same_summary a b size versions agree = rw (size, versions, agree) refl

-- a caller is none, or not given, or one that came back
by_number : (made caller : ℕ) → (caller ≡ 0) ⊎ ((made < caller) ⊎ ((0 < caller) × (caller ≤ made)))
by_number made zero = inl refl
by_number made (suc caller) = elim (cases_lt made (suc caller)) [ inl past ↦ inr (inl past) | inr within ↦ inr (inr (omega arith, within)) ]

begins_events : (xs ys : Entries) (b : Begins xs ys) → events ys ≡ events xs ++ events b.0
begins_events xs ys b = ap (λ (l : Entries). events l) b.1 ∙ events_append xs b.0

none_is_some : (b : Blob) (o : Option Blob) → o ≡ Some b → o ≡ None → ⊥
none_is_some b o is none = (let no : Some b ≡ None = sym is ∙ none in cc)

-- ---- beginnings of a watch's history
-- where a blob is there something was entered
some_there : (es : List Event) (b : Blob) → blob_at (store_of greatest es) 1 ≡ Some b → 1 ≤ length es
some_there [] b at = absurd (cc (at))
some_there (e ∷ es) b at = omega arith

first_event : (x y : Event) (xs ys : List Event) → x ∷ xs ≡ y ∷ ys → (x ≡ y) × (xs ≡ ys)
first_event x y xs ys e = (cc, cc)

under_front : (plan : WatchPlan) (history : List Event) → IsUnderway plan history → (es more : List Event) → history ≡ es ++ more → 1 ≤ length es → IsUnderway plan es
under_front plan history under [] more whole some = absurd (omega (arith, some))
under_front plan history under (e ∷ es) more whole some =
    let (made, rest) = first_event (Events.Create 1) e under.written (es ++ more) (sym under.is ∙ whole) in
    record {
      written = es;
      is = ap (λ (x : Event). x ∷ es) (sym made);
      begun = (more ++ under.begun.0, subst (λ (l : List Event). HasWritten plan plan.ops l) (ap (λ (l : List Event). l ++ under.begun.0) rest ∙ append_assoc es more under.begun.0) under.begun.1);
    }

-- a reader is told no other refusal than that the version isn't published
not_told : (plan : WatchPlan) (fault : Fault) (op : ℕ) (outcome : Outcome) → PieceOutcome plan op outcome → Replies.Refused fault ≡ reply_of outcome
    → ((version last : ℕ) → fault ≢ Faults.NotPublished version last) → ⊥
not_told plan fault op outcome (PieceOutcome.read is) told other =
    (let no : Replies.Refused fault ≡ Replies.Content (piece_of plan op) = told ∙ ap (λ (o : Outcome). reply_of o) is in cc)
not_told plan fault op outcome (PieceOutcome.unpublished last le is) told other =
    other (op + 1) last (same_fault fault (Faults.NotPublished (op + 1) last) (told ∙ ap (λ (o : Outcome). reply_of o) is))

-- what it is given are an update's bytes
bytes_told : (plan : WatchPlan) (op : ℕ) (bytes : List ℕ) (outcome : Outcome) → PieceOutcome plan op outcome → Replies.Content bytes ≡ reply_of outcome → IsPiece plan op bytes
bytes_told plan op bytes outcome (PieceOutcome.read is) told = same_content bytes (piece_of plan op) (told ∙ ap (λ (o : Outcome). reply_of o) is)
bytes_told plan op bytes outcome (PieceOutcome.unpublished last le is) told =
    absurd (let no : Replies.Content bytes ≡ Replies.Refused (Faults.NotPublished (op + 1) last) = told ∙ ap (λ (o : Outcome). reply_of o) is in cc)

module _ (are : EntriesAreEvents) (plan : WatchPlan) (sized : IsSized plan) (f : DeskFixed) (limits : f.limits ≡ greatest) (owner : Owner) (tags : owner.seen ≡ tagged (events owner.seen)) (legal : IsLegal greatest (events owner.seen))
    (kept : (c : ℕ) → 0 < c → c ≤ owner.made → Contains owner.kept c) (lacks : LacksUngiven owner.made owner.seen) where
  abbrev history : List Event
  history = events owner.seen

  ungiven : (c : ℕ) → (c ≡ 0) ⊎ (owner.made < c) → events_by c history ≡ []
  ungiven c not = none_by are owner.seen c tags (lacks c not)

  -- ---- nothing was made
  no_page_lost : (fault : Fault) → IsOutside NoPage fault → IsOutside (IsWatchPage plan f.page_size) fault
  no_page_lost fault out = outside_as NoPage (IsWatchPage plan f.page_size) (λ page none. absurd none) fault out

  unopened_outside : (fault : Fault) → IsUnopened fault owner → IsOutside (IsWatchPage plan f.page_size) fault
  unopened_outside fault u = by_cause u.hindered
    where
      none : (c : ℕ) → events_by c history ≡ []
      none c = by_place (by_number owner.made c)
        where
          by_place : (c ≡ 0) ⊎ ((owner.made < c) ⊎ ((0 < c) × (c ≤ owner.made))) → events_by c history ≡ []
          by_place (inl zero_is) = ungiven c (inl zero_is)
          by_place (inr (inl past)) = ungiven c (inr past)
          by_place (inr (inr within)) = let one : 1 ≡ c = omega (arith, within.0, within.1, u.made) in subst (λ (n : ℕ). events_by n history ≡ []) one u.none

      empty : history ≡ []
      empty = nobodys_are_none [] history none

      by_cause : CreateHindered greatest 1 [] (events u.seen) fault → IsOutside (IsWatchPage plan f.page_size) fault
      by_cause (CreateHindered.outside out) = no_page_lost fault out
      by_cause (CreateHindered.refused r) =
          let seen_none : events u.seen ≡ [] = (both_empty (events u.seen) (events u.begins.0) (sym (begins_events u.seen owner.seen u.begins) ∙ empty)).0 in
          let others : r.others ≡ [] = (both_empty r.others r.rest (sym r.split ∙ seen_none)).0 in
          let refused : (answer (empty_store greatest) 1 Calls.Create).1 ≡ Outcomes.Refused r.refusal = subst (λ (l : List Event). (answer (store_of greatest ([] ++ l)) 1 Calls.Create).1 ≡ Outcomes.Refused r.refusal) others r.refused in
          absurd (true≢false (ap is_refused (sym refused)))

  -- ---- the writer's pass came back
  module _ (together : ComeTogether) (first : Entries) (w : IsWatched plan first owner) where
    none_by_others : (c : ℕ) → c ≢ 1 → c ≢ 2 → events_by c history ≡ []
    none_by_others c not_one not_two = by_place (by_number owner.made c)
      where
        third : (c : ℕ) → 0 < c → c ≢ 1 → c ≢ 2 → 3 ≤ c
        third zero some one two = absurd (omega (arith, some))
        third (suc zero) some one two = absurd (one refl)
        third (suc (suc zero)) some one two = absurd (two refl)
        third (suc (suc (suc n))) some one two = omega arith

        by_place : (c ≡ 0) ⊎ ((owner.made < c) ⊎ ((0 < c) × (c ≤ owner.made))) → events_by c history ≡ []
        by_place (inl zero_is) = ungiven c (inl zero_is)
        by_place (inr (inl past)) = ungiven c (inr past)
        by_place (inr (inr within)) = w.idle c (third c within.0 not_one not_two) (kept c within.0 within.1)

    come : HaveCome (events first) history
    come = record {
      more = events w.begins.0;
      begins = begins_events first owner.seen w.begins;
      made_first = w.created_first;
      made = w.created;
      fresh = w.fresh;
      none = none_by_others;
    }

    first_is : events first ≡ Events.Create 1 ∷ []
    first_is = (together (events first) history come).0

    history_is : history ≡ Events.Create 1 ∷ events_by 2 history
    history_is = (together (events first) history come).1

    under : IsUnderway plan history
    under = record { written = events_by 2 history; is = history_is; begun = w.begun }

    writer_outside : NothingElseHinders → (op : ℕ) (seen : Entries) (later : List Event) (fault : Fault) → Begins seen owner.seen
        → UpdateHindered greatest f.page_size 2 1 Append (piece_of plan op) (events first ++ later) (events seen) fault → IsOutside (IsWatchPage plan f.page_size) fault
    writer_outside nothing op seen later fault begins hindered =
        nothing plan history sized legal under w.own f.page_size op (events seen) (events begins.0) later fault (begins_events seen owner.seen begins)
        (subst (λ (l : List Event). UpdateHindered greatest f.page_size 2 1 Append (piece_of plan op) (l ++ later) (events seen) fault) first_is hindered)

    -- ---- a reader stopped, or the last session
    module _ (log : Entries) (begins : Begins log owner.seen) where
      whole : history ≡ events log ++ events begins.0
      whole = begins_events log owner.seen begins

      front_legal : IsLegal greatest (events log)
      front_legal = legal_front (empty_store greatest) (events log) (events begins.0) (subst (λ (h : List Event). IsLegal greatest h) whole legal)

      front_under : 1 ≤ length (events log) → IsUnderway plan (events log)
      front_under some = under_front plan history under (events log) (events begins.0) whole some

    -- a version that was published lies within what the writer appends
    page_within : VersionsAreSized → (page : ℕ) → IsPageSeen f owner.seen page → IsWatchPage plan f.page_size page
    page_within sizes page s =
        let log = s.before in
        let b = s.published.0 in
        let at : blob_at (store_of greatest (events log)) 1 ≡ Some b = ap (λ (l : Bounds). blob_at (store_of l (events log)) 1) (sym limits) ∙ s.published.1 in
        let v = sizes plan (events log) (front_legal log s.begins) (front_under log s.begins (some_there (events log) b at)) b at s.version s.published.2 in
        let size : size_of (updates_or_none (blob_at (store_of f.limits (events log)) 1)) s.version ≡ 16 * s.version = ap (λ (o : Option Blob). size_of (updates_or_none o) s.version) s.published.1 ∙ v.size in
        omega (arith, s.within, size, v.few)

    stops_outside : VersionsAreSized → PiecesAreTold → (fault : Fault) → Stops f owner.seen fault → IsOutside (IsWatchPage plan f.page_size) fault
    stops_outside sizes pieces fault (Stops.outside out) = outside_as (IsPageSeen f owner.seen) (IsWatchPage plan f.page_size) (page_within sizes) fault out
    stops_outside sizes pieces fault (Stops.refused log some begins r) =
        let some_events : 1 ≤ length (events log) = omega (arith, some, length-map log (λ (x : ℕ × Event). x.1)) in
        absurd (not_told plan fault r.op (read_outcome (store_of greatest (events log)) (range_of r.op)) (pieces plan (events log) (front_legal log begins) (front_under log begins some_events) r.op)
        (r.told ∙ ap (λ (l : Bounds). reply_of (read_outcome (store_of l (events log)) (range_of r.op))) limits) r.other)

    -- ---- what was noted
    piece_is : PiecesAreTold → (op : ℕ) (bytes : List ℕ) → IsPieceSeen f owner.seen op bytes → IsPiece plan op bytes
    piece_is pieces op bytes s =
        let some_events : 1 ≤ length (events s.log) = omega (arith, s.some, length-map s.log (λ (x : ℕ × Event). x.1)) in
        bytes_told plan op bytes (read_outcome (store_of greatest (events s.log)) (range_of op)) (pieces plan (events s.log) (front_legal s.log s.begins) (front_under s.log s.begins some_events) op)
        (s.told ∙ ap (λ (l : Bounds). reply_of (read_outcome (store_of l (events s.log)) (range_of op))) limits)

    version_within : VersionsAreSized → (version : ℕ) → IsPublishedIn (store_of f.limits (events owner.seen)) 1 version → version ≤ plan.ops
    version_within sizes version (b, at, out) = (sizes plan history legal under b (ap (λ (l : Bounds). blob_at (store_of l history) 1) (sym limits) ∙ at) version out).few

    not_missing : BlobsAreThere → (seen : Entries) → Begins first seen → Begins seen owner.seen → blob_at (store_of greatest (events seen)) 1 ≡ None → ⊥
    not_missing there seen from begins none =
        let is : events seen ≡ Events.Create 1 ∷ events from.0 = begins_events first seen from ∙ ap (λ (l : List Event). l ++ events from.0) first_is in
        let whole : history ≡ events seen ++ events begins.0 = begins_events seen owner.seen begins in
        let front : IsLegal greatest (events seen) = legal_front (empty_store greatest) (events seen) (events begins.0) (subst (λ (h : List Event). IsLegal greatest h) whole legal) in
        let b = there (events from.0) (subst (λ (h : List Event). IsLegal greatest h) is front) in
        none_is_some b.0 (blob_at (store_of greatest (Events.Create 1 ∷ events from.0)) 1) b.1 (subst (λ (h : List Event). blob_at (store_of greatest h) 1 ≡ None) is none)

    -- ---- the writer came to its end
    module _ (dones : WatchesAreDone) (old new : Entries) (all : HasWrittenAll plan old owner) (begins : Begins new owner.seen) (version size : ℕ) (last : IsSeenLast f old new version size) where
      whole_is : history ≡ events old ++ events all.begins.0
      whole_is = begins_events old owner.seen all.begins

      rest_by : (c : ℕ) → events_by c (events old) ≡ events_by c history → events_by c (events old ++ events all.begins.0) ≡ events_by c (events old)
      rest_by c same = ap (λ (h : List Event). events_by c h) (sym whole_is) ∙ sym same

      rest_none : (c : ℕ) → events_by c (events old ++ events all.begins.0) ≡ events_by c (events old)
      rest_none c =
          elim (cases_eq c 1) [
            | inl one ↦ rest_by c (subst (λ (n : ℕ). events_by n (events old) ≡ events_by n history) (sym one) all.created)
            | inr not_one ↦
                elim (cases_eq c 2) [
                  | inl two ↦ rest_by c (subst (λ (n : ℕ). events_by n (events old) ≡ events_by n history) (sym two) all.same)
                  | inr not_two ↦
                      let none : events_by c (events old ++ events all.begins.0) ≡ [] = ap (λ (h : List Event). events_by c h) (sym whole_is) ∙ none_by_others c not_one not_two in
                      none ∙ sym (none_parts c (events old) (events all.begins.0) none).0
                ]
          ]

      old_is : history ≡ events old
      old_is = whole_is ∙ (ap (λ (l : List Event). events old ++ l) (nobodys_are_none (events old) (events all.begins.0) rest_none) ∙ append-nil (events old))

      -- whatever lies between is the whole
      between : (xs : Entries) → Begins old xs → Begins xs owner.seen → events xs ≡ history
      between xs from to =
          let one = begins_events old xs from in
          let two = begins_events xs owner.seen to in
          let both : events old ++ (events from.0 ++ events to.0) ≡ events old =
          sym (append_assoc (events old) (events from.0) (events to.0)) ∙ (ap (λ (l : List Event). l ++ events to.0) (sym one) ∙ (sym two ∙ old_is))
          in
          let none : events from.0 ≡ [] = (both_empty (events from.0) (events to.0) (none_after (events old) (events from.0 ++ events to.0) both)).0 in
          one ∙ (ap (λ (l : List Event). events old ++ l) none ∙ (append-nil (events old) ∙ sym old_is))

      mid_is : events last.mid ≡ history
      mid_is = between last.mid last.begins (begins_both last.mid new owner.seen last.goes_on begins)

      new_is : events new ≡ history
      new_is = between new (begins_both old last.mid new last.begins last.goes_on) begins

      watch : IsWatch plan history
      watch = record { written = events_by 2 history; is = history_is; all = all.written }

      done_at : (log : Entries) → events log ≡ history → (b : Blob) × ((blob_at (store_of f.limits (events log)) 1 ≡ Some b) × IsDone plan b)
      done_at log is =
          let d = dones plan history legal watch in
          (d.0, (ap (λ (l : Bounds). blob_at (store_of l (events log)) 1) limits ∙ (ap (λ (h : List Event). blob_at (store_of greatest h) 1) is ∙ d.1.0), d.1.1))

      pub versions : version ≡ plan.ops
      versions =
          let d = done_at last.mid mid_is in
          last.is ∙ (ap published_or_none d.1.0 ∙ d.1.1.published)

      pub size_all : size ≡ 16 * plan.ops
      size_all =
          let d = done_at new new_is in
          last.size_is ∙ (ap (λ (o : Option Blob). size_of (updates_or_none o) version) d.1.0 ∙ (ap (λ (n : ℕ). size_of d.0.updates n) versions ∙ d.1.1.size))

      not_long : max_read < size → ⊥
      not_long long = omega (arith, long, size_all, sized.ops)

  -- ---- all ends
  module _ (together : ComeTogether) (dones : WatchesAreDone) (there : BlobsAreThere) (nothing : NothingElseHinders) (sizes : VersionsAreSized) (pieces : PiecesAreTold) where
    fault_outside : (fault : Fault) → EndsBy plan f owner fault → IsOutside (IsWatchPage plan f.page_size) fault
    fault_outside fault (EndsBy.outside out) = no_page_lost fault out
    fault_outside fault (EndsBy.unopened u) = unopened_outside fault u
    fault_outside fault (EndsBy.stops first w by) = stops_outside together first w sizes pieces fault by
    fault_outside fault (EndsBy.writer first w op seen later begins hindered) = writer_outside together first w nothing op seen later fault begins hindered
    fault_outside fault (EndsBy.missing first w seen from begins none) = absurd (not_missing together first w there seen from begins none)
    fault_outside fault (EndsBy.too_long first old new w all begins version size last long) = absurd (not_long together first w dones old new all begins version size last long)

    pub closed_is : (done : WatchSummary × NotesState) → WatchEnds plan f (Ok done) owner → IsWatch plan (events owner.seen)
    closed_is done (first, (old, (new, (w, (all, (begins, (last, agree))))))) =
        watch together first w dones old new all begins done.0.versions done.0.size last

    pub closed_done : (done : WatchSummary × NotesState) → WatchEnds plan f (Ok done) owner → NotesSeen plan f owner.seen done.0.versions done.1 → HasDone plan done.1
    closed_done done (first, (old, (new, (w, (all, (begins, (last, agree))))))) seen =
        let version : ℕ = done.0.versions in
        let is : version ≡ plan.ops = versions together first w dones old new all begins version done.0.size last in
        let front : All (λ (v : ℕ). v ≤ plan.ops) seen.before = λ k d lt. version_within together first w sizes (get_or seen.before k d) (seen.published k d lt) in
        record {
          count = omega (arith, ap (λ (l : List ℕ). length l) seen.refreshes, length-append seen.before (version ∷ []), seen.count);
          few = subst (λ (l : List ℕ). All (λ (v : ℕ). v ≤ plan.ops) l) (sym seen.refreshes) (All-push (λ (v : ℕ). v ≤ plan.ops) seen.before version front (omega (arith, is)));
          last = (seen.before, seen.refreshes ∙ ap (λ (v : ℕ). seen.before ++ v ∷ []) is);
          readings = all_noted_as (IsPieceSeen f owner.seen) (IsPiece plan) (piece_is together first w pieces) plan.ops plan.readers done.1.readings seen.readings;
        }

    pub closed : (told : Result (WatchSummary × NotesState) Fault) → WatchEnds plan f told owner → TellsWatch plan f.page_size told
    closed (Err fault) by = fault_outside fault by
    closed (Ok done) (first, (old, (new, (w, (all, (begins, (last, agree))))))) =
        same_summary done.0 (summary_of plan) (size_all together first w dones old new all begins done.0.versions done.0.size last)
        (versions together first w dones old new all begins done.0.versions done.0.size last) agree
