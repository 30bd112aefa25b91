-- Readers that are made, that have read, and that end one after another; and what was noted of their reads.
use Rattle.std.proofs.Common.{◌≡◌, ◌⊎◌, inl, inr, ℕ, ◌<◌, ◌≤◌, List, [], length, sym, ap, subst, ◌∙◌, arith, get_or, ◌+◌, ◌-◌, ◌^◌, min, ◌∷◌, ◌++◌, refl, zero, suc, ◌*◌, Bool, true, false, if◌then◌else◌, map, append-nil, append_assoc}
use Rattle.std.specs.Prelude.{Result, Ok, Err, All, IfOk, IfErr, Option, Some, None, IfSome, OnOk, nat_lt}
use Rattle.std.proofs.Math.ListN.{get_or-append}
use Rattle.std.proofs.lemmas.List.Elements.{All-push, All-head, All-tail, All-map}
use Rattle.std.proofs.lemmas.List.{get_or_push, length-append, nil_from_length, length-map}
use Rattle.blob_model.specs.History.{events_by, store_of, AllOther}
use Rattle.turn_lock.specs.History.{Begins}
use Rattle.version_manager.specs.Log.{events}
use Rattle.request_form.specs.declared.form.Fault.{Fault}
use Rattle.client_session.specs.Sessions.{StoreState, SessionState, session_of, Continues}
use Rattle.read_board.specs.Fronts.{BoardId}
use Rattle.read_board.specs.declared.refresh.Refresh.{Refresh}
use Rattle.read_board.specs.Refreshing.{AllHold}
use Rattle.read_board.specs.Telling.{BoardReadsTell}
use Rattle.workload_run.specs.Updates.{told_faults}
use Rattle.workload_law.specs.declared.watch_plan.WatchPlan.{WatchPlan}
use Rattle.workload_run.specs.Idling.{Idles}
use Rattle.workload_run.specs.Readers.{WatcherState, StandsAt, HasMet, HasWatched, HaveWatched}
use Rattle.workload_run.specs.WatchStages.{Entries, IsIdle, Owner}
use Rattle.workload_run.specs.Stops.{Stops}
use Rattle.workload_run.specs.WatchCrews.{IsEndable, IsReadyToWatch, IsDoneWatching, CameToEnd, AllCameToEnd}
use Rattle.turn_lock.proofs.Histories.{begins_both}
use Rattle.version_manager.specs.declared.journal.DeskFixed.{DeskFixed}
use Rattle.faults.specs.Counts.{RoseBy}
use Rattle.request_form.specs.PublishedReads.{IsPublishedIn, Range, read_outcome}
use Rattle.workload_run.proofs.Returns.{rose_stop}
use Rattle.workload_run.specs.declared.last.Last.{Last}
use Rattle.workload_run.specs.Agreeing.{IsVersionIn, IsSeenBy, IsSeenIn}
use mathlib.Core.List.{IsPrefix}
use Rattle.blob_model.specs.Content.{Update, size_of}
use Rattle.blob_model.specs.declared.call.Event.{Event}
use Rattle.blob_model.specs.declared.call.Outcome.{Outcome}
use Rattle.request_form.specs.Answers.{Turn, AfterGap, ReadTurn, Unless, Answers, max_read}
use Rattle.request_form.specs.Replies.{reply_of, fault_of}
use Rattle.request_form.specs.Session.{Session, sees}
use Rattle.request_form.specs.Turns.{with_tickets, and_made}
use Rattle.request_form.specs.declared.form.Request.TheVariants as Requests
use Rattle.request_form.specs.declared.form.Reply.TheVariants as Replies
use Rattle.request_form.specs.declared.form.Fault.TheVariants as Faults
use Rattle.client_session.specs.Opening.{ReadsRange, RangeCause}
use Rattle.read_board.specs.declared.standing.Way.{Way}
use Rattle.read_board.specs.Keeping.{StandingState}
use Rattle.read_board.specs.Reads.{Goes, goes_by}
use Rattle.read_board.specs.Refreshes.{version_of, updates_of}
use Rattle.workload_run.specs.Callers.{Told}
use Rattle.workload_law.specs.declared.watch_plan.WatchSummary.{WatchSummary}
use Rattle.workload_law.specs.Watch.{range_of}
use Rattle.workload_law.specs.WatchNotes.{NotesState, noted, HasNotedOne, HasNoted, HaveNoted}
use Rattle.workload_run.specs.WatchEnding.{Finishes, NotesOf, NotesSeen}
use Rattle.workload_run.specs.Noting.{PieceRead, IsUnpublished, ReadIsNoted, IsPieceSeen}
use Rattle.workload_run.proofs.Refusals.{stops_on, some_more, hindered_stops, prefix_both, content_told, TurnRefused, turn_refused, asked_for, itself}
use Rattle.workload_run.proofs.Lasts.{holds_published}

-- an idle session that goes on and enters nothing is idle
pub idle_on : {D : Type 0} {store : StoreState} {s s' : SessionState D} → IsIdle store s → Idles s s' → IsIdle store s'
idle_on {s' = s'} idle goes = record {
  of_store = goes.goes_on.store ∙ idle.of_store;
  caller = subst (λ (c : ℕ). 3 ≤ c) (sym goes.goes_on.caller) idle.caller;
  none = subst (λ (c : ℕ). events_by c (events s'.log) ≡ []) (sym goes.goes_on.caller) (goes.none ∙ idle.none);
}

pub told_read : {T E : Type 0} (told : Result T E) {P Q : T → Type 0} → ((x : T) → P x → Q x) → IfOk told P → IfOk told Q
told_read (Ok done) f p = f done p
told_read (Err fault) f p = tt

pub told_lost : {T E : Type 0} (told : Result T E) {P Q : E → Type 0} → ((x : E) → P x → Q x) → IfErr told P → IfErr told Q
told_lost (Ok done) f p = tt
told_lost (Err fault) f p = f fault p

module _ {D : Type 0} (faults : D → ℕ) (store : StoreState) where
  -- ---- once they have read
  -- `before` is what the owner had seen when they were made, and in `kept` the keeper's refreshes hold
  pub record HaveReadOn (board : BoardId) (before kept : Entries) (all : List Refresh) (plan : WatchPlan) (ws ws' : List (WatcherState D)) : Type 0 where
    pub some : 1 ≤ length before
    pub from : Begins before kept
    pub hold : AllHold store.fixed kept all
    pub count : length ws' ≡ length ws
    pub ready : All (IsReadyToWatch faults store before board) ws
    pub have : HaveWatched faults plan ws ws'
    pub met : All (HasMet all) ws'

  module _ (tell : BoardReadsTell) {board : BoardId} {before kept seen : Entries} {all : List Refresh} {plan : WatchPlan} {ws ws' : List (WatcherState D)}
      (on : HaveReadOn board before kept all plan ws ws') (to : Begins kept seen) where
    seen_by_owner : (log : Entries) (fault : Fault) → Stops store.fixed kept fault ⊎ Stops store.fixed log fault → Stops store.fixed seen fault ⊎ Stops store.fixed log fault
    seen_by_owner log fault (inl by) = inl (stops_on store.fixed kept seen fault to by)
    seen_by_owner log fault (inr by) = inr by

    -- one that has read is done
    done_of : (w w' : WatcherState D) → IsReadyToWatch faults store before board w → HasWatched faults plan w w' → HasMet all w' → IsDoneWatching faults store seen board w'
    done_of w w' ready has met =
        let idle : IsIdle store w'.reader.session = idle_on ready.idle has.read.idles in
        let own : 1 ≤ length w'.reader.session.log = some_more before w'.reader.session.log (subst (λ (l : Entries). Begins l w'.reader.session.log) ready.log has.read.idles.goes_on.begins) on.some in
        record {
          board_is = has.read.board ∙ ready.board_is;
          endable = record {
            idle = idle;
            counted = λ less. let rose = has.read.rose.by less in omega (arith, rose, ready.no_fault);
            stop = told_lost w'.told
                (λ fault by. seen_by_owner w'.reader.session.log fault (hindered_stops tell store kept all on.hold (some_more before kept on.from on.some) w'.reader idle.of_store met fault own by)) has.stop;
          };
        }

    pub all_done : All (IsDoneWatching faults store seen board) ws'
    all_done k d lt =
        let there : k < length ws = omega (arith, lt, on.count) in
        done_of (get_or ws k d) (get_or ws' k d) (on.ready k d there) (on.have k d there) (on.met k d lt)

  -- they stand at the board still
  pub all_stand : (plan : WatchPlan) (before : Entries) (board : BoardId) (ws ws' : List (WatcherState D)) → length ws' ≡ length ws → All (IsReadyToWatch faults store before board) ws → HaveWatched faults plan ws ws' → All (StandsAt board) ws'
  all_stand plan before board ws ws' count ready have k d lt =
      let there : k < length ws = omega (arith, lt, count) in
      (have k d there).read.board ∙ (ready k d there).board_is

  -- ---- as the owner sees more
  pub endable_on : (seen seen' : Entries) → Begins seen seen' → (w : WatcherState D) → IsEndable faults store seen w → IsEndable faults store seen' w
  endable_on seen seen' more w e = record {
    idle = e.idle;
    counted = e.counted;
    stop = told_lost w.told (λ fault by. either fault by) e.stop;
  }
    where
      either : (fault : Fault) → Stops store.fixed seen fault ⊎ Stops store.fixed w.reader.session.log fault → Stops store.fixed seen' fault ⊎ Stops store.fixed w.reader.session.log fault
      either fault (inl by) = inl (stops_on store.fixed seen seen' fault more by)
      either fault (inr by) = inr by

  pub done_on : (seen seen' : Entries) (board : BoardId) → Begins seen seen' → (w : WatcherState D) → IsDoneWatching faults store seen board w → IsDoneWatching faults store seen' board w
  done_on seen seen' board more w done = record { board_is = done.board_is; endable = endable_on seen seen' more w done.endable }

  pub all_done_on : (seen seen' : Entries) (board : BoardId) → Begins seen seen' → (ws : List (WatcherState D)) → All (IsDoneWatching faults store seen board) ws → All (IsDoneWatching faults store seen' board) ws
  all_done_on seen seen' board more ws all k d lt = done_on seen seen' board more (get_or ws k d) (all k d lt)

  pub all_done_end : (seen : Entries) (board : BoardId) (ws : List (WatcherState D)) → All (IsDoneWatching faults store seen board) ws → All (IsEndable faults store seen) ws
  all_done_end seen board ws all k d lt = (all k d lt).endable

  -- one that hasn't read anything may end
  pub all_ready_end : (seen : Entries) (board : BoardId) (ws : List (WatcherState D)) → All (IsReadyToWatch faults store seen board) ws → All (IsEndable faults store seen) ws
  all_ready_end seen board ws all k d lt =
      let ready = all k d lt in
      let w = get_or ws k d in
      record {
        idle = ready.idle;
        counted = λ less. (let none = ap (λ (t : Result (List ℕ) Fault). told_faults t) ready.told in omega (arith, none));
        stop = subst (λ (t : Result (List ℕ) Fault). IfErr t (λ fault. Stops store.fixed seen fault ⊎ Stops store.fixed w.reader.session.log fault)) (sym ready.told) tt;
      }

-- as long as no reader stopped, all that ended agree
abbrev pub AgreeSoFar : Option Fault → ℕ → ℕ → ℕ → Type 0
AgreeSoFar None agree left all = agree + left ≡ all
AgreeSoFar (Some fault) agree left all = Unit {0}

-- one more reader agrees
pub agree_more : (stop : Option Fault) (agree one left less all : ℕ) → AgreeSoFar stop agree left all → one ≡ 1 → left ≡ less + 1 → AgreeSoFar stop (agree + one) less all
agree_more None agree one left less all so is fewer = omega (arith, so, is, fewer)
agree_more (Some fault) agree one left less all so is fewer = tt

-- why a reader stopped, as more is seen
pub stop_on : (f : DeskFixed) (seen seen' : Entries) (stop : Option Fault) → Begins seen seen' → IfSome stop (Stops f seen) → IfSome stop (Stops f seen')
stop_on f seen seen' None more by = tt
stop_on f seen seen' (Some fault) more by = stops_on f seen seen' fault more by

-- ---- one more in a list
pub all_more : {X : Type 0} (P : X → Type 0) (xs ys : List X) (x : X) → ys ≡ xs ++ x ∷ [] → All P xs → P x → All P ys
all_more {X} P xs ys x more each last = subst (λ (l : List X). All P l) (sym more) (All-push P xs x each last)

-- ---- the last of a list, and those before it
module _ {X : Type 0} (P : X → Type 0) (xs : List X) (x : X) (all : All P (xs ++ x ∷ [])) where
  pub all_front : All P xs
  all_front k d lt = subst (λ (y : X). P y) (get_or-append xs (x ∷ []) d k lt) (all k d (omega (arith, lt, length-append xs (x ∷ []))))

  pub all_last : P x
  all_last = subst (λ (y : X). P y) (get_or_push xs x x (length xs) refl) (all (length xs) x (omega (arith, length-append xs (x ∷ []))))

-- a count that goes back, with what it counted before
pub rose_on : (n before between sum after : ℕ) → (between < 2 ^ 64 - 1 → before + n ≤ between) → min (between + sum) (2 ^ 64 - 1) ≤ after → after < 2 ^ 64 - 1 → before + n ≤ after
rose_on n before between sum after made back less =
    let low : between < 2 ^ 64 - 1 = omega (arith, back, less) in
    omega (arith, made low, back, less)

pub lower : (n before between : ℕ) → (between < 2 ^ 64 - 1 → before + n ≤ between) → between < 2 ^ 64 - 1 → before ≤ between
lower n before between made less = omega (arith, made less)

-- the count of a session that rose, and that went back
pub rose_told : (n before between sum sum' after : ℕ) → (between < 2 ^ 64 - 1 → before ≤ between) → RoseBy n sum sum' → min (between + sum') (2 ^ 64 - 1) ≤ after → after < 2 ^ 64 - 1
    → before + n ≤ after
rose_told n before between sum sum' after made rose back less =
    let counted : sum' < 2 ^ 64 - 1 → n ≤ sum' = λ few. (let up = rose.by few in omega (arith, up)) in
    rose_stop n before between sum' after made counted back less

-- counts of one call after another
pub rose_after : (n before between sum after : ℕ) → min (before + sum) (2 ^ 64 - 1) ≤ between → (after < 2 ^ 64 - 1 → between + n ≤ after) → after < 2 ^ 64 - 1 → before + n ≤ after
rose_after n before between sum after back later less = let up = later less in omega (arith, back, up, less)

pub rose_later : (m n before between after : ℕ) → (between < 2 ^ 64 - 1 → before + m ≤ between) → (after < 2 ^ 64 - 1 → between + n ≤ after) → after < 2 ^ 64 - 1 → before + n ≤ after
rose_later m n before between after first later less =
    let up = later less in
    let low = first (omega (arith, up, less)) in
    omega (arith, low, up)

pub rose_before : (m n before between after : ℕ) → (between < 2 ^ 64 - 1 → before + m ≤ between) → (after < 2 ^ 64 - 1 → between + n ≤ after) → after < 2 ^ 64 - 1 → before + m ≤ after
rose_before m n before between after first later less =
    let up = later less in
    let low = first (omega (arith, up, less)) in
    omega (arith, low, up)

-- counts of which nothing is told
pub kept_both : (before between after : ℕ) → (between < 2 ^ 64 - 1 → before ≤ between) → (after < 2 ^ 64 - 1 → between ≤ after) → after < 2 ^ 64 - 1 → before ≤ after
kept_both before between after first later less =
    let up = later less in
    let low = first (omega (arith, up, less)) in
    omega (arith, low, up)

pub kept_back : (before sum after : ℕ) → min (before + sum) (2 ^ 64 - 1) ≤ after → after < 2 ^ 64 - 1 → before ≤ after
kept_back before sum after back less = omega (arith, back, less)

pub rose_early : (m n stop before one sum two after : ℕ) → n ≤ m → (one < 2 ^ 64 - 1 → before + m ≤ one) → min (one + sum) (2 ^ 64 - 1) ≤ two → (after < 2 ^ 64 - 1 → two + stop ≤ after)
    → after < 2 ^ 64 - 1 → before + n ≤ after
rose_early m n stop before one sum two after few first back later less =
    let up = later less in
    let low = first (omega (arith, back, up, less)) in
    omega (arith, few, low, back, up, less)

pub rose_thrice : (n before one two after : ℕ) → (one < 2 ^ 64 - 1 → before + 0 ≤ one) → (two < 2 ^ 64 - 1 → one ≤ two) → (after < 2 ^ 64 - 1 → two + n ≤ after) → after < 2 ^ 64 - 1
    → before + n ≤ after
rose_thrice n before one two after first next later less =
    let up = later less in
    let mid = next (omega (arith, up, less)) in
    let low = first (omega (arith, mid, up, less)) in
    omega (arith, low, mid, up)

-- ---- what was seen of the last version
pub seen_on : {f : DeskFixed} {seen seen' : Entries} {last : Last} → IsSeenIn f seen last → Begins seen seen' → IsSeenIn f seen' last
seen_on {seen = seen} {seen' = seen'} known more = record {
  before = known.before;
  begins = begins_both known.before seen seen' known.begins more;
  published = known.published;
  is_version = known.is_version;
}

pub seen_by : {D : Type 0} (store : StoreState) (s : SessionState D) (seen : Entries) (last : Last) → s.store ≡ store → s.log ≡ seen → IsSeenIn store.fixed seen last → IsSeenBy s last
seen_by store s seen last of_store log known = record {
  before = known.before;
  begins = subst (λ (l : Entries). Begins known.before l) (sym log) known.begins;
  published = subst (λ (t : StoreState). IsPublishedIn (store_of t.fixed.limits (events known.before)) 1 last.version) (sym of_store) known.published;
  is_version = subst (λ (t : StoreState). IsVersionIn t.fixed known.before last) (sym of_store) known.is_version;
}

-- ---- lists of reads
-- what is known of the bytes may be told otherwise
one_as : (P Q : List ℕ → Type 0) → ((bytes : List ℕ) → P bytes → Q bytes) → (version : ℕ) (before after : List ℕ) → HasNotedOne P version before after → HasNotedOne Q version before after
one_as P Q turn version before after (HasNotedOne.read bytes is more) = HasNotedOne.read bytes (turn bytes is) more
one_as P Q turn version before after (HasNotedOne.unpublished more) = HasNotedOne.unpublished more

pub noted_as : (P Q : ℕ → List ℕ → Type 0) → ((op : ℕ) (bytes : List ℕ) → P op bytes → Q op bytes) → (n : ℕ) (list : List ℕ) → HasNoted P n list → HasNoted Q n list
noted_as P Q turn zero list none = none
noted_as P Q turn (suc op) list (before, (was, one)) = (before, (noted_as P Q turn op before was, one_as (P op) (Q op) (turn op) (op + 1) before list one))

pub all_noted_as : (P Q : ℕ → List ℕ → Type 0) → ((op : ℕ) (bytes : List ℕ) → P op bytes → Q op bytes) → (ops n : ℕ) (list : List ℕ) → HaveNoted P ops n list → HaveNoted Q ops n list
all_noted_as P Q turn ops zero list none = none
all_noted_as P Q turn ops (suc n) list (own, (rest, (one, (more, is)))) = (own, (rest, (noted_as P Q turn ops own one, (all_noted_as P Q turn ops n rest more, is))))

-- ---- one read, by a turn
-- a session's read gives what the store tells of what the session has seen
turn_gave : (s s' : Session) (range : Range) (bytes : List ℕ) → Answers AllOther s (Requests.Read range.blob range.version range.offset range.count) (Replies.Content bytes) s'
    → Replies.Content bytes ≡ reply_of (read_outcome (store_of s.fixed.limits s'.seen) range)
turn_gave s s' range bytes answers = by_test (nat_lt max_read range.count) refl answers
  where
    by_turn : (others : List Event) (turn : Turn) → ReadTurn s range.blob range.version range.offset range.count others turn → Replies.Content bytes ≡ turn.said
        → s' ≡ with_tickets turn.tickets (sees s (and_made others turn.made)) → Replies.Content bytes ≡ reply_of (read_outcome (store_of s.fixed.limits s'.seen) range)
    by_turn others _ (ReadTurn.content given e) said seen =
        said ∙ ap (λ (o : Outcome). reply_of o) (sym (ap (λ (x : Session). read_outcome (store_of s.fixed.limits x.seen) range) seen ∙ e))
    by_turn others _ (ReadTurn.refused refusal e) said seen = absurd (let no : Replies.Content bytes ≡ Replies.Refused (fault_of refusal) = said in cc)
    by_turn others _ ReadTurn.out_of_memory said seen = absurd (let no : Replies.Content bytes ≡ Replies.Refused Faults.NoMemory = said in cc)
    by_turn others _ (ReadTurn.not_read given e some page meets) said seen = absurd (let no : Replies.Content bytes ≡ Replies.Refused (Faults.PageFault page) = said in cc)

    by_test : (t : Bool) → nat_lt max_read range.count ≡ t
        → Unless (if t then Some (Faults.ReadTooLong range.count) else None) s (Replies.Content bytes) s'
        (AfterGap AllOther s (ReadTurn s range.blob range.version range.offset range.count) (Replies.Content bytes) s')
        → Replies.Content bytes ≡ reply_of (read_outcome (store_of s.fixed.limits s'.seen) range)
    by_test true long x = absurd (let no : Replies.Content bytes ≡ Replies.Refused (Faults.ReadTooLong range.count) = x.0 in cc)
    by_test false long a = by_turn a.others a.turn a.may a.said a.seen

-- where it is refused as the version isn't published, that is what the store tells
turn_refused_so : (s s' : Session) (range : Range) (version last : ℕ)
    → Answers AllOther s (Requests.Read range.blob range.version range.offset range.count) (Replies.Refused (Faults.NotPublished version last)) s'
    → Replies.Refused (Faults.NotPublished version last) ≡ reply_of (read_outcome (store_of s.fixed.limits s'.seen) range)
turn_refused_so s s' range version last answers = by_cause (turn_refused s s' range (Faults.NotPublished version last) answers)
  where
    by_cause : TurnRefused s.fixed.limits s.fixed.page s'.seen range (Faults.NotPublished version last)
        → Replies.Refused (Faults.NotPublished version last) ≡ reply_of (read_outcome (store_of s.fixed.limits s'.seen) range)
    by_cause (TurnRefused.too_long is long) = absurd (let no : Faults.NotPublished version last ≡ Faults.ReadTooLong range.count = is in cc)
    by_cause (TurnRefused.refused refusal e is) = ap (λ (x : Fault). Replies.Refused x) is ∙ ap (λ (o : Outcome). reply_of o) (sym e)
    by_cause (TurnRefused.starved is) = absurd (let no : Faults.NotPublished version last ≡ Faults.NoMemory = is in cc)
    by_cause (TurnRefused.lost page bytes is e lt) = absurd (let no : Faults.NotPublished version last ≡ Faults.PageFault page = is in cc)

-- no read by the board is refused so
not_by_board : (p : ℕ) (us : List Update) (v offset count : ℕ) (fault : Fault) (version last : ℕ) → fault ≡ Faults.NotPublished version last → RangeCause p us v offset count fault → ⊥
not_by_board p us v offset count fault version last not (RangeCause.too_long is long) = (let no : Faults.NotPublished version last ≡ Faults.ReadTooLong count = sym not ∙ is in cc)
not_by_board p us v offset count fault version last not (RangeCause.past is few past) =
    (let no : Faults.NotPublished version last ≡ Faults.RangePastSize (offset + count) (size_of us v) = sym not ∙ is in cc)
not_by_board p us v offset count fault version last not (RangeCause.lost page is few within meets) = (let no : Faults.NotPublished version last ≡ Faults.PageFault page = sym not ∙ is in cc)
not_by_board p us v offset count fault version last not (RangeCause.no_memory is) = (let no : Faults.NotPublished version last ≡ Faults.NoMemory = sym not ∙ is in cc)

-- ---- one read of a reader
module _ {D : Type 0} (old new : StandingState D) (on : Continues old.session new.session) (op : ℕ) where
  pub gave : (by : Option Refresh) → goes_by new.has_place new.list 1 (op + 1) ≡ by → (bytes : List ℕ) (way : Way) (before after : ℕ)
      → Goes by old.session 1 (op + 1) (16 * op) 16 (Ok (bytes, way)) new.session before after → PieceRead old new op bytes
  gave (Some refresh) is bytes way before after board =
      PieceRead.by_board new.list ([], append-nil new.list) refresh is
      (subst (λ (t : StoreState). ReadsRange t.fixed.page_size (updates_of refresh) (op + 1) (16 * op) 16 (Ok bytes)) (sym on.store) board.reads)
  gave None is bytes way before after turn =
      PieceRead.by_turn new.session.log on.begins (itself new.session.log)
      (subst (λ (t : StoreState). Replies.Content bytes ≡ reply_of (read_outcome (store_of t.fixed.limits (events new.session.log)) (range_of op))) (sym on.store)
      (turn_gave (session_of old.session) (session_of new.session) (range_of op) bytes turn.answers))

  pub not_given : (fault : Fault) (version last : ℕ) → fault ≡ Faults.NotPublished version last → (by : Option Refresh) → goes_by new.has_place new.list 1 (op + 1) ≡ by → (before after : ℕ)
      → Goes by old.session 1 (op + 1) (16 * op) 16 (Err fault) new.session before after → IsUnpublished old new op
  not_given fault version last not (Some refresh) is before after board =
      absurd (not_by_board old.session.store.fixed.page_size (updates_of refresh) (op + 1) (16 * op) 16 fault version last not board.reads.cause)
  not_given fault version last not None is before after turn =
      let answers = subst (λ (x : Fault). Answers AllOther (session_of old.session) (Requests.Read 1 (op + 1) (16 * op) 16) (Replies.Refused x) (session_of new.session)) not turn.answers in
      let told =
      subst (λ (t : StoreState). Replies.Refused (Faults.NotPublished version last) ≡ reply_of (read_outcome (store_of t.fixed.limits (events new.session.log)) (range_of op))) (sym on.store)
      (turn_refused_so (session_of old.session) (session_of new.session) (range_of op) version last answers)
      in
      let store = store_of new.session.store.fixed.limits (events new.session.log) in
      record {
        last = last;
        told = subst (λ (v : ℕ). Replies.Refused (Faults.NotPublished v last) ≡ reply_of (read_outcome store (range_of op))) (asked_for store (range_of op) version last told) told;
        one_turn = turn.one_turn (omega arith);
      }

-- so it is noted
pub bytes_noted : {D : Type 0} (old new : StandingState D) (op : ℕ) (bytes slice before after : List ℕ) → slice ≡ bytes → PieceRead old new op bytes → after ≡ before ++ noted (op + 1) (Some slice)
    → ReadIsNoted old new op before after
bytes_noted old new op bytes slice before after same read more =
    ReadIsNoted.read bytes read (more ∙ ap (λ (l : List ℕ). before ++ noted (op + 1) (Some l)) same)

pub passed_over : {D : Type 0} (old new : StandingState D) (op : ℕ) (told : Told) (fault : Fault) (before after : List ℕ)
    → OnOk told ((version : ℕ) × ((last : ℕ) × (fault ≡ Faults.NotPublished version last))) → OnOk told (after ≡ before ++ noted (op + 1) None)
    → ((version last : ℕ) → fault ≡ Faults.NotPublished version last → IsUnpublished old new op) → OnOk told (ReadIsNoted old new op before after)
passed_over old new op (Ok done) fault before after (version, (last, is)) more not = ReadIsNoted.unpublished (not version last is) more
passed_over old new op (Err stop) fault before after passes more not = tt

-- ---- one read after another
module _ {D : Type 0} (first mid last : StandingState D) (board : IsPrefix mid.list last.list) (place : last.has_place ≡ mid.has_place)
    (one : Idles first.session mid.session) (two : Idles mid.session last.session) where
  piece_on : (op : ℕ) (bytes : List ℕ) → PieceRead first mid op bytes → PieceRead first last op bytes
  piece_on op bytes (PieceRead.by_board list prefix on goes reads) =
      PieceRead.by_board list (prefix_both list mid.list last.list prefix board) on (subst (λ (b : Bool). goes_by b list 1 (op + 1) ≡ Some on) (sym place) goes)
      (subst (λ (t : StoreState). ReadsRange t.fixed.page_size (updates_of on) (op + 1) (16 * op) 16 (Ok bytes)) (sym two.goes_on.store) reads)
  piece_on op bytes (PieceRead.by_turn log from to told) =
      PieceRead.by_turn log from (begins_both log mid.session.log last.session.log to two.goes_on.begins)
      (subst (λ (t : StoreState). Replies.Content bytes ≡ reply_of (read_outcome (store_of t.fixed.limits (events log)) (range_of op))) (sym two.goes_on.store) told)

  piece_later : (op : ℕ) (bytes : List ℕ) → PieceRead mid last op bytes → PieceRead first last op bytes
  piece_later op bytes (PieceRead.by_board list prefix on goes reads) = PieceRead.by_board list prefix on goes reads
  piece_later op bytes (PieceRead.by_turn log from to told) = PieceRead.by_turn log (begins_both first.session.log mid.session.log log one.goes_on.begins from) to told

  one_later : (op : ℕ) (before after : List ℕ) → ReadIsNoted mid last op before after → HasNotedOne (PieceRead first last op) (op + 1) before after
  one_later op before after (ReadIsNoted.read bytes read more) = HasNotedOne.read bytes (piece_later op bytes read) more
  one_later op before after (ReadIsNoted.unpublished not more) = HasNotedOne.unpublished more

  pub noted_more : (op : ℕ) (before after : List ℕ) → HasNoted (PieceRead first mid) op before → ReadIsNoted mid last op before after → HasNoted (PieceRead first last) (op + 1) after
  noted_more op before after so one_read =
      let next : suc op ≡ op + 1 = omega arith in
      subst (λ (n : ℕ). HasNoted (PieceRead first last) n after) next
      (before, (noted_as (PieceRead first mid) (PieceRead first last) piece_on op before so, one_later op before after one_read))

-- ---- readers that come to their ends, from the last to the first
module _ {D : Type 0} where
  pub ended_on : (seen seen' : Entries) (w : WatcherState D) (own : List ℕ) → Begins seen seen' → CameToEnd seen w own → CameToEnd seen' w own
  ended_on seen seen' w own more end = record { told = end.told; begins = begins_both w.reader.session.log seen seen' end.begins more }

  pub all_ended_on : (seen seen' : Entries) → Begins seen seen' → (ws : List (WatcherState D)) (list : List ℕ) → AllCameToEnd seen ws list → AllCameToEnd seen' ws list
  all_ended_on seen seen' more [] list none = none
  all_ended_on seen seen' more (w ∷ ws) list (own, (rest, (end, (others, is)))) = (own, (rest, (ended_on seen seen' w own more end, (all_ended_on seen seen' more ws rest others, is))))

  -- as long as no reader stopped, these are the reads of those that ended, which were the last of all
  abbrev pub ReadSoFar : Option Fault → Entries → List (WatcherState D) → List (WatcherState D) → List ℕ → Type 0
  ReadSoFar None seen all left list = (ended : List (WatcherState D)) × ((all ≡ left ++ ended) × AllCameToEnd seen ended list)
  ReadSoFar (Some fault) seen all left list = Unit {0}

  pub none_so_far : (seen : Entries) (all : List (WatcherState D)) (list : List ℕ) → list ≡ [] → ReadSoFar None seen all all list
  none_so_far seen all list none = ([], (sym (append-nil all), none))

  pub more_so_far : (stop : Option Fault) (seen seen' : Entries) (all left less : List (WatcherState D)) (w : WatcherState D) (own list list' : List ℕ) → Begins seen seen' → left ≡ less ++ w ∷ []
      → CameToEnd seen' w own → list' ≡ own ++ list → ReadSoFar stop seen all left list → ReadSoFar stop seen' all less list'
  more_so_far None seen seen' all left less w own list list' more split end is (ended, (whole, so)) =
      (w ∷ ended, (whole ∙ (ap (λ (l : List (WatcherState D)). l ++ ended) split ∙ append_assoc less (w ∷ []) ended), (own, (list, (end, (all_ended_on seen seen' more ended list so, is))))))
  more_so_far (Some fault) seen seen' all left less w own list list' more split end is so = tt

  pub all_so_far : (seen : Entries) (all left : List (WatcherState D)) (list : List ℕ) → length left ≡ 0 → ReadSoFar None seen all left list → AllCameToEnd seen all list
  all_so_far seen all left list none (ended, (whole, so)) =
      subst (λ (l : List (WatcherState D)). AllCameToEnd seen l list) (sym (whole ∙ ap (λ (l : List (WatcherState D)). l ++ ended) (nil_from_length left none))) so

-- ---- what they read, once all came to their ends
module _ {D : Type 0} (faults : D → ℕ) (store : StoreState) (tell : BoardReadsTell) {board : BoardId} {before kept seen : Entries} {all : List Refresh} {plan : WatchPlan} {ws ws' : List (WatcherState D)}
    (on : HaveReadOn faults store board before kept all plan ws ws') (to : Begins kept seen) where
  module _ (w w' : WatcherState D) (ready : IsReadyToWatch faults store before board w) (idles : Idles w.reader.session w'.reader.session) (met : HasMet all w')
      (ended : Begins w'.reader.session.log seen) where
    of_store : w'.reader.session.store ≡ store
    of_store = idles.goes_on.store ∙ ready.idle.of_store

    piece_seen : (op : ℕ) (bytes : List ℕ) → PieceRead w.reader w'.reader op bytes → IsPieceSeen store.fixed seen op bytes
    piece_seen op bytes (PieceRead.by_board list prefix at goes reads) =
        let here = subst (λ (t : StoreState). ReadsRange t.fixed.page_size (updates_of at) (op + 1) (16 * op) 16 (Ok bytes)) of_store reads in
        let told = tell store.fixed kept all list (range_of op) (Ok bytes) (events kept)
        (record { hold = on.hold; begins = prefix_both list w'.reader.list all prefix met; has_place = w'.reader.has_place; on = at; goes = goes; reads = here })
        ([], inl (sym (append-nil (events kept))))
        in
        record { log = kept; some = some_more before kept on.from on.some; begins = to; told = content_told (read_outcome (store_of store.fixed.limits (events kept)) (range_of op)) 16 bytes told }
    piece_seen op bytes (PieceRead.by_turn log first last told) = record {
      log = log;
      some = some_more before log (subst (λ (l : Entries). Begins l log) ready.log first) on.some;
      begins = begins_both log w'.reader.session.log seen last ended;
      told = subst (λ (t : StoreState). Replies.Content bytes ≡ reply_of (read_outcome (store_of t.fixed.limits (events log)) (range_of op))) of_store told;
    }

  -- a reader that came to its end has read all versions
  abbrev Reads : WatcherState D → Type 0
  Reads w = (own : List ℕ) → CameToEnd seen w own → HasNoted (IsPieceSeen store.fixed seen) plan.ops own

  each_reads : All Reads ws'
  each_reads k d lt =
      let there : k < length ws = omega (arith, lt, on.count) in
      let w = get_or ws k d in
      let w' = get_or ws' k d in
      let has = on.have k d there in
      λ own end.
      noted_as (PieceRead w.reader w'.reader) (IsPieceSeen store.fixed seen) (piece_seen w w' (on.ready k d there) has.read.idles (on.met k d lt) end.begins) plan.ops own
      (subst (λ (t : Result (List ℕ) Fault). IfOk t (HasNoted (PieceRead w.reader w'.reader) plan.ops)) end.told has.noted)

  gathered : (xs : List (WatcherState D)) (list : List ℕ) → All Reads xs → AllCameToEnd seen xs list → HaveNoted (IsPieceSeen store.fixed seen) plan.ops (length xs) list
  gathered [] list each none = none
  gathered (x ∷ xs) list each (own, (rest, (end, (others, is)))) = (own, (rest, (All-head Reads x xs each own end, (gathered xs rest (All-tail Reads x xs each) others, is))))

  pub all_read : (list : List ℕ) → AllCameToEnd seen ws' list → HaveNoted (IsPieceSeen store.fixed seen) plan.ops (length ws') list
  all_read list ended = gathered ws' list each_reads ended

-- ---- what is noted in the end
module _ {D : Type 0} (plan : WatchPlan) (f : DeskFixed) (readers : ℕ) (old new : Owner) (all : List Refresh) (ws : List (WatcherState D)) (count : length all ≡ plan.ops)
    (of_one : All (λ (r : Refresh). r.blob ≡ 1) all) (hold : Begins old.seen new.seen → AllHold f new.seen all)
    (read : Begins old.seen new.seen → (list : List ℕ) → AllCameToEnd new.seen ws list → HaveNoted (IsPieceSeen f new.seen) plan.ops plan.readers list) where
  pub notes_seen : (told : Result (WatchSummary × NotesState) Fault) → Finishes f readers told old new → IfOk told (λ done. NotesOf all ws new.seen done.0.versions done.1)
      → IfOk told (λ done. NotesSeen plan f new.seen done.0.versions done.1)
  notes_seen (Err fault) by notes = tt
  notes_seen (Ok done) finished notes =
      let more : Begins old.seen new.seen = finished.leaves.comes.begins in
      let holds = hold more in
      let out : ℕ → Type 0 = λ v. IsPublishedIn (store_of f.limits (events new.seen)) 1 v in
      record {
        before = map version_of all;
        count = length-map all version_of ∙ count;
        refreshes = notes.refreshes;
        published = All-map out version_of all (λ k d lt. holds_published f new.seen (get_or all k d) (of_one k d lt) (holds k d lt));
        readings = read more done.1.readings notes.readings;
      }
