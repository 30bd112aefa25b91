-- Reads of sessions and of readers: why they are refused, what they stop by, and what they give in the end.
use Rattle.std.proofs.Common.{◌≡◌, ◌≢◌, ◌⊎◌, inl, inr, ℕ, ◌+◌, ◌*◌, ◌<◌, ◌≤◌, Bool, true, false, if◌then◌else◌, List, [], ◌∷◌, refl, sym, ap, subst, ◌∙◌, append-nil, arith, length, take, drop, ◌++◌, append_assoc}
use Rattle.std.specs.Prelude.{Option, Some, None, Ok, Err, IfErr, nat_lt, Result}
use Rattle.std.proofs.lemmas.Bool.{true≢false}
use Rattle.std.proofs.lemmas.Bool.Decides.{nat_tests}
use Rattle.std.proofs.lemmas.List.{length-append, take_all}
use Rattle.blob_model.specs.Content.{size_of, content}
use Rattle.blob_model.specs.Limits.{Bounds}
use Rattle.blob_model.specs.Store.{Store, Blob, blob_at, published}
use Rattle.blob_model.specs.Answer.{Answered, bytes_of, refuse, unless_refused, not_published, range_past_size}
use Rattle.blob_model.specs.History.{store_of, AllOther}
use Rattle.blob_model.specs.declared.call.Event.{Event}
use Rattle.blob_model.specs.declared.call.Outcome.{Outcome}
use Rattle.blob_model.specs.declared.call.Outcome.TheVariants as Outcomes
use Rattle.blob_model.specs.declared.call.Refusal.{Refusal}
use Rattle.blob_model.specs.declared.call.Refusal.TheVariants as Refusals
use Rattle.version_manager.specs.Desks.{updates_or_none, updates_in}
use Rattle.version_manager.specs.Log.{events, desk_at}
use Rattle.version_manager.specs.declared.journal.DeskFixed.{DeskFixed}
use Rattle.request_form.specs.Answers.{Turn, AfterGap, ReadTurn, Unless, Answers, max_read}
use Rattle.request_form.specs.PublishedReads.{Range, read_outcome, Tells, IsPublishedIn}
use Rattle.request_form.specs.Replies.{reply_of, fault_of, page_faults}
use Rattle.request_form.specs.Session.{Session, sees}
use Rattle.request_form.specs.Turns.{with_tickets, and_made}
use Rattle.request_form.specs.declared.form.Request.TheVariants as Requests
use Rattle.request_form.specs.declared.form.Reply.TheVariants as Replies
use Rattle.request_form.specs.declared.form.Fault.{Fault}
use Rattle.request_form.specs.declared.form.Fault.TheVariants as Faults
use Rattle.client_session.specs.Opening.{RangeCause, ReadsRange}
use Rattle.client_session.specs.Sessions.{SessionState, StoreState, session_of, Continues, AnswersAsPublished}
use Rattle.read_board.specs.declared.refresh.Refresh.{Refresh}
use Rattle.read_board.specs.Keeping.{StandingState}
use Rattle.read_board.specs.Reads.{Goes, goes_by}
use Rattle.read_board.specs.Refreshes.{updates_of}
use Rattle.workload_law.specs.Ends.{IsOutside}
use Rattle.workload_run.specs.Callers.{Told}
use Rattle.workload_law.specs.Watch.{range_of}
use Rattle.workload_run.specs.Readers.{ReadHindered}
use Rattle.workload_run.specs.Stops.{IsPageSeen, IsRefusedIn, Stops}
use Rattle.workload_run.proofs.Updates.{same_fault}
use mathlib.Core.List.{IsPrefix}
use Rattle.turn_lock.specs.History.{Begins}
use Rattle.turn_lock.proofs.Histories.{begins_both}
use Rattle.client_session.specs.Results.{read_reply}
use Rattle.read_board.specs.Refreshing.{AllHold}
use Rattle.read_board.specs.Telling.{ReadsByList, BoardReadsTell}
use Rattle.workload_law.proofs.Later.{outside_as}
use Rattle.workload_run.specs.Agreeing.{IsPageOfLast, IsSeenIn, IsVersionIn, IsSeenBy}
use Rattle.workload_run.specs.WatchStages.{Entries}
use Rattle.workload_run.specs.declared.last.Last.{Last}
use Rattle.read_board.specs.declared.standing.Way.{Way}
use Rattle.read_board.specs.Laws.{Agrees}
use Rattle.workload_law.proofs.Loads.{found, passes}
use Rattle.workload_run.proofs.Returns.{events_append}

-- ---- by a turn
-- Why a session's read of a range was refused, by what it has seen then.
pub data TurnRefused (limits : Bounds) (p : ℕ) (seen : List Event) (range : Range) (fault : Fault) : Type 0 where
  too_long : fault ≡ Faults.ReadTooLong range.count → max_read < range.count → TurnRefused limits p seen range fault
  refused : (refusal : Refusal) → read_outcome (store_of limits seen) range ≡ Outcomes.Refused refusal → fault ≡ fault_of refusal → TurnRefused limits p seen range fault
  starved : fault ≡ Faults.NoMemory → TurnRefused limits p seen range fault
  lost : (page : ℕ) (bytes : List ℕ) → fault ≡ Faults.PageFault page → read_outcome (store_of limits seen) range ≡ Outcomes.Content bytes → p * page < range.offset + range.count
      → TurnRefused limits p seen range fault

pub turn_refused : (s s' : Session) (range : Range) (fault : Fault) → Answers AllOther s (Requests.Read range.blob range.version range.offset range.count) (Replies.Refused fault) s'
    → TurnRefused s.fixed.limits s.fixed.page s'.seen range fault
turn_refused s s' range fault answers = by_test (nat_lt max_read range.count) refl answers
  where
    by_turn : (others : List Event) (turn : Turn) → ReadTurn s range.blob range.version range.offset range.count others turn → Replies.Refused fault ≡ turn.said
        → s' ≡ with_tickets turn.tickets (sees s (and_made others turn.made)) → TurnRefused s.fixed.limits s.fixed.page s'.seen range fault
    by_turn others _ (ReadTurn.content bytes e) said seen = absurd (let no : Replies.Refused fault ≡ Replies.Content bytes = said in cc)
    by_turn others _ (ReadTurn.refused refusal e) said seen =
        TurnRefused.refused refusal (ap (λ (x : Session). read_outcome (store_of s.fixed.limits x.seen) range) seen ∙ e) (same_fault fault (fault_of refusal) said)
    by_turn others _ ReadTurn.out_of_memory said seen = TurnRefused.starved (same_fault fault Faults.NoMemory said)
    by_turn others _ (ReadTurn.not_read bytes e some page meets) said seen =
        TurnRefused.lost page bytes (same_fault fault (Faults.PageFault page) said) (ap (λ (x : Session). read_outcome (store_of s.fixed.limits x.seen) range) seen ∙ e) meets.begins

    by_test : (t : Bool) → nat_lt max_read range.count ≡ t
        → Unless (if t then Some (Faults.ReadTooLong range.count) else None) s (Replies.Refused fault) s' (AfterGap AllOther s (ReadTurn s range.blob range.version range.offset range.count) (Replies.Refused fault) s')
        → TurnRefused s.fixed.limits s.fixed.page s'.seen range fault
    by_test true long x = TurnRefused.too_long (same_fault fault (Faults.ReadTooLong range.count) x.0) (grind (arith, nat_tests, long))
    by_test false long a = by_turn a.others a.turn a.may a.said a.seen

-- ---- where a store tells that a version isn't published
own_version : (s : Store) (t u : Bool) (asked published end size version last : ℕ) (done : List ℕ)
    → Replies.Refused (Faults.NotPublished version last)
    ≡ reply_of (unless_refused s (record { refuses = t; refusal = Refusals.NotPublished asked published } ∷ record { refuses = u; refusal = Refusals.RangePastSize end size } ∷ []) (s, Outcomes.Content done)).1
    → version ≡ asked
own_version s true u asked published end size version last done e =
    (let same : Replies.Refused (Faults.NotPublished version last) ≡ Replies.Refused (Faults.NotPublished asked published) = e in cc)
own_version s false true asked published end size version last done e = absurd (cc (e))
own_version s false false asked published end size version last done e = absurd (cc (e))

asked_in : (s : Store) (range : Range) (o : Option Blob) (version last : ℕ)
    → Replies.Refused (Faults.NotPublished version last) ≡ reply_of (let a : Answered = elim o [
      | None ↦ refuse s (Refusals.NoBlob range.blob)
      | Some b ↦ unless_refused s (not_published b range.version ∷ range_past_size b range.version range.offset range.count ∷ []) (s, Outcomes.Content (bytes_of b range.version range.offset range.count))
    ] in a).1
    → version ≡ range.version
asked_in s range None version last e = absurd (cc (e))
asked_in s range (Some b) version last e =
    own_version s (nat_lt (published b) range.version) (nat_lt (size_of b.updates range.version) (range.offset + range.count)) range.version (published b) (range.offset + range.count) (size_of b.updates range.version)
    version last (bytes_of b range.version range.offset range.count) e

-- it is the version that was asked for
pub asked_for : (s : Store) (range : Range) (version last : ℕ) → Replies.Refused (Faults.NotPublished version last) ≡ reply_of (read_outcome s range) → version ≡ range.version
asked_for s range version last e = asked_in s range (blob_at s range.blob) version last e

-- ---- where a store gives bytes
both_passed : (s : Store) (t u : Bool) (q r : Refusal) (done bytes : List ℕ)
    → Replies.Content bytes ≡ reply_of (unless_refused s (record { refuses = t; refusal = q } ∷ record { refuses = u; refusal = r } ∷ []) (s, Outcomes.Content done)).1 → (t ≡ false) × (u ≡ false)
both_passed s true u q r done bytes e = absurd (cc (e))
both_passed s false true q r done bytes e = absurd (cc (e))
both_passed s false false q r done bytes e = (refl, refl)

-- the range lies in a published version
pub record IsThere (o : Option Blob) (range : Range) : Type 0 where
  pub blob : Blob
  pub at : o ≡ Some blob
  pub out : range.version ≤ published blob
  pub within : range.offset + range.count ≤ size_of blob.updates range.version

there_in : (s : Store) (range : Range) (o : Option Blob) (bytes : List ℕ)
    → Replies.Content bytes ≡ reply_of (let a : Answered = elim o [
      | None ↦ refuse s (Refusals.NoBlob range.blob)
      | Some b ↦ unless_refused s (not_published b range.version ∷ range_past_size b range.version range.offset range.count ∷ []) (s, Outcomes.Content (bytes_of b range.version range.offset range.count))
    ] in a).1
    → IsThere o range
there_in s range None bytes e = absurd (cc (e))
there_in s range (Some b) bytes e =
    let (first, second) =
    both_passed s (nat_lt (published b) range.version) (nat_lt (size_of b.updates range.version) (range.offset + range.count)) (Refusals.NotPublished range.version (published b))
    (Refusals.RangePastSize (range.offset + range.count) (size_of b.updates range.version)) (bytes_of b range.version range.offset range.count) bytes e
    in
    record { blob = b; at = refl; out = grind (arith, nat_tests, first); within = grind (arith, nat_tests, second) }

pub content_there : (s : Store) (range : Range) (bytes : List ℕ) → Replies.Content bytes ≡ reply_of (read_outcome s range) → IsThere (blob_at s range.blob) range
content_there s range bytes e = there_in s range (blob_at s range.blob) bytes e

-- so a page that the range meets is one of that version
pub page_there : (f : DeskFixed) (log : List (ℕ × Event)) (op : ℕ) → IsThere (blob_at (store_of f.limits (events log)) 1) (range_of op) → (page : ℕ) → f.page_size * page < 16 * op + 16 → IsPageSeen f log page
page_there f log op there page lt = record {
  before = log;
  begins = ([], sym (append-nil log));
  version = op + 1;
  published = (there.blob, there.at, there.out);
  within = omega (arith, lt, there.within, ap (λ (o : Option Blob). size_of (updates_or_none o) (op + 1)) there.at);
}

-- ---- a reader's reads
module _ {D : Type 0} (s s' : SessionState D) (on : Continues s s') (op : ℕ) (fault : Fault) (other : (version last : ℕ) → fault ≢ Faults.NotPublished version last) where
  turn_stops : Answers AllOther (session_of s) (Requests.Read 1 (op + 1) (16 * op) 16) (Replies.Refused fault) (session_of s')
      → IsOutside (IsPageSeen s'.store.fixed s'.log) fault ⊎ IsRefusedIn s'.store.fixed s'.log fault
  turn_stops answers =
      by_cause (subst (λ (t : StoreState). TurnRefused t.fixed.limits t.fixed.page_size (events s'.log) (range_of op) fault) (sym on.store) (turn_refused (session_of s) (session_of s') (range_of op) fault answers))
    where
      by_cause : TurnRefused s'.store.fixed.limits s'.store.fixed.page_size (events s'.log) (range_of op) fault
          → IsOutside (IsPageSeen s'.store.fixed s'.log) fault ⊎ IsRefusedIn s'.store.fixed s'.log fault
      by_cause (TurnRefused.too_long is long) = absurd (let no : max_read < 16 = long in omega (arith, no))
      by_cause (TurnRefused.refused refusal e is) = inr (record { op = op; told = ap (λ (x : Fault). Replies.Refused x) is ∙ ap (λ (o : Outcome). reply_of o) (sym e); other = other })
      by_cause (TurnRefused.starved is) = inl (IsOutside.starved is)
      by_cause (TurnRefused.lost page bytes is e lt) =
          let there = content_there (store_of s'.store.fixed.limits (events s'.log)) (range_of op) bytes (ap (λ (o : Outcome). reply_of o) (sym e)) in
          inl (IsOutside.lost page (page_there s'.store.fixed s'.log op there page lt) is)

  pub read_stops : (place : Bool) (list : List Refresh) (by : Option Refresh) → goes_by place list 1 (op + 1) ≡ by → (r : StandingState D) → r.session ≡ s' → r.list ≡ list → r.has_place ≡ place → (before after : ℕ)
      → Goes by s 1 (op + 1) (16 * op) 16 (Err fault) s' before after → ReadHindered r fault
  read_stops place list (Some refresh) is r session the_list the_place before after board =
      ReadHindered.by_board op refresh (ap (λ (l : List Refresh). goes_by r.has_place l 1 (op + 1)) the_list ∙ (ap (λ (b : Bool). goes_by b list 1 (op + 1)) the_place ∙ is))
      (subst (λ (t : StoreState). RangeCause t.fixed.page_size (updates_of refresh) (op + 1) (16 * op) 16 fault) (sym (ap (λ (x : SessionState D). x.store) session ∙ on.store)) board.reads.cause)
  read_stops place list None is r session the_list the_place before after turn =
      by_either (subst (λ (x : SessionState D). IsOutside (IsPageSeen x.store.fixed x.log) fault ⊎ IsRefusedIn x.store.fixed x.log fault) (sym session) (turn_stops turn.answers))
    where
      by_either : IsOutside (IsPageSeen r.session.store.fixed r.session.log) fault ⊎ IsRefusedIn r.session.store.fixed r.session.log fault → ReadHindered r fault
      by_either (inl out) = ReadHindered.outside out
      by_either (inr by) = ReadHindered.refused by

-- what stopped a reader is what the read was refused with
pub stopped : (told : Told) (fault : Fault) (P : Fault → Type 0) → IfErr told (λ stop. stop ≡ fault) → IfErr told (λ stop. (version last : ℕ) → stop ≢ Faults.NotPublished version last)
    → (((version last : ℕ) → fault ≢ Faults.NotPublished version last) → P fault) → IfErr told P
stopped (Ok done) fault P same other hindered = tt
stopped (Err stop) fault P same other hindered = subst P (sym same) (hindered (λ version last is. other version last (same ∙ is)))

-- ---- as more is seen
pub page_on : (f : DeskFixed) (seen seen' : Entries) → Begins seen seen' → (page : ℕ) → IsPageSeen f seen page → IsPageSeen f seen' page
page_on f seen seen' more page s =
    record { before = s.before; begins = begins_both s.before seen seen' s.begins more; version = s.version; published = s.published; within = s.within }

pub outside_on : (f : DeskFixed) (seen seen' : Entries) (fault : Fault) → Begins seen seen' → IsOutside (IsPageSeen f seen) fault → IsOutside (IsPageSeen f seen') fault
outside_on f seen seen' fault more out = outside_as (IsPageSeen f seen) (IsPageSeen f seen') (page_on f seen seen' more) fault out

pub stops_on : (f : DeskFixed) (seen seen' : Entries) (fault : Fault) → Begins seen seen' → Stops f seen fault → Stops f seen' fault
stops_on f seen seen' fault more (Stops.outside out) = Stops.outside (outside_on f seen seen' fault more out)
stops_on f seen seen' fault more (Stops.refused log some begins by) = Stops.refused log some (begins_both log seen seen' begins more) by

-- whichever it was that had seen it, the owner has by now
pub stops_either : (f : DeskFixed) (seen log seen' : Entries) (fault : Fault) → Begins seen seen' → Begins log seen' → Stops f seen fault ⊎ Stops f log fault → Stops f seen' fault
stops_either f seen log seen' fault one two (inl by) = stops_on f seen seen' fault one by
stops_either f seen log seen' fault one two (inr by) = stops_on f log seen' fault two by

pub itself : (log : Entries) → Begins log log
itself log = ([], sym (append-nil log))

pub some_more : (seen log : Entries) → Begins seen log → 1 ≤ length seen → 1 ≤ length log
some_more seen log begins some = omega (arith, ap (λ (l : Entries). length l) begins.1, length-append seen begins.0, some)

-- ---- pages of the last version
pub last_page : (f : DeskFixed) (seen seen' : Entries) (last : Last) → IsSeenIn f seen last → Begins seen seen' → (page : ℕ) → IsPageOfLast f.page_size last page → IsPageSeen f seen' page
last_page f seen seen' last known more page lt = record {
  before = known.before;
  begins = begins_both known.before seen seen' known.begins more;
  version = last.version;
  published = known.published;
  within = omega (arith, lt, ap (λ (l : List ℕ). length l) known.is_version.bytes_are);
}

-- a last read stopped
pub stops_of_last : (f : DeskFixed) (seen seen' : Entries) (last : Last) → IsSeenIn f seen last → Begins seen seen' → (fault : Fault) → IsOutside (IsPageOfLast f.page_size last) fault → Stops f seen' fault
stops_of_last f seen seen' last known more fault out = Stops.outside (outside_as (IsPageOfLast f.page_size last) (IsPageSeen f seen') (last_page f seen seen' last known more) fault out)

-- ---- a reader's list, in a history in which the keeper's refreshes hold
module _ {D : Type 0} (tell : BoardReadsTell) (store : StoreState) (kept : Entries) (all : List Refresh) (hold : AllHold store.fixed kept all) (some : 1 ≤ length kept) where
  module _ (r : StandingState D) (of_store : r.session.store ≡ store) (met : IsPrefix r.list all) (fault : Fault) where
    module _ (op : ℕ) (on : Refresh) (goes : goes_by r.has_place r.list 1 (op + 1) ≡ Some on) (cause : RangeCause store.fixed.page_size (updates_of on) (op + 1) (16 * op) 16 fault) where
      by_list : (said : Result (List ℕ) Fault) → ReadsRange store.fixed.page_size (updates_of on) (op + 1) (16 * op) 16 said → ReadsByList store.fixed kept all r.list (range_of op) said
      by_list said reads = record { hold = hold; begins = met; has_place = r.has_place; on = on; goes = goes; reads = reads }

      -- what the store answers then
      answered : (said : Result (List ℕ) Fault) → ReadsRange store.fixed.page_size (updates_of on) (op + 1) (16 * op) 16 said
          → Tells (read_outcome (store_of store.fixed.limits (events kept)) (range_of op)) 16 (read_reply said)
      answered said reads = tell store.fixed kept all r.list (range_of op) said (events kept) (by_list said reads) ([], inl (sym (append-nil (events kept))))

      -- a range that lies within the refresh lies within the version in the store
      store_has : (bytes : List ℕ) → Tells (read_outcome (store_of store.fixed.limits (events kept)) (range_of op)) 16 (Replies.Content bytes)
          → IsThere (blob_at (store_of store.fixed.limits (events kept)) 1) (range_of op)
      store_has bytes (Tells.outcome_told told) = content_there (store_of store.fixed.limits (events kept)) (range_of op) bytes told
      store_has bytes (Tells.too_long told) = absurd (let no : Replies.Content bytes ≡ Replies.Refused (Faults.ReadTooLong 16) = told in cc)
      store_has bytes (Tells.out_of_memory told) = absurd (let no : Replies.Content bytes ≡ Replies.Refused Faults.NoMemory = told in cc)
      store_has bytes (Tells.not_read page told) = absurd (let no : Replies.Content bytes ≡ Replies.Refused (Faults.PageFault page) = told in cc)

      -- a range that is past the refresh is past the version in the store
      past_told : (end size : ℕ) → fault ≡ Faults.RangePastSize end size → Tells (read_outcome (store_of store.fixed.limits (events kept)) (range_of op)) 16 (Replies.Refused fault) → IsRefusedIn store.fixed kept fault
      past_told end size is (Tells.outcome_told told) =
          record { op = op; told = told; other = λ version last not. (let no : Faults.RangePastSize end size ≡ Faults.NotPublished version last = sym is ∙ not in cc) }
      past_told end size is (Tells.too_long told) =
          absurd (let no : Faults.RangePastSize end size ≡ Faults.ReadTooLong 16 = sym is ∙ same_fault fault (Faults.ReadTooLong 16) told in cc)
      past_told end size is (Tells.out_of_memory told) =
          absurd (let no : Faults.RangePastSize end size ≡ Faults.NoMemory = sym is ∙ same_fault fault Faults.NoMemory told in cc)
      past_told end size is (Tells.not_read page told) =
          absurd (let no : Faults.RangePastSize end size ≡ Faults.PageFault page = sym is ∙ same_fault fault (Faults.PageFault page) told in cc)

      by_cause : RangeCause store.fixed.page_size (updates_of on) (op + 1) (16 * op) 16 fault → Stops store.fixed kept fault
      by_cause (RangeCause.too_long is long) = absurd (omega (arith, long))
      by_cause (RangeCause.past is few past) =
          Stops.refused kept some (itself kept)
          (past_told (16 * op + 16) (size_of (updates_of on) (op + 1)) is (answered (Err fault) (record { bytes = tt; few = tt; within = tt; cause = cause })))
      by_cause (RangeCause.lost page is few within meets) =
          let bytes : List ℕ = take 16 (drop (16 * op) (content (updates_of on) (op + 1))) in
          let there = store_has bytes (answered (Ok bytes) (record { bytes = refl; few = few; within = within; cause = tt })) in
          Stops.outside (IsOutside.lost page (page_there store.fixed kept op there page meets.begins) is)
      by_cause (RangeCause.no_memory is) = Stops.outside (IsOutside.starved is)

    -- why a reader stopped, by what the keeper's session or its own has seen
    pub hindered_stops : 1 ≤ length r.session.log → ReadHindered r fault → Stops store.fixed kept fault ⊎ Stops store.fixed r.session.log fault
    hindered_stops own (ReadHindered.by_board op on goes cause) =
        let here = subst (λ (t : StoreState). RangeCause t.fixed.page_size (updates_of on) (op + 1) (16 * op) 16 fault) of_store cause in
        inl (by_cause op on goes here here)
    hindered_stops own (ReadHindered.outside out) = inr (Stops.outside (subst (λ (t : StoreState). IsOutside (IsPageSeen t.fixed r.session.log) fault) of_store out))
    hindered_stops own (ReadHindered.refused by) =
        inr (Stops.refused r.session.log own (itself r.session.log) (subst (λ (t : StoreState). IsRefusedIn t.fixed r.session.log fault) of_store by))

-- ---- by the board
pub prefix_both : (xs ys zs : List Refresh) → IsPrefix xs ys → IsPrefix ys zs → IsPrefix xs zs
prefix_both xs ys zs p q = (p.0 ++ q.0, sym (append_assoc xs p.0 q.0) ∙ (ap (λ (l : List Refresh). l ++ q.0) p.1 ∙ q.1))

-- where a reader with a place reads nothing, the outside failed
pub place_stop : {D : Type 0} (f : DeskFixed) (log : Entries) (list : List Refresh) (blob version : ℕ) → Agrees f log list blob version → (has_place : Bool) → has_place ≡ true → (s s' : SessionState D) (count : ℕ)
    (expected : List ℕ) (fault : Fault) (before after : ℕ) → Goes (goes_by has_place list blob version) s blob version 0 count (Err fault) s' before after → count ≡ length expected
    → expected ≡ content (updates_in (desk_at f log) blob) version → length expected ≤ max_read → IsOutside (λ page. s.store.fixed.page_size * page < length expected) fault
place_stop f log list blob version a false has s s' count expected fault before after goes counted is few = absurd (let no : false ≡ true = has in cc)
place_stop f log list blob version a true has s s' count expected fault before after goes counted is few =
    let by = subst (λ (o : Option Refresh). Goes o s blob version 0 count (Err fault) s' before after) a.goes goes in
    let long : size_of (updates_of a.refresh) version ≡ count = ap (λ (l : List ℕ). length l) (a.content ∙ sym is) ∙ sym counted in
    by_cause by.reads.cause long
  where
    by_cause : RangeCause s.store.fixed.page_size (updates_of a.refresh) version 0 count fault → size_of (updates_of a.refresh) version ≡ count
        → IsOutside (λ page. s.store.fixed.page_size * page < length expected) fault
    by_cause (RangeCause.too_long said more) long = absurd (omega (arith, more, counted, few))
    by_cause (RangeCause.past said within past) long = absurd (omega (arith, past, long))
    by_cause (RangeCause.lost page said within ends met) long = IsOutside.lost page (omega (arith, met.begins, counted)) said
    by_cause (RangeCause.no_memory said) long = IsOutside.starved said

-- where it reads something, these are the bytes
pub place_reads : {D : Type 0} (f : DeskFixed) (log : List (ℕ × Event)) (list : List Refresh) (blob version : ℕ) → Agrees f log list blob version → (has_place : Bool) → has_place ≡ true → (s s' : SessionState D) (count : ℕ)
    (expected bytes : List ℕ) (way : Way) (before after : ℕ) → Goes (goes_by has_place list blob version) s blob version 0 count (Ok (bytes, way)) s' before after → count ≡ length expected
    → expected ≡ content (updates_in (desk_at f log) blob) version → bytes ≡ expected
place_reads f log list blob version a false has s s' count expected bytes way before after goes counted is = absurd (let no : false ≡ true = has in cc)
place_reads f log list blob version a true has s s' count expected bytes way before after goes counted is =
    let by = subst (λ (o : Option Refresh). Goes o s blob version 0 count (Ok (bytes, way)) s' before after) a.goes goes in
    by.reads.bytes ∙ (ap (λ (l : List ℕ). take count l) (a.content ∙ sym is) ∙ take_all count expected (omega (arith, counted)))

-- ---- by a turn
-- what a store answers a read of the whole of a published version
whole_outcome : (s : Store) (version : ℕ) (b : Blob) → blob_at s 1 ≡ Some b → version ≤ published b
    → read_outcome s (record { blob = 1; version = version; offset = 0; count = size_of b.updates version }) ≡ Outcomes.Content (content b.updates version)
whole_outcome s version b at out =
    let n : ℕ = size_of b.updates version in
    let first : (not_published b version).refuses ≡ false = grind (arith, nat_tests, out) in
    let second : (range_past_size b version 0 n).refuses ≡ false = grind (arith, nat_tests) in
    ap (λ (a : Answered). a.1)
    (found s 1 b (λ b. unless_refused s (not_published b version ∷ range_past_size b version 0 n ∷ []) (s, Outcomes.Content (bytes_of b version 0 n))) at
    ∙ passes s (not_published b version) (range_past_size b version 0 n) (s, Outcomes.Content (bytes_of b version 0 n)) first second)
    ∙ ap (λ (l : List ℕ). Outcomes.Content l) (take_all n (content b.updates version) (omega arith))

-- no refusal of the store is that of a session
abbrev is_long : Fault → Bool
is_long (Faults.ReadTooLong count) = true
is_long _ = false

not_too_long : (r : Refusal) (count : ℕ) → fault_of r ≡ Faults.ReadTooLong count → ⊥
not_too_long (Refusals.NoBlob b) count e = true≢false (sym (ap (λ (x : Fault). is_long x) e))
not_too_long r count e = true≢false (sym (ap (λ (x : Fault). is_long x) e))

-- nor does it tell of a lost page
store_counts_none : (r : Refusal) → page_faults (fault_of r) ≡ 0
store_counts_none (Refusals.NoBlob b) = refl
store_counts_none r = refl

not_lost : (r : Refusal) (page : ℕ) → fault_of r ≡ Faults.PageFault page → ⊥
not_lost r page is = omega (arith, store_counts_none r, ap (λ (x : Fault). page_faults x) is)

-- a read of no more bytes than a read may have isn't too long
short_read : (s s' : Session) (version count : ℕ) (fault : Fault) → count ≤ max_read → Answers AllOther s (Requests.Read 1 version 0 count) (Replies.Refused fault) s' → fault ≡ Faults.ReadTooLong count → ⊥
short_read s s' version count fault few answers is = by_test (nat_lt max_read count) refl answers
  where
    by_turn : (others : List Event) (turn : Turn) → ReadTurn s 1 version 0 count others turn → Replies.Refused fault ≡ turn.said → ⊥
    by_turn others _ (ReadTurn.content bytes e) said = cc
    by_turn others _ (ReadTurn.refused refusal e) said = not_too_long refusal count (sym (same_fault fault (fault_of refusal) said) ∙ is)
    by_turn others _ ReadTurn.out_of_memory said = (let no : Faults.NoMemory ≡ Faults.ReadTooLong count = sym (same_fault fault Faults.NoMemory said) ∙ is in cc)
    by_turn others _ (ReadTurn.not_read bytes e some page meets) said = (let no : Faults.PageFault page ≡ Faults.ReadTooLong count = sym (same_fault fault (Faults.PageFault page) said) ∙ is in cc)

    by_test : (t : Bool) → nat_lt max_read count ≡ t
        → Unless (if t then Some (Faults.ReadTooLong count) else None) s (Replies.Refused fault) s' (AfterGap AllOther s (ReadTurn s 1 version 0 count) (Replies.Refused fault) s') → ⊥
    by_test true long x = grind (arith, nat_tests)
    by_test false long a = by_turn a.others a.turn a.may a.said

pub same_content : (a b : List ℕ) → Replies.Content a ≡ Replies.Content b → a ≡ b
same_content a b e = cc

-- bytes are told only where the store gives them
pub content_told : (outcome : Outcome) (count : ℕ) (bytes : List ℕ) → Tells outcome count (Replies.Content bytes) → Replies.Content bytes ≡ reply_of outcome
content_told outcome count bytes (Tells.outcome_told told) = told
content_told outcome count bytes (Tells.too_long told) = absurd (let no : Replies.Content bytes ≡ Replies.Refused (Faults.ReadTooLong count) = told in cc)
content_told outcome count bytes (Tells.out_of_memory told) = absurd (let no : Replies.Content bytes ≡ Replies.Refused Faults.NoMemory = told in cc)
content_told outcome count bytes (Tells.not_read page told) = absurd (let no : Replies.Content bytes ≡ Replies.Refused (Faults.PageFault page) = told in cc)

-- so the whole of a version is read that was published in a history that the session has seen
abbrev pub TurnTells : ℕ → List ℕ → Result (List ℕ) Fault → Type 0
TurnTells p expected (Ok bytes) = bytes ≡ expected
TurnTells p expected (Err fault) = IsOutside (λ page. p * page < length expected) fault

module _ (s s' : Session) (version : ℕ) (expected : List ℕ) (few : length expected ≤ max_read) (store : Store) (b : Blob) (at : blob_at store 1 ≡ Some b) (out : version ≤ published b) (is : expected ≡ content b.updates version) where
  told_outcome : read_outcome store (record { blob = 1; version = version; offset = 0; count = length expected }) ≡ Outcomes.Content expected
  told_outcome =
      let count : length expected ≡ size_of b.updates version = ap (λ (l : List ℕ). length l) is in
      ap (λ (n : ℕ). read_outcome store (record { blob = 1; version = version; offset = 0; count = n })) count ∙ (whole_outcome store version b at out ∙ ap (λ (l : List ℕ). Outcomes.Content l) (sym is))

  -- a page that was lost is one of the range
  lost_there : (fault : Fault) (page : ℕ) → fault ≡ Faults.PageFault page
      → TurnRefused s.fixed.limits s.fixed.page s'.seen (record { blob = 1; version = version; offset = 0; count = length expected }) fault → IsOutside (λ page. s.fixed.page * page < length expected) fault
  lost_there fault page is (TurnRefused.too_long long more) = absurd (let no : Faults.PageFault page ≡ Faults.ReadTooLong (length expected) = sym is ∙ long in cc)
  lost_there fault page is (TurnRefused.refused refusal e other) = absurd (not_lost refusal page (sym other ∙ is))
  lost_there fault page is (TurnRefused.starved none) = IsOutside.starved none
  lost_there fault page is (TurnRefused.lost met bytes same e lt) = IsOutside.lost met (omega (arith, lt)) same

  pub turn_tells : (said : Result (List ℕ) Fault) → Answers AllOther s (Requests.Read 1 version 0 (length expected)) (read_reply said) s'
      → Tells (read_outcome store (record { blob = 1; version = version; offset = 0; count = length expected })) (length expected) (read_reply said) → TurnTells s.fixed.page expected said
  turn_tells (Ok bytes) answers tells =
      same_content bytes expected (content_told (read_outcome store (record { blob = 1; version = version; offset = 0; count = length expected })) (length expected) bytes tells ∙ ap (λ (o : Outcome). reply_of o) told_outcome)
  turn_tells (Err fault) answers (Tells.outcome_told told) = absurd (let no : Replies.Refused fault ≡ Replies.Content expected = told ∙ ap (λ (o : Outcome). reply_of o) told_outcome in cc)
  turn_tells (Err fault) answers (Tells.too_long told) = absurd (short_read s s' version (length expected) fault few answers (same_fault fault (Faults.ReadTooLong (length expected)) told))
  turn_tells (Err fault) answers (Tells.out_of_memory told) = IsOutside.starved (same_fault fault Faults.NoMemory told)
  turn_tells (Err fault) answers (Tells.not_read page told) =
      lost_there fault page (same_fault fault (Faults.PageFault page) told) (turn_refused s s' (record { blob = 1; version = version; offset = 0; count = length expected }) fault answers)

-- so a session reads the last version, which was published in what it has seen
pub by_turn : {D : Type 0} (s s' : SessionState D) (last : Last) → IsSeenBy s last → Continues s s' → (said : Result (List ℕ) Fault) (count : ℕ) → count ≡ length last.bytes
    → Answers AllOther (session_of s) (Requests.Read 1 last.version 0 count) (read_reply said) (session_of s')
    → AnswersAsPublished (session_of s') (record { blob = 1; version = last.version; offset = 0; count = count }) (read_reply said) → TurnTells s.store.fixed.page_size last.bytes said
by_turn s s' last seen on said count counted answers_count stays_count =
    let answers = subst (λ (n : ℕ). Answers AllOther (session_of s) (Requests.Read 1 last.version 0 n) (read_reply said) (session_of s')) counted answers_count in
    let stays = subst (λ (n : ℕ). AnswersAsPublished (session_of s') (record { blob = 1; version = last.version; offset = 0; count = n }) (read_reply said)) counted stays_count in
    let whole : Begins seen.before s'.log = begins_both seen.before s.log s'.log seen.begins on.begins in
    let same : s'.store ≡ s.store = on.store in
    let published = subst (λ (x : StoreState). IsPublishedIn (store_of x.fixed.limits (events seen.before)) 1 last.version) (sym same) seen.published in
    let is_version = subst (λ (x : StoreState). IsVersionIn x.fixed seen.before last) (sym same) seen.is_version in
    let tells = stays (events seen.before) (events whole.0) (ap (λ (l : Entries). events l) whole.1 ∙ events_append seen.before whole.0) published in
    turn_tells (session_of s) (session_of s') last.version last.bytes is_version.few (store_of s'.store.fixed.limits (events seen.before)) published.0 published.1 published.2
    (is_version.bytes_are ∙ ap (λ (o : Option Blob). content (updates_or_none o) last.version) published.1) said answers tells
