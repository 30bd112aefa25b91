-- What a session answers a read of many ranges, by what its turn and its walks gave.
use Rattle.std.proofs.Common.{◌≡◌, ◌≢◌, refl, sym, ◌∙◌, ap, ℕ, ◌+◌, ◌<◌, ◌≤◌, subst, List, [], ◌∷◌, ◌++◌, append-nil, length, take, drop, Contains}
use Rattle.std.proofs.Common.{Result, Ok, Err, Bool, true, false, Option, Some, None, arith}
use Rattle.std.specs.Prelude.{nat_lt, if◌then◌else◌, IfOk, IfErr}
use Rattle.std.proofs.lemmas.Bool.{ltb-true}
use Rattle.std.proofs.lemmas.Bool.Decides.{nat_tests}
use Rattle.std.proofs.lemmas.List.Elements.{All-contains}
use Rattle.blob_model.specs.Content.{Update, content, size_of}
use Rattle.blob_model.specs.History.{AllOther}
use Rattle.blob_model.specs.declared.call.Call.{Call}
use Rattle.blob_model.specs.declared.call.Call.TheVariants as Calls
use Rattle.blob_model.specs.declared.call.Event.{Event}
use Rattle.blob_model.specs.declared.call.Outcome.TheVariants as Outcomes
use Rattle.blob_model.specs.declared.call.Refusal.{Refusal}
use Rattle.blob_model.specs.declared.call.Refusal.TheVariants as Refusals
use Rattle.range_log.specs.Updates.{extents}
use Rattle.snapshot.specs.Versions.{Version}
use Rattle.snapshot.specs.Laws.{TellUpdates}
use Rattle.version_manager.specs.Desks.{updates_in, unopened_size}
use Rattle.version_manager.specs.Log.{desk_at, events, outcome_in}
use Rattle.version_manager.specs.declared.journal.DeskFixed.{DeskFixed}
use Rattle.version_manager.specs.declared.fault.OpenFault.{OpenFault}
use Rattle.version_manager.specs.declared.fault.OpenFault.TheVariants as OpenFaults
use Rattle.request_form.specs.Replies.{fault_of}
use Rattle.request_form.specs.Session.{Session, outcome_at}
use Rattle.request_form.specs.Turns.{Turn, tells}
use Rattle.request_form.specs.Answers.{AfterGap, Answers, AreContents, ReadManyTurn, Unless, ranges_fault}
use Rattle.request_form.specs.declared.form.Request.TheVariants as Requests
use Rattle.request_form.specs.declared.form.Reply.{Reply}
use Rattle.request_form.specs.declared.form.Reply.TheVariants as Replies
use Rattle.request_form.specs.declared.form.Fault.{Fault}
use Rattle.request_form.specs.declared.form.Fault.TheVariants as Faults
use Rattle.client_session.specs.Tickets.{OpenUpdate}
use Rattle.range_reader.specs.declared.ranges.RangeFault.{RangeFault}
use Rattle.range_reader.specs.declared.ranges.RangeFault.TheVariants as RangeFaults
use Rattle.range_reader.specs.Ranges.{RangesAnswers, joined, first_end_past, visits_of}
use Rattle.range_reader.proofs.JoinedRanges.{EndsWithin, each_within, none_past}
use Rattle.client_session.specs.Results.{starved_fault, unread_fault, range_of, contents_reply}
use Rattle.client_session.specs.Memory.{IfNoMemory}
use Rattle.client_session.specs.Kept.{Coming, Found}
use Rattle.client_session.specs.Opening.{RangesCause, ReadsRanges}
use Rattle.client_session.specs.Sessions.{SessionState, session_at, session_of, all_visits_seen, NoStepIfOneRefused}
use Rattle.client_session.proofs.Turns.{outcome_of_gap, then_told}
use Rattle.client_session.proofs.Ranges.{read_refused, read_past, read_within, told_size}
use Rattle.client_session.proofs.RangeAnswers.{unless_none, IsThat, same_range, not_that, seen_to, session_found, by_updates, size_found}

-- where no memory was found for their version, one of them may end past the size
starved_cause : (p : ℕ) (us : List Update) (version size : ℕ) (ranges : List (ℕ × ℕ)) (o : Option ℕ) → first_end_past size ranges ≡ o → size ≡ size_of us version
    → RangesCause p us version ranges (starved_fault size o)
starved_cause p us version size ranges (Some end) first is =
    RangesCause.past end (ap (λ (n : ℕ). Faults.RangePastSize end n) is) (subst (λ (n : ℕ). first_end_past n ranges ≡ Some end) is first)
starved_cause p us version size ranges None first is = RangesCause.no_memory refl

not_none : (o : Option ℕ) (end : ℕ) → o ≡ Some end → o ≢ None
not_none o end is none = cc

not_both : (r : Refusal) (bytes : List ℕ) → Outcomes.Refused r ≡ Outcomes.Content bytes → ⊥
not_both r bytes e = cc

-- ---- a turn that left the history as it found it
module _ (f : DeskFixed) (caller : ℕ) (log log' gap : List (ℕ × Event)) (others : AllOther caller (events gap)) (same : log' ≡ log ++ gap)
    (held : List OpenUpdate) (next limit blob version : ℕ) where
  abbrev May : List (ℕ × ℕ) → List Event → Turn → Type 0
  May ranges = ReadManyTurn (session_at f caller log held next limit) blob version ranges

  abbrev Says : List (ℕ × ℕ) → Reply → Type 0
  Says ranges reply = AfterGap AllOther (session_at f caller log held next limit) (May ranges) reply (session_at f caller log' held next limit)

  then_says : (ranges : List (ℕ × ℕ)) (told reply : Reply) → May ranges (events gap) (tells told) → reply ≡ told → Says ranges reply
  then_says ranges told reply may said = then_told f caller log log' gap held next limit (May ranges) told reply others same may said

  -- what the store answers then
  outcome_is : (range : ℕ × ℕ)
      → outcome_at (session_at f caller log held next limit) (events gap) (Calls.Read blob version range.0 range.1) ≡ outcome_in f (log ++ gap) caller (Calls.Read blob version range.0 range.1)
  outcome_is range = outcome_of_gap f caller log log' gap held next limit (Calls.Read blob version range.0 range.1)

  -- the version isn't there: the first range is refused
  refused_ranges : (r : Refusal) (ranges : List (ℕ × ℕ)) → 1 ≤ length ranges → outcome_in f (log ++ gap) caller (Calls.Size blob version) ≡ Outcomes.Refused r
      → Says ranges (Replies.Refused (fault_of r))
  refused_ranges r [] some e = absurd (omega arith)
  refused_ranges r (range ∷ ranges) some e =
      then_says (range ∷ ranges) _ _
      (ReadManyTurn.refused [] ranges range [] refl refl r (outcome_is range ∙ read_refused f (log ++ gap) caller blob version range.0 range.1 r e)) refl

  -- the version is there, with so many bytes
  module _ (n : ℕ) (there : outcome_in f (log ++ gap) caller (Calls.Size blob version) ≡ Outcomes.Size n) where
    abbrev updates : List Update
    updates = updates_in (desk_at f (log ++ gap)) blob

    one_within : (range : ℕ × ℕ) → range.0 + range.1 ≤ size_of updates version
        → outcome_at (session_at f caller log held next limit) (events gap) (Calls.Read blob version range.0 range.1) ≡ Outcomes.Content (take range.1 (drop range.0 (content updates version)))
    one_within range within = outcome_is range ∙ read_within f (log ++ gap) caller blob version range.0 range.1 n there within

    all_within : (ranges : List (ℕ × ℕ)) → first_end_past (size_of updates version) ranges ≡ None
        → AreContents (session_at f caller log held next limit) (events gap) blob version ranges (joined (content updates version) ranges)
    all_within [] none = refl
    all_within (range ∷ ranges) none =
        let both = none_past (size_of updates version) (range.0 + range.1) (first_end_past (size_of updates version) ranges) none in
        (take range.1 (drop range.0 (content updates version)), one_within range both.0, (joined (content updates version) ranges, all_within ranges both.1, refl))

    -- the first range that ends past the size
    record FirstPast (ranges : List (ℕ × ℕ)) (end : ℕ) : Type 0 where
      before : List (ℕ × ℕ)
      range : ℕ × ℕ
      after : List (ℕ × ℕ)
      joins : ranges ≡ before ++ range ∷ after
      first : AreContents (session_at f caller log held next limit) (events gap) blob version before (joined (content updates version) before)
      past : size_of updates version < range.0 + range.1
      end_is : end ≡ range.0 + range.1

    first_of : (ranges : List (ℕ × ℕ)) (end : ℕ) → first_end_past (size_of updates version) ranges ≡ Some end → FirstPast ranges end
    first_of [] end e = cc
    first_of (range ∷ ranges) end e = by_case (nat_lt (size_of updates version) (range.0 + range.1)) refl (first_of ranges end) e
      where
        by_case : (x : Bool) → nat_lt (size_of updates version) (range.0 + range.1) ≡ x → (first_end_past (size_of updates version) ranges ≡ Some end → FirstPast ranges end)
            → (if x then Some (range.0 + range.1) else first_end_past (size_of updates version) ranges) ≡ Some end → FirstPast (range ∷ ranges) end
        by_case true is rest this = record {
          before = [];
          range = range;
          after = ranges;
          joins = refl;
          first = refl;
          past = ltb-true (size_of updates version) (range.0 + range.1) is;
          end_is = cc;
        }
        by_case false is rest this =
            let later : FirstPast ranges end = rest this in
            let within : range.0 + range.1 ≤ size_of updates version = grind (arith, nat_tests, is) in
            record {
              before = range ∷ later.before;
              range = later.range;
              after = later.after;
              joins = ap (λ (l : List (ℕ × ℕ)). range ∷ l) later.joins;
              first = (take range.1 (drop range.0 (content updates version)), one_within range within, (joined (content updates version) later.before, later.first, refl));
              past = later.past;
              end_is = later.end_is;
            }

    failed_ranges : (ranges : List (ℕ × ℕ)) (fault : Fault) → RangesCause f.page_size updates version ranges fault → Says ranges (Replies.Refused fault)
    failed_ranges ranges fault (RangesCause.past end is first) =
        let p : FirstPast ranges end = first_of ranges end first in
        let size : ℕ = size_of updates version in
        then_says ranges _ _
        (ReadManyTurn.refused p.before p.after p.range (joined (content updates version) p.before) p.joins p.first (Refusals.RangePastSize (p.range.0 + p.range.1) size)
        (outcome_is p.range ∙ read_past f (log ++ gap) caller blob version p.range.0 p.range.1 n there p.past))
        (ap Replies.Refused (is ∙ ap (λ (e : ℕ). Faults.RangePastSize e size) p.end_is))
    failed_ranges ranges fault (RangesCause.lost page is none met) =
        then_says ranges _ _
        (ReadManyTurn.not_read (joined (content updates version) ranges) (all_within ranges none) met.range met.among met.met.some page
        (record { begins = met.met.begins; ends = met.met.ends })) (ap Replies.Refused is)
    failed_ranges ranges fault (RangesCause.no_memory is) = then_says ranges _ _ ReadManyTurn.out_of_memory (ap Replies.Refused is)

    -- what ranges of the opened version give
    ranges_answer : (ranges : List (ℕ × ℕ)) (said : Result (List ℕ) Fault) → ReadsRanges f.page_size updates version ranges said → Says ranges (contents_reply said)
    ranges_answer ranges (Ok bytes) r =
        then_says ranges _ _
        (ReadManyTurn.contents bytes
        (subst (λ (b : List ℕ). AreContents (session_at f caller log held next limit) (events gap) blob version ranges b) (sym r.bytes) (all_within ranges r.within))) refl
    ranges_answer ranges (Err fault) r = failed_ranges ranges fault r.cause

    -- no node was met where a range is refused, if none was met where one goes past the version's end
    no_step_there : (ranges : List (ℕ × ℕ)) (before after : ℕ) → ranges_fault 0 ranges ≡ None → (first_end_past (size_of updates version) ranges ≢ None → after ≡ before)
        → NoStepIfOneRefused (session_at f caller log' held next limit) blob version ranges before after
    no_step_there ranges before after few none = record {
      refused = λ range r among e. by_first range r among e (first_end_past (size_of updates version) ranges) refl;
      too_long = λ long. absurd (long few);
    }
      where
        by_first : (range : ℕ × ℕ) (r : Refusal) → Contains ranges range → outcome_at (session_at f caller log' held next limit) [] (Calls.Read blob version range.0 range.1) ≡ Outcomes.Refused r
            → (o : Option ℕ) → first_end_past (size_of updates version) ranges ≡ o → after ≡ before
        by_first range r among e (Some end) is = none (not_none (first_end_past (size_of updates version) ranges) end is)
        by_first range r among e None is =
            let call : Call = Calls.Read blob version range.0 range.1 in
            let within : range.0 + range.1 ≤ size_of updates version =
            All-contains (EndsWithin (size_of updates version)) ranges range (each_within (size_of updates version) ranges is) among in
            let now : outcome_in f (log' ++ []) caller call ≡ outcome_in f (log ++ gap) caller call = ap (λ (h : List (ℕ × Event)). outcome_in f h caller call) (append-nil log' ∙ same) in
            absurd (not_both r (take range.1 (drop range.0 (content updates version)))
            (sym e ∙ (outcome_of_gap f caller log' log' [] held next limit call ∙ (now ∙ read_within f (log ++ gap) caller blob version range.0 range.1 n there within))))

  -- the version wasn't opened
  unread_answer : (fault : OpenFault) (ranges : List (ℕ × ℕ)) → 1 ≤ length ranges → outcome_in f (log ++ gap) caller (Calls.Size blob version) ≡ unopened_size fault
      → Says ranges (Replies.Refused (unread_fault fault ranges))
  unread_answer (OpenFaults.Refused r) ranges some e = refused_ranges r ranges some e
  unread_answer (OpenFaults.NoMemory size) ranges some e =
      failed_ranges size e ranges (starved_fault size (first_end_past size ranges))
      (starved_cause f.page_size (updates_in (desk_at f (log ++ gap)) blob) version size ranges (first_end_past size ranges) refl (told_size f (log ++ gap) caller blob version size e))

-- ---- a read of many ranges comes to its version, and then reads ranges of it
module _ {D : Type 0} (s s1 : SessionState D) (blob version : ℕ) (ranges : List (ℕ × ℕ)) (few : ranges_fault 0 ranges ≡ None) where
  pub opened_ranges : (s' : SessionState D) (v : Version) (said : Result (List ℕ) Fault) → Found s blob version v s1 → s' ≡ record s1 { doors = s'.doors }
      → ((us : List Update) → TellUpdates v.page_size us v.rows → ReadsRanges v.page_size us (length v.rows) ranges said)
      → Answers AllOther (session_of s) (Requests.ReadMany blob version ranges) (contents_reply said) (session_of s')
  opened_ranges s' v said o stays reads =
      let f = s.store.fixed in
      let r = by_updates s s1 blob version v o (s.log ++ o.gap) o.log (λ p us n. ReadsRanges p us n ranges said) reads in
      let there = size_found s s1 blob version v o (s.log ++ o.gap) o.log in
      let answer : AfterGap AllOther (session_of s) (ReadManyTurn (session_of s) blob version ranges) (contents_reply said) (seen_to s s1.log) =
      ranges_answer f s.caller s.log s1.log o.gap o.others o.log s.held s.next s.limit blob version o.size there ranges said r
      in
      let now = session_found s s1 blob version v o s' stays in
      subst (λ (x : Session). Answers AllOther (session_of s) (Requests.ReadMany blob version ranges) (contents_reply said) x) (sym now)
      (unless_none (ranges_fault 0 ranges) (session_of s) (contents_reply said) (seen_to s s1.log) _ few answer)

  pub unopened_ranges : {A : Type 0} (fault : OpenFault) → 1 ≤ length ranges → Coming {A = A} s blob version (Err fault) s1
      → Answers AllOther (session_of s) (Requests.ReadMany blob version ranges) (contents_reply (Err (unread_fault fault ranges))) (session_of s1)
  unopened_ranges fault some o =
      let f = s.store.fixed in
      let reply : Reply = Replies.Refused (unread_fault fault ranges) in
      let is : outcome_in f (s.log ++ o.gap) s.caller (Calls.Size blob version) ≡ unopened_size fault =
      subst (λ (l : List (ℕ × Event)). outcome_in f l s.caller (Calls.Size blob version) ≡ unopened_size fault) o.log o.not_opened
      in
      let answer : AfterGap AllOther (session_of s) (ReadManyTurn (session_of s) blob version ranges) reply (seen_to s s1.log) =
      unread_answer f s.caller s.log s1.log o.gap o.others o.log s.held s.next s.limit blob version fault ranges some is
      in
      let now : session_of s1 ≡ seen_to s s1.log = ap (λ (x : SessionState D). session_of x) o.same in
      subst (λ (x : Session). Answers AllOther (session_of s) (Requests.ReadMany blob version ranges) reply x) (sym now)
      (unless_none (ranges_fault 0 ranges) (session_of s) reply (seen_to s s1.log) _ few answer)

  -- no node was met where a range is refused
  pub no_step_opened : (s' : SessionState D) (v : Version) → Found s blob version v s1 → s' ≡ record s1 { doors = s'.doors } → (before after : ℕ)
      → ((us : List Update) → TellUpdates v.page_size us v.rows → first_end_past (size_of us (length v.rows)) ranges ≢ None → after ≡ before)
      → NoStepIfOneRefused (session_of s') blob version ranges before after
  no_step_opened s' v o stays before after none =
      let f = s.store.fixed in
      let none' = by_updates s s1 blob version v o (s.log ++ o.gap) o.log (λ p us n. first_end_past (size_of us n) ranges ≢ None → after ≡ before) none in
      let there = size_found s s1 blob version v o (s.log ++ o.gap) o.log in
      let now = session_found s s1 blob version v o s' stays in
      subst (λ (x : Session). NoStepIfOneRefused x blob version ranges before after) (sym now)
      (no_step_there f s.caller s.log s1.log o.gap o.others o.log s.held s.next s.limit blob version o.size there ranges before after few none')

  -- how many nodes were met
  pub visits_opened : (s' : SessionState D) (v : Version) → Found s blob version v s1 → s' ≡ record s1 { doors = s'.doors } → (before after : ℕ)
      → ((us : List Update) → TellUpdates v.page_size us v.rows → after ≤ before + visits_of v.page_size (extents us) (length v.rows) ranges)
      → after ≤ before + all_visits_seen (session_of s') blob version ranges
  visits_opened s' v o stays before after bound =
      let most = by_updates s s1 blob version v o s1.log refl (λ p us n. after ≤ before + visits_of p (extents us) n ranges) bound in
      let now = session_found s s1 blob version v o s' stays in
      subst (λ (x : Session). after ≤ before + all_visits_seen x blob version ranges) (sym now) most

-- too many bytes together are refused before anything else
pub too_long_together : {D : Type 0} (s : SessionState D) (blob version count : ℕ) (ranges : List (ℕ × ℕ)) → ranges_fault 0 ranges ≡ Some (Faults.ReadTooLong count)
    → Answers AllOther (session_of s) (Requests.ReadMany blob version ranges) (contents_reply (Err (Faults.ReadTooLong count))) (session_of s)
too_long_together s blob version count ranges is =
    let reply : Reply = Replies.Refused (Faults.ReadTooLong count) in
    let P : Type 0 = AfterGap AllOther (session_of s) (ReadManyTurn (session_of s) blob version ranges) reply (session_of s) in
    subst (λ (o : Option Fault). Unless o (session_of s) reply (session_of s) P) (sym is) (refl, refl)

-- ---- what the walks gave
none_if : (o : Option ℕ) → ((end : ℕ) → o ≡ Some end → ⊥) → o ≡ None
none_if None never = refl
none_if (Some end) never = absurd (never end refl)

not_refused : (bytes : List ℕ) (end size : ℕ) → IsThat (Ok bytes) (Err (RangeFaults.RangePastSize end size)) → ⊥
not_refused bytes end size e = cc

not_lost : (page end size : ℕ) → IsThat (Err (RangeFaults.PageFault page)) (Err (RangeFaults.RangePastSize end size)) → ⊥
not_lost page end size e = cc

past_by : (p version end size : ℕ) (us : List Update) (ranges : List (ℕ × ℕ)) (o : Option ℕ) → first_end_past (size_of us version) ranges ≡ o → o ≢ None
    → ((e : ℕ) → first_end_past (size_of us version) ranges ≡ Some e → IsThat (Err (RangeFaults.RangePastSize end size)) (Err (RangeFaults.RangePastSize e (size_of us version))))
    → RangesCause p us version ranges (Faults.RangePastSize end size)
past_by p version end size us ranges None is some refused = absurd (some refl)
past_by p version end size us ranges (Some e) is some refused = RangesCause.past e (same_range end size e (size_of us version) (refused e is)) is

-- they gave the ranges, or told why not
pub reads_ranges : (v : Version) (ranges : List (ℕ × ℕ)) (before now : List ℕ) (sum_before sum_now : ℕ) (us : List Update) → TellUpdates v.page_size us v.rows → (r : Result (List ℕ) RangeFault)
    → IfOk r (λ bytes. bytes ≡ joined (content us (length v.rows)) ranges)
    → ((end : ℕ) → first_end_past (size_of us (length v.rows)) ranges ≡ Some end → IsThat r (Err (RangeFaults.RangePastSize end (size_of us (length v.rows)))))
    → RangesAnswers v ranges before now sum_before sum_now r → ReadsRanges v.page_size us (length v.rows) ranges (range_of r)
reads_ranges v ranges before now sum_before sum_now us tells (Ok bytes) is refused a =
    let size : ℕ = size_of us (length v.rows) in
    record { bytes = is; within = none_if (first_end_past size ranges) (λ end e. not_refused bytes end size (refused end e)); cause = tt }
reads_ranges v ranges before now sum_before sum_now us tells (Err (RangeFaults.RangePastSize end size)) is refused a =
    record { bytes = tt; within = tt; cause = past_by v.page_size (length v.rows) end size us ranges (first_end_past (size_of us (length v.rows)) ranges) refl (a.past us tells) refused }
reads_ranges v ranges before now sum_before sum_now us tells (Err (RangeFaults.PageFault page)) is refused a =
    let size : ℕ = size_of us (length v.rows) in
    record { bytes = tt; within = tt; cause = RangesCause.lost page refl (none_if (first_end_past size ranges) (λ end e. not_lost page end size (refused end e))) a.page }
reads_ranges v ranges before now sum_before sum_now us tells (Err RangeFaults.NoMemory) is refused a = record { bytes = tt; within = tt; cause = RangesCause.no_memory refl }

-- where they aren't read for want of memory, all lie within the size
pub ranges_starved : (size : ℕ) (ranges : List (ℕ × ℕ)) (r : Result (List ℕ) RangeFault) → ((end : ℕ) → first_end_past size ranges ≡ Some end → IsThat r (Err (RangeFaults.RangePastSize end size)))
    → IfErr (range_of r) (λ fault. IfNoMemory fault (first_end_past size ranges ≡ None))
ranges_starved size ranges (Ok bytes) refused = tt
ranges_starved size ranges (Err (RangeFaults.RangePastSize end n)) refused = λ is. let never : ⊥ = cc in absurd never
ranges_starved size ranges (Err (RangeFaults.PageFault page)) refused = λ is. let never : ⊥ = cc in absurd never
ranges_starved size ranges (Err RangeFaults.NoMemory) refused = λ is. none_if (first_end_past size ranges) (λ end e. not_that end size (refused end e))
