-- A read of an older version by a refresh.
use Rattle.std.proofs.Common.{◌≡◌, ℕ, ◌+◌, ◌≤◌, ◌<◌, true, false, List, [], length, take, Result, Ok, Err, refl, ap, sym, ◌∙◌, subst, length-take-le, append-nil}
use Rattle.std.specs.Prelude.{IfOk, IfErr}
use Rattle.blob_model.specs.Content.{Update, size_of}
use Rattle.range_log.specs.Updates.{extents}
use Rattle.range_log.specs.Visits.{visits}
use Rattle.snapshot.specs.Versions.{Version, IsVersion, older_version}
use Rattle.snapshot.specs.Laws.{TellUpdates, RowsTell}
use Rattle.request_form.specs.declared.form.Fault.{Fault}
use Rattle.request_form.specs.declared.form.Fault.TheVariants as Faults
use Rattle.client_session.specs.Opening.{IsOfStore, ReadsRange, OverUpdates}
use Rattle.client_session.specs.Kept.{has_opened}
use Rattle.client_session.proofs.Kept.{tells_older, older_here}
use Rattle.client_session.specs.Results.{read_reply}
use Rattle.client_session.specs.Sessions.{SessionState, StoreState, session_of, Continues, visits_seen, NoStepIfRefused, AnswersAsPublished}
use Rattle.blob_model.specs.History.{AllOther}
use Rattle.request_form.specs.Answers.{Answers, max_read}
use Rattle.request_form.specs.declared.form.Request.TheVariants as Requests
use Rattle.read_board.specs.declared.refresh.Refresh.{Refresh}
use Rattle.read_board.specs.Refreshes.{updates_of, version_of}
use Rattle.read_board.specs.Reads.{ByBoard, ByTurn, bytes_said, said_by}
use Rattle.read_board.specs.declared.standing.Way.{Way}
use Rattle.read_board.specs.declared.standing.Way.TheVariants as Ways

pub of_store_older : (store : StoreState) (v : Version) (n : ℕ) → IsOfStore store v → IsOfStore store (older_version v n)
of_store_older store v n is = record { here = older_here store.fixed.nodes store.fixed.houses v n is.here; page_size = is.page_size }

-- ---- what is said of the bytes alone
pub same_bytes : (way : Way) (said : Result (List ℕ) Fault) → bytes_said (said_by way said) ≡ said
same_bytes way (Ok bytes) = refl
same_bytes way (Err fault) = refl

by_board : (said : Result (List ℕ) Fault) → IfOk (said_by Ways.Board said) (λ r. r.1 ≡ Ways.Board)
by_board (Ok bytes) = refl
by_board (Err fault) = tt

-- what holds of a fault holds of it with the way
pub lost_as : (way : Way) (said : Result (List ℕ) Fault) (P : Fault → Type 0) → IfErr said P → IfErr (said_by way said) P
lost_as way (Ok bytes) P p = tt
lost_as way (Err fault) P p = p

module _ {D : Type 0} (on : Refresh) (s s' : SessionState D) (version offset count : ℕ) where
  module _ (tell : RowsTell) (some : 1 ≤ on.snapshot.page_size) (is : IsVersion on.snapshot) (of_store : IsOfStore s.store on.snapshot) (le : version ≤ version_of on) where
    -- what a read of the older version gives is what a read by the board gives
    board_reads : (said : Result (List ℕ) Fault)
        → ((us : List Update) → TellUpdates on.snapshot.page_size us (take version on.snapshot.rows) → ReadsRange on.snapshot.page_size us (length (take version on.snapshot.rows)) offset count said)
        → ReadsRange s.store.fixed.page_size (updates_of on) version offset count said
    board_reads said reads =
        let r = reads (updates_of on) (tells_older tell on.snapshot version some is le) in
        subst (λ (p : ℕ). ReadsRange p (updates_of on) version offset count said) of_store.page_size
        (subst (λ (n : ℕ). ReadsRange on.snapshot.page_size (updates_of on) n offset count said) (length-take-le version on.snapshot.rows le) r)

    board_steps : (before after : ℕ)
        → ((us : List Update) → TellUpdates on.snapshot.page_size us (take version on.snapshot.rows)
        → after ≤ before + visits on.snapshot.page_size (extents us) (length (take version on.snapshot.rows)) offset count)
        → after ≤ before + visits s.store.fixed.page_size (extents (updates_of on)) version offset count
    board_steps before after steps =
        let r = steps (updates_of on) (tells_older tell on.snapshot version some is le) in
        subst (λ (p : ℕ). after ≤ before + visits p (extents (updates_of on)) version offset count) of_store.page_size
        (subst (λ (n : ℕ). after ≤ before + visits on.snapshot.page_size (extents (updates_of on)) n offset count) (length-take-le version on.snapshot.rows le) r)

    -- the size of the older version is that of the refresh's updates
    board_size : (P : ℕ → Type 0) → ((us : List Update) → TellUpdates on.snapshot.page_size us (take version on.snapshot.rows) → P (size_of us (length (take version on.snapshot.rows)))) → P (size_of (updates_of on) version)
    board_size P p =
        subst (λ (n : ℕ). P (size_of (updates_of on) n)) (length-take-le version on.snapshot.rows le) (p (updates_of on) (tells_older tell on.snapshot version some is le))

    pub board_read : (older : Version) → older ≡ older_version on.snapshot version → (said : Result (List ℕ) Fault) (before after : ℕ) → s' ≡ record s { doors = s'.doors }
        → OverUpdates older (λ us. ReadsRange older.page_size us (length older.rows) offset count said)
        → (max_read < count → said ≡ Err (Faults.ReadTooLong count))
        → OverUpdates older (λ us. count ≤ max_read → size_of us (length older.rows) < offset + count → said ≡ Err (Faults.RangePastSize (offset + count) (size_of us (length older.rows))))
        → OverUpdates older (λ us. after ≤ before + visits older.page_size (extents us) (length older.rows) offset count)
        → OverUpdates older (λ us. size_of us (length older.rows) < offset + count → after ≡ before) → (max_read < count → after ≡ before)
        → ByBoard on s version offset count (said_by Ways.Board said) s' before after
    board_read older same said before after session reads long past steps none none_long = record {
      way = by_board said;
      session = session;
      reads = subst (λ (r : Result (List ℕ) Fault). ReadsRange s.store.fixed.page_size (updates_of on) version offset count r) (sym (same_bytes Ways.Board said))
          (board_reads said (subst (λ (o : Version). OverUpdates o (λ us. ReadsRange o.page_size us (length o.rows) offset count said)) same reads));
      too_long = λ more. ap (said_by Ways.Board) (long more);
      past = board_size (λ (n : ℕ). count ≤ max_read → n < offset + count → said_by Ways.Board said ≡ Err (Faults.RangePastSize (offset + count) n))
          (subst (λ (o : Version). OverUpdates o (λ us. count ≤ max_read → size_of us (length o.rows) < offset + count → said_by Ways.Board said ≡ Err (Faults.RangePastSize (offset + count) (size_of us (length o.rows))))) same
          (λ us t few over. ap (said_by Ways.Board) (past us t few over)));
      steps = board_steps before after (subst (λ (o : Version). OverUpdates o (λ us. after ≤ before + visits o.page_size (extents us) (length o.rows) offset count)) same steps);
      no_step = board_size (λ (n : ℕ). n < offset + count → after ≡ before) (subst (λ (o : Version). OverUpdates o (λ us. size_of us (length o.rows) < offset + count → after ≡ before)) same none);
      no_step_too_long = none_long;
    }

-- the session's own read
pub turn_read : {D : Type 0} (s s' : SessionState D) (blob version offset count : ℕ) (said : Result (List ℕ) Fault) (before after : ℕ)
    → Answers AllOther (session_of s) (Requests.Read blob version offset count) (read_reply said) (session_of s')
    → AnswersAsPublished (session_of s') (record { blob = blob; version = version; offset = offset; count = count }) (read_reply said)
    → after ≤ before + visits_seen (session_of s') blob version offset count → NoStepIfRefused (session_of s') blob version offset count before after
    → (count ≤ max_read → has_opened s.opened blob version ≡ false → s'.turns ≡ s.turns + 1) → (max_read < count → s'.turns ≡ s.turns)
    → (has_opened s.opened blob version ≡ true → s' ≡ record s { doors = s'.doors })
    → ByTurn s blob version offset count (said_by Ways.Turn said) s' before after
turn_read s s' blob version offset count (Ok bytes) before after answers stays steps no_step turn none kept = record { way = refl; answers = answers; stays = stays; steps = steps; no_step = no_step; one_turn = turn; no_turn = none; by_opened = kept }
turn_read s s' blob version offset count (Err fault) before after answers stays steps no_step turn none kept = record { way = tt; answers = answers; stays = stays; steps = steps; no_step = no_step; one_turn = turn; no_turn = none; by_opened = kept }

-- what the session has seen stays
pub stays_on : {D : Type 0} (s s' : SessionState D) → s' ≡ record s { doors = s'.doors } → Continues s s'
stays_on s s' same = record {
  store = ap (λ x. x.store) same;
  caller = ap (λ x. x.caller) same;
  begins = ([], ap (λ x. x.log) same ∙ sym (append-nil s.log));
}
