-- What a standing reader's read gives, by the board or by a turn.
use Rattle.std.specs.Prelude.{◌≡◌, ℕ, ◌+◌, ◌<◌, ◌≤◌, Bool, true, false, List, Option, Some, None, Result, Ok, Err, IfOk}
use Rattle.blob_model.specs.Content.{size_of}
use Rattle.blob_model.specs.History.{AllOther}
use Rattle.range_log.specs.Updates.{extents}
use Rattle.range_log.specs.Visits.{visits}
use Rattle.request_form.specs.Answers.{Answers, max_read}
use Rattle.request_form.specs.declared.form.Request.TheVariants as Requests
use Rattle.request_form.specs.declared.form.Fault.{Fault}
use Rattle.request_form.specs.declared.form.Fault.TheVariants as Faults
use Rattle.range_reader.specs.Faults.{PageFailedIn}
use Rattle.snapshot.specs.Versions.{older_version}
use Rattle.client_session.specs.Losses.{IfPageLost, LostInRead}
use Rattle.client_session.specs.Results.{read_reply}
use Rattle.client_session.specs.Opening.{ReadsRange}
use Rattle.client_session.specs.Kept.{has_opened}
use Rattle.client_session.specs.Sessions.{SessionState, session_of, visits_seen, NoStepIfRefused, AnswersAsPublished}
use Rattle.read_board.specs.declared.refresh.Refresh.{Refresh}
use Rattle.read_board.specs.declared.standing.Way.{Way}
use Rattle.read_board.specs.declared.standing.Way.TheVariants as Ways
use Rattle.read_board.specs.Refreshes.{covering, on_board, updates_of}

-- the bytes alone
abbrev pub bytes_said : Result (List ℕ × Way) Fault → Result (List ℕ) Fault
bytes_said (Ok r) = Ok r.0
bytes_said (Err fault) = Err fault

-- what was read, with the way that it came
abbrev pub said_by : Way → Result (List ℕ) Fault → Result (List ℕ × Way) Fault
said_by way (Ok bytes) = Ok (bytes, way)
said_by way (Err fault) = Err fault

-- the refresh that a read goes by, where it goes by the board: there is a place, and the version is at most that of the blob's last refresh
abbrev pub goes_by : Bool → List Refresh → ℕ → ℕ → Option Refresh
goes_by true list blob version = covering (on_board blob list) version
goes_by false list blob version = None

-- By the board: no turn was taken, so what the session has seen stays and its count of turns too, and the bytes are those of the refresh's updates, or the range isn't read for its cause.
-- A range that is too long, or else past the version's size, is refused so, and takes no node step.
pub record ByBoard {D : Type 0} (on : Refresh) (s : SessionState D) (version offset count : ℕ) (said : Result (List ℕ × Way) Fault) (s' : SessionState D) (before after : ℕ) : Type 0 where
  pub way : IfOk said (λ r. r.1 ≡ Ways.Board)
  pub session : s' ≡ record s { doors = s'.doors }
  pub reads : ReadsRange s.store.fixed.page_size (updates_of on) version offset count (bytes_said said)
  pub too_long : max_read < count → said ≡ Err (Faults.ReadTooLong count)
  pub past : count ≤ max_read → size_of (updates_of on) version < offset + count → said ≡ Err (Faults.RangePastSize (offset + count) (size_of (updates_of on) version))
  pub steps : after ≤ before + visits s.store.fixed.page_size (extents (updates_of on)) version offset count
  pub no_step : size_of (updates_of on) version < offset + count → after ≡ before
  pub no_step_too_long : max_read < count → after ≡ before

-- By the session: its own read, with a turn where it keeps no snapshot that reaches the version.
pub record ByTurn {D : Type 0} (s : SessionState D) (blob version offset count : ℕ) (said : Result (List ℕ × Way) Fault) (s' : SessionState D) (before after : ℕ) : Type 0 where
  pub way : IfOk said (λ r. r.1 ≡ Ways.Turn)
  pub answers : Answers AllOther (session_of s) (Requests.Read blob version offset count) (read_reply (bytes_said said)) (session_of s')
  pub stays : AnswersAsPublished (session_of s') (record { blob = blob; version = version; offset = offset; count = count }) (read_reply (bytes_said said))
  pub steps : after ≤ before + visits_seen (session_of s') blob version offset count
  pub no_step : NoStepIfRefused (session_of s') blob version offset count before after
  pub one_turn : count ≤ max_read → has_opened s.opened blob version ≡ false → s'.turns ≡ s.turns + 1
  pub no_turn : max_read < count → s'.turns ≡ s.turns
  pub by_opened : has_opened s.opened blob version ≡ true → s' ≡ record s { doors = s'.doors }

-- a read goes by that refresh, or by a turn where there is none
abbrev pub Goes : {D : Type 0} → Option Refresh → SessionState D → ℕ → ℕ → ℕ → ℕ → Result (List ℕ × Way) Fault → SessionState D → ℕ → ℕ → Type 0
Goes (Some on) s blob version offset count said s' before after = ByBoard on s version offset count said s' before after
Goes None s blob version offset count said s' before after = ByTurn s blob version offset count said s' before after

-- Why a page was lost: every door failed of a stored page that the named page needs, in the refresh's older version, or in the snapshot that was opened by the turn. The counts of the
-- doors were `before`, and are `now`.
abbrev pub LostBy : {D : Type 0} → Option Refresh → SessionState D → ℕ → ℕ → ℕ → ℕ → List ℕ → List ℕ → Fault → Type 0
LostBy (Some on) s' blob version offset count before now fault = IfPageLost fault (PageFailedIn (older_version on.snapshot version) offset count before now)
LostBy None s' blob version offset count before now fault = IfPageLost fault (LostInRead s'.store s'.log blob version offset count before now)
