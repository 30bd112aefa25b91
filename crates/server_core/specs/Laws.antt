-- When each end comes, and what was written where nobody else was there.
use Rattle.std.specs.Prelude.{◌≡◌, ◌⊎◌, ℕ, ◌<◌, true, List, ◌++◌, length, Option}
use Rattle.faults.specs.Counts.{RoseBy}
use Rattle.request_form.specs.Session.{Fixed, AllOwn, IsNobody}
use Rattle.request_form.specs.Transcript.{is_last, has_quit, first_session, SaysAlone, faults_in}
use Rattle.request_form.specs.Stream.{Stream, AllWellHeard}
use Rattle.request_form.specs.declared.form.Reply.{Reply}
use Rattle.request_form.specs.declared.form.Heard.{Heard}
use Rattle.server_core.specs.declared.flow.End.{End}
use Rattle.server_core.specs.declared.flow.End.TheVariants as Ends
use Rattle.server_core.specs.Progress.{Point}
use Rattle.server_core.specs.Conversed.{EndsExactly}
use Rattle.server_core.specs.Served.{CameToEnd, Input, Served}

-- A stream that was served ended exactly as the bytes taken, the replies written and the count of ends say.
abbrev pub ServedExactly : Type 0
ServedExactly = (said : Reply → List ℕ) (old : Point) (reads : List ℕ → Stream) (before after : Input) (limit : ℕ) (new : Point) (end : End)
    → (served : Served said old reads before after limit new end)
    → EndsExactly is_last (reads served.taken) (length served.taken) limit served.items served.rest before.ends after.ends end

-- The text is what is said of a transcript alone, in which the outside failed no more often than a count rose by, where no wrong item is a fault of the
-- outside.
pub record SaysWithin (said : Reply → List ℕ) (fixed : Fixed) (heard : List Heard) (before after : ℕ) (text : List ℕ) : Type 0 where
  pub alone : SaysAlone said fixed heard text
  pub faults : AllWellHeard heard → RoseBy (faults_in IsNobody (first_session fixed 1) heard alone.replies alone.last alone.transcript) before after

-- The items that a stream had to answer by then: all, where it came to its end before the limit, or the whole ones.
abbrev pub IsDue : Stream → ℕ → ℕ → ℕ → ℕ → Option (List ℕ) → List Heard → Type 0
IsDue heard taken limit ends ends' left due = ((due ≡ heard.items) × CameToEnd taken limit ends ends' left) ⊎ (due ≡ heard.whole)

-- What was written where nobody else was there, by the end: what is said of the items that were due, or a front of that.
abbrev pub WroteAlone : (Reply → List ℕ) → Fixed → Stream → ℕ → ℕ → ℕ → ℕ → Option (List ℕ) → ℕ → ℕ → List ℕ → End → Type 0
WroteAlone said fixed heard taken limit ends ends' left before after text Ends.Quit =
    (due : List Heard) × IsDue heard taken limit ends ends' left due × (has_quit due ≡ true) × SaysWithin said fixed due before after text
WroteAlone said fixed heard taken limit ends ends' left before after text Ends.InputEnd = SaysWithin said fixed heard.items before after text
WroteAlone said fixed heard taken limit ends ends' left before after text Ends.Cut = SaysWithin said fixed heard.whole before after text
WroteAlone said fixed heard taken limit ends ends' left before after text Ends.ReadFault = SaysWithin said fixed heard.whole before after text
WroteAlone said fixed heard taken limit ends ends' left before after text Ends.InputTooLong = SaysWithin said fixed heard.whole before after text
WroteAlone said fixed heard taken limit ends ends' left before after text Ends.WriteFault =
    (due : List Heard) × IsDue heard taken limit ends ends' left due × ((more : List ℕ) × (0 < length more) × SaysWithin said fixed due before after (text ++ more))
WroteAlone said fixed heard taken limit ends ends' left before after text Ends.NoMemory =
    (due : List Heard) × IsDue heard taken limit ends ends' left due × ((more : List ℕ) × SaysWithin said fixed due before after (text ++ more))

-- Where the session was the first caller's first one, and has seen no event but its own in the end, what was written is said of a transcript alone.
-- In that transcript the outside failed no more often than the service's count rose by.
abbrev pub ServedAlone : Type 0
ServedAlone = (said : Reply → List ℕ) (fixed : Fixed) (old : Point) (reads : List ℕ → Stream) (before after : Input) (limit : ℕ) (new : Point) (end : End)
    → old.session ≡ first_session fixed 1 → AllOwn 1 new.session.seen
    → (served : Served said old reads before after limit new end)
    → WroteAlone said fixed (reads served.taken) (length served.taken) limit before.ends after.ends after.left old.faults new.faults served.progress.out end
