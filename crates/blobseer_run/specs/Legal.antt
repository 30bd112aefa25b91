-- What the history of a transcript is, and that there always is one.
use Rattle.std.specs.Prelude.{◌≡◌, ℕ, ◌<◌, ◌^◌, List, length}
use Rattle.blob_model.specs.History.{IsLegal}
use Rattle.version_manager.specs.Log.{IsHistory}
use Rattle.request_form.specs.Session.{Fixed, Session, IsNobody}
use Rattle.request_form.specs.Stream.{AllWellHeard}
use Rattle.request_form.specs.Transcript.{Transcript, first_session, until_quit, SaysAlone, faults_in, NoneStarves}
use Rattle.request_form.specs.declared.form.Reply.{Reply}
use Rattle.request_form.specs.declared.form.Heard.{Heard}
use Rattle.script_text.specs.Said.{said}

-- Where nobody else is there, what a first session has seen in the end is a legal history.
abbrev pub LegalAlone : Type 0
LegalAlone = (fixed : Fixed) (heard : List Heard) (replies : List Reply) (last : Session)
    → Transcript IsNobody (first_session fixed 1) heard replies last → IsLegal fixed.limits last.seen

-- It is one of a desk, where there are fewer than 2^37 items.
abbrev pub HistoriesAlone : Type 0
HistoriesAlone = (fixed : Fixed) (heard : List Heard) (replies : List Reply) (last : Session)
    → Transcript IsNobody (first_session fixed 1) heard replies last → length heard < 2 ^ 37 → IsHistory fixed.page fixed.limits last.seen

-- how often the outside failed in the transcript of which the text is said
abbrev pub faults_alone : (fixed : Fixed) (items : List Heard) (text : List ℕ) → SaysAlone said fixed items text → ℕ
faults_alone fixed items text alone = faults_in IsNobody (first_session fixed 1) items alone.replies alone.last alone.transcript

-- The text is said of a transcript alone of these items, whose history is legal, and in which no reply to a request tells that memory was wanting. Where no
-- wrong item is a fault of the outside, the outside failed for no request either.
pub record SaysUnhindered (fixed : Fixed) (items : List Heard) (text : List ℕ) : Type 0 where
  pub alone : SaysAlone said fixed items text
  pub legal : IsLegal fixed.limits alone.last.seen
  pub fed : NoneStarves (until_quit items) alone.replies
  pub calm : AllWellHeard items → faults_alone fixed items text alone ≡ 0

-- So something can be said of each list of items.
abbrev pub AlwaysSays : Type 0
AlwaysSays = (fixed : Fixed) (items : List Heard) → (text : List ℕ) × SaysUnhindered fixed items text
