use Rattle.std.specs.Prelude.{◌≡◌, ℕ, Bool, true, false, List, [], ◌∷◌, flat_map}
use Rattle.items.specs.Rounds.{until_last, has_last, Rounds, sum_rounds}
use Rattle.request_form.specs.declared.form.Request.{Request}
use Rattle.request_form.specs.declared.form.Request.TheVariants as Requests
use Rattle.request_form.specs.declared.form.Reply.{Reply}
use Rattle.request_form.specs.declared.form.Reply.TheVariants as Replies
use Rattle.request_form.specs.declared.form.Heard.{Heard}
use Rattle.request_form.specs.declared.form.Heard.TheVariants.{Asked, Wrong}
use Rattle.request_form.specs.declared.form.Fault.TheVariants as Faults
use Rattle.request_form.specs.Replies.{fault_count}
use Rattle.request_form.specs.Session.{Fixed, Session, IsNobody}
use Rattle.request_form.specs.Answers.{Gap, Answers, max_update, answer_faults}

abbrev pub is_quit : Request → Bool
is_quit Requests.Quit = true
is_quit _ = false

-- whether the item is the last that has a reply
abbrev pub is_last : Heard → Bool
is_last (Asked request) = is_quit request
is_last (Wrong fault) = false

-- the items up to the first Quit, and with it
abbrev pub until_quit : List Heard → List Heard
until_quit items = until_last is_last items

abbrev pub has_quit : List Heard → Bool
has_quit items = has_last is_last items

-- one item's reply: where an item is no request, the reply is its fault, and the session stays as it is
abbrev pub ItemReply : Gap → Session → Heard → Reply → Session → Type 0
ItemReply gap s (Asked request) reply s' = Answers gap s request reply s'
ItemReply gap s (Wrong fault) reply s' = (reply ≡ Replies.Refused fault) × (s' ≡ s)

-- one reply for each item, one after another
abbrev pub Run : Gap → Session → List Heard → List Reply → Session → Type 0
Run gap s items replies s' = Rounds (ItemReply gap) s items replies s'

-- the replies to a list of items, which a Quit ends
abbrev pub Transcript : Gap → Session → List Heard → List Reply → Session → Type 0
Transcript gap s items replies s' = Run gap s (until_quit items) replies s'

-- how often the outside failed for an item's reply, after which the session is this one
abbrev pub item_faults : Session → Heard → Reply → ℕ
item_faults s (Asked request) reply = answer_faults s request reply
item_faults s (Wrong fault) reply = fault_count reply

-- how often the outside failed in a run
abbrev pub faults_of : (gap : Gap) (s : Session) (items : List Heard) (replies : List Reply) (s' : Session) → Run gap s items replies s' → ℕ
faults_of gap s items replies s' run = sum_rounds item_faults (ItemReply gap) s items replies s' run

-- and in a transcript
abbrev pub faults_in : (gap : Gap) (s : Session) (items : List Heard) (replies : List Reply) (s' : Session) → Transcript gap s items replies s' → ℕ
faults_in gap s items replies s' run = faults_of gap s (until_quit items) replies s' run

-- whether a reply tells that memory was wanting
abbrev pub starves : Reply → Bool
starves (Replies.Refused Faults.NoMemory) = true
starves (Replies.Refused (Faults.NoMemoryTicket ticket)) = true
starves _ = false

-- no reply to a request tells that
abbrev pub NoneStarves : List Heard → List Reply → Type 0
NoneStarves [] replies = Unit {0}
NoneStarves (item ∷ items) [] = Unit {0}
NoneStarves (Asked request ∷ items) (reply ∷ replies) = (starves reply ≡ false) × NoneStarves items replies
NoneStarves (Wrong fault ∷ items) (reply ∷ replies) = NoneStarves items replies

-- a session that has seen nothing and holds no ticket
abbrev pub first_session : Fixed → ℕ → Session
first_session fixed caller = record { fixed = fixed; caller = caller; seen = []; tickets = []; next = 1; limit = max_update }

-- The text is what is said of a transcript alone: of the first caller's first session, with nobody else there.
pub record SaysAlone (said : Reply → List ℕ) (fixed : Fixed) (heard : List Heard) (text : List ℕ) : Type 0 where
  pub replies : List Reply
  pub last : Session
  pub transcript : Transcript IsNobody (first_session fixed 1) heard replies last
  pub says : text ≡ flat_map said replies
