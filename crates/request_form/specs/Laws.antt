use Rattle.std.specs.Prelude.{◌≡◌, ℕ, List, [], ◌∷◌, ◌++◌}
use Rattle.blob_model.specs.Limits.{Bounds}
use Rattle.blob_model.specs.History.{AllOther, store_of}
use Rattle.blob_model.specs.declared.call.Event.{Event}
use Rattle.blob_model.specs.declared.call.Call.{Call}
use Rattle.request_form.specs.Session.{Session, HeldTicket, AllOwn, IsNobody}
use Rattle.request_form.specs.Stream.{AllWellHeard}
use Rattle.request_form.specs.Answers.{Answers, LookAnswer}
use Rattle.request_form.specs.Transcript.{Run, Transcript, until_quit, faults_in, NoneStarves}
use Rattle.request_form.specs.Own.{Makes, events_made, made_by}
use Rattle.request_form.specs.PublishedReads.{IsPublishedIn, Range, ReadAfter, Tells, read_outcome}
use Rattle.request_form.specs.HangUp.{GivenUp, GivesUp, GivenUpCounts, HungUp, LeavesNoTicket, AllNumbered, AllFinished}
use Rattle.request_form.specs.declared.form.Request.{Request}
use Rattle.request_form.specs.declared.form.Reply.{Reply}
use Rattle.request_form.specs.declared.form.Reply.TheVariants as Replies
use Rattle.request_form.specs.declared.form.Heard.{Heard}

-- Where all that a session has seen in the end is its own, each gap was empty, and the outside failed as often.
abbrev pub OwnIsAlone : Type 0
OwnIsAlone = (s : Session) (heard : List Heard) (replies : List Reply) (s' : Session) → AllOwn s.caller s'.seen → (run : Transcript AllOther s heard replies s')
    → (alone : Transcript IsNobody s heard replies s') × (faults_in IsNobody s heard replies s' alone ≡ faults_in AllOther s heard replies s' run)

-- Each list of items has a transcript, also where nobody else is there, in which the outside failed for no request.
abbrev pub AlwaysAnswered : Type 0
AlwaysAnswered = (s : Session) (heard : List Heard)
    → (replies : List Reply) × ((s' : Session) × ((alone : Transcript IsNobody s heard replies s') × (AllWellHeard heard → faults_in IsNobody s heard replies s' alone ≡ 0)))

-- Where the versions of the session's tickets are numbered, there is such a transcript in which no reply to a request tells that memory
-- was wanting either.
abbrev pub AlwaysFed : Type 0
AlwaysFed = (s : Session) (heard : List Heard) → AllNumbered (store_of s.fixed.limits s.seen) s.tickets
    → (replies : List Reply) × ((s' : Session) × ((alone : Transcript IsNobody s heard replies s')
    × ((AllWellHeard heard → faults_in IsNobody s heard replies s' alone ≡ 0) × NoneStarves (until_quit heard) replies)))

-- Each answer makes the session's own events that its request and reply tell, and a run those of its items in order.
abbrev pub OwnEventsAreMade : Type 0
OwnEventsAreMade = (s : Session) (request : Request) (reply : Reply) (s' : Session) → Answers AllOther s request reply s' → Makes s (events_made s request reply) s'

abbrev pub RunsMakeOwnEvents : Type 0
RunsMakeOwnEvents = (s : Session) (items : List Heard) (replies : List Reply) (s' : Session) (run : Run AllOther s items replies s')
    → Makes s (made_by AllOther s items replies s' run) s'

-- After one look and another the session has had the second alone, with a longer gap.
abbrev pub LooksJoin : Type 0
LooksJoin = (s : Session) (earlier call : Call) (first reply : Reply) (mid s' : Session) → LookAnswer AllOther s earlier first mid → LookAnswer AllOther mid call reply s'
    → LookAnswer AllOther s call reply s'

-- tickets that are given up, and then one more
abbrev pub GivingUpGoesOn : Type 0
GivingUpGoesOn = (s : Session) (tickets : List HeldTicket) (replies : List Reply) (mid : Session) (ticket : HeldTicket) (reply : Reply) (s' : Session)
    → GivesUp AllOther s tickets replies mid → GivenUp AllOther mid ticket reply s' → GivesUp AllOther s (tickets ++ ticket ∷ []) (replies ++ reply ∷ []) s'

-- What hanging up leaves. A ticket that is counted as finished has its update finished in what the session has seen then,
-- if it was numbered in what the session had seen.
abbrev pub HangUpsHold : Type 0
HangUpsHold = (s : Session) (counts : GivenUpCounts) (s' : Session) (h : HungUp AllOther s counts s') → LeavesNoTicket s counts h.replies s'

abbrev pub HungUpAreFinished : Type 0
HungUpAreFinished = (s : Session) (counts : GivenUpCounts) (s' : Session) (h : HungUp AllOther s counts s')
    → AllNumbered (store_of s.fixed.limits s.seen) s.tickets → AllFinished (store_of s'.fixed.limits s'.seen) s.tickets h.replies

-- Where a version is published in a history, each session that has seen it tells of a range of that version what the store
-- of that history answers, also once more events have come.
abbrev pub PublishedReadsStay : Type 0
PublishedReadsStay = (limits : Bounds) (history : List Event) (range : Range) (reply : Reply) → IsPublishedIn (store_of limits history) range.blob range.version
    → ReadAfter limits history range reply → Tells (read_outcome (store_of limits history) range) range.count reply

-- so any two of them read the same bytes
abbrev pub PublishedReadsAgree : Type 0
PublishedReadsAgree = (limits : Bounds) (history : List Event) (range : Range) (bytes others : List ℕ) → IsPublishedIn (store_of limits history) range.blob range.version
    → ReadAfter limits history range (Replies.Content bytes) → ReadAfter limits history range (Replies.Content others) → bytes ≡ others
