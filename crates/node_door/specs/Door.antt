-- What a clause sees of a door to a node, and what a call of it does.
use Rattle.std.specs.Prelude.{◌≡◌, ◌⊎◌, ℕ, ◌==◌, Bool, true, false, if◌then◌else◌, List, [], ◌++◌, length, Option, Some, None}
use Rattle.std.specs.Map.{lookup}
use Rattle.faults.specs.Counts.{count_after}
use Rattle.page_store.specs.Answers.{IfStored, OnPutFailed, OnGot, OnGetFailed}
use Rattle.page_store.specs.declared.door.PutAnswer.{PutAnswer}
use Rattle.page_store.specs.declared.door.PutAnswer.TheVariants as put
use Rattle.page_store.specs.declared.door.GetAnswer.{GetAnswer}
use Rattle.page_store.specs.declared.door.GetAnswer.TheVariants as get
use Rattle.page_node.specs.declared.form.NodeRequest.TheVariants as Requests
use Rattle.page_node.specs.declared.form.NodeReply.TheVariants as Replies
use Rattle.page_node.specs.declared.form.NodeFault.TheVariants as Faults
use Rattle.page_node.specs.Said.{said, asked}
use Rattle.page_node.specs.Grammar.{is_reply_frame, IsOutside}
use Rattle.node_door.specs.declared.wire.Exchanged.{Exchanged}
use Rattle.node_door.specs.declared.wire.Exchanged.TheVariants as Exchange
use Rattle.node_door.specs.Link.{LinkAt, Passed, WriteBroke, Broke, Exchanges}

-- a door: its provider, where its link stands, for how many bytes of a reply it has room at once, the places of the pages that it stored with the
-- ids that the node has them under, whether it is spent, and its count of faults
pub record DoorAt : Type 0 where
  pub provider : ℕ
  pub link : LinkAt
  pub room : ℕ
  pub own : List (ℕ × ℕ)
  pub spent : Bool
  pub faults : ℕ

-- the id of the page at a place, where the door stored it
abbrev pub id_of : List (ℕ × ℕ) → ℕ → Option ℕ
id_of own place = lookup (λ other. place == other) own

-- the same pages
abbrev pub SameOwn : List (ℕ × ℕ) → List (ℕ × ℕ) → Type 0
SameOwn old new = (place : ℕ) → id_of new place ≡ id_of old place

-- one page more, or one at a place that had another id
abbrev pub AddsOwn : List (ℕ × ℕ) → ℕ → ℕ → List (ℕ × ℕ) → Type 0
AddsOwn old place id new = (other : ℕ) → id_of new other ≡ (if place == other then Some id else id_of old other)

-- ---- what a call does to the link

-- the one frame of a call was written, or a front of it where a write failed
abbrev pub WritesFrame : List ℕ → List ℕ → LinkAt → LinkAt → Type 0
WritesFrame frame sent before after = (sent ≡ frame) ⊎ ((rest : List ℕ) × (frame ≡ sent ++ rest) × WriteBroke before after)

-- nothing went over the link
abbrev pub IsQuiet : List ℕ → List ℕ → Type 0
IsQuiet sent got = (sent ≡ []) × (got ≡ [])

-- the bytes are no front of a reply asked for
abbrev pub IsNoFront : (List ℕ → Type 0) → List ℕ → Type 0
IsNoFront IsAskedFor got = (reply more : List ℕ) → IsAskedFor reply → is_reply_frame reply ≡ true → got ++ more ≡ reply → ⊥

-- Why a call may fail: the link failed or ended in it, or what the link gave is no front of a reply asked for, or the door was spent before.
abbrev pub MayFail : (List ℕ → Type 0) → DoorAt → List ℕ → DoorAt → Type 0
MayFail IsAskedFor old got new = Broke old.link new.link ⊎ IsNoFront IsAskedFor got ⊎ (old.spent ≡ true)

-- Why a door is spent: it was before, or the link failed or ended, or what it gave is no reply of a node, however it goes on.
abbrev pub MaySpend : DoorAt → List ℕ → DoorAt → Type 0
MaySpend old got new = (old.spent ≡ true) ⊎ Broke old.link new.link ⊎ IsOutside got

-- a door that isn't spent wasn't before, and took a whole reply, unless nothing went over the link
abbrev pub Lives : DoorAt → List ℕ → List ℕ → Type 0
Lives old sent got = (old.spent ≡ false) × (IsQuiet sent got ⊎ (is_reply_frame got ≡ true))

-- what each call of a door does
pub record DoorCalled (old new : DoorAt) : Type 0 where
  pub sent : List ℕ
  pub got : List ℕ
  pub passed : Passed sent got old.link new.link
  pub quiet : old.spent ≡ true → IsQuiet sent got
  pub spends : new.spent ≡ true → MaySpend old got new
  pub lives : new.spent ≡ false → Lives old sent got
  pub provider : new.provider ≡ old.provider
  pub room : new.room ≡ old.room

-- ---- puts

-- a fact, where a put found no memory
abbrev pub OnPutNoMemory : PutAnswer → Type 0 → Type 0
OnPutNoMemory (put.Stored page) P = Unit {0}
OnPutNoMemory put.Failed P = Unit {0}
OnPutNoMemory put.NoMemory P = P

-- how many faults an answer counts
abbrev pub put_faults : PutAnswer → ℕ
put_faults (put.Stored page) = 0
put_faults put.Failed = 1
put_faults put.NoMemory = 0

-- the replies that a put asks for: the page's id
abbrev pub IsKeptReply : List ℕ → Type 0
IsKeptReply reply = (id : ℕ) × (reply ≡ said (Replies.Kept id))

-- Why a put finds no memory: there was no room for the id, or the node found none, or the node keeps the page and the house found none.
abbrev pub MayWantMemory : List ℕ → List ℕ → Type 0
MayWantMemory sent got = IsQuiet sent got ⊎ (got ≡ said (Replies.Refused Faults.NoMemory)) ⊎ IsKeptReply got

-- a whole reply, and not that the node found no memory
abbrev pub IsRefusal : List ℕ → Type 0
IsRefusal got = (is_reply_frame got ≡ true) × ((got ≡ said (Replies.Refused Faults.NoMemory)) → ⊥)

-- What a put of these bytes does. Where it fails and the door isn't spent, a whole reply came, and not that the node found no memory.
pub record PutCalled (old : DoorAt) (bytes : List ℕ) (answer : PutAnswer) (new : DoorAt) : Type 0 where
  pub sent : List ℕ
  pub got : List ℕ
  pub passed : Passed sent got old.link new.link
  pub writes : old.spent ≡ false → WritesFrame (asked (Requests.Put bytes)) sent old.link new.link ⊎ (IsQuiet sent got × (answer ≡ put.NoMemory))
  pub quiet : old.spent ≡ true → IsQuiet sent got × (answer ≡ put.Failed)
  pub stored : IfStored answer (λ page. (id : ℕ) × (got ≡ said (Replies.Kept id)) × AddsOwn old.own page.spot.place id new.own)
  pub failed : OnPutFailed answer (MayFail IsKeptReply old got new × SameOwn old.own new.own)
  pub refused : new.spent ≡ false → OnPutFailed answer (IsRefusal got)
  pub no_memory : OnPutNoMemory answer (MayWantMemory sent got × SameOwn old.own new.own)
  pub count : new.faults ≡ count_after (put_faults answer) old.faults
  pub spends : new.spent ≡ true → MaySpend old got new
  pub lives : new.spent ≡ false → Lives old sent got
  pub provider : new.provider ≡ old.provider
  pub room : new.room ≡ old.room

-- ---- gets

abbrev pub get_faults : GetAnswer → ℕ
get_faults get.Got = 0
get_faults get.Failed = 1

-- the reply that a get asks for: these bytes
abbrev pub IsGivenReply : List ℕ → List ℕ → Type 0
IsGivenReply want reply = reply ≡ said (Replies.Given want)

-- What a get of a page does that this door stored, and that the node has under that id; these bytes of it are wanted. Where it fails and the door
-- isn't spent, a whole reply came.
pub record OwnGetCalled (old : DoorAt) (id from : ℕ) (want : List ℕ) (answer : GetAnswer) (new : DoorAt) : Type 0 where
  pub sent : List ℕ
  pub got : List ℕ
  pub passed : Passed sent got old.link new.link
  pub writes : old.spent ≡ false → WritesFrame (asked (Requests.Get id from (length want))) sent old.link new.link
  pub quiet : old.spent ≡ true → IsQuiet sent got × (answer ≡ get.Failed)
  pub gives : OnGot answer (got ≡ said (Replies.Given want))
  pub failed : OnGetFailed answer (MayFail (IsGivenReply want) old got new)
  pub refused : new.spent ≡ false → OnGetFailed answer (is_reply_frame got ≡ true)
  pub count : new.faults ≡ count_after (get_faults answer) old.faults
  pub spends : new.spent ≡ true → MaySpend old got new
  pub lives : new.spent ≡ false → Lives old sent got
  pub own : new.own ≡ old.own
  pub provider : new.provider ≡ old.provider
  pub room : new.room ≡ old.room

-- The same of any page. One that another door stored is answered from the house, and the door stays as it was.
abbrev pub GetCalled : Option ℕ → DoorAt → ℕ → List ℕ → GetAnswer → DoorAt → Type 0
GetCalled None old from want answer new = (answer ≡ get.Got) × (new ≡ old)
GetCalled (Some id) old from want answer new = OwnGetCalled old id from want answer new

-- ---- how a call is made

-- whether no reply came
abbrev pub is_broken : Exchanged → Bool
is_broken (Exchange.Kept id) = false
is_broken Exchange.Same = false
is_broken Exchange.NoMemory = false
is_broken Exchange.Other = false
is_broken Exchange.Broken = true

-- a way to a node: where its link stands, for how many bytes of a reply it has room at once, and whether it is used no more
pub record WayAt : Type 0 where
  pub link : LinkAt
  pub room : ℕ
  pub spent : Bool

-- a frame was written and a reply was read, and the way is spent where there was none
pub record IsTalked (frame want : List ℕ) (old new : WayAt) (exchanged : Exchanged) : Type 0 where
  pub exchanges : Exchanges frame want old.link new.link exchanged
  pub room : new.room ≡ old.room
  pub spent : new.spent ≡ (if is_broken exchanged then true else old.spent)
