-- What a conversation over a stream is about.
use Rattle.std.specs.Prelude.{◌≡◌, ℕ, Bool, List, ◌++◌, Option, Result, IfOk}
use Rattle.faults.specs.Counts.{RoseBy}
use Rattle.faults.specs.declared.no_memory.NoMemory.{NoMemory}
use Rattle.request_form.specs.declared.dialect.Said.{Said}

-- The items that are heard, the replies, and what is known of who answers: which reply one item may get, and which state it leaves; which item is the
-- last one; how often the outside failed for an item's reply, after which the state is this one; how a reply is written; and what is known of each item
-- that is heard.
pub record Talk (Item : Type 0) : Type 1 where
  pub Reply : Type 0
  pub Session : Type 0
  pub Answers : Session → Item → Reply → Session → Type 0
  pub is_last : Item → Bool
  pub fault_count : Session → Item → Reply → ℕ
  pub said : Reply → List ℕ
  pub IsWell : Item → Type 0

-- where a stream stands: who answers, the count of faults that it met, and what was written
pub record PointOf (Session : Type 0) : Type 0 where
  pub session : Session
  pub faults : ℕ
  pub written : Option (List ℕ)

-- One item got one reply, and it is said in two parts, unless there was no memory for that.
pub record IsAnswer {Item : Type 0} (talk : Talk Item) (session : talk.Session) (faults : ℕ) (item : Item) (said : Result Said NoMemory) (session' : talk.Session) (faults' : ℕ) : Type 0 where
  pub reply : talk.Reply
  pub answers : talk.Answers session item reply session'
  pub rose : RoseBy (talk.fault_count session' item reply) faults faults'
  pub parts : IfOk said (λ parts. parts.head.items ++ parts.body ≡ talk.said reply)
