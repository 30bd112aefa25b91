-- A listener in memory.
use Rattle.std.specs.Prelude.{ℕ, Bool, true, false, List, [], ◌∷◌, Option, None, Some}
use Rattle.ports.specs.declared.listener.Accepted.{Accepted}
use Rattle.ports.specs.declared.listener.Accepted.TheVariants as Answers

-- the address that is listened at, where one is
abbrev pub listened_at : Bool → List ℕ → Option (List ℕ)
listened_at true address = Some address
listened_at false address = None

-- A listener in memory: its address, whether it listens, the peers that are still to come, which of its next accepts fail, and its counts.
pub record Waiting (P : Type 0) : Type 0 where
  pub address : List ℕ
  pub listens : Bool
  pub peers : List P
  pub plan : List Bool
  pub handed : ℕ
  pub done : Bool
  pub faults : ℕ

module _ {P : Type 0} where
  -- the first peer that is still to come
  abbrev pub next_peer : List P → Accepted P
  next_peer [] = Answers.Done
  next_peer (p ∷ peers) = Answers.Peer p

  -- what an accept answers, by whether it fails and the peers that are still to come
  abbrev pub accept_answer : Bool → List P → Accepted P
  accept_answer true peers = Answers.Failed
  accept_answer false peers = next_peer peers
