-- How serving ends, by what the listener did in the call, and what became of the peers that it handed out.
use Rattle.std.specs.Prelude.{◌≡◌, ℕ, ◌+◌, ◌<◌, ◌≤◌, Bool, true, false, Result, Ok, Err, List, ◌++◌, length, All, ⊤}
use Rattle.blob_model.specs.declared.call.Event.{Event}
use Rattle.faults.specs.Counts.{RoseBy, count_after}
use Rattle.page_store.specs.Calls.{Traffic, AllCameBack}
use Rattle.blob_server.specs.declared.tally.Tally.{Tally}
use Rattle.blob_server.specs.declared.server.ServeFault.{ServeFault}
use Rattle.blob_server.specs.declared.server.ServeFault.TheVariants as Faults

-- a listener's count of peers, whether it has answered that it gives no more, and its count of faults
pub record Handing : Type 0 where
  pub handed : ℕ
  pub is_done : Bool
  pub faults : ℕ

-- So many peers were handed out: as many as were asked for, or fewer where the listener then answered that it gives no more.
pub record TookPeers (connections peers : ℕ) (old new : Handing) : Type 0 where
  pub within : peers ≤ connections
  pub handed : new.handed ≡ count_after peers old.handed
  pub fewer : peers < connections → new.is_done ≡ true
  pub all : peers ≡ connections → new.is_done ≡ old.is_done
  pub faults : RoseBy 0 old.faults new.faults

-- The listener failed, after it had handed out fewer peers than were asked for.
pub record FailedAfter (connections : ℕ) (old new : Handing) : Type 0 where
  pub peers : ℕ
  pub fewer : peers < connections
  pub handed : new.handed ≡ count_after peers old.handed
  pub done : new.is_done ≡ old.is_done
  pub failed : RoseBy 1 old.faults new.faults

-- how the taking of peers ended, by how many they were and whether the listener failed then
abbrev pub TakesAs : ℕ → ℕ → Bool → Handing → Handing → Type 0
TakesAs connections peers false old new = TookPeers connections peers old new
TakesAs connections peers true old new = (failed : FailedAfter connections old new) × (failed.peers ≡ peers)

-- How serving ended, by what it answers: the number of the peers that were handed out, or why it ended early. Where no memory was found, no peer was taken.
abbrev pub EndsAs : ℕ → Handing → Handing → Result ℕ ServeFault → Type 0
EndsAs connections old new (Ok peers) = TookPeers connections peers old new
EndsAs connections old new (Err Faults.Listener) = FailedAfter connections old new
EndsAs connections old new (Err Faults.NoMemory) = new ≡ old

-- one pass was made for each worker; where no memory was found it may be fewer
abbrev pub MakesPasses : ℕ → ℕ → ℕ → Result ℕ ServeFault → Type 0
MakesPasses workers old new (Ok peers) = new ≡ old + workers
MakesPasses workers old new (Err Faults.Listener) = new ≡ old + workers
MakesPasses workers old new (Err Faults.NoMemory) = (old ≤ new) × (new ≤ old + workers)

-- So many doors were made and came back. Where no memory was found they may be fewer, and as many came back as were made.
abbrev pub LendsDoors : {M : Type 0} → (hands_out takes_back : M → M → Type 0) → ℕ → M → M → Result ℕ ServeFault → Type 0
LendsDoors hands_out takes_back doors first last (Ok peers) = Traffic hands_out takes_back doors doors first last
LendsDoors hands_out takes_back doors first last (Err Faults.Listener) = Traffic hands_out takes_back doors doors first last
LendsDoors hands_out takes_back doors first last (Err Faults.NoMemory) = AllCameBack hands_out takes_back first last

-- what was seen of a store is a beginning of this history
abbrev pub IsBeginningOf : List Event → List Event → Type 0
IsBeginningOf seen history = (more : List Event) × (history ≡ seen ++ more)

-- so is what each of these has seen
abbrev pub AllBegin : {S : Type 0} → (S → List Event) → List S → List Event → Type 0
AllBegin saw services history = All (λ s. IsBeginningOf (saw s) history) services

-- This peer was served, as it came, by something that serves from that store: what served it, before and after, and what is told of these. What that had
-- seen of the store when it let the peer go is a beginning of this history.
pub record WasServed {S P H : Type 0} (home : S → H) (saw : S → List Event) (gives : S → P → S → Type 0) (store : H) (history : List Event) (peer : P) : Type 0 where
  pub before : S
  pub after : S
  pub from_store : home before ≡ store
  pub gave : gives before peer after
  pub begins : IsBeginningOf (saw after) history

module _ {P : Type 0} where
  -- so many peers were served
  pub record ServedMany (Served : P → Type 0) (count : ℕ) : Type 0 where
    pub peers : List P
    pub number : length peers ≡ count
    pub each : All Served peers

  -- Every peer that the listener handed out in the call was served, whether it failed in the end or not. Where no memory was found none was handed out.
  abbrev pub ServesAll : (P → Type 0) → ℕ → Handing → Handing → Result ℕ ServeFault → Type 0
  ServesAll Served connections old new (Ok peers) = ServedMany Served peers
  ServesAll Served connections old new (Err Faults.Listener) = (failed : FailedAfter connections old new) × ServedMany Served failed.peers
  ServesAll Served connections old new (Err Faults.NoMemory) = ⊤

  -- What a worker did with its pass: so many peers came to it, each of which it put into the queue or served itself, and what it took of the queue was
  -- served. How they were served is told of each history that goes on from what was seen in the end.
  pub record Accounts (Served : List Event → P → Type 0) (GoesOn : List Event → Type 0) (came : ℕ) (old new : Tally P) : Type 0 where
    pub parts : new.parts ≡ old.parts
    pub own : List P
    pub own_served : (history : List Event) → GoesOn history → All (Served history) own
    pub count : length own + new.put ≡ old.put + came
    pub taken : (history : List Event) → GoesOn history → All (Served history) old.taken → All (Served history) new.taken
