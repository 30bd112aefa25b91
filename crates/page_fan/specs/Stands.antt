-- What is replied at the stands of several doors. The first is that of provider 1, and `faults` counts a door's failures.
use Rattle.std.specs.Prelude.{◌≡◌, ℕ, ◌+◌, ◌<◌, ◌≤◌, ◌↔◌, ◌==◌, List, map, filter, length, slice_index_or, take}
use Rattle.std.specs.VecDeque.{deque_capacity}
use Rattle.page_store.specs.Calls.{Calls}
use Rattle.page_store.specs.House.{House}
use Rattle.page_fan.specs.Groups.{HasReplies, AllReplied}
use Rattle.page_fan.specs.declared.stand.Put.{Put}
use Rattle.page_fan.specs.declared.stand.PutReply.{PutReply}
use Rattle.page_fan.specs.declared.stand.Stand.{Stand}

-- where the pages begin that are to be put at this provider: its group, in order
abbrev pub group_of : ℕ → List Put → List ℕ
group_of provider puts = map (λ (put : Put). put.at) (filter (λ (put : Put). put.provider == provider) puts)

-- The stand was `old`. Its tray now has one reply to each put of the provider's group, in order, and no other. The last
-- ones may be missing for want of memory alone: then the tray has as many as it had room for before, or more.
pub record HasReplyToEach {D : Type 0} (puts : List Put) (provider : ℕ) (old new : Stand D) : Type 0 where
  pub in_order :
      map (λ (reply : PutReply). reply.at) new.tray.items ≡ take (length new.tray.items) (group_of provider puts)
  pub missing :
      length new.tray.items < length (group_of provider puts) → deque_capacity old.tray ≤ length new.tray.items

-- Where the pages begin whose puts at this stand are still to be answered, `rest`, in order. The tray has the replies to the first
-- of them, which were put already. The door was called once for each of these, and for each of the `done` that were answered.
pub record IsOwed {D : Type 0} (called : D → D → Type 0) (done : ℕ) (rest : List ℕ) (first : D) (stand : Stand D) : Type 0 where
  pub in_order : map (λ (reply : PutReply). reply.at) stand.tray.items ≡ take (length stand.tray.items) rest
  pub calls : Calls called (done + length stand.tray.items) first stand.door

module _ {D : Type 0} where
  -- the counts of the stands' doors
  abbrev pub counts_of : (D → ℕ) → List (Stand D) → List ℕ
  counts_of faults stands = map (λ (s : Stand D). faults s.door) stands

  -- each reply at the stand answers the put of its page at this provider, and the door's count was `before`
  abbrev pub IsReplied : List House → ℕ → List ℕ → ℕ → ℕ → (D → ℕ) → Stand D → Type 0
  IsReplied houses page_size buffer provider before faults stand =
      HasReplies houses page_size buffer provider before (faults stand.door) stand.tray.items

  -- so it is at each stand, where `before` are the counts
  abbrev pub AreReplied : List House → ℕ → List ℕ → List ℕ → (D → ℕ) → List (Stand D) → Type 0
  AreReplied houses page_size buffer before faults stands =
      AllReplied houses page_size buffer before (counts_of faults stands) (map (λ (s : Stand D). s.tray.items) stands)

  -- so it is at each stand that was one of `old` and is now one of `new`, since then
  abbrev pub EachReplied : List House → ℕ → List ℕ → (D → ℕ) → List (Stand D) → List (Stand D) → Type 0
  EachReplied houses page_size buffer faults old new =
      (k : ℕ) (d : Stand D) → k < length old
      → IsReplied houses page_size buffer (k + 1) (faults (slice_index_or old k d).door) faults (slice_index_or new k d)

  -- each stand has replies to its own group
  abbrev pub EachHasReplies : List Put → List (Stand D) → List (Stand D) → Type 0
  EachHasReplies puts old new =
      (k : ℕ) (d : Stand D) → k < length old
      → HasReplyToEach puts (k + 1) (slice_index_or old k d) (slice_index_or new k d)

  -- each stand's door is a true one if it was one, and only then
  abbrev pub TruthStays : (D → Type 0) → List (Stand D) → List (Stand D) → Type 0
  TruthStays is_true old new =
      (k : ℕ) (d : Stand D) → k < length old
      → is_true (slice_index_or old k d).door ↔ is_true (slice_index_or new k d).door

  -- each stand's door was called once for each reply in its tray
  abbrev pub EachCalled : (D → D → Type 0) → List (Stand D) → List (Stand D) → Type 0
  EachCalled called old new =
      (k : ℕ) (d : Stand D) → k < length old
      → Calls called (length (slice_index_or new k d).tray.items) (slice_index_or old k d).door (slice_index_or new k d).door

  -- the stands were `first`; of the puts at each those of `rest` are still to be answered, and those of `done` were
  abbrev pub EachOwed : (D → D → Type 0) → List Put → List Put → List (Stand D) → List (Stand D) → Type 0
  EachOwed called done rest first stands =
      (k : ℕ) (d : Stand D) → k < length stands
      → IsOwed called (length (group_of (k + 1) done)) (group_of (k + 1) rest) (slice_index_or first k d).door (slice_index_or stands k d)

  -- each stand's door was called once for each of these puts that is at its provider
  abbrev pub EachPut : (D → D → Type 0) → List Put → List (Stand D) → List (Stand D) → Type 0
  EachPut called puts old new =
      (k : ℕ) (d : Stand D) → k < length new
      → Calls called (length (group_of (k + 1) puts)) (slice_index_or old k d).door (slice_index_or new k d).door
