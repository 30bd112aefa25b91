-- What each step on the table tells the seat that makes it, of its own view before and after.
use Rattle.std.specs.Prelude.{◌≡◌, ◌≢◌, ℕ, ◌+◌, ◌%◌, ◌<◌, ◌≤◌, List, [], ◌∷◌, ◌++◌, length, Some, Contains}
use Rattle.atomic_table.specs.Table.{Me, Step}
use Rattle.atomic_table.specs.declared.shared.Seat.{Seat}
use Rattle.turn_lock.specs.declared.view.Known.{Known}
use Rattle.turn_lock.specs.declared.view.Stage.{Stage}
use Rattle.turn_lock.specs.declared.view.Stage.TheVariants.{Owns, Joins, Idle, Waits, Inside}
use Rattle.turn_lock.specs.History.{Log, entries_by, Begins, Adds, longer, LacksUngiven}
use Rattle.turn_lock.specs.Turns.{staged}

-- A seat's view, and the slot where it is out with it
abbrev pub Sat : Type 0 → Type 0 → Type 0 → Type 0
Sat S E F = Me S (Known E F)

module _ {E : Type 0} where
  -- the number that a seat has drawn
  abbrev pub number_of : Stage E → ℕ
  number_of (Waits n) = n
  number_of (Inside n) = n
  number_of _ = 0

  abbrev pub given_of : Stage E → ℕ
  given_of (Owns g kept) = g
  given_of (Joins g kept c also) = g
  given_of _ = 0

  abbrev pub kept_of : Stage E → List ℕ
  kept_of (Owns g kept) = kept
  kept_of (Joins g kept c also) = kept
  kept_of _ = []

  -- of a seat that joins, the caller that it takes in
  abbrev pub joined_of : Stage E → ℕ
  joined_of (Joins g kept c also) = c
  joined_of _ = 0

  -- of a seat that joins, what that caller had seen
  abbrev pub also_of : Stage E → Log E
  also_of (Joins g kept c also) = also
  also_of _ = []

  -- one caller more is given
  abbrev pub dealt_stage : Stage E → Stage E
  dealt_stage (Owns g kept) = Owns (g + 1) kept
  dealt_stage st = st

  abbrev pub joining_stage : ℕ → Log E → Stage E → Stage E
  joining_stage c also (Owns g kept) = Joins g kept c also
  joining_stage c also st = st

  -- the caller that was taken in is kept
  abbrev pub settled_stage : Stage E → Stage E
  settled_stage (Joins g kept c also) = Owns g (kept ++ c ∷ [])
  settled_stage st = st

-- at rest after one turn more
abbrev pub rested : {E F : Type 0} → Known E F → Known E F
rested v = record { caller = v.caller; seen = v.seen; fixed = v.fixed; turns = v.turns + 1; stage = Idle }

module _ {S E F : Type 0} where
  -- draw: the seat waits with the number found
  abbrev pub drew : Step S → Sat S E F → ℕ → Sat S E F → Type 0
  drew st m r m' = (n : ℕ) × (r ≡ n % 18446744073709551616) × (m' ≡ (staged m.0 (Waits n), m.1))

  -- pass on: the slot is given back, and the seat is at rest after one turn more
  abbrev pub passed : Step S → Sat S E F → ℕ → Sat S E F → Type 0
  passed st m r m' = m' ≡ (rested m.0, [])

  module _ (history : S → Log E) where
    -- the seat has seen the state's history, and has the state
    abbrev pub entered : ℕ → Sat S E F → S → Sat S E F
    entered n m x = (record { caller = m.0.caller; seen = history x; fixed = m.0.fixed; turns = m.0.turns; stage = Inside n }, (0, x) ∷ m.1)

    -- others alone have added to what the seat had seen
    abbrev pub Enters : (S → F) → ℕ → Sat S E F → Sat S E F → Type 0
    Enters fixed n m m' =
        (x : S) × (m' ≡ entered n m x) × (m.0.fixed ≡ Some (fixed x)) × ((gap : Log E) × (history x ≡ m.0.seen ++ gap) × (entries_by m.0.caller gap ≡ []))

    -- look: the seat waits on, or enters where the number found is its own
    abbrev pub looked : (S → F) → Step S → Sat S E F → ℕ → Sat S E F → Type 0
    looked fixed st m r m' = (r ≢ number_of m.0.stage % 18446744073709551616 → m' ≡ m) × (r ≡ number_of m.0.stage % 18446744073709551616 → Enters fixed (number_of m.0.stage) m m')

    -- book: the seat has seen the history of the state that it has
    abbrev pub booked : Step S → Sat S E F → ℕ → Sat S E F → Type 0
    booked st m r m' = (x : S) → m.1 ≡ (0, x) ∷ [] → m' ≡ (record { caller = m.0.caller; seen = history x; fixed = m.0.fixed; turns = m.0.turns; stage = m.0.stage }, m.1)

  -- The second half of a join: the two lists of the seat that joins are one, which begins with both. It has of the caller taken in what that caller had seen, and of each caller kept before what this seat had seen.
  abbrev pub settled : Step S → Sat S E F → ℕ → Sat S E F → Type 0
  settled st m r m' =
      (m' ≡ (record { caller = m.0.caller; seen = longer m.0.seen (also_of m.0.stage); fixed = m.0.fixed; turns = m.0.turns; stage = settled_stage m.0.stage }, m.1))
      × Begins m.0.seen m'.0.seen × Begins (also_of m.0.stage) m'.0.seen × (entries_by (joined_of m.0.stage) m'.0.seen ≡ entries_by (joined_of m.0.stage) (also_of m.0.stage))
      × ((c : ℕ) → Contains (kept_of m.0.stage) c → entries_by c m'.0.seen ≡ entries_by c m.0.seen)
      × LacksUngiven (given_of m.0.stage) m'.0.seen × (length (kept_of m.0.stage) + 1 ≤ given_of m.0.stage)

module _ {E F : Type 0} where
  -- split: the owner has given one caller more
  abbrev pub dealt : Known E F → Known E F
  dealt v = staged v (dealt_stage v.stage)

  -- split: what the owner has seen and its fixed data are the new seat's too, whose caller is the next number
  abbrev pub newcomer : Known E F → Known E F
  newcomer v = record { caller = given_of v.stage + 1; seen = v.seen; fixed = v.fixed; turns = 0; stage = Idle }

  -- The first half of a join: the owner has the other's list beside its own, and keeps the caller.
  abbrev pub gathered : Known E F → Known E F → Known E F
  gathered v w = staged v (joining_stage w.caller w.seen v.stage)

  -- Between two turns
  abbrev pub IsIdle : {S : Type 0} → Sat S E F → ℕ → Type 0
  IsIdle m caller = (m.0.stage ≡ Idle) × (m.1 ≡ []) × (m.0.caller ≡ caller)

  -- So many callers were given, and so many of them are out
  abbrev pub IsOwner : {S : Type 0} → Sat S E F → ℕ → ℕ → Type 0
  IsOwner m made out = (m.0.stage ≡ Owns made (kept_of m.0.stage)) × (m.1 ≡ []) × (out + length (kept_of m.0.stage) ≡ made)

  -- the seat is the same
  abbrev pub Stays : {S : Type 0} → Seat S (Known E F) → Seat S (Known E F) → Type 0
  Stays p q = (q.table_id ≡ p.table_id) × (q.id ≡ p.id)

  -- What a turn tells of a pass that knew v and now knows w: others made the gap, and the history then ends with what the act added
  abbrev pub Turned : (Log E → F → Log E → Type 0) → Known E F → Known E F → Type 0
  Turned gives v w =
      (f : F) × (gap : Log E) × (v.fixed ≡ Some f) × (entries_by v.caller gap ≡ []) × Adds v.caller (v.seen ++ gap) w.seen × gives (v.seen ++ gap) f w.seen

  -- Of the owner's view at the end, where so many callers were given, and of the last state's history and fixed data
  abbrev pub Closes : ℕ → Known E F → Log E → F → Type 0
  Closes made v log f = (log ≡ v.seen) × (v.fixed ≡ Some f) × ((c : ℕ) → 0 < c → c ≤ made → Contains (kept_of v.stage) c)

-- the state x in the slot became y
abbrev pub Ran : {S E F : Type 0} → (S → Log E) → (S → F) → (Log E → F → Log E → Type 0) → Sat S E F → Sat S E F → ℕ → S → S → Type 0
Ran history fixed gives m m' added x y =
    (m.1 ≡ (0, x) ∷ []) × (m' ≡ (m.0, (0, y) ∷ [])) × Adds m.0.caller (history x) (history y) × (fixed y ≡ fixed x) × gives (history x) (fixed x) (history y) × (length (history y) ≡ length (history x) + added)
