-- The rule of the table on which passes take turns. Word 0 counts the turns drawn, word 1 those passed on, both modulo 2^64, and word 2 the entries of the history.
-- A turn's number counts on without end. A pass's seat has the caller as its own number, and the owner's seat has 0.
use Rattle.std.specs.Prelude.{◌≡◌, ◌⊎◌, ℕ, ◌+◌, ◌%◌, ◌^◌, ◌<◌, ◌≤◌, List, [], ◌∷◌, ◌++◌, length, Some, None, Contains}
use mathlib.Core.Option.{some, none}
use mathlib.Core.Option as maybe
use lib.ListN.{get_elem?}
use Rattle.atomic_table.specs.Table.{State}
use Rattle.turn_lock.specs.declared.view.Known.{Known}
use Rattle.turn_lock.specs.declared.view.Stage.{Stage}
use Rattle.turn_lock.specs.declared.view.Stage.TheVariants.{Gone, Owns, Joins, Idle, Waits, Inside}
use Rattle.turn_lock.specs.History.{Log, entries_by, Begins, LacksUngiven}

module _ {E : Type 0} where
  -- the seat has drawn this number, and hasn't passed it on
  abbrev pub HasDrawn : ℕ → Stage E → Type 0
  HasDrawn n (Waits m) = m ≡ n
  HasDrawn n (Inside m) = m ≡ n
  HasDrawn n _ = ⊥

  -- 1 for a seat that has drawn a number
  abbrev pub numbers_of : Stage E → ℕ
  numbers_of (Waits n) = 1
  numbers_of (Inside n) = 1
  numbers_of _ = 0

  -- 1 for the seat of a pass that is in use
  abbrev pub uses_of : Stage E → ℕ
  uses_of Idle = 1
  uses_of (Waits n) = 1
  uses_of (Inside n) = 1
  uses_of _ = 0

  -- 1 for the seat whose turn it is
  abbrev pub turns_of : Stage E → ℕ
  turns_of (Inside n) = 1
  turns_of _ = 0

  -- past what was seen, the whole list has no entry of a caller that is kept
  abbrev pub HasAllKept : Log E → List ℕ → Log E → Type 0
  HasAllKept log kept seen = (c : ℕ) → Contains kept c → entries_by c log ≡ entries_by c seen

  -- the second list of a seat that joins is the whole list
  abbrev pub JoinsAll : Log E → Stage E → Type 0
  JoinsAll log (Joins g kept c also) = also ≡ log
  JoinsAll log _ = ⊥

abbrev pub total : {V : Type 0} → (V → ℕ) → List V → ℕ
total f [] = 0
total f (v ∷ vs) = f v + total f vs

-- What is true of the table and stands in no word
pub record Facts (E F : Type 0) : Type 0 where
  -- the whole list
  pub log : Log E
  pub fixed : F
  -- the number of the turn, and the next one to be drawn
  pub turn : ℕ
  pub drawn : ℕ
  -- the seat that has drawn a number
  pub holder : ℕ → ℕ
  -- how many callers were given, and those that the owner keeps
  pub given : ℕ
  pub kept : List ℕ
  -- 1 where the slot is out
  pub away : ℕ

module _ {E F : Type 0} where
  abbrev pub staged : Known E F → Stage E → Known E F
  staged v st = record { caller = v.caller; seen = v.seen; fixed = v.fixed; turns = v.turns; stage = st }

  -- the view of a seat that was taken back
  abbrev pub gone : Known E F
  gone = record { caller = 0; seen = []; fixed = None; turns = 0; stage = Gone }

  -- the owner's view at the start
  abbrev pub opener : F → Known E F
  opener f = record { caller = 0; seen = []; fixed = Some f; turns = 0; stage = Owns 0 [] }

  -- what was seen is a prefix of the whole list, and the fixed data are those of all
  abbrev pub IsTrueOf : Facts E F → Known E F → Type 0
  IsTrueOf w v = Begins v.seen w.log × (v.fixed ≡ Some w.fixed)

  -- a pass in use has its seat's number as its caller, and past what it has seen the whole list has no entry of this caller
  abbrev pub IsUsed : Facts E F → ℕ → Known E F → Type 0
  IsUsed w j v = (0 < j) × (v.caller ≡ j) × (entries_by j w.log ≡ entries_by j v.seen)

  -- How a seat stands, by its stage. One that waits has drawn a number, which is not below the turn's and is below the next to be drawn. The one that may enter has the turn's number, has seen the whole list, and the slot is out with it.
  abbrev pub Stands : Facts E F → ℕ → Known E F → Stage E → Type 0
  Stands w j v Gone = Unit {0}
  Stands w j v (Owns g kept) = IsTrueOf w v × (j ≡ 0) × (g ≡ w.given) × (kept ≡ w.kept) × HasAllKept w.log kept v.seen
  Stands w j v (Joins g kept c also) = IsTrueOf w v × (j ≡ 0) × (g ≡ w.given) × (kept ++ c ∷ [] ≡ w.kept) × HasAllKept w.log kept v.seen × Begins also w.log × (entries_by c w.log ≡ entries_by c also)
  Stands w j v Idle = IsTrueOf w v × IsUsed w j v
  Stands w j v (Waits n) = IsTrueOf w v × IsUsed w j v × (w.turn ≤ n) × (n < w.drawn) × (w.holder n ≡ j)
  Stands w j v (Inside n) = IsTrueOf w v × IsUsed w j v × (w.turn ≡ n) × (n < w.drawn) × (w.holder n ≡ j) × (v.seen ≡ w.log) × (w.away ≡ 1)

  abbrev pub KnowsAll : Log E → Known E F → Type 0
  KnowsAll log v = (v.seen ≡ log) ⊎ JoinsAll log v.stage

  abbrev pub numbers : Known E F → ℕ
  numbers v = numbers_of v.stage

  abbrev pub uses : Known E F → ℕ
  uses v = uses_of v.stage

  abbrev pub turns : Known E F → ℕ
  turns v = turns_of v.stage

module _ {S E F : Type 0} (history : S → Log E) (fixed : S → F) where
  -- the slot is at home: its state's history is all that was added, and its fixed data are the lock's
  abbrev pub IsHome : Facts E F → List (maybe.Option S) → Type 0
  IsHome w homes = (w.away ≡ 0) × ((x : S) × (homes ≡ some x ∷ []) × (history x ≡ w.log) × (fixed x ≡ w.fixed))

  abbrev pub IsOut : Facts E F → List (maybe.Option S) → Type 0
  IsOut w homes = (w.away ≡ 1) × (homes ≡ none ∷ [])

  -- The rule. Of every view, `each_seat` says what its stage asks.
  pub record IsKept (s : State S (Known E F)) : Type 0 where
    pub facts : Facts E F
    pub words : s.words ≡ (facts.drawn % 18446744073709551616) ∷ (facts.turn % 18446744073709551616) ∷ length facts.log ∷ []
    pub each_seat : (j : ℕ) (v : Known E F) → get_elem? s.views j ≡ some v → Stands facts j v v.stage
    -- Turns: each number from the turn's on that was drawn is held by one seat, which waits or may enter. The slot is out exactly where one may enter.
    pub all_waiting : total numbers s.views + facts.turn ≡ facts.drawn
    pub all_held : (n : ℕ) → facts.turn ≤ n → n < facts.drawn → (v : Known E F) × (get_elem? s.views (facts.holder n) ≡ some v) × HasDrawn n v.stage
    pub all_inside : total turns s.views ≡ facts.away
    -- Callers: each of those given, at most 1,024, is in use at its own seat or kept by the owner, and not both.
    pub most : facts.given ≤ 1024
    pub seats : length s.views ≡ facts.given + 1
    pub all_used : total uses s.views + length facts.kept ≡ facts.given
    pub each_kept : (c : ℕ) → Contains facts.kept c → get_elem? s.views c ≡ some gone
    pub each_given : (c : ℕ) → 0 < c → c ≤ facts.given → ((v : Known E F) × (get_elem? s.views c ≡ some v) × (uses_of v.stage ≡ 1)) ⊎ Contains facts.kept c
    -- The whole list: one view has seen it, and word 2 is its length.
    pub whole : (j : ℕ) × (v : Known E F) × (get_elem? s.views j ≡ some v) × KnowsAll facts.log v
    pub short : length facts.log < 2 ^ 38
    -- The state.
    pub slot : IsHome facts s.homes ⊎ IsOut facts s.homes
    -- Own entries: those of views in use and of callers that are kept stand in `Stands`.
    pub ungiven : LacksUngiven facts.given facts.log
