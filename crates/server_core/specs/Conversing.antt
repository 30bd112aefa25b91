-- What goes on while the items of a stream are answered.
use Rattle.std.specs.Prelude.{◌≡◌, ◌⊎◌, ℕ, ◌<◌, Bool, true, false, List, [], ◌∷◌, ◌++◌, length, flat_map, Option}
use Rattle.std.specs.Io.KnownBytes.{Appends}
use Rattle.faults.specs.Counts.{RoseBy}
use Rattle.items.specs.Items.{ItemStream, after_items}
use Rattle.items.specs.Rounds.{until_last, has_last, Rounds, sum_rounds}
use Rattle.server_core.specs.Talk.{Talk, PointOf}
use Rattle.server_core.specs.declared.flow.Flow.{Flow}
use Rattle.server_core.specs.declared.flow.Flow.TheVariants as Flows

-- From one point, where these bytes were held, to the next these items were answered, one reply each. What was written is what was held and then all
-- that was to be said, but the rest.
pub record Progress {Item : Type 0} (talk : Talk Item) (held : List ℕ) (old : PointOf talk.Session) (items : List Item) (rest : List ℕ) (new : PointOf talk.Session) : Type 0 where
  pub replies : List talk.Reply
  pub out : List ℕ
  pub run : Rounds talk.Answers old.session items replies new.session
  pub faults : RoseBy (sum_rounds talk.fault_count talk.Answers old.session items replies new.session run) old.faults new.faults
  pub adds : Appends old.written new.written out
  pub says : held ++ flat_map talk.said replies ≡ out ++ rest

-- what was held and then a text were written, but the rest
pub record Writes (held text : List ℕ) (old new : Option (List ℕ)) (rest : List ℕ) : Type 0 where
  pub out : List ℕ
  pub joins : held ++ text ≡ out ++ rest
  pub adds : Appends old new out

-- these are the first of the items up to the last one
abbrev pub AnswersFront : {Item : Type 0} → (Item → Bool) → List Item → List Item → Type 0
AnswersFront {Item = Item} is_last heard items = (later : List Item) × (until_last is_last heard ≡ items ++ later)

-- these are the items up to the last one, and there is one
abbrev pub IsQuitBy : {Item : Type 0} → (Item → Bool) → List Item → List Item → Type 0
IsQuitBy is_last items heard = (until_last is_last heard ≡ items) × (has_last is_last heard ≡ true)

-- the items that were answered, none of them the last, what is held of their replies, and what is still to be heard after them
pub record Goes {Item : Type 0} (talk : Talk Item) (old : PointOf talk.Session) (before : List ℕ → ItemStream Item) (held : List ℕ) (new : PointOf talk.Session) (after : List ℕ → ItemStream Item) : Type 0 where
  pub items : List Item
  pub progress : Progress talk [] old items held new
  pub goes : has_last talk.is_last items ≡ false
  pub reads : (more : List ℕ) → before more ≡ after_items items (after more)

-- the items up to the last one, however the stream goes on, and what is held of their replies
pub record Quits {Item : Type 0} (talk : Talk Item) (old : PointOf talk.Session) (before : List ℕ → ItemStream Item) (held : List ℕ) (new : PointOf talk.Session) : Type 0 where
  pub items : List Item
  pub progress : Progress talk [] old items held new
  pub reads : (more : List ℕ) → IsQuitBy talk.is_last items (before more).items
  pub whole : (more : List ℕ) → IsQuitBy talk.is_last items (before more).whole

-- the items up to where it stopped, and what of their replies wasn't written
pub record Stops {Item : Type 0} (talk : Talk Item) (old : PointOf talk.Session) (before : List ℕ → ItemStream Item) (rest : List ℕ) (new : PointOf talk.Session) : Type 0 where
  pub items : List Item
  pub progress : Progress talk [] old items rest new
  pub reads : (more : List ℕ) → AnswersFront talk.is_last (before more).items items
  pub whole : (more : List ℕ) → AnswersFront talk.is_last (before more).whole items

-- Each whole item was answered, unless it stopped at one. The replies that aren't held were written.
abbrev pub IsDrained : {Item : Type 0} → (talk : Talk Item) → PointOf talk.Session → (List ℕ → ItemStream Item) → List ℕ → PointOf talk.Session → (List ℕ → ItemStream Item) → Flow → Type 0
IsDrained talk old before held new after Flows.Goes = Goes talk old before held new after × ((after []).whole ≡ [])
IsDrained talk old before held new after Flows.Quits = Quits talk old before held new
IsDrained talk old before held new after Flows.WriteFault = (rest : List ℕ) × (0 < length rest) × Stops talk old before rest new
IsDrained talk old before held new after Flows.NoMemory = (unsaid : List ℕ) × Stops talk old before (held ++ unsaid) new

-- one item was answered where some replies were held
abbrev pub IsAnswered : {Item : Type 0} → (talk : Talk Item) → List ℕ → PointOf talk.Session → Item → List ℕ → PointOf talk.Session → Flow → Type 0
IsAnswered talk held old heard held' new Flows.Goes = Progress talk held old (heard ∷ []) held' new × (talk.is_last heard ≡ false)
IsAnswered talk held old heard held' new Flows.Quits = Progress talk held old (heard ∷ []) held' new × (talk.is_last heard ≡ true)
IsAnswered talk held old heard held' new Flows.WriteFault = (rest : List ℕ) × (0 < length rest) × Progress talk held old (heard ∷ []) rest new
IsAnswered talk held old heard held' new Flows.NoMemory = (unsaid : List ℕ) × Progress talk held old (heard ∷ []) (held' ++ unsaid) new

-- What became of a text where some were held: it is written, or held, after what was held. It never quits.
abbrev pub IsPut : List ℕ → List ℕ → Option (List ℕ) → List ℕ → Option (List ℕ) → Flow → Type 0
IsPut held text old held' new Flows.Goes = Writes held text old new held'
IsPut held text old held' new Flows.Quits = ⊥
IsPut held text old held' new Flows.WriteFault = (rest : List ℕ) × (0 < length rest) × Writes held text old new rest
IsPut held text old held' new Flows.NoMemory = (unsaid : List ℕ) × Writes held text old new (held' ++ unsaid)

-- all that was held was written, or a write failed
abbrev pub IsFlushed : List ℕ → Option (List ℕ) → Option (List ℕ) → Flow → Flow → Type 0
IsFlushed held old new flow after = ((after ≡ flow) × Writes held [] old new []) ⊎ ((after ≡ Flows.WriteFault) × ((rest : List ℕ) × (0 < length rest) × Writes held [] old new rest))

-- What becomes of what is held after a step, and of the step: it is written, unless a write has failed. Want of memory stays.
abbrev pub IsSettled : List ℕ → Option (List ℕ) → Option (List ℕ) → Flow → Flow → Type 0
IsSettled held old new Flows.Goes after = IsFlushed held old new Flows.Goes after
IsSettled held old new Flows.Quits after = IsFlushed held old new Flows.Quits after
IsSettled held old new Flows.WriteFault after = (after ≡ Flows.WriteFault) × (new ≡ old)
IsSettled held old new Flows.NoMemory after = (after ≡ Flows.NoMemory) × ((rest : List ℕ) × Writes held [] old new rest)

-- the faults of writes that a step tells of
abbrev pub flow_write_faults : Flow → ℕ
flow_write_faults Flows.Goes = 0
flow_write_faults Flows.Quits = 0
flow_write_faults Flows.WriteFault = 1
flow_write_faults Flows.NoMemory = 0
