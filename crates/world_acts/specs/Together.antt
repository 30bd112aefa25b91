-- How sessions come together: the acts by which each event comes about, one event after another.
use Rattle.std.specs.Prelude.{◌≡◌, ◌⊎◌, ℕ, List, [], ◌∷◌, ◌++◌, flat_map}
use Rattle.blob_model.specs.Limits.{Bounds, IsWithin}
use Rattle.blob_model.specs.declared.call.Event.{Event}
use Rattle.blob_model.specs.declared.call.Event.TheVariants as Events
use Rattle.tree_geom.specs.Geometry.{IsPageSize}
use Rattle.tree_geom.specs.declared.range.Range.{Range}
use Rattle.blob_core.specs.World.{empty_world}
use Rattle.blob_core.specs.Steps.{AllAllowed, events_from}
use Rattle.blob_core.specs.declared.step.Step.{Step}
use Rattle.blob_core.specs.declared.step.Step.TheVariants as Moves
use Rattle.version_manager.specs.Log.{IsHistory}

-- a put before the event: of a page before a numbering, of a page that the update stores anew or of a node of its row before a finish
abbrev pub IsPutFor : Event → Step → Type 0
IsPutFor (Events.Create caller) step = ⊥
IsPutFor (Events.Assign caller blob place bytes) step = (page : ℕ) × ((part : List ℕ) × (step ≡ Moves.PagePut page part))
IsPutFor (Events.Finish caller blob version) step =
    ((page : ℕ) × (step ≡ Moves.FoldPut blob version page)) ⊎ ((range : Range) × (step ≡ Moves.NodePut (record { blob = blob; version = version; range = range })))
IsPutFor (Events.Branch caller blob version) step = ⊥

-- the step that is the event; that of a numbering names the pages
abbrev pub IsTurnOf : Event → Step → Type 0
IsTurnOf (Events.Create caller) step = step ≡ Moves.Create caller
IsTurnOf (Events.Assign caller blob place bytes) step = (pages : List ℕ) × (step ≡ Moves.Assign caller blob place pages)
IsTurnOf (Events.Finish caller blob version) step = step ≡ Moves.Finish caller blob version
IsTurnOf (Events.Branch caller blob version) step = step ≡ Moves.Branch caller blob version

-- each of these steps is such a put
abbrev pub ArePutsFor : Event → List Step → Type 0
ArePutsFor e [] = Unit {0}
ArePutsFor e (step ∷ steps) = IsPutFor e step × ArePutsFor e steps

-- what the session does that makes the event: puts, and then its turn
pub record IsActsOf (e : Event) (acts : List Step) : Type 0 where
  pub puts : List Step
  pub each : ArePutsFor e puts
  pub turn : Step
  pub is_turn : IsTurnOf e turn
  pub are : acts ≡ puts ++ turn ∷ []

-- the acts of each of these events
abbrev pub AreActs : List Event → List (List Step) → Type 0
AreActs [] acts = acts ≡ []
AreActs (e ∷ events) [] = ⊥
AreActs (e ∷ events) (own ∷ acts) = IsActsOf e own × AreActs events acts

-- those of one event after those of the one before it
abbrev pub in_turn : List (List Step) → List Step
in_turn acts = flat_map (λ (own : List Step). own) acts

-- A store that is closed has come to what its sessions' acts come to, one after another, from the empty world: those of each event are allowed where those of
-- the events before it were done, and their events are its history. So the acts of each session stand in them in its own order.
abbrev pub SessionsTogether : Type 0
SessionsTogether = (p : ℕ) (limits : Bounds) (history : List Event) → IsWithin limits → IsPageSize p → IsHistory p limits history
    → (acts : List (List Step)) × (AreActs history acts × (AllAllowed p (empty_world limits) (in_turn acts) × (events_from p (empty_world limits) (in_turn acts) ≡ history)))
