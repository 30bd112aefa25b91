-- A link in memory with a node at its other end.
use Rattle.std.specs.Prelude.{◌≡◌, ◌⊎◌, ℕ, ◌+◌, ◌<◌, ◌≤◌, Bool, true, false, List, [], ◌∷◌, ◌++◌, length, take, drop, Option, Some, None}
use Rattle.items.specs.Items.{after_items}
use Rattle.items.specs.Rounds.{until_last, has_last}
use Rattle.items.specs.Taken.{IsOpen}
use Rattle.ports.specs.declared.stream.Written.{Written}
use Rattle.ports.specs.declared.stream.Written.TheVariants as Writtens
use Rattle.page_node.specs.declared.form.NodeHeard.{NodeHeard}
use Rattle.page_node.specs.declared.form.NodeReply.{NodeReply}
use Rattle.page_node.specs.Node.{Node, NodeAnswers, is_quit, reply_to}
use Rattle.page_node.specs.Frames.{heard}
use Rattle.page_node.specs.Said.{said}
use Rattle.page_node.specs.Transcript.{Says, NodeTranscript}
use Rattle.node_door.specs.Door.{DoorAt}

-- a link: what its node keeps, the bytes that were written to it, those of its replies that it gave and that are left, for how many bytes of each it
-- has room, and its counts of faults of writes and of ends
pub record LoopAt : Type 0 where
  pub node : Node
  pub written : List ℕ
  pub given : List ℕ
  pub left : List ℕ
  pub room : ℕ
  pub faults : ℕ
  pub ends : ℕ

-- a node of that page size that keeps nothing
abbrev pub new_node : ℕ → Node
new_node p = record { page_size = p; pages = [] }

-- a maker: the page size of its nodes, for how many bytes of either kind its links have room, and the faults of the doors that came back
pub record MakerAt : Type 0 where
  pub page_size : ℕ
  pub room : ℕ
  pub faults : ℕ

-- a link as it is made, with so much room, to a node of that page size
abbrev pub new_link : ℕ → ℕ → LoopAt
new_link page_size room = record { node = new_node page_size; written = []; given = []; left = []; room = room; faults = 0; ends = 0 }

-- a door to a provider over such a link, as it is made
abbrev pub new_door : ℕ → ℕ → DoorAt
new_door page_size provider = record {
  provider = provider;
  link = record { given = Some []; left = None; written = Some []; read_faults = 0; write_faults = 0; ends = 0 };
  room = page_size;
  own = [];
  spent = false;
  faults = 0;
}

-- what was there stays in front, and more may have come behind it
pub record IsBehind (old new : List ℕ) : Type 0 where
  pub more : List ℕ
  pub joins : new ≡ old ++ more

-- what the link gave, and then what is left, are the node's transcript of the whole frames that were written to it
abbrev pub Loops : LoopAt → Type 0
Loops link = NodeTranscript (new_node link.node.page_size) (heard link.written).whole (link.given ++ link.left) link.node

-- The frames that were written, the bytes of the one that isn't whole, and the replies.
pub record IsLooped (node : Node) (written begun replies : List ℕ) (quit : Bool) : Type 0 where
  pub items : List NodeHeard
  pub reads : (more : List ℕ) → heard (written ++ more) ≡ after_items items (heard (begun ++ more))
  pub part : IsOpen begun
  pub says : Says (new_node node.page_size) (until_last is_quit items) replies node
  pub quits : quit ≡ has_last is_quit items

-- A frame got a reply behind the others, or none, since it doesn't fit.
pub record Replied (item : NodeHeard) (room : ℕ) (old : Node) (replies : List ℕ) (new : Node) (replies' : List ℕ) (done : Bool) : Type 0 where
  pub answered : done ≡ true → (reply : NodeReply) × NodeAnswers old item reply new × (replies' ≡ replies ++ said reply)
  pub refused : done ≡ false → (new ≡ old) × (replies' ≡ replies) × (room < length replies + length (said (reply_to old item)))

-- Why bytes aren't taken: they don't fit, or the reply to the frame that their front makes whole doesn't.
abbrev pub WouldPass : LoopAt → List ℕ → Type 0
WouldPass link bytes = (link.room < length link.written + length bytes)
    ⊎ ((front : List ℕ) × (rest : List ℕ) × (item : NodeHeard) × (bytes ≡ front ++ rest) × ((heard (link.written ++ front)).whole ≡ (heard link.written).whole ++ item ∷ [])
    × (link.room < length (link.given ++ link.left) + length (said (reply_to link.node item))))

-- the node at the far end of a link: its shelf, the bytes that were written to it, those of its replies, and for how many of each there is room
pub record FarAt : Type 0 where
  pub node : Node
  pub written : List ℕ
  pub replies : List ℕ
  pub room : ℕ

-- why a far end takes no byte of these
abbrev pub PassesRoom : FarAt → List ℕ → Type 0
PassesRoom far bytes = (far.room < length far.written + length bytes)
    ⊎ ((front : List ℕ) × (rest : List ℕ) × (item : NodeHeard) × (bytes ≡ front ++ rest) × ((heard (far.written ++ front)).whole ≡ (heard far.written).whole ++ item ∷ [])
    × (far.room < length far.replies + length (said (reply_to far.node item))))

-- bytes of one frame were taken off the front, and a reply may have come
pub record TakesSome (old : FarAt) (bytes : List ℕ) (new : FarAt) (count : ℕ) : Type 0 where
  pub some : 0 < count
  pub within : count ≤ length bytes
  pub written : new.written ≡ old.written ++ take count bytes
  pub more : List ℕ
  pub replies : new.replies ≡ old.replies ++ more
  pub room : new.room ≡ old.room
  pub page_size : new.node.page_size ≡ old.node.page_size

abbrev pub TakesFront : FarAt → List ℕ → FarAt → Option ℕ → Type 0
TakesFront old bytes new (Some count) = TakesSome old bytes new count
TakesFront old bytes new None = (new ≡ old) × PassesRoom old bytes

-- a link whose node stands so, of whose replies so many bytes were given
abbrev pub link_at : FarAt → ℕ → ℕ → ℕ → LoopAt
link_at far at faults ends = record { node = far.node; written = far.written; given = take at far.replies; left = drop at far.replies; room = far.room; faults = faults; ends = ends }

-- Why a link takes no byte of these: the last reply wasn't read to its end, or they or the reply to them don't fit.
abbrev pub StopsAt : LoopAt → List ℕ → Type 0
StopsAt link bytes = ((link.left ≡ []) → ⊥) ⊎ WouldPass link bytes

-- so many bytes were taken off the front of those that are written
pub record Taken (old : LoopAt) (bytes : List ℕ) (new : LoopAt) (count : ℕ) : Type 0 where
  pub some : 0 < count
  pub within : count ≤ length bytes
  pub written : new.written ≡ old.written ++ take count bytes
  pub given : new.given ≡ old.given
  pub left : IsBehind old.left new.left
  pub page_size : new.node.page_size ≡ old.node.page_size
  pub room : new.room ≡ old.room
  pub faults : new.faults ≡ old.faults
  pub ends : new.ends ≡ old.ends

abbrev pub NextTaken : LoopAt → List ℕ → LoopAt → Option ℕ → Type 0
NextTaken old bytes new (Some count) = Taken old bytes new count
NextTaken old bytes new None = (new ≡ old) × StopsAt old bytes

-- why a write failed behind so many bytes
abbrev pub FailsAt : LoopAt → List ℕ → Written → Type 0
FailsAt link bytes Writtens.Whole = Unit {0}
FailsAt link bytes (Writtens.Failed count) = StopsAt link (drop count bytes)
