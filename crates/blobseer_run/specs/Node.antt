-- What the command `node` promises: frames are answered by a new node.
use Rattle.std.specs.Prelude.{ℕ, List, []}
use Rattle.page_node.specs.declared.form.NodeHeard.{NodeHeard}
use Rattle.page_node.specs.Node.{Node, is_quit}
use Rattle.page_node.specs.Frames.{heard}
use Rattle.page_node.specs.Transcript.{NodeTranscript}
use Rattle.blobseer_run.specs.Outside.{Outside, LeavesNet, LeavesDoors}
use Rattle.blobseer_run.specs.Conversation.{Dialogue, Conversed}

-- a node that keeps nothing yet
abbrev pub new_node : ℕ → Node
new_node page = record { page_size = page; pages = [] }

-- the text is a new node's transcript of these frames
pub record Says (page : ℕ) (items : List NodeHeard) (text : List ℕ) : Type 0 where
  pub last : Node
  pub transcript : NodeTranscript (new_node page) items text last

-- frames, up to a Quit, and the transcript of a new node for pages of that size
abbrev pub frames : ℕ → Dialogue NodeHeard
frames page = record { heard = heard; is_last = is_quit; Says = Says page }

-- Frames were answered by a new node for pages of that size, and the listener and the doors were left alone.
pub record DidNode (page : ℕ) (old new : Outside) (status : ℕ) : Type 0 where
  pub served : Conversed (frames page) old new status
  pub net : LeavesNet old new
  pub doors : LeavesDoors old new
