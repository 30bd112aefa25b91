-- The node transcript: what a node answers to a stream of frames.
use Rattle.std.specs.Prelude.{◌≡◌, ℕ, ◌<◌, true, List, ◌++◌, length, flat_map, Option}
use Rattle.items.specs.Items.{ItemStream}
use Rattle.items.specs.Rounds.{until_last, has_last, Rounds}
use Rattle.server_core.specs.Talk.{Talk}
use Rattle.server_core.specs.Conversing.{AnswersFront}
use Rattle.server_core.specs.Conversed.{Input, Conversed, EndsExactly}
use Rattle.server_core.specs.declared.flow.End.{End}
use Rattle.server_core.specs.declared.flow.End.TheVariants as Ends
use Rattle.page_node.specs.declared.form.NodeHeard.{NodeHeard}
use Rattle.page_node.specs.declared.form.NodeReply.{NodeReply}
use Rattle.page_node.specs.Node.{Node, NodeAnswers, is_quit}
use Rattle.page_node.specs.Frames.{heard}
use Rattle.page_node.specs.Said.{said}

-- the talk with a node: no reply tells of a fault of the outside
abbrev pub node_talk : Talk NodeHeard
node_talk = record {
  Reply = NodeReply;
  Session = Node;
  Answers = NodeAnswers;
  is_last = is_quit;
  fault_count = λ shelf item reply. 0;
  said = said;
  IsWell = λ heard. Unit {0};
}

-- The text is what the node says to these items, one reply to each, and it leaves this node.
pub record Says (node : Node) (items : List NodeHeard) (text : List ℕ) (node' : Node) : Type 0 where
  pub replies : List NodeReply
  pub run : Rounds NodeAnswers node items replies node'
  pub says : flat_map said replies ≡ text

-- The text is the transcript of these items: replies to all of them, up to a quit.
abbrev pub NodeTranscript : Node → List NodeHeard → List ℕ → Node → Type 0
NodeTranscript node items text node' = Says node (until_last is_quit items) text node'

-- The text is a front of a transcript: the node answered the first of these items, and more was to be written.
pub record NodeFront (node : Node) (items : List NodeHeard) (text more : List ℕ) (node' : Node) : Type 0 where
  pub answered : List NodeHeard
  pub first : AnswersFront is_quit items answered
  pub says : Says node answered (text ++ more) node'

-- what was written by each end
abbrev pub WroteNode : Node → ItemStream NodeHeard → List ℕ → Node → End → Type 0
WroteNode node stream text node' Ends.Quit = NodeTranscript node stream.items text node' × (has_last is_quit stream.items ≡ true)
WroteNode node stream text node' Ends.InputEnd = NodeTranscript node stream.items text node'
WroteNode node stream text node' Ends.Cut = NodeTranscript node stream.whole text node'
WroteNode node stream text node' Ends.ReadFault = NodeTranscript node stream.whole text node'
WroteNode node stream text node' Ends.InputTooLong = NodeTranscript node stream.whole text node'
WroteNode node stream text node' Ends.WriteFault = (more : List ℕ) × (0 < length more) × NodeFront node stream.items text more node'
WroteNode node stream text node' Ends.NoMemory = (more : List ℕ) × NodeFront node stream.items text more node'

-- How a stream was served: the bytes that were taken, what was answered to them, and what the end says. The text that was written is the node's
-- transcript of them, or a front of it, and each end comes in each case that it stands for.
pub record ServedNode (old : Node) (written : Option (List ℕ)) (before after : Input) (limit : ℕ) (new : Node) (written' : Option (List ℕ)) (end : End) : Type 0 where
  pub conversed : Conversed node_talk (record { session = old; faults = 0; written = written }) heard before after limit (record { session = new; faults = 0; written = written' }) end
  pub wrote : WroteNode old (heard conversed.taken) conversed.progress.out new end
  pub exactly : EndsExactly is_quit (heard conversed.taken) (length conversed.taken) limit conversed.items conversed.rest before.ends after.ends end
