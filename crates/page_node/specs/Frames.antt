-- The grammar of a stream of frames to a node.
use Rattle.std.specs.Prelude.{ℕ, ◌==◌, if◌then◌else◌, List, [], ◌∷◌, length, Option, Some, None}
use Rattle.std.proofs.Common.{refl, lit<}
use Rattle.items.specs.Items.{ItemStream}
use Rattle.items.specs.Framing.{Framing, IsFraming, framed}
use Rattle.frame_wire.specs.Requests.{number_at}
use Rattle.frame_wire.specs.Frames.{max_frame}
use Rattle.page_node.specs.declared.form.NodeRequest.{NodeRequest}
use Rattle.page_node.specs.declared.form.NodeRequest.TheVariants.{Put, Get, Quit}
use Rattle.page_node.specs.declared.form.NodeFault.TheVariants.{FrameTooLong, BadFrame}
use Rattle.page_node.specs.declared.form.NodeHeard.{NodeHeard}
use Rattle.page_node.specs.declared.form.NodeHeard.TheVariants.{Asked, Wrong}

-- three numbers, and nothing else
abbrev pub get_of : List ℕ → Option NodeRequest
get_of fields = if length fields == 24 then Some (Get (number_at 0 fields) (number_at 8 fields) (number_at 16 fields)) else None

abbrev pub quit_of : List ℕ → Option NodeRequest
quit_of fields = if length fields == 0 then Some Quit else None

-- what an operation asks for, by the bytes behind it
abbrev pub operation_of : ℕ → List ℕ → Option NodeRequest
operation_of operation fields =
    if operation == 32 then Some (Put fields)
    else if operation == 33 then get_of fields
    else if operation == 13 then quit_of fields
    else None

-- what the bytes counted by a frame's length ask for
abbrev pub request_of : List ℕ → Option NodeRequest
request_of [] = None
request_of (operation ∷ fields) = operation_of operation fields

abbrev pub heard_as : Option NodeRequest → NodeHeard
heard_as (Some request) = Asked request
heard_as None = Wrong BadFrame

-- frames to a node: each asks for what it spells, and is bad where it spells nothing
abbrev pub node_frames : Framing NodeHeard
node_frames = record {
  limit = max_frame;
  too_long = λ count. Wrong (FrameTooLong count);
  bad = Wrong BadFrame;
  spelled = λ bytes. heard_as (request_of bytes);
}

-- no operation has the number 0
pub node_frames_hold : IsFraming node_frames
node_frames_hold = record { fits = lit< tt; empty = refl; zero = λ bytes. refl }

-- what a stream of frames to a node says
abbrev pub heard : List ℕ → ItemStream NodeHeard
heard bytes = framed node_frames bytes
