-- How a node's replies, and what it is asked, are framed.
use Rattle.std.specs.Prelude.{ℕ, List, [], ◌∷◌, ◌++◌}
use Rattle.frame_wire.specs.Said.{field, wide_field, frame_of}
use Rattle.page_node.specs.declared.form.NodeRequest.{NodeRequest}
use Rattle.page_node.specs.declared.form.NodeRequest.TheVariants as Requests
use Rattle.page_node.specs.declared.form.NodeFault.{NodeFault}
use Rattle.page_node.specs.declared.form.NodeFault.TheVariants as Faults
use Rattle.page_node.specs.declared.form.NodeReply.{NodeReply}
use Rattle.page_node.specs.declared.form.NodeReply.TheVariants as Replies

-- a refusal's number, and what was compared
abbrev pub fault_fields : NodeFault → List ℕ
fault_fields Faults.NoMemory = field 9
fault_fields Faults.EmptyUpdate = field 10
fault_fields (Faults.UpdateTooLong count) = field 11 ++ field count
fault_fields (Faults.NoPage id) = field 23 ++ field id
fault_fields (Faults.PastPage end count) = field 24 ++ (wide_field end ++ field count)
fault_fields (Faults.FrameTooLong count) = field 18 ++ field count
fault_fields Faults.BadFrame = field 19

-- a reply's operation, and its fields or bytes
abbrev pub reply_bytes : NodeReply → List ℕ
reply_bytes (Replies.Kept id) = 160 ∷ field id
reply_bytes (Replies.Given bytes) = 161 ∷ bytes
reply_bytes Replies.Bye = 141 ∷ []
reply_bytes (Replies.Refused fault) = 255 ∷ fault_fields fault

-- how a reply is written
abbrev pub said : NodeReply → List ℕ
said reply = frame_of (reply_bytes reply)

-- how a node is asked
abbrev pub asked : NodeRequest → List ℕ
asked (Requests.Put bytes) = frame_of (32 ∷ bytes)
asked (Requests.Get id from count) = frame_of (33 ∷ (field id ++ (field from ++ field count)))
asked Requests.Quit = frame_of (13 ∷ [])
