-- What a node keeps, and what it answers.
use Rattle.std.specs.Prelude.{◌≡◌, ◌⊎◌, ℕ, ◌+◌, ◌==◌, nat_lt, Bool, true, false, if◌then◌else◌, List, [], ◌∷◌, ◌++◌, length, slice_get, slice_range, Option, Some, None, Result}
use Rattle.std.specs.declared.result.Result.TheVariants.{Ok, Err}
use Rattle.page_node.specs.declared.form.NodeRequest.TheVariants as Requests
use Rattle.page_node.specs.declared.form.NodeFault.{NodeFault}
use Rattle.page_node.specs.declared.form.NodeFault.TheVariants as Faults
use Rattle.page_node.specs.declared.form.NodeHeard.{NodeHeard}
use Rattle.page_node.specs.declared.form.NodeHeard.TheVariants.{Asked, Wrong}
use Rattle.page_node.specs.declared.form.NodeReply.{NodeReply}
use Rattle.page_node.specs.declared.form.NodeReply.TheVariants as Replies

-- a node: the most bytes of a page, and the pages that were put, in the order of their puts
pub record Node : Type 0 where
  pub page_size : ℕ
  pub pages : List (List ℕ)

-- the reply to a put: the page's place, from 0, unless it has no bytes or too many
abbrev pub put_reply : Node → List ℕ → NodeReply
put_reply node bytes =
    if length bytes == 0 then Replies.Refused Faults.EmptyUpdate
    else if nat_lt node.page_size (length bytes) then Replies.Refused (Faults.UpdateTooLong (length bytes))
    else Replies.Kept (length node.pages)

-- the node after a put: the page is its last one, unless the put was refused
abbrev pub put_after : Node → List ℕ → Node
put_after node bytes =
    if length bytes == 0 then node
    else if nat_lt node.page_size (length bytes) then node
    else record { page_size = node.page_size; pages = node.pages ++ bytes ∷ [] }

-- the reply to a get of so many bytes of a page
abbrev pub page_reply : List ℕ → ℕ → ℕ → NodeReply
page_reply page from count =
    if nat_lt (length page) (from + count) then Replies.Refused (Faults.PastPage (from + count) (length page))
    else Replies.Given (slice_range page from (from + count))

-- the reply to a get, where a page has that id or none has it
abbrev pub found_reply : Option (List ℕ) → ℕ → ℕ → ℕ → NodeReply
found_reply None id from count = Replies.Refused (Faults.NoPage id)
found_reply (Some page) id from count = page_reply page from count

-- the reply to a get: the asked bytes of the page with that id
abbrev pub get_reply : Node → ℕ → ℕ → ℕ → NodeReply
get_reply node id from count = found_reply (slice_get node.pages id) id from count

-- the reply to a frame, where memory is found
abbrev pub reply_to : Node → NodeHeard → NodeReply
reply_to node (Asked (Requests.Put bytes)) = put_reply node bytes
reply_to node (Asked (Requests.Get id from count)) = get_reply node id from count
reply_to node (Asked Requests.Quit) = Replies.Bye
reply_to node (Wrong fault) = Replies.Refused fault

-- the node after it
abbrev pub node_after : Node → NodeHeard → Node
node_after node (Asked (Requests.Put bytes)) = put_after node bytes
node_after node (Asked (Requests.Get id from count)) = node
node_after node (Asked Requests.Quit) = node
node_after node (Wrong fault) = node

-- only a put and a get take memory
abbrev pub takes_memory : NodeHeard → Bool
takes_memory (Asked (Requests.Put bytes)) = true
takes_memory (Asked (Requests.Get id from count)) = true
takes_memory (Asked Requests.Quit) = false
takes_memory (Wrong fault) = false

abbrev pub is_quit : NodeHeard → Bool
is_quit (Asked (Requests.Put bytes)) = false
is_quit (Asked (Requests.Get id from count)) = false
is_quit (Asked Requests.Quit) = true
is_quit (Wrong fault) = false

-- no memory was found for a put or a get, and nothing changed
pub record FoundNone (node : Node) (heard : NodeHeard) (reply : NodeReply) (node' : Node) : Type 0 where
  pub takes : takes_memory heard ≡ true
  pub told : reply ≡ Replies.Refused Faults.NoMemory
  pub stays : node' ≡ node

-- A frame gets this reply, and leaves this node. Want of memory may stand for the reply to a put or to a get.
abbrev pub NodeAnswers : Node → NodeHeard → NodeReply → Node → Type 0
NodeAnswers node heard reply node' = ((reply ≡ reply_to node heard) × (node' ≡ node_after node heard)) ⊎ FoundNone node heard reply node'

-- the reply that the result of a put stands for
abbrev pub put_result : Result ℕ NodeFault → NodeReply
put_result (Ok id) = Replies.Kept id
put_result (Err fault) = Replies.Refused fault

-- a put of these bytes had this result
abbrev pub IsPut : Node → List ℕ → Result ℕ NodeFault → Node → Type 0
IsPut node bytes result node' = NodeAnswers node (Asked (Requests.Put bytes)) (put_result result) node'
