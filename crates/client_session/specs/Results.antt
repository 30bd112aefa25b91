-- What a session says of the faults of the layers below, and the reply that each result of its calls is.
use Rattle.std.specs.Prelude.{ℕ, List, Option, Some, None, Result, Ok, Err}
use Rattle.blob_model.specs.declared.call.Place.{Place}
use Rattle.snapshot.specs.Versions.{Version}
use Rattle.page_fan.specs.declared.storing.StoreFault.{StoreFault}
use Rattle.page_fan.specs.declared.storing.StoreFault.TheVariants as StoreFaults
use Rattle.tree_weaver.specs.declared.folding.WeaveFault.{WeaveFault}
use Rattle.tree_weaver.specs.declared.folding.WeaveFault.TheVariants as WeaveFaults
use Rattle.range_reader.specs.Ranges.{first_end_past}
use Rattle.range_reader.specs.declared.ranges.RangeFault.{RangeFault}
use Rattle.range_reader.specs.declared.ranges.RangeFault.TheVariants as RangeFaults
use Rattle.version_manager.specs.declared.fault.DeskFault.{DeskFault}
use Rattle.version_manager.specs.declared.fault.DeskFault.TheVariants as DeskFaults
use Rattle.version_manager.specs.declared.fault.OpenFault.{OpenFault}
use Rattle.version_manager.specs.declared.fault.OpenFault.TheVariants as OpenFaults
use Rattle.request_form.specs.Replies.{fault_of, update_reply, start_reply}
use Rattle.request_form.specs.declared.form.Fault.{Fault}
use Rattle.request_form.specs.declared.form.Fault.TheVariants as Faults
use Rattle.request_form.specs.declared.form.Reply.{Reply}
use Rattle.request_form.specs.declared.form.Reply.TheVariants as Replies
use Rattle.client_session.specs.declared.done.Started.{Started}
use Rattle.client_session.specs.declared.done.Updated.{Updated}
use Rattle.client_session.specs.declared.done.Updated.TheVariants as WholeUpdates

-- what a session says of the desk's fault
abbrev pub desk_fault : DeskFault → Fault
desk_fault (DeskFaults.Refused refusal) = fault_of refusal
desk_fault DeskFaults.NoMemory = Faults.NoMemory

-- what it says of the desk's answer
abbrev pub told_of : Result ℕ DeskFault → Result ℕ Fault
told_of (Ok number) = Ok number
told_of (Err fault) = Err (desk_fault fault)

-- what it says of a version that the desk didn't open
abbrev pub open_fault : OpenFault → Fault
open_fault (OpenFaults.Refused refusal) = fault_of refusal
open_fault (OpenFaults.NoMemory size) = Faults.NoMemory

-- what it says of the desk's snapshot
abbrev pub opened_of : Result Version OpenFault → Result Version Fault
opened_of (Ok version) = Ok version
opened_of (Err fault) = Err (open_fault fault)

-- what it says where no memory was found for a version of that size, and where the first of the ranges ends that ends past it, if one does
abbrev pub starved_fault : ℕ → Option ℕ → Fault
starved_fault size (Some end) = Faults.RangePastSize end size
starved_fault size None = Faults.NoMemory

-- what it says of ranges of a version that the desk didn't open
abbrev pub unread_fault : OpenFault → List (ℕ × ℕ) → Fault
unread_fault (OpenFaults.Refused refusal) ranges = fault_of refusal
unread_fault (OpenFaults.NoMemory size) ranges = starved_fault size (first_end_past size ranges)

-- what it says where an update's pages were not stored
abbrev pub store_fault : StoreFault → Fault
store_fault (StoreFaults.PageFault page before) = Faults.PageFault page
store_fault StoreFaults.NoMemory = Faults.NoMemory

-- what it says where an update was not woven
abbrev pub weave_fault : WeaveFault → Fault
weave_fault (WeaveFaults.PageFault page) = Faults.PageFault page
weave_fault WeaveFaults.NoMemory = Faults.NoMemory

-- what it says where a range was not read
abbrev pub range_fault : RangeFault → Fault
range_fault (RangeFaults.RangePastSize end size) = Faults.RangePastSize end size
range_fault (RangeFaults.PageFault page) = Faults.PageFault page
range_fault RangeFaults.NoMemory = Faults.NoMemory

-- what it says of a range
abbrev pub range_of : Result (List ℕ) RangeFault → Result (List ℕ) Fault
range_of (Ok bytes) = Ok bytes
range_of (Err fault) = Err (range_fault fault)

-- ---- the reply that each result of its calls is
abbrev pub create_reply : Result ℕ Fault → Reply
create_reply (Ok blob) = Replies.Created blob
create_reply (Err fault) = Replies.Refused fault

abbrev pub branch_reply : Result ℕ Fault → Reply
branch_reply (Ok blob) = Replies.Branched blob
branch_reply (Err fault) = Replies.Refused fault

abbrev pub finish_reply : Result ℕ Fault → Reply
finish_reply (Ok published) = Replies.Finished published
finish_reply (Err fault) = Replies.Refused fault

abbrev pub read_reply : Result (List ℕ) Fault → Reply
read_reply (Ok bytes) = Replies.Content bytes
read_reply (Err fault) = Replies.Refused fault

abbrev pub contents_reply : Result (List ℕ) Fault → Reply
contents_reply (Ok bytes) = Replies.Contents bytes
contents_reply (Err fault) = Replies.Refused fault

-- of an update that any session may finish
abbrev pub repair_reply : Result ℕ Fault → Reply
repair_reply (Ok published) = Replies.Repaired published
repair_reply (Err fault) = Replies.Refused fault

-- of an update at that place
abbrev pub started_reply : Place → Result Started Fault → Reply
started_reply place (Ok started) = start_reply place started.ticket started.version started.at started.size
started_reply place (Err fault) = Replies.Refused fault

abbrev pub updated_reply : Place → Result Updated Fault → Reply
updated_reply place (Ok (WholeUpdates.Done done)) = update_reply place done.version done.at done.size
updated_reply place (Ok (WholeUpdates.Held started)) = start_reply place started.ticket started.version started.at started.size
updated_reply place (Err fault) = Replies.Refused fault
