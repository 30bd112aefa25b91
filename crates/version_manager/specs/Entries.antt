-- What the stored history says.
use Rattle.std.specs.Prelude.{ℕ, List, ◌++◌, flat_map}
use Rattle.std.specs.declared.vec.Vec.{Vec}
use Rattle.std.specs.declared.alloc.Global.{Global}
use Rattle.std.specs.Arc.{arc_value}
use Rattle.page_store.specs.Stored.{bytes_of_pages}
use Rattle.blob_model.specs.declared.call.Event.{Event}
use Rattle.blob_model.specs.declared.call.Event.TheVariants as Events
use Rattle.version_manager.specs.declared.entry.Change.{Change}
use Rattle.version_manager.specs.declared.entry.Change.TheVariants as Changes
use Rattle.version_manager.specs.declared.entry.Entry.{Entry}

-- the event of a change by that caller: a numbering has the joined bytes of its pages
abbrev pub event_by : ℕ → Change → Event
event_by caller Changes.Create = Events.Create caller
event_by caller (Changes.Assign blob place pages) = Events.Assign caller blob place (bytes_of_pages (arc_value pages).pages)
event_by caller (Changes.Finish blob version) = Events.Finish caller blob version
event_by caller (Changes.Branch blob version) = Events.Branch caller blob version

-- the event of an entry
abbrev pub event_of : Entry → Event
event_of entry = event_by entry.caller entry.change

-- the entries of a history, the oldest first, and for how many more there is room
pub record StoredHistory : Type 0 where
  pub entries : List Entry
  pub room : ℕ

-- the entries of full chunks, and those of the last one
abbrev pub in_chunks : List (Vec Entry Global) → List Entry → List Entry
in_chunks full last = flat_map (λ (chunk : Vec Entry Global). chunk.items) full ++ last
