-- What the far end of a link in memory keeps.
use Rattle.std.specs.Prelude.{◌≤◌, length, drop, vec_len, vec_capacity}
use Rattle.node_door.specs.Loop.{IsLooped}
use Rattle.node_door.specs.declared.loop_link.FarEnd.TheInside.{Inside}

-- the replies are those to the whole frames that were written, and both fit
pub record FarKeeps (f : Inside) : Type 0 where
  pub looped : IsLooped f.shelf f.written.items (drop f.start f.written.items) f.replies.items f.quit
  pub started : f.start ≤ length f.written.items
  pub written_fits : vec_len f.written ≤ f.room
  pub written_room : f.room ≤ vec_capacity f.written
  pub replies_fit : vec_len f.replies ≤ f.room
  pub replies_room : f.room ≤ vec_capacity f.replies
