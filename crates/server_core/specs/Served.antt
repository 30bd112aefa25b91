-- How a stream of requests was served.
use Rattle.std.specs.Prelude.{ℕ, List}
use Rattle.request_form.specs.Stream.{Stream}
use Rattle.request_form.specs.declared.form.Reply.{Reply}
use Rattle.server_core.specs.declared.flow.End.{End}
use Rattle.server_core.specs.Progress.{Point, requests}
use Rattle.server_core.specs.Conversed.{Conversed}
pub use Rattle.server_core.specs.Conversed.{Input, TakesOff, CameToEnd, end_read_faults, end_write_faults, end_ends}

-- What a stream of requests was answered: the bytes that were taken, at most as many as the limit, the items in them that were answered, what of their
-- replies wasn't written, and what the end says of them.
abbrev pub Served : (Reply → List ℕ) → Point → (List ℕ → Stream) → Input → Input → ℕ → Point → End → Type 0
Served said old reads before after limit new end = Conversed (requests said) old reads before after limit new end
