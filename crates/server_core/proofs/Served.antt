-- A stream of requests of which nothing was served.
use Rattle.std.proofs.Common.{◌≡◌, ℕ, List, []}
use Rattle.request_form.specs.Stream.{Stream}
use Rattle.request_form.specs.declared.form.Reply.{Reply}
use Rattle.server_core.specs.declared.flow.End.TheVariants as Ends
use Rattle.server_core.specs.Progress.{Point, requests}
use Rattle.server_core.specs.Served.{Input, Served}
use Rattle.server_core.proofs.Conversed.{Conversed-none}

pub Served-none : (said : Reply → List ℕ) (old : Point) (reads : List ℕ → Stream) (before : Input) (limit : ℕ) → (reads []).whole ≡ [] → Served said old reads before before limit old Ends.NoMemory
Served-none said old reads before limit none = Conversed-none (requests said) old reads before limit none
