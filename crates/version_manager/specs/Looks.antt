-- The call on the store that a look at a blob is.
use Rattle.std.specs.Prelude.{ℕ}
use Rattle.blob_model.specs.declared.call.Call.{Call}
use Rattle.blob_model.specs.declared.call.Call.TheVariants as Calls
use Rattle.version_manager.specs.declared.look.Look.{Look}
use Rattle.version_manager.specs.declared.look.Look.TheVariants as Looks

abbrev pub look_call : Look → ℕ → Call
look_call Looks.Recent blob = Calls.Recent blob
look_call (Looks.Size version) blob = Calls.Size blob version
look_call (Looks.Sync version) blob = Calls.Sync blob version
look_call Looks.Status blob = Calls.Status blob
