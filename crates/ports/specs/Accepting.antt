-- What is done after an accept that gave no connection.
use Rattle.std.specs.Prelude.{◌≡◌, ◌⊎◌, ℤ, pos, Bool, true, false, Option, Some}
use Rattle.std.specs.declared.io.ErrorKind.{ErrorKind}
use Rattle.std.specs.declared.io.ErrorKind.TheVariants as Kinds
use Rattle.ports.specs.declared.accept.Retry.{Retry}
use Rattle.ports.specs.declared.accept.Retry.TheVariants as Retries

-- the system's numbers for too many open files in it, too many open files in this process, and no room for buffers
abbrev pub IsShort : Option ℤ → Type 0
IsShort number = (number ≡ Some (pos 23)) ⊎ ((number ≡ Some (pos 24)) ⊎ (number ≡ Some (pos 105)))

-- an error that has no kind of its own
abbrev pub retry_other : Bool → Retry
retry_other true = Retries.AfterRest
retry_other false = Retries.Never

-- when the next accept is tried, by the kind of the error and by whether its number says that files or buffers are lacking
abbrev pub retry_of : ErrorKind → Bool → Retry
retry_of Kinds.Interrupted short = Retries.AtOnce
retry_of Kinds.ConnectionAborted short = Retries.AtOnce
retry_of Kinds.ConnectionReset short = Retries.AtOnce
retry_of Kinds.TimedOut short = Retries.AtOnce
retry_of Kinds.HostUnreachable short = Retries.AtOnce
retry_of Kinds.NetworkUnreachable short = Retries.AtOnce
retry_of Kinds.NetworkDown short = Retries.AtOnce
retry_of Kinds.OutOfMemory short = Retries.AfterRest
retry_of Kinds.Uncategorized short = retry_other short
retry_of _ short = Retries.Never
