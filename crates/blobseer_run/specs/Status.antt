-- The statuses of a run, and the line that each puts on the error output.
use Rattle.std.specs.Prelude.{◌≡◌, ◌⊎◌, ℕ, ◌==◌, if◌then◌else◌, List, [], ◌++◌, Option, codes}
use Rattle.std.specs.Io.KnownBytes.{Appends}
use Rattle.faults.specs.Counts.{RoseBy}
use Rattle.blobseer_run.specs.declared.status.Status.{Status}
use Rattle.blobseer_run.specs.declared.status.Status.TheVariants as Statuses

abbrev pub done : ℕ
done = 0

abbrev pub words_refused : ℕ
words_refused = 1

abbrev pub settings_refused : ℕ
settings_refused = 2

abbrev pub read_fault : ℕ
read_fault = 3

abbrev pub write_fault : ℕ
write_fault = 4

abbrev pub out_of_memory : ℕ
out_of_memory = 5

abbrev pub listener_fault : ℕ
listener_fault = 6

abbrev pub input_too_long : ℕ
input_too_long = 7

abbrev pub load_ended_early : ℕ
load_ended_early = 8

-- the number of a status
abbrev pub code_of : Status → ℕ
code_of Statuses.Done = done
code_of Statuses.WordsRefused = words_refused
code_of Statuses.SettingsRefused = settings_refused
code_of Statuses.ReadFault = read_fault
code_of Statuses.WriteFault = write_fault
code_of Statuses.OutOfMemory = out_of_memory
code_of Statuses.ListenerFault = listener_fault
code_of Statuses.InputTooLong = input_too_long
code_of Statuses.LoadEndedEarly = load_ended_early

-- what a status puts on the error output
abbrev pub error_line : ℕ → List ℕ
error_line status =
    if status == words_refused then codes "blobseer: words refused\n"
    else (if status == settings_refused then codes "blobseer: settings refused\n"
    else (if status == read_fault then codes "blobseer: read fault\n"
    else (if status == write_fault then codes "blobseer: write fault\n"
    else (if status == out_of_memory then codes "blobseer: out of memory\n"
    else (if status == listener_fault then codes "blobseer: listener fault\n"
    else (if status == input_too_long then codes "blobseer: input too long\n"
    else (if status == load_ended_early then codes "blobseer: load ended early\n" else [])))))))

-- The error output got the status's line, or only its beginning where the count of faults rose.
pub record Tells (status : ℕ) (written written' : Option (List ℕ)) (faults faults' : ℕ) : Type 0 where
  pub text : List ℕ
  pub adds : Appends written written' text
  pub is_line : (text ≡ error_line status) ⊎ ((rest : List ℕ) × (error_line status ≡ text ++ rest) × RoseBy 1 faults faults')
