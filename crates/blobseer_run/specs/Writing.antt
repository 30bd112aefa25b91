-- What is written of a text on the output, by the status.
use Rattle.std.specs.Prelude.{◌≡◌, ℕ, ◌<◌, List, [], ◌++◌, length, Option}
use Rattle.std.specs.Io.KnownBytes.{Appends}
use Rattle.faults.specs.Counts.{RoseBy}
use Rattle.blobseer_run.specs.Status.{done, write_fault, out_of_memory}

-- All of it was written, or only its beginning as a write failed, or nothing as no memory was found.
pub data WritesLine (line text : List ℕ) (writes writes' status : ℕ) : Type 0 where
  whole : (status ≡ done) → (text ≡ line) → WritesLine line text writes writes' status
  part : (status ≡ write_fault) → (rest : List ℕ) → (text ++ rest ≡ line) → 0 < length rest → RoseBy 1 writes writes' → WritesLine line text writes writes' status
  nothing : (status ≡ out_of_memory) → (text ≡ []) → WritesLine line text writes writes' status

-- The output got a text, which is what was written of the line.
pub record ToldLine (line : List ℕ) (written written' : Option (List ℕ)) (writes writes' status : ℕ) : Type 0 where
  pub text : List ℕ
  pub adds : Appends written written' text
  pub is_line : WritesLine line text writes writes' status
