-- What a write of a status's line leaves.
use Rattle.std.proofs.Common.{◌≡◌, ℕ, List, take, drop, sym, ◌∙◌, inl, inr, take-append-drop}
use Rattle.std.specs.Prelude.{Option}
use Rattle.std.specs.Io.KnownBytes.{Appends}
use Rattle.faults.specs.Counts.{RoseBy}
use Rattle.ports.specs.Stream.{appended_bytes, write_fault_count}
use Rattle.ports.specs.declared.stream.Written.{Written}
use Rattle.ports.specs.declared.stream.Written.TheVariants.{Whole, Failed}
use Rattle.blobseer_run.specs.Status.{error_line, Tells}

pub tells : (status : ℕ) (line : List ℕ) (result : Written) (written written' : Option (List ℕ)) (faults faults' : ℕ) → line ≡ error_line status →
    Appends written written' (appended_bytes line result) → RoseBy (write_fault_count result) faults faults' → Tells status written written' faults faults'
tells status line Whole written written' faults faults' e adds rose = record { text = line; adds = adds; is_line = inl e }
tells status line (Failed n) written written' faults faults' e adds rose = record {
  text = take n line;
  adds = adds;
  is_line = inr (drop n line, sym e ∙ sym (take-append-drop n line), rose);
}
