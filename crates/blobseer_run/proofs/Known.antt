-- What an input and an output tell that told themselves before.
use Rattle.std.proofs.Common.{◌≡◌, ℕ, ◌≤◌, List, [], length, Option, Some, sym, subst}
use Rattle.std.specs.Io.KnownBytes.{Appends}
use Rattle.blobseer_run.specs.Outside.{Outside}
use Rattle.blobseer_run.specs.Conversation.{input_limit, Dialogue, Ended, Conversed}
use Rattle.blobseer_run.specs.Known.{IsKnown, IsAnswered}

-- what was known to be none is what it grew by
grown : (old new : Option (List ℕ)) (bs xs : List ℕ) → old ≡ Some [] → new ≡ Some xs → Appends old new bs → bs ≡ xs
grown old new bs xs none is grew = sym (subst (λ (o : Option (List ℕ)). Appends (Some []) o bs) is (subst (λ (o : Option (List ℕ)). Appends o new bs) none grew))

pub answered : {Item : Type 0} (d : Dialogue Item) (old new : Outside) (status : ℕ) (gave wrote : List ℕ) → Conversed d old new status → IsKnown old new gave wrote → IsAnswered d gave wrote old new status
answered d old new status gave wrote held known =
    let taken : held.taken ≡ gave = grown old.given new.given held.taken gave known.none_given known.gave_these held.takes.gave in
    let text : held.text ≡ wrote = grown old.written new.written held.text wrote known.none_written known.wrote_this held.adds in
    record {
      within = subst (λ (l : List ℕ). length l ≤ input_limit) taken held.within;
      rest = held.rest;
      ended = subst (λ (l : List ℕ). Ended d gave l held.rest old new status) text (subst (λ (l : List ℕ). Ended d l held.text held.rest old new status) taken held.ended);
    }
