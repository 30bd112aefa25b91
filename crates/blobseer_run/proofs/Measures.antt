-- How a measure ended, from what its parts did.
use Rattle.std.proofs.Common.{◌≡◌, inl, inr, ℕ, List, [], refl, sym, subst}
use Rattle.std.specs.Prelude.{Option}
use Rattle.std.specs.Io.KnownBytes.{Appends}
use Rattle.std.proofs.KnownBytes.{Appends-nil}
use Rattle.blob_model.specs.declared.call.Event.{Event}
use Rattle.blobseer_run.specs.Outside.{Outside, LeavesInput, LeavesNet, Rises}
use Rattle.blobseer_run.specs.Measuring.{Measured, DidMeasure}
use Rattle.blobseer_run.specs.Writing.{WritesLine, ToldLine}
use Rattle.blobseer_run.specs.declared.status.Status.{Status}
use Rattle.blobseer_run.specs.Status.{code_of, out_of_memory, load_ended_early}
use Rattle.blobseer_run.proofs.Early.{IsEarly}

module _ (Came : List Event → Type 0) (lines : List ℕ) (old new : Outside) (input : LeavesInput old new) (net : LeavesNet old new) where
  pub whole_there : (told : List ℕ) (status : ℕ) → told ≡ lines → (history : List Event) → Came history → ToldLine told old.written new.written old.writes new.writes status
      → DidMeasure Came lines old new status
  whole_there told status is history came t = record {
    text = t.text;
    adds = t.adds;
    ended = Measured.whole (subst (λ (line : List ℕ). WritesLine line t.text old.writes new.writes status) is t.is_line) history came;
    input = input;
    net = net;
  }

  module _ (written : new.written ≡ old.written) where
    unwritten : (status : ℕ) → Measured Came lines [] old.doors new.doors old.writes new.writes status → DidMeasure Came lines old new status
    unwritten status measured =
        let P : Option (List ℕ) → Type 0 = λ o. Appends old.written o [] in
        record { text = []; adds = subst P (sym written) (Appends-nil old.written); ended = measured; input = input; net = net }

    pub starved_there : DidMeasure Came lines old new out_of_memory
    starved_there = unwritten out_of_memory (Measured.starved refl refl)

    early_there : Rises old.doors new.doors → DidMeasure Came lines old new load_ended_early
    early_there rose = unwritten load_ended_early (Measured.early refl rose refl)

    -- it was ended early
    pub ended_there : (status : Status) → IsEarly status old.doors new.doors → DidMeasure Came lines old new (code_of status)
    ended_there status (inl e) = subst (λ (s : Status). DidMeasure Came lines old new (code_of s)) (sym e) starved_there
    ended_there status (inr e) = subst (λ (s : Status). DidMeasure Came lines old new (code_of s)) (sym e.0) (early_there e.1)

-- the same of the same page size and the same plan
pub at_plan : {Plan : Type 0} (Did : ℕ → Plan → Outside → Outside → ℕ → Type 0) (page page' : ℕ) (plan plan' : Plan) (old new : Outside) (status : ℕ) → page ≡ page' → plan ≡ plan'
    → Did page plan old new status → Did page' plan' old new status
at_plan Did page page' plan plan' old new status same is did =
    subst (λ p. Did page' p old new status) is (subst (λ (n : ℕ). Did n plan old new status) same did)
