-- What a command over an input and an output that tell themselves comes to: no bytes are left to be asked for.
use Rattle.std.specs.Prelude.{◌≡◌, ℕ, ◌≤◌, List, [], length, Some}
use Rattle.request_form.specs.Session.{Fixed}
use Rattle.blobseer_run.specs.Outside.{Outside}
use Rattle.blobseer_run.specs.Conversation.{input_limit, Dialogue, Ended}
use Rattle.blobseer_run.specs.Script.{script, DidRun}

-- The input gave nothing before, and the output got nothing. Then it gave these bytes, and that text was put out.
pub record IsKnown (old new : Outside) (gave wrote : List ℕ) : Type 0 where
  pub none_given : old.given ≡ Some []
  pub none_written : old.written ≡ Some []
  pub gave_these : new.given ≡ Some gave
  pub wrote_this : new.written ≡ Some wrote

-- what was answered of all the bytes that the input gave, by all the text that the output got: only what of the replies wasn't written is left open
pub record IsAnswered {Item : Type 0} (d : Dialogue Item) (gave wrote : List ℕ) (old new : Outside) (status : ℕ) : Type 0 where
  pub within : length gave ≤ input_limit
  pub rest : List ℕ
  pub ended : Ended d gave wrote rest old new status

-- a script is answered so, by doors that are calm or aren't
abbrev pub ScriptsAreTold : Type 0 → Type 0
ScriptsAreTold calm = (fixed : Fixed) (old new : Outside) (status : ℕ) (gave wrote : List ℕ)
    → DidRun fixed calm old new status → IsKnown old new gave wrote → IsAnswered (script fixed calm old.doors new.doors) gave wrote old new status
