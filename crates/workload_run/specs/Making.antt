-- How the making of a blob ended.
use Rattle.std.specs.Prelude.{◌≡◌, List, [], ◌∷◌, Result, Ok, Err}
use Rattle.blob_model.specs.declared.call.Event.{Event}
use Rattle.blob_model.specs.declared.call.Event.TheVariants as Events
use Rattle.request_form.specs.Session.{Session}
use Rattle.request_form.specs.declared.form.Fault.{Fault}
use Rattle.workload_law.specs.Ends.{CreateHindered, Leaves}

-- the session did this, and holds no ticket
pub record HasDoneOwn (s : Session) (own : List Event) (s' : Session) : Type 0 where
  pub leaves : Leaves s own s'
  pub none_held : s'.tickets ≡ []

-- a blob wasn't made, and nothing was done
pub record HasNotMade (s : Session) (fault : Fault) (s' : Session) : Type 0 where
  pub left : HasDoneOwn s [] s'
  pub hindered : CreateHindered s.fixed.limits s.caller s.seen s'.seen fault

-- how the making of a blob ended
abbrev pub MakingEnds : {A : Type 0} → Result A Fault → Session → Session → Type 0
MakingEnds (Ok done) s s' = HasDoneOwn s (Events.Create s.caller ∷ []) s'
MakingEnds (Err fault) s s' = HasNotMade s fault s'
