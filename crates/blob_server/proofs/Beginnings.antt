-- Beginnings of histories.
use Rattle.std.proofs.Common.{◌∙◌, ℕ, List, [], ◌++◌, ap, sym, append_assoc, append-nil}
use Rattle.std.proofs.lemmas.List.{map-append}
use Rattle.blob_model.specs.declared.call.Event.{Event}
use Rattle.turn_lock.specs.History.{Log, Begins}
use Rattle.version_manager.specs.Log.{events}
use Rattle.blob_server.specs.Serving.{IsBeginningOf}

-- all of a history is a beginning of it
pub begins_itself : (seen : List Event) → IsBeginningOf seen seen
begins_itself seen = ([], sym (append-nil seen))

-- a beginning of a beginning
pub begins_on : (seen mid history : List Event) → IsBeginningOf seen mid → IsBeginningOf mid history → IsBeginningOf seen history
begins_on seen mid history a b = (a.0 ++ b.0, b.1 ∙ (ap (λ (l : List Event). l ++ b.0) a.1 ∙ append_assoc seen a.0 b.0))

-- the events of entries that others begin with
pub events_begin : (log log' : Log Event) → Begins log log' → IsBeginningOf (events log) (events log')
events_begin log log' b = (events b.0, ap (λ (l : Log Event). events l) b.1 ∙ map-append (λ (x : ℕ × Event). x.1) log b.0)
