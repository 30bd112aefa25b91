-- How many turns a finish takes that was done.
use Rattle.std.proofs.Common.{◌≡◌, ◌≤◌, sym, ◌∙◌, ℕ, ◌+◌, List, Result, Ok, Err, IfOk, arith}
use Rattle.blob_model.specs.History.{store_of}
use Rattle.blob_model.specs.declared.call.Event.{Event}
use Rattle.border_hints.specs.Numbered.{NumberedUpdate}
use Rattle.version_manager.specs.Desks.{IsTicketOf}
use Rattle.version_manager.specs.Log.{events, desk_at}
use Rattle.version_manager.specs.declared.journal.DeskFixed.{DeskFixed}
use Rattle.request_form.specs.Answers.{folds_in}
use Rattle.request_form.specs.declared.form.Fault.{Fault}
use Rattle.client_session.specs.declared.done.Updated.{Updated}
use Rattle.client_session.specs.declared.done.Updated.TheVariants as WholeUpdates
use Rattle.client_session.specs.Tickets.{OpenUpdate, IsHeldAt}
use Rattle.client_session.specs.TurnCounts.{UpTo, FinishTurns, FoldTurns, UpdateTurns, DoneTurns, IsNotDone, RowTurns, HeldTurns}
use Rattle.client_session.proofs.Folding.{folds_told}

pub held_turns : {A E : Type 0} (held : List OpenUpdate) (number index : ℕ) (at : IsHeldAt held number index) (said : Result A E) (before after : ℕ)
    → IfOk said (λ _. RowTurns at.update.row before after) → IfOk said (λ _. HeldTurns held number before after)
held_turns held number index at (Ok x) before after turns = record { index = index; at = at; turns = turns }
held_turns held number index at (Err fault) before after turns = tt

-- a finish by the ticket of the numbering, by the pages that the store says the update stores anew
pub finish_by_folds : (f : DeskFixed) (log : List (ℕ × Event)) (t : NumberedUpdate) (before after : ℕ) → 1 ≤ t.version → IsTicketOf (desk_at f log) t → FinishTurns t before after
    → FoldTurns (folds_in f.page_size (store_of f.limits (events log)) t.blob t.version) before after
finish_by_folds f log t before after some ticket (FinishTurns.at_once none is) = ((λ _. is), λ more. absurd (more (folds_told f log t some ticket ∙ none _ ticket.stands)))
finish_by_folds f log t before after some ticket (FinishTurns.anew folds is) = ((λ none. absurd (folds _ ticket.stands (sym (folds_told f log t some ticket) ∙ none))), λ _. is)

pub none_done : (said : Result Updated Fault) (folds : ℕ → List ℕ) (n before after : ℕ) → IsNotDone said → DoneTurns said folds n before after
none_done (Ok (WholeUpdates.Done done)) folds n before after not = absurd not
none_done (Ok (WholeUpdates.Held held)) folds n before after not = tt
none_done (Err fault) folds n before after not = tt

-- an update that was numbered and isn't done took the turns of its numbering, and at most two more
pub not_done_turns : (said : Result Updated Fault) (n before mid after : ℕ) → IsNotDone said → mid ≡ before + n → UpTo 2 mid after → UpdateTurns said n before after
not_done_turns (Ok (WholeUpdates.Done done)) n before mid after not is up = absurd not
not_done_turns (Ok (WholeUpdates.Held held)) n before mid after not is up = (omega (arith, is, up.least), omega (arith, is, up.most))
not_done_turns (Err fault) n before mid after not is up = record { least = omega (arith, is, up.least); most = omega (arith, is, up.most) }
