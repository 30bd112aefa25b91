-- Worked rows of own events and of hanging up, computed from the definitions.
use Rattle.std.specs.Prelude.{◌≡◌, List, [], ◌∷◌, ◌++◌, refl}
use Rattle.blob_model.specs.Limits.{greatest}
use Rattle.blob_model.specs.declared.call.Event.{Event}
use Rattle.blob_model.specs.declared.call.Event.TheVariants as Events
use Rattle.blob_model.specs.declared.call.Place.TheVariants.{WriteAt, Append}
use Rattle.request_form.specs.declared.form.Request.{Request}
use Rattle.request_form.specs.declared.form.Request.TheVariants as Requests
use Rattle.request_form.specs.declared.form.Reply.{Reply}
use Rattle.request_form.specs.declared.form.Reply.TheVariants as Replies
use Rattle.request_form.specs.declared.form.Fault.TheVariants as Faults
use Rattle.request_form.specs.Session.{Session, IsNobody, sees, drops}
use Rattle.request_form.specs.Transcript.{first_session}
use Rattle.request_form.specs.Own.{events_made}
use Rattle.range_log.specs.Depths.{fold_number, depth_by}
use Rattle.range_log.specs.Extents.{touches}
use Rattle.range_log.specs.Rows.{folds_by}
use Rattle.range_log.specs.Updates.{extents}
use Rattle.request_form.specs.Answers.{FinishTurn}
use Rattle.request_form.specs.HangUp.{HungUp, begins_anew, finishes_made}
use Rattle.request_form.proofs.Told.{request_told}

abbrev alone : Session
alone = first_session (record { limits = greatest; page = 4 }) 1

abbrev told_after : Session → List Request → Session
told_after s [] = s
told_after s (r ∷ rs) = told_after (request_told s r).next rs

abbrev made_after : Session → List Request → List Event
made_after s [] = []
made_after s (r ∷ rs) = events_made s r (request_told s r).reply ++ made_after (request_told s r).next rs

-- what is refused, looked at or given up before makes no event; all that a session alone sees is its own
abbrev row : List Request
row =
    Requests.Create ∷ Requests.StartAppend 1 (170 ∷ []) ∷ Requests.Append 1 (187 ∷ 204 ∷ []) ∷ Requests.Sync 1 2 ∷ Requests.Append 7 (1 ∷ []) ∷ Requests.Finish 1
    ∷ Requests.Finish 1 ∷ Requests.Write 1 0 (1 ∷ []) ∷ Requests.StartWrite 1 1 (2 ∷ []) ∷ Requests.Read 1 3 0 3 ∷ Requests.Branch 1 3 ∷ Requests.Branch 1 4 ∷ Requests.Quit ∷ []

abbrev row_events : List Event
row_events =
    Events.Create 1 ∷ Events.Assign 1 1 Append (170 ∷ []) ∷ Events.Assign 1 1 Append (187 ∷ 204 ∷ []) ∷ Events.Finish 1 1 2 ∷ Events.Finish 1 1 1
    ∷ Events.Assign 1 1 (WriteAt 0) (1 ∷ []) ∷ Events.Finish 1 1 3 ∷ Events.Assign 1 1 (WriteAt 1) (2 ∷ []) ∷ Events.Branch 1 1 3 ∷ []

row_made : made_after alone row ≡ row_events
unfolding fold_number depth_by touches folds_by extents
row_made = refl

row_seen : (told_after alone row).seen ≡ row_events
unfolding fold_number depth_by touches folds_by extents
row_seen = refl

-- an update that others finished, and one for which no memory was found once it was numbered
others_finished : events_made alone (Requests.Append 1 (170 ∷ [])) (Replies.Refused (Faults.Already 1)) ≡ Events.Assign 1 1 Append (170 ∷ []) ∷ []
others_finished = refl

ticket_kept : events_made alone (Requests.Write 1 0 (170 ∷ [])) (Replies.Refused (Faults.NoMemoryTicket 1)) ≡ Events.Assign 1 1 (WriteAt 0) (170 ∷ []) ∷ []
ticket_kept = refl

no_memory : events_made alone (Requests.Append 1 (170 ∷ [])) (Replies.Refused Faults.NoMemory) ≡ []
no_memory = refl

-- Three tickets: the first is finished, the second was finished by caller 2, and for the third no memory is found.
abbrev started : Session
started = told_after alone (Requests.Create ∷ Requests.StartAppend 1 (170 ∷ []) ∷ Requests.StartAppend 1 (187 ∷ []) ∷ Requests.StartAppend 1 (204 ∷ []) ∷ [])

abbrev others_too : Session
others_too = sees started (Events.Finish 2 1 2 ∷ [])

abbrev first_given : Session
first_given = drops (sees others_too (Events.Finish 1 1 1 ∷ [])) 1

abbrev second_given : Session
second_given = drops (sees first_given []) 2

abbrev third_given : Session
third_given = drops (sees second_given []) 3

three_replies : List Reply
three_replies = Replies.Finished 2 ∷ Replies.Refused (Faults.Already 2) ∷ Replies.Refused Faults.NoMemory ∷ []

hung_up : HungUp IsNobody others_too (record { finished = 2; no_memory = 1; pending = 0; page_fault = 0 }) (begins_anew third_given)
unfolding three_replies
hung_up = record {
  replies = three_replies;
  mid = third_given;
  gives_up = (
    first_given,
    record { others = []; is_gap = refl; turn = _; may = FinishTurn.finished 2 refl (λ folds. refl) refl; said = refl; seen = refl },
    (
      second_given,
      record { others = []; is_gap = refl; turn = _; may = FinishTurn.found refl; said = refl; seen = refl },
      (third_given, record { others = []; is_gap = refl; turn = _; may = FinishTurn.out_of_memory; said = refl; seen = refl }, refl),
    ),
  );
  counts_are = refl;
  anew = refl;
}

hung_up_left : (begins_anew third_given).tickets ≡ []
hung_up_left = refl

hung_up_made : finishes_made 1 others_too.tickets three_replies ≡ Events.Finish 1 1 1 ∷ []
unfolding three_replies
hung_up_made = refl
