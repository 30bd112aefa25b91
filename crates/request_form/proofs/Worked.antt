-- Worked rows, computed from the definitions alone. The tests of lines, frames and sessions go through the same rows.
use Rattle.std.specs.Prelude.{◌≡◌, ◌≢◌, ℕ, ◌+◌, List, [], ◌∷◌, ◌++◌, replicate, Some, None, refl}
use Rattle.std.proofs.Common.{inl, inr, arith}
use Rattle.blob_model.specs.Limits.{Bounds, greatest}
use Rattle.blob_model.specs.declared.call.Event.TheVariants as Events
use Rattle.blob_model.specs.declared.call.Place.TheVariants.{WriteAt, Append}
use Rattle.blob_model.specs.declared.call.Call.TheVariants as Calls
use Rattle.request_form.specs.declared.form.Request.{Request}
use Rattle.request_form.specs.declared.form.Request.TheVariants.{Create, Write, StartAppend, StartWrite, Finish, Read, Recent, Size, Sync, Status, Branch, Hello, ReadMany, Repair, Quit}
use Rattle.request_form.specs.declared.form.Request.TheVariants as Requests
use Rattle.request_form.specs.declared.form.Reply.{Reply}
use Rattle.request_form.specs.declared.form.Reply.TheVariants.{Created, Appended, Wrote, AppendStarted, WriteStarted, Finished, Content, RecentIs, SizeIs, Synced, StatusIs, Branched, HelloIs, Contents, Repaired, Refused, Bye}
use Rattle.request_form.specs.declared.form.Heard.{Heard}
use Rattle.request_form.specs.declared.form.Heard.TheVariants.{Asked, Wrong}
use Rattle.request_form.specs.declared.form.Fault.TheVariants as Faults
use Rattle.blob_model.specs.History.{AllOther}
use Rattle.request_form.specs.Session.{Session, HeldTicket, IsNobody, sees, holds, ticket_at, without_ticket}
use Rattle.range_log.specs.Depths.{fold_number, depth_by}
use Rattle.range_log.specs.Extents.{touches}
use Rattle.range_log.specs.Rows.{folds_by}
use Rattle.range_log.specs.Updates.{extents}
use Rattle.request_form.specs.Answers.{AfterTwoGaps, FinishTurn, IsStoredThen, WholeTurn, FinishAnswer, LookAnswer, update_fault, ranges_fault, answer_faults, max_update}
use Rattle.request_form.specs.Transcript.{Transcript, first_session}
use Rattle.request_form.proofs.Told.{replies_told, told_is, request_told}

abbrev all_asked : List Request → List Heard
all_asked [] = []
all_asked (r ∷ rs) = Asked r ∷ all_asked rs

abbrev session_with : Bounds → Session
session_with limits = first_session (record { limits = limits; page = 4 }) 1

-- the replies to these requests of a session that is alone
abbrev replies : List Request → List Reply
replies requests = replies_told (session_with greatest) (all_asked requests)

abbrev replies_within : Bounds → List Request → List Reply
replies_within limits requests = replies_told (session_with limits) (all_asked requests)

abbrev abcdef : List ℕ
abcdef = 97 ∷ 98 ∷ 99 ∷ 100 ∷ 101 ∷ 102 ∷ []

-- the 31 bytes from 1 to 31
abbrev thirty_one : List ℕ
thirty_one =
    1 ∷ 2 ∷ 3 ∷ 4 ∷ 5 ∷ 6 ∷ 7 ∷ 8 ∷ 9 ∷ 10 ∷ 11 ∷ 12 ∷ 13 ∷ 14 ∷ 15 ∷ 16 ∷ 17 ∷ 18 ∷ 19 ∷ 20 ∷ 21 ∷ 22 ∷ 23 ∷ 24 ∷ 25 ∷ 26 ∷ 27 ∷ 28 ∷ 29 ∷ 30 ∷ 31 ∷ []

stored_run : replies (Create ∷ Requests.Append 1 abcdef ∷ Read 1 1 0 6 ∷ []) ≡ Created 1 ∷ Appended 1 0 6 ∷ Content abcdef ∷ []
stored_run = refl

-- two updates are numbered and the second is finished first: it waits for the first
finish_out_of_order : replies
    (Create ∷ StartAppend 1 (170 ∷ []) ∷ StartAppend 1 (187 ∷ []) ∷ Finish 2 ∷ Status 1 ∷ Read 1 2 0 2 ∷ Finish 1 ∷ Read 1 2 0 2 ∷ [])
    ≡ Created 1 ∷ AppendStarted 1 1 0 1 ∷ AppendStarted 2 2 1 2 ∷ Finished 0 ∷ StatusIs 2 0 1 ∷ Refused (Faults.NotPublished 2 0)
    ∷ Finished 2 ∷ Content (170 ∷ 187 ∷ []) ∷ []
unfolding fold_number depth_by touches folds_by extents
finish_out_of_order = refl

-- a finished ticket is given up
ticket_given_up : replies
    (Create ∷ StartAppend 1 (170 ∷ []) ∷ StartAppend 1 (187 ∷ []) ∷ Finish 2 ∷ Sync 1 2 ∷ Sync 1 3 ∷ Finish 1 ∷ Sync 1 2 ∷ Finish 1 ∷ [])
    ≡ Created 1 ∷ AppendStarted 1 1 0 1 ∷ AppendStarted 2 2 1 2 ∷ Finished 0 ∷ Refused (Faults.Pending 2 1) ∷ Refused (Faults.NotPublished 3 0)
    ∷ Finished 2 ∷ Synced 2 ∷ Refused (Faults.NoTicket 1) ∷ []
unfolding fold_number depth_by touches folds_by extents
ticket_given_up = refl

unaligned_starts : replies
    (Create ∷ StartAppend 1 (0 ∷ []) ∷ StartAppend 1 thirty_one ∷ Finish 2 ∷ Finish 1 ∷ Read 1 2 0 32 ∷ [])
    ≡ Created 1 ∷ AppendStarted 1 1 0 1 ∷ AppendStarted 2 2 1 32 ∷ Finished 0 ∷ Finished 2 ∷ Content (0 ∷ thirty_one) ∷ []
unfolding fold_number depth_by touches folds_by extents
unaligned_starts = refl

-- a write at the size, and one past it
writes : replies (Create ∷ Requests.Append 1 abcdef ∷ Write 1 6 (255 ∷ []) ∷ Write 1 8 (255 ∷ []) ∷ Write 1 3 (255 ∷ 255 ∷ []) ∷ Read 1 3 0 7 ∷ [])
    ≡ Created 1 ∷ Appended 1 0 6 ∷ Wrote 2 6 7 ∷ Refused (Faults.OffsetPastSize 8 7) ∷ Wrote 3 3 7
    ∷ Content (97 ∷ 98 ∷ 99 ∷ 255 ∷ 255 ∷ 102 ∷ 255 ∷ []) ∷ []
writes = refl

-- a started write takes the place of bytes that wait themselves; an append and a write draw no ticket number
started_write : replies
    (Create ∷ StartAppend 1 abcdef ∷ Write 1 0 (1 ∷ []) ∷ StartWrite 1 1 (2 ∷ []) ∷ Finish 1 ∷ Finish 2 ∷ Read 1 3 0 6 ∷ [])
    ≡ Created 1 ∷ AppendStarted 1 1 0 6 ∷ Wrote 2 0 6 ∷ WriteStarted 2 3 1 6 ∷ Finished 2 ∷ Finished 3
    ∷ Content (1 ∷ 2 ∷ 99 ∷ 100 ∷ 101 ∷ 102 ∷ []) ∷ []
unfolding fold_number depth_by touches folds_by extents
started_write = refl

looks : replies (Create ∷ Read 1 0 0 0 ∷ Size 1 0 ∷ Recent 1 ∷ Status 1 ∷ Size 1 1 ∷ Recent 2 ∷ Status 2 ∷ Sync 2 0 ∷ Size 2 0 ∷ [])
    ≡ Created 1 ∷ Content [] ∷ SizeIs 0 ∷ RecentIs 0 0 ∷ StatusIs 0 0 0 ∷ Refused (Faults.NotPublished 1 0) ∷ Refused (Faults.NoBlob 2) ∷ Refused (Faults.NoBlob 2)
    ∷ Refused (Faults.NoBlob 2) ∷ Refused (Faults.NoBlob 2) ∷ []
looks = refl

-- a branch goes its own way
branch_at_one : replies
    (Create ∷ Requests.Append 1 abcdef ∷ Requests.Append 1 (88 ∷ 89 ∷ []) ∷ Branch 1 1 ∷ Requests.Append 2 (90 ∷ []) ∷ Read 1 2 4 4 ∷ Read 2 2 4 3 ∷ [])
    ≡ Created 1 ∷ Appended 1 0 6 ∷ Appended 2 6 8 ∷ Branched 2 ∷ Appended 2 6 7 ∷ Content (101 ∷ 102 ∷ 88 ∷ 89 ∷ []) ∷ Content (101 ∷ 102 ∷ 90 ∷ []) ∷ []
branch_at_one = refl

branch_refused : replies (Create ∷ Requests.Append 1 abcdef ∷ StartAppend 1 (88 ∷ 89 ∷ []) ∷ Branch 1 2 ∷ Branch 9 0 ∷ [])
    ≡ Created 1 ∷ Appended 1 0 6 ∷ AppendStarted 1 2 6 8 ∷ Refused (Faults.NotPublished 2 1) ∷ Refused (Faults.NoBlob 9) ∷ []
branch_refused = refl

-- ranges past the size, and a read that is too long
ranges : replies
    (Create ∷ Requests.Append 1 abcdef ∷ Read 1 1 0 7 ∷ Read 1 1 18446744073709551615 1 ∷ Read 1 1 6 0 ∷ Read 1 1 7 0 ∷ Read 1 1 0 16777217 ∷ Read 9 9 9 16777217 ∷ [])
    ≡ Created 1 ∷ Appended 1 0 6 ∷ Refused (Faults.RangePastSize 7 6) ∷ Refused (Faults.RangePastSize 18446744073709551616 6) ∷ Content []
    ∷ Refused (Faults.RangePastSize 7 6) ∷ Refused (Faults.ReadTooLong 16777217) ∷ Refused (Faults.ReadTooLong 16777217) ∷ []
ranges = refl

-- an update of no bytes is refused before its blob is looked for
empty_updates : replies (Requests.Append 1 [] ∷ Write 1 0 [] ∷ StartAppend 1 [] ∷ StartWrite 1 0 [] ∷ Requests.Append 1 (1 ∷ []) ∷ Finish 1 ∷ [])
    ≡ Refused Faults.EmptyUpdate ∷ Refused Faults.EmptyUpdate ∷ Refused Faults.EmptyUpdate ∷ Refused Faults.EmptyUpdate ∷ Refused (Faults.NoBlob 1)
    ∷ Refused (Faults.NoTicket 1) ∷ []
empty_updates = refl

-- many ranges of a version, in their order; the first refusal stands alone
many_ranges : replies
    (Hello 2 ∷ Create ∷ Requests.Append 1 (97 ∷ 98 ∷ 99 ∷ []) ∷ ReadMany 1 1 ((2, 1) ∷ (0, 2) ∷ []) ∷ ReadMany 1 1 ((2, 1) ∷ (3, 1) ∷ (4, 0) ∷ []) ∷ ReadMany 1 2 ((0, 0) ∷ []) ∷ [])
    ≡ HelloIs 2 ∷ Created 1 ∷ Appended 1 0 3 ∷ Contents (99 ∷ 97 ∷ 98 ∷ []) ∷ Refused (Faults.RangePastSize 4 3) ∷ Refused (Faults.NotPublished 2 1) ∷ []
many_ranges = refl

-- ranges that are too long together: the first with which they are is named, by its own length
ranges_too_long : (ranges_fault 0 ((0, 16777216) ∷ (0, 0) ∷ []) ≡ None)
    × (ranges_fault 0 ((0, 16777215) ∷ (0, 2) ∷ (0, 9) ∷ []) ≡ Some (Faults.ReadTooLong 2))
    × (ranges_fault 0 ((0, 1) ∷ (0, 16777216) ∷ []) ≡ Some (Faults.ReadTooLong 16777216))
ranges_too_long = (refl, refl, refl)

-- an update that its session started is finished by a repair, which gives up its ticket
repaired_row : replies (Create ∷ StartAppend 1 (170 ∷ []) ∷ Repair 1 1 ∷ Finish 1 ∷ Repair 1 1 ∷ Repair 1 2 ∷ Repair 1 0 ∷ Repair 2 0 ∷ [])
    ≡ Created 1 ∷ AppendStarted 1 1 0 1 ∷ Repaired 1 ∷ Refused (Faults.NoTicket 1) ∷ Refused (Faults.Already 1) ∷ Refused (Faults.NotPublished 2 1)
    ∷ Refused (Faults.Already 0) ∷ Refused (Faults.NoBlob 2) ∷ []
repaired_row = refl

abbrev small : Bounds
small = record { max_size = 8; max_versions = 2; max_open = 64; max_blobs = 1 }

limits_refuse : replies_within small
    (Create ∷ Requests.Append 1 abcdef ∷ Requests.Append 1 (88 ∷ 89 ∷ 96 ∷ []) ∷ Requests.Append 1 (88 ∷ []) ∷ Requests.Append 1 (89 ∷ []) ∷ Create ∷ Branch 1 0 ∷ [])
    ≡ Created 1 ∷ Appended 1 0 6 ∷ Refused (Faults.BlobTooBig 9 8) ∷ Appended 2 6 7 ∷ Refused (Faults.TooManyVersions 2) ∷ Refused (Faults.TooManyBlobs 1)
    ∷ Refused (Faults.TooManyBlobs 1) ∷ []
limits_refuse = refl

-- a refused start draws no number, and what is finished but held back still waits
abbrev few_open : Bounds
few_open = record { max_size = 8; max_versions = 8; max_open = 2; max_blobs = 1 }

waiting_refuse : replies_within few_open
    (Create ∷ StartAppend 1 (170 ∷ []) ∷ StartAppend 1 (187 ∷ []) ∷ StartAppend 1 (204 ∷ []) ∷ Finish 2 ∷ StartAppend 1 (204 ∷ []) ∷ Finish 1 ∷ StartAppend 1 (204 ∷ []) ∷ [])
    ≡ Created 1 ∷ AppendStarted 1 1 0 1 ∷ AppendStarted 2 2 1 2 ∷ Refused (Faults.TooManyOpen 2) ∷ Finished 0 ∷ Refused (Faults.TooManyOpen 2)
    ∷ Finished 2 ∷ AppendStarted 3 3 2 3 ∷ []
unfolding fold_number depth_by touches folds_by extents
waiting_refuse = refl

-- what is no request has its fault as reply, and what stands behind a Quit has none
wrong_and_quit : Transcript IsNobody (session_with greatest) (Asked Create ∷ Wrong Faults.Malformed ∷ Asked Quit ∷ Asked Create ∷ [])
    (Created 1 ∷ Refused Faults.Malformed ∷ Bye ∷ []) (sees (session_with greatest) (Events.Create 1 ∷ []))
wrong_and_quit = told_is (session_with greatest) (Asked Create ∷ Wrong Faults.Malformed ∷ Asked Quit ∷ [])

-- ---- tickets

abbrev ticket : ℕ → HeldTicket
ticket number = record { number = number; blob = 1; version = number }

abbrev with_tickets : ℕ → Session
with_tickets count =
    record { fixed = record { limits = greatest; page = 4 }; caller = 1; seen = []; tickets = replicate count (ticket 1); next = count + 1; limit = max_update }

-- the 65th ticket is refused, and no byte and too many bytes come before it
tickets_refuse : (update_fault (with_tickets 64) (97 ∷ []) ≡ Some Faults.TooManyTickets)
    × (update_fault (with_tickets 64) [] ≡ Some Faults.EmptyUpdate)
    × (update_fault (with_tickets 63) (97 ∷ []) ≡ None)
tickets_refuse = (refl, refl, refl)

-- how many bytes an update may have, before and after hello
limits_of_updates : ((session_with greatest).limit ≡ 1048576) × ((request_told (session_with greatest) (Hello 2)).next.limit ≡ 16777216)
limits_of_updates = (refl, refl)

ticket_found : (ticket_at (ticket 1 ∷ ticket 3 ∷ ticket 4 ∷ []) 3 ≡ Some (ticket 3))
    × (ticket_at (ticket 1 ∷ ticket 3 ∷ []) 2 ≡ None)
    × (without_ticket (ticket 1 ∷ ticket 3 ∷ ticket 4 ∷ []) 3 ≡ ticket 1 ∷ ticket 4 ∷ [])
    × (without_ticket (ticket 1 ∷ []) 2 ≡ ticket 1 ∷ [])
ticket_found = (refl, refl, refl, refl)

-- ---- others come in between: caller 2 beside the session of caller 1

two_is_other : let two : ℕ = 2 in two ≢ 1
two_is_other e = omega (arith, e)

-- the session has a started update, its version 1
started_once : Session
started_once = holds (sees (session_with greatest) (Events.Create 1 ∷ Events.Assign 1 1 Append (97 ∷ []) ∷ [])) 1 1

-- another caller has finished the update: that is told, and the ticket is given up
finished_by_another : FinishAnswer AllOther started_once 1 (Some (ticket 1)) (Refused (Faults.Already 1))
    (record { fixed = started_once.fixed; caller = 1; seen = started_once.seen ++ Events.Finish 2 1 1 ∷ []; tickets = []; next = 2; limit = max_update })
unfolding started_once
finished_by_another = record { others = Events.Finish 2 1 1 ∷ []; is_gap = (two_is_other, tt); turn = _; may = FinishTurn.found refl; said = refl; seen = refl }

-- another caller's append is finished and waits for the session's own update, which then publishes both
report_publishes_both : FinishAnswer AllOther started_once 1 (Some (ticket 1)) (Finished 2)
    (record { fixed = started_once.fixed; caller = 1; seen = started_once.seen ++ Events.Assign 2 1 Append (98 ∷ []) ∷ Events.Finish 2 1 2 ∷ Events.Finish 1 1 1 ∷ []; tickets = []; next = 2; limit = max_update })
unfolding started_once
report_publishes_both = record {
  others = Events.Assign 2 1 Append (98 ∷ []) ∷ Events.Finish 2 1 2 ∷ [];
  is_gap = (two_is_other, (two_is_other, tt));
  turn = _;
  may = FinishTurn.finished 2 refl (λ folds. refl) refl;
  said = refl;
  seen = refl;
}

-- a look sees what others did: their version waits for the session's own
look_sees_others : LookAnswer AllOther started_once (Calls.Sync 1 2) (Refused (Faults.Pending 2 1)) (sees started_once (Events.Assign 2 1 Append (98 ∷ []) ∷ Events.Finish 2 1 2 ∷ []))
unfolding started_once
look_sees_others = record { others = Events.Assign 2 1 Append (98 ∷ []) ∷ Events.Finish 2 1 2 ∷ []; is_gap = (two_is_other, (two_is_other, tt)); said = refl; seen = refl }

-- the byte of an update is stored behind a look, once another has made the blob; behind a look that the store refuses none is
stored_behind_a_look : IsStoredThen (session_with greatest) 1 Append (97 ∷ []) (Events.Create 2 ∷ [])
stored_behind_a_look = inr refl

none_stored_where_refused : IsStoredThen (session_with greatest) 2 Append (97 ∷ []) (Events.Create 2 ∷ []) → ⊥
none_stored_where_refused (inl none) = cc
none_stored_where_refused (inr free) = cc

-- an update that another finishes before its own session does
write_finished_by_another : AfterTwoGaps AllOther started_once 1 (WriteAt 0) (99 ∷ []) (WholeTurn started_once 1 (WriteAt 0)) (Refused (Faults.Already 2))
    (sees started_once (Events.Assign 1 1 (WriteAt 0) (99 ∷ []) ∷ Events.Finish 2 1 2 ∷ []))
unfolding started_once
write_finished_by_another = record {
  others = [];
  later = Events.Finish 2 1 2 ∷ [];
  is_gap = tt;
  is_gap_later = (two_is_other, tt);
  version = 2;
  at = 0;
  size = 1;
  numbered = refl;
  turn = _;
  may = WholeTurn.found refl;
  said = refl;
  seen = refl;
}

-- an update that is held back counts as a fault of the outside exactly where the version before it doesn't wait
held_back_counts : (answer_faults started_once (Requests.Append 1 (99 ∷ [])) (AppendStarted 2 2 1 2) ≡ 0)
    × (answer_faults started_once (Requests.StartAppend 1 (99 ∷ [])) (AppendStarted 2 2 1 2) ≡ 0)
    × (answer_faults (sees started_once (Events.Finish 1 1 1 ∷ [])) (Requests.Append 1 (99 ∷ [])) (AppendStarted 2 2 1 2) ≡ 1)
unfolding started_once
held_back_counts = (refl, refl, refl)
