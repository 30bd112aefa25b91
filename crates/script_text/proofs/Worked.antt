-- Worked rows, computed from the definitions alone: lines, with the requests and the replies that docs/FORMATS.md gives for them.
use Rattle.std.specs.Prelude.{◌≡◌, ℕ, List, [], ◌∷◌, ◌++◌, false, flat_map, refl, codes}
use Rattle.std.specs.Fmt.{digits}
use Rattle.request_form.specs.Stream.{Stream}
use Rattle.request_form.specs.declared.form.Request.TheVariants as Requests
use Rattle.request_form.specs.declared.form.Reply.{Reply}
use Rattle.request_form.specs.declared.form.Reply.TheVariants as Replies
use Rattle.request_form.specs.declared.form.Heard.{Heard}
use Rattle.request_form.specs.declared.form.Heard.TheVariants.{Asked, Wrong}
use Rattle.request_form.specs.declared.form.Fault.TheVariants as Faults
use Rattle.hex.specs.Hex.{decode_pairs, encode_with}
use Rattle.script_text.specs.Lines.{heard}
use Rattle.script_text.specs.Said.{said}

-- these lines, each ended by a line feed
lines : List (List ℕ) → List ℕ
lines texts = flat_map (λ text. text ++ 10 ∷ []) texts

-- a stream of whole lines
whole : List Heard → Stream
whole items = record { items = items; whole = items; cut = false }

said_all : List Reply → List ℕ
said_all replies = flat_map said replies

malformed : Heard
malformed = Wrong Faults.Malformed

-- ---- what scripts say

nothing_heard : heard [] ≡ whole []
unfolding whole
nothing_heard = refl

stored_run_heard : heard (lines (codes "create" ∷ codes "append 1 616263646566" ∷ codes "read 1 1 0 6" ∷ []))
    ≡ whole (Asked Requests.Create ∷ Asked (Requests.Append 1 (97 ∷ 98 ∷ 99 ∷ 100 ∷ 101 ∷ 102 ∷ [])) ∷ Asked (Requests.Read 1 1 0 6) ∷ [])
unfolding whole lines decode_pairs
stored_run_heard = refl

ranges_heard : heard (lines (codes "create" ∷ codes "append 1 616263646566" ∷ codes "read 1 1 0 7" ∷ codes "read 1 1 18446744073709551615 1" ∷ codes "read 1 1 6 0" ∷ codes "read 1 1 7 0" ∷ []))
    ≡ whole
    (Asked Requests.Create ∷ Asked (Requests.Append 1 (97 ∷ 98 ∷ 99 ∷ 100 ∷ 101 ∷ 102 ∷ []))
    ∷ Asked (Requests.Read 1 1 0 7) ∷ Asked (Requests.Read 1 1 18446744073709551615 1) ∷ Asked (Requests.Read 1 1 6 0) ∷ Asked (Requests.Read 1 1 7 0) ∷ [])
unfolding whole lines decode_pairs
ranges_heard = refl

-- each form once, and no bytes
forms_heard : heard (lines
    (codes "create" ∷ codes "append 1 -" ∷ codes "write 1 0 ff" ∷ codes "start-append 2 AA" ∷ codes "start-write 3 4 -" ∷ codes "finish 5" ∷ codes "read 1 2 3 4" ∷ codes "recent 1" ∷ codes "size 1 2"
    ∷ codes "sync 1 2" ∷ codes "status 1" ∷ codes "branch 1 2" ∷ codes "repair 1 2" ∷ codes "quit" ∷ codes "append 1 aa" ∷ []))
    ≡ whole
    (Asked Requests.Create ∷ Asked (Requests.Append 1 []) ∷ Asked (Requests.Write 1 0 (255 ∷ [])) ∷ Asked (Requests.StartAppend 2 (170 ∷ [])) ∷ Asked (Requests.StartWrite 3 4 [])
    ∷ Asked (Requests.Finish 5) ∷ Asked (Requests.Read 1 2 3 4) ∷ Asked (Requests.Recent 1) ∷ Asked (Requests.Size 1 2) ∷ Asked (Requests.Sync 1 2) ∷ Asked (Requests.Status 1) ∷ Asked (Requests.Branch 1 2)
    ∷ Asked (Requests.Repair 1 2)
    ∷ Asked Requests.Quit ∷ Asked (Requests.Append 1 (170 ∷ [])) ∷ [])
unfolding whole lines decode_pairs
forms_heard = refl

-- an odd number of digits, a command in upper case, digits in upper case, a leading zero, a comment, an empty line
spellings_heard : heard (lines (codes "create" ∷ codes "append 1 abc" ∷ codes "Create" ∷ codes "append 1 FF" ∷ codes "read 1 01 0 1" ∷ codes "# note" ∷ codes "" ∷ codes "read 1 1 0 1" ∷ []))
    ≡ whole (Asked Requests.Create ∷ malformed ∷ malformed ∷ Asked (Requests.Append 1 (255 ∷ [])) ∷ malformed ∷ Asked (Requests.Read 1 1 0 1) ∷ [])
unfolding whole lines malformed decode_pairs
spellings_heard = refl

-- a CR before the line feed, and one at the end of a last line without it: that line is no whole one
carriage_returns_heard : heard (codes "create" ++ 13 ∷ 10 ∷ codes "append 1 aa" ++ 13 ∷ [])
    ≡ record { items = Asked Requests.Create ∷ Asked (Requests.Append 1 (170 ∷ [])) ∷ []; whole = Asked Requests.Create ∷ []; cut = false }
unfolding decode_pairs
carriage_returns_heard = refl

-- one CR alone is taken off a line; elsewhere in it a CR is as any byte
other_carriage_returns_heard : heard (codes "create" ++ 13 ∷ 13 ∷ 10 ∷ 13 ∷ 10 ∷ 13 ∷ codes "create" ++ 10 ∷ 13 ∷ [])
    ≡ record { items = malformed ∷ malformed ∷ []; whole = malformed ∷ malformed ∷ []; cut = false }
unfolding malformed
other_carriage_returns_heard = refl

-- a last line without a line feed that is malformed, one that is a request, one that is a comment, and none
last_lines_heard : (heard (codes "Quit") ≡ record { items = malformed ∷ []; whole = []; cut = false }) × (heard (codes "quit") ≡ record { items = Asked Requests.Quit ∷ []; whole = []; cut = false }) × (heard (codes "# quit") ≡ whole []) × (heard (10 ∷ 10 ∷ []) ≡ whole [])
unfolding malformed whole
last_lines_heard = (refl, refl, refl, refl)

-- exactly one space between two fields, none before the first or behind the last, and nothing but a space
spaces_heard : heard (lines (codes " create" ∷ codes "create " ∷ codes "read 1  1 0 1" ∷ codes "read 1 1 0 1 " ∷ (codes "read" ++ 9 ∷ codes "1 1 0 1") ∷ codes " " ∷ codes " # note" ∷ []))
    ≡ whole (malformed ∷ malformed ∷ malformed ∷ malformed ∷ malformed ∷ malformed ∷ malformed ∷ [])
unfolding whole lines malformed
spaces_heard = refl

-- fields too many and too few
counts_heard : heard (lines
    (codes "create 1" ∷ codes "append 1" ∷ codes "append 1 aa aa" ∷ codes "read 1 1 0" ∷ codes "read 1 1 0 1 1" ∷ codes "write 1 aa" ∷ codes "start-write 1 2 3 aa" ∷ codes "finish"
    ∷ codes "finish 1 1" ∷ codes "status" ∷ codes "size 1" ∷ codes "branch 1 0 0" ∷ codes "repair 1" ∷ codes "repair 1 0 0" ∷ codes "quit now" ∷ codes "quit " ∷ []))
    ≡ whole
    (malformed ∷ malformed ∷ malformed ∷ malformed ∷ malformed ∷ malformed ∷ malformed ∷ malformed ∷ malformed ∷ malformed ∷ malformed ∷ malformed ∷ malformed ∷ malformed ∷ malformed
    ∷ malformed ∷ [])
unfolding whole lines malformed decode_pairs
counts_heard = refl

-- no line asks for what only frames have
frames_alone_heard : heard (lines (codes "hello 2" ∷ codes "hello" ∷ codes "read-many 1 1 0 1" ∷ codes "read 1 1 0 1 2 1" ∷ [])) ≡ whole (malformed ∷ malformed ∷ malformed ∷ malformed ∷ [])
unfolding whole lines malformed
frames_alone_heard = refl

-- numbers: zero, a zero more, the greatest, one more, signs, and the longest read and one more, which is the session's to refuse
numbers_heard : heard (lines (codes "read 0 0 0 0" ∷ codes "read 00 0 0 0" ∷ codes "read 18446744073709551615 0 0 0" ∷ codes "read 18446744073709551616 0 0 0" ∷ codes "read +1 0 0 0" ∷ codes "read -1 0 0 0" ∷ codes "read 1a 0 0 0"
    ∷ codes "read 1 1 0 16777216" ∷ codes "read 1 1 0 16777217" ∷ []))
    ≡ whole (Asked (Requests.Read 0 0 0 0) ∷ malformed ∷ Asked (Requests.Read 18446744073709551615 0 0 0) ∷ malformed ∷ malformed ∷ malformed ∷ malformed ∷ Asked (Requests.Read 1 1 0 16777216) ∷ Asked (Requests.Read 1 1 0 16777217) ∷ [])
unfolding whole lines malformed
numbers_heard = refl

-- bytes: digits of both cases in one field, what is no digit, and a `-` too many
bytes_heard : heard (lines (codes "append 7 aAbB09" ∷ codes "append 7 0g" ∷ codes "append 7 --" ∷ codes "append 7 0x00" ∷ codes "append 7 a" ∷ []))
    ≡ whole (Asked (Requests.Append 7 (170 ∷ 187 ∷ 9 ∷ [])) ∷ malformed ∷ malformed ∷ malformed ∷ malformed ∷ [])
unfolding whole lines malformed decode_pairs
bytes_heard = refl

-- ---- how replies are written

stored_run_said : said_all (Replies.Created 1 ∷ Replies.Appended 1 0 6 ∷ Replies.Content (97 ∷ 98 ∷ 99 ∷ 100 ∷ 101 ∷ 102 ∷ []) ∷ [])
    ≡ lines (codes "blob 1" ∷ codes "version 1 at 0 size 6" ∷ codes "data 616263646566" ∷ [])
unfolding said_all lines digits encode_with
stored_run_said = refl

longer_said : said_all (Replies.Appended 2 6 8 ∷ Replies.Content (101 ∷ 102 ∷ 88 ∷ 89 ∷ []) ∷ Replies.Content (0 ∷ 10 ∷ 171 ∷ 255 ∷ []) ∷ Replies.Content [] ∷ Replies.Bye ∷ [])
    ≡ lines (codes "version 2 at 6 size 8" ∷ codes "data 65665859" ∷ codes "data 000aabff" ∷ codes "data -" ∷ codes "bye" ∷ [])
unfolding said_all lines digits encode_with
longer_said = refl

forms_said : said_all
    (Replies.Wrote 2 6 7 ∷ Replies.AppendStarted 1 2 1 3 ∷ Replies.WriteStarted 2 3 0 3 ∷ Replies.Finished 0 ∷ Replies.RecentIs 3 9 ∷ Replies.SizeIs 8 ∷ Replies.Synced 2 ∷ Replies.StatusIs 2 0 1 ∷ Replies.Branched 2 ∷ [])
    ≡ lines
    (codes "version 2 at 6 size 7" ∷ codes "ticket 1 version 2 at 1 size 3" ∷ codes "ticket 2 version 3 at 0 size 3" ∷ codes "published 0" ∷ codes "recent 3 size 9" ∷ codes "size 8" ∷ codes "synced 2"
    ∷ codes "status assigned 2 published 0 held 1" ∷ codes "blob 2" ∷ [])
unfolding said_all lines digits
forms_said = refl

-- what only a stream of frames asks for has a line all the same
later_said : said_all (Replies.HelloIs 2 ∷ Replies.Contents (99 ∷ 97 ∷ 98 ∷ []) ∷ Replies.Contents [] ∷ Replies.Repaired 3 ∷ [])
    ≡ lines (codes "hello 2" ∷ codes "data 636162" ∷ codes "data -" ∷ codes "published 3" ∷ [])
unfolding said_all lines digits encode_with
later_said = refl

ranges_said : said_all (Replies.Refused (Faults.RangePastSize 7 6) ∷ Replies.Refused (Faults.RangePastSize 18446744073709551616 6) ∷ Replies.Refused Faults.Malformed ∷ Replies.Refused (Faults.NoBlob 1) ∷ [])
    ≡ lines (codes "error range-past-size 7 6" ∷ codes "error range-past-size 18446744073709551616 6" ∷ codes "error malformed" ∷ codes "error no-blob 1" ∷ [])
unfolding said_all lines digits
ranges_said = refl

store_faults_said : said_all
    (Replies.Refused (Faults.NotPublished 2 1) ∷ Replies.Refused (Faults.OffsetPastSize 9 6) ∷ Replies.Refused (Faults.BlobTooBig 9 8) ∷ Replies.Refused (Faults.TooManyVersions 1048576) ∷ Replies.Refused (Faults.TooManyOpen 64)
    ∷ Replies.Refused (Faults.TooManyBlobs 65535) ∷ Replies.Refused (Faults.Already 3) ∷ Replies.Refused (Faults.Pending 2 1) ∷ [])
    ≡ lines
    (codes "error not-published 2 1" ∷ codes "error offset-past-size 9 6" ∷ codes "error blob-too-big 9 8" ∷ codes "error too-many-versions 1048576" ∷ codes "error too-many-open 64"
    ∷ codes "error too-many-blobs 65535" ∷ codes "error already 3" ∷ codes "error pending 2 held 1" ∷ [])
unfolding said_all lines digits
store_faults_said = refl

session_faults_said : said_all
    (Replies.Refused Faults.NoMemory ∷ Replies.Refused Faults.EmptyUpdate ∷ Replies.Refused (Faults.UpdateTooLong 1048577) ∷ Replies.Refused (Faults.NoTicket 1) ∷ Replies.Refused Faults.TooManyTickets ∷ Replies.Refused (Faults.PageFault 5)
    ∷ Replies.Refused (Faults.ReadTooLong 16777217) ∷ Replies.Refused (Faults.NoMemoryTicket 7) ∷ [])
    ≡ lines
    (codes "error no-memory" ∷ codes "error empty-update" ∷ codes "error update-too-long 1048577" ∷ codes "error no-ticket 1" ∷ codes "error too-many-tickets 64" ∷ codes "error page-fault 5"
    ∷ codes "error read-too-long 16777217" ∷ codes "error no-memory ticket 7" ∷ [])
unfolding said_all lines digits
session_faults_said = refl

frame_faults_said : said_all (Replies.Refused (Faults.FrameTooLong 2097153) ∷ Replies.Refused Faults.BadFrame ∷ [])
    ≡ lines (codes "error frame-too-long 2097153" ∷ codes "error bad-frame" ∷ [])
unfolding said_all lines digits
frame_faults_said = refl
