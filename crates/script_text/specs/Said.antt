use Rattle.std.specs.Prelude.{ℕ, List, [], ◌∷◌, ◌++◌, codes}
use Rattle.std.specs.Fmt.{decimal}
use Rattle.hex.specs.Hex.{encode_lower}
use Rattle.request_form.specs.declared.form.Reply.{Reply}
use Rattle.request_form.specs.declared.form.Reply.TheVariants as Replies
use Rattle.request_form.specs.declared.form.Fault.{Fault}
use Rattle.request_form.specs.declared.form.Fault.TheVariants as Faults

-- bytes as hex digits in lower case, and no bytes as `-`
abbrev pub hex_text : List ℕ → List ℕ
hex_text [] = codes "-"
hex_text (b ∷ bs) = encode_lower (b ∷ bs)

-- a fault's line, without its end
abbrev pub fault_text : Fault → List ℕ
fault_text (Faults.NoBlob blob) = codes "error no-blob " ++ decimal blob
fault_text (Faults.NotPublished version published) = codes "error not-published " ++ decimal version ++ codes " " ++ decimal published
fault_text (Faults.OffsetPastSize offset size) = codes "error offset-past-size " ++ decimal offset ++ codes " " ++ decimal size
fault_text (Faults.BlobTooBig end limit) = codes "error blob-too-big " ++ decimal end ++ codes " " ++ decimal limit
fault_text (Faults.TooManyVersions limit) = codes "error too-many-versions " ++ decimal limit
fault_text (Faults.TooManyOpen limit) = codes "error too-many-open " ++ decimal limit
fault_text (Faults.TooManyBlobs limit) = codes "error too-many-blobs " ++ decimal limit
fault_text (Faults.Already version) = codes "error already " ++ decimal version
fault_text Faults.NoMemory = codes "error no-memory"
fault_text Faults.EmptyUpdate = codes "error empty-update"
fault_text (Faults.UpdateTooLong size) = codes "error update-too-long " ++ decimal size
fault_text (Faults.RangePastSize end size) = codes "error range-past-size " ++ decimal end ++ codes " " ++ decimal size
fault_text (Faults.NoTicket ticket) = codes "error no-ticket " ++ decimal ticket
fault_text Faults.TooManyTickets = codes "error too-many-tickets 64"
fault_text (Faults.PageFault page) = codes "error page-fault " ++ decimal page
fault_text (Faults.Pending version held) = codes "error pending " ++ decimal version ++ codes " held " ++ decimal held
fault_text Faults.Malformed = codes "error malformed"
fault_text (Faults.FrameTooLong size) = codes "error frame-too-long " ++ decimal size
fault_text Faults.BadFrame = codes "error bad-frame"
fault_text (Faults.ReadTooLong size) = codes "error read-too-long " ++ decimal size
fault_text (Faults.NoMemoryTicket ticket) = codes "error no-memory ticket " ++ decimal ticket

-- what is said of an update: its version, where it falls, and the blob's size then
abbrev pub update_text : ℕ → ℕ → ℕ → List ℕ
update_text version at size = codes "version " ++ decimal version ++ codes " at " ++ decimal at ++ codes " size " ++ decimal size

-- and of one that is only started: its ticket comes first
abbrev pub started_text : ℕ → ℕ → ℕ → ℕ → List ℕ
started_text ticket version at size = codes "ticket " ++ decimal ticket ++ codes " " ++ update_text version at size

-- how far a blob's updates are
abbrev pub status_text : ℕ → ℕ → ℕ → List ℕ
status_text assigned published held = codes "status assigned " ++ decimal assigned ++ codes " published " ++ decimal published ++ codes " held " ++ decimal held

-- a reply's line, without its end
abbrev pub reply_text : Reply → List ℕ
reply_text (Replies.Created blob) = codes "blob " ++ decimal blob
reply_text (Replies.Appended version at size) = update_text version at size
reply_text (Replies.Wrote version at size) = update_text version at size
reply_text (Replies.AppendStarted ticket version at size) = started_text ticket version at size
reply_text (Replies.WriteStarted ticket version at size) = started_text ticket version at size
reply_text (Replies.Finished published) = codes "published " ++ decimal published
reply_text (Replies.Content bytes) = codes "data " ++ hex_text bytes
reply_text (Replies.RecentIs version size) = codes "recent " ++ decimal version ++ codes " size " ++ decimal size
reply_text (Replies.SizeIs size) = codes "size " ++ decimal size
reply_text (Replies.Synced version) = codes "synced " ++ decimal version
reply_text (Replies.StatusIs assigned published held) = status_text assigned published held
reply_text (Replies.Branched blob) = codes "blob " ++ decimal blob
reply_text (Replies.HelloIs version) = codes "hello " ++ decimal version
reply_text (Replies.Contents bytes) = codes "data " ++ hex_text bytes
reply_text (Replies.Repaired published) = codes "published " ++ decimal published
reply_text (Replies.Refused fault) = fault_text fault
reply_text Replies.Bye = codes "bye"

-- how a reply is written: its line, ended by a line feed
abbrev pub said : Reply → List ℕ
said reply = reply_text reply ++ 10 ∷ []
