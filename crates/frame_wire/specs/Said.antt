-- How replies are framed.
use Rattle.std.specs.Prelude.{◌≡◌, ℕ, List, [], ◌∷◌, ◌++◌, length, flat_map}
use Rattle.byteorder.specs.Endian.{big_bytes}
use Rattle.request_form.specs.declared.form.Reply.{Reply}
use Rattle.request_form.specs.declared.form.Reply.TheVariants as Replies
use Rattle.request_form.specs.declared.form.Fault.{Fault}
use Rattle.request_form.specs.declared.form.Fault.TheVariants as Faults

-- a number as a field: its 8 bytes, the highest first
unfoldable pub field : ℕ → List ℕ
field number = big_bytes 8 number

-- the same for the one number that may need 16 bytes
unfoldable pub wide_field : ℕ → List ℕ
wide_field number = big_bytes 16 number

-- numbers as fields, one behind the other
abbrev pub fields : List ℕ → List ℕ
fields numbers = flat_map field numbers

-- pairs of numbers as fields
abbrev pub pair_fields : List (ℕ × ℕ) → List ℕ
pair_fields pairs = flat_map (λ pair. field pair.0 ++ field pair.1) pairs

-- a refusal's number and what was compared
abbrev pub fault_fields : Fault → List ℕ
fault_fields (Faults.NoBlob blob) = fields (1 ∷ blob ∷ [])
fault_fields (Faults.NotPublished version published) = fields (2 ∷ version ∷ published ∷ [])
fault_fields (Faults.OffsetPastSize offset size) = fields (3 ∷ offset ∷ size ∷ [])
fault_fields (Faults.BlobTooBig end limit) = fields (4 ∷ end ∷ limit ∷ [])
fault_fields (Faults.TooManyVersions limit) = fields (5 ∷ limit ∷ [])
fault_fields (Faults.TooManyOpen limit) = fields (6 ∷ limit ∷ [])
fault_fields (Faults.TooManyBlobs limit) = fields (7 ∷ limit ∷ [])
fault_fields (Faults.Already version) = fields (8 ∷ version ∷ [])
fault_fields Faults.NoMemory = fields (9 ∷ [])
fault_fields Faults.EmptyUpdate = fields (10 ∷ [])
fault_fields (Faults.UpdateTooLong size) = fields (11 ∷ size ∷ [])
fault_fields (Faults.RangePastSize end size) = field 12 ++ (wide_field end ++ field size)
fault_fields (Faults.NoTicket ticket) = fields (13 ∷ ticket ∷ [])
fault_fields Faults.TooManyTickets = fields (14 ∷ 64 ∷ [])
fault_fields (Faults.PageFault page) = fields (15 ∷ page ∷ [])
fault_fields (Faults.Pending version held) = fields (16 ∷ version ∷ held ∷ [])
fault_fields Faults.Malformed = fields (17 ∷ [])
fault_fields (Faults.FrameTooLong size) = fields (18 ∷ size ∷ [])
fault_fields Faults.BadFrame = fields (19 ∷ [])
fault_fields (Faults.ReadTooLong size) = fields (20 ∷ size ∷ [])
fault_fields (Faults.NoMemoryTicket ticket) = fields (22 ∷ ticket ∷ [])

-- a reply's operation, and its fields or bytes
abbrev pub reply_bytes : Reply → List ℕ
reply_bytes (Replies.Created blob) = 129 ∷ fields (blob ∷ [])
reply_bytes (Replies.Appended version at size) = 130 ∷ fields (version ∷ at ∷ size ∷ [])
reply_bytes (Replies.Wrote version at size) = 131 ∷ fields (version ∷ at ∷ size ∷ [])
reply_bytes (Replies.AppendStarted ticket version at size) = 132 ∷ fields (ticket ∷ version ∷ at ∷ size ∷ [])
reply_bytes (Replies.WriteStarted ticket version at size) = 133 ∷ fields (ticket ∷ version ∷ at ∷ size ∷ [])
reply_bytes (Replies.Finished published) = 134 ∷ fields (published ∷ [])
reply_bytes (Replies.Content bytes) = 135 ∷ bytes
reply_bytes (Replies.RecentIs version size) = 136 ∷ fields (version ∷ size ∷ [])
reply_bytes (Replies.SizeIs size) = 137 ∷ fields (size ∷ [])
reply_bytes (Replies.Synced version) = 138 ∷ fields (version ∷ [])
reply_bytes (Replies.StatusIs assigned published held) = 139 ∷ fields (assigned ∷ published ∷ held ∷ [])
reply_bytes (Replies.Branched blob) = 140 ∷ fields (blob ∷ [])
reply_bytes (Replies.HelloIs version) = 142 ∷ fields (version ∷ [])
reply_bytes (Replies.Contents bytes) = 143 ∷ bytes
reply_bytes (Replies.Repaired published) = 144 ∷ fields (published ∷ [])
reply_bytes (Replies.Refused fault) = 255 ∷ fault_fields fault
reply_bytes Replies.Bye = 141 ∷ []

-- a reply that gives no bytes of a blob
abbrev pub IsShort : Reply → Type 0
IsShort reply = ((bytes : List ℕ) → reply ≡ Replies.Content bytes → ⊥) × ((bytes : List ℕ) → reply ≡ Replies.Contents bytes → ⊥)

-- a frame: the number of its bytes in 4 bytes, the highest first, and then these
unfoldable pub frame_of : List ℕ → List ℕ
frame_of bytes = big_bytes 4 (length bytes) ++ bytes

-- how a reply is written
abbrev pub said : Reply → List ℕ
said reply = frame_of (reply_bytes reply)
