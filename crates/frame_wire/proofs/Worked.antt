-- Worked rows, computed from the definitions alone: frames, with the requests and the replies that docs/FORMATS.md gives for them.
use Rattle.std.specs.Prelude.{◌≡◌, ℕ, ◌+◌, ◌*◌, List, [], ◌∷◌, ◌++◌, take, true, false, refl, codes}
use Rattle.request_form.specs.Stream.{Stream}
use Rattle.request_form.specs.declared.form.Request.TheVariants as Requests
use Rattle.request_form.specs.declared.form.Reply.TheVariants as Replies
use Rattle.request_form.specs.declared.form.Heard.{Heard}
use Rattle.request_form.specs.declared.form.Heard.TheVariants.{Asked, Wrong}
use Rattle.request_form.specs.declared.form.Fault.TheVariants as Faults
use Rattle.items.specs.Framing.{item_of}
use Rattle.frame_wire.specs.Requests.{holds_ranges}
use Rattle.frame_wire.specs.Frames.{hello, heard, request_frames, second_frames}
use Rattle.frame_wire.specs.Said.{field, wide_field, frame_of, said}

-- a stream that ends behind a whole frame
whole : List Heard → Stream
whole items = record { items = items; whole = items; cut = false }

-- a small number in 8 bytes
small : ℕ → List ℕ
small n = 0 ∷ 0 ∷ 0 ∷ 0 ∷ 0 ∷ 0 ∷ 0 ∷ n ∷ []

-- a small number of bytes, and these bytes
counted : ℕ → List ℕ → List ℕ
counted n bytes = 0 ∷ 0 ∷ 0 ∷ n ∷ bytes

-- ---- what streams say

nothing_heard : heard [] ≡ whole []
unfolding whole
nothing_heard = refl

create_and_append_heard : heard (counted 1 (1 ∷ []) ++ counted 12 (2 ∷ small 1 ++ codes "abc")) ≡ whole (Asked Requests.Create ∷ Asked (Requests.Append 1 (codes "abc")) ∷ [])
unfolding whole counted small
create_and_append_heard = refl

read_heard : heard (counted 33 (7 ∷ small 1 ++ small 1 ++ small 0 ++ small 3) ++ counted 1 (13 ∷ [])) ≡ whole (Asked (Requests.Read 1 1 0 3) ∷ Asked Requests.Quit ∷ [])
unfolding whole counted small
read_heard = refl

-- a length of 0, and then a part of a length
no_bytes_heard : heard (0 ∷ 0 ∷ 0 ∷ 0 ∷ 0 ∷ 0 ∷ 0 ∷ []) ≡ record { items = Wrong Faults.BadFrame ∷ []; whole = Wrong Faults.BadFrame ∷ []; cut = true }
no_bytes_heard = refl

-- a byte left over, and the next frame
left_over_heard : heard (counted 10 (6 ∷ small 1 ++ 0 ∷ []) ++ counted 1 (1 ∷ [])) ≡ whole (Wrong Faults.BadFrame ∷ Asked Requests.Create ∷ [])
unfolding whole counted small
left_over_heard = refl

-- a field of 7 bytes
short_heard : heard (counted 8 (6 ∷ 0 ∷ 0 ∷ 0 ∷ 0 ∷ 0 ∷ 0 ∷ 1 ∷ [])) ≡ whole (Wrong Faults.BadFrame ∷ [])
unfolding whole counted
short_heard = refl

-- no such operation
unknown_heard : heard (counted 1 (14 ∷ []) ++ counted 1 (0 ∷ [])) ≡ whole (Wrong Faults.BadFrame ∷ Wrong Faults.BadFrame ∷ [])
unfolding whole counted
unknown_heard = refl

-- an update without bytes
empty_update_heard : heard (counted 9 (2 ∷ small 1)) ≡ whole (Asked (Requests.Append 1 []) ∷ [])
unfolding whole counted small
empty_update_heard = refl

-- a frame that is too long, of which the length alone has come, and one that ends before its last byte
cut_heard : (heard (255 ∷ 255 ∷ 255 ∷ 255 ∷ []) ≡ record { items = []; whole = []; cut = true }) × (heard (counted 9 (6 ∷ 0 ∷ [])) ≡ record { items = []; whole = []; cut = true })
unfolding counted
cut_heard = (refl, refl)

-- ---- frames of version 2

-- what a hello says, and what other streams say that begin so
hello_heard : heard hello ≡ whole (Asked (Requests.Hello 2) ∷ [])
unfolding whole
hello_heard = refl

hello_cut_heard : (heard (take 12 hello) ≡ record { items = []; whole = []; cut = true }) × (heard (hello ++ 0 ∷ []) ≡ record { items = Asked (Requests.Hello 2) ∷ []; whole = Asked (Requests.Hello 2) ∷ []; cut = true })
hello_cut_heard = (refl, refl)

-- blob 1, an append, and a read of two of its ranges
read_many : List ℕ
read_many = counted 49 (15 ∷ small 1 ++ small 1 ++ (small 2 ++ small 1) ++ (small 0 ++ small 2))

created_and_appended : List ℕ
created_and_appended = counted 1 (1 ∷ []) ++ counted 12 (2 ∷ small 1 ++ codes "abc")

read_many_heard : heard (hello ++ created_and_appended ++ read_many)
    ≡ whole (Asked (Requests.Hello 2) ∷ Asked Requests.Create ∷ Asked (Requests.Append 1 (codes "abc")) ∷ Asked (Requests.ReadMany 1 1 ((2, 1) ∷ (0, 2) ∷ [])) ∷ [])
unfolding whole counted small read_many created_and_appended
read_many_heard = refl

-- without a hello no frame is a read of many ranges, nor a repair
first_version_heard : heard (created_and_appended ++ read_many ++ counted 17 (16 ∷ small 1 ++ small 1))
    ≡ whole (Asked Requests.Create ∷ Asked (Requests.Append 1 (codes "abc")) ∷ Wrong Faults.BadFrame ∷ Wrong Faults.BadFrame ∷ [])
unfolding whole counted small read_many created_and_appended
first_version_heard = refl

repair_heard : heard (hello ++ counted 17 (16 ∷ small 1 ++ small 2) ++ counted 9 (16 ∷ small 1) ++ counted 33 (16 ∷ small 1 ++ small 2 ++ small 3 ++ small 4))
    ≡ whole (Asked (Requests.Hello 2) ∷ Asked (Requests.Repair 1 2) ∷ Wrong Faults.BadFrame ∷ Wrong Faults.BadFrame ∷ [])
unfolding whole counted small
repair_heard = refl

-- no pair, half a pair, and one byte more than a pair
few_pairs_heard : heard (hello ++ counted 17 (15 ∷ small 1 ++ small 1) ++ counted 25 (15 ∷ small 1 ++ small 1 ++ small 2) ++ counted 34 (15 ∷ small 1 ++ small 1 ++ small 2 ++ small 1 ++ 0 ∷ []) ++ counted 1 (1 ∷ []))
    ≡ whole (Asked (Requests.Hello 2) ∷ Wrong Faults.BadFrame ∷ Wrong Faults.BadFrame ∷ Wrong Faults.BadFrame ∷ Asked Requests.Create ∷ [])
unfolding whole counted small
few_pairs_heard = refl

-- 64 pairs are as many as there may be
many_pairs_fit : (holds_ranges (16 * 65) ≡ true) × (holds_ranges (16 * 66) ≡ false) × (holds_ranges (16 * 65 + 8) ≡ false) × (holds_ranges 16 ≡ false) × (holds_ranges 32 ≡ true)
many_pairs_fit = (refl, refl, refl, refl, refl)

-- a hello that comes later, or is another one, is bad, and all frames behind it are of version 1
no_hello_heard : (heard (hello ++ hello ++ counted 17 (16 ∷ small 1 ++ small 1)) ≡ whole (Asked (Requests.Hello 2) ∷ Wrong Faults.BadFrame ∷ Asked (Requests.Repair 1 1) ∷ []))
    × (heard (counted 1 (1 ∷ []) ++ hello ++ counted 17 (16 ∷ small 1 ++ small 1)) ≡ whole (Asked Requests.Create ∷ Wrong Faults.BadFrame ∷ Wrong Faults.BadFrame ∷ []))
    × (heard (counted 9 (14 ∷ small 3) ++ hello ++ counted 17 (16 ∷ small 1 ++ small 1)) ≡ whole (Wrong Faults.BadFrame ∷ Wrong Faults.BadFrame ∷ Wrong Faults.BadFrame ∷ []))
    × (heard (counted 10 (14 ∷ small 2 ++ 0 ∷ []) ++ hello) ≡ whole (Wrong Faults.BadFrame ∷ Wrong Faults.BadFrame ∷ []))
unfolding whole counted small
no_hello_heard = (refl, refl, refl, refl)

-- how long a frame may be
lengths_of_frames : (item_of request_frames (0 ∷ 32 ∷ 0 ∷ 1 ∷ []) ≡ Wrong (Faults.FrameTooLong 2097153)) × (item_of request_frames (0 ∷ 32 ∷ 0 ∷ 0 ∷ 1 ∷ []) ≡ Asked Requests.Create)
    × (item_of second_frames (1 ∷ 16 ∷ 0 ∷ 1 ∷ []) ≡ Wrong (Faults.FrameTooLong 17825793)) × (item_of second_frames (1 ∷ 16 ∷ 0 ∷ 0 ∷ 1 ∷ []) ≡ Asked Requests.Create)
lengths_of_frames = (refl, refl, refl, refl)

-- ---- how replies are framed

bye_said : said Replies.Bye ≡ counted 1 (141 ∷ [])
unfolding frame_of counted
bye_said = refl

created_said : said (Replies.Created 1) ≡ counted 9 (129 ∷ small 1)
unfolding frame_of field counted small
created_said = refl

appended_said : said (Replies.Appended 1 0 3) ≡ counted 25 (130 ∷ small 1 ++ small 0 ++ small 3)
unfolding frame_of field counted small
appended_said = refl

content_said : said (Replies.Content (codes "abc")) ≡ counted 4 (135 ∷ codes "abc")
unfolding frame_of counted
content_said = refl

-- bytes 2 and then 0 to 1 of "abc"
contents_said : said (Replies.Contents (codes "cab")) ≡ counted 4 (143 ∷ codes "cab")
unfolding frame_of counted
contents_said = refl

second_version_said : (said (Replies.HelloIs 2) ≡ counted 9 (142 ∷ small 2)) × (said (Replies.Repaired 3) ≡ counted 9 (144 ∷ small 3)) × (said (Replies.Contents []) ≡ counted 1 (143 ∷ []))
unfolding frame_of field counted small
second_version_said = (refl, refl, refl)

bad_frame_said : said (Replies.Refused Faults.BadFrame) ≡ counted 9 (255 ∷ small 19)
unfolding frame_of field counted small
bad_frame_said = refl

not_published_said : said (Replies.Refused (Faults.NotPublished 1 0)) ≡ counted 25 (255 ∷ small 2 ++ small 1 ++ small 0)
unfolding frame_of field counted small
not_published_said = refl

range_said : said (Replies.Refused (Faults.RangePastSize 18446744073709551616 6)) ≡ counted 33 (255 ∷ small 12 ++ small 1 ++ small 0 ++ small 6)
unfolding frame_of field wide_field counted small
range_said = refl
