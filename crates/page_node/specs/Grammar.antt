-- The grammar of a node's replies.
use Rattle.std.specs.Prelude.{◌≡◌, ℕ, ◌==◌, ◌&&◌, ◌||◌, nat_le, Bool, true, false, if◌then◌else◌, List, [], ◌∷◌, ◌++◌, length, drop}
use Rattle.items.specs.Framing.{length_of, is_whole}
use Rattle.frame_wire.specs.Requests.{number_at}
use Rattle.frame_wire.specs.Frames.{max_frame}

-- whether a refusal has that number, whose fields are so many bytes with it
abbrev pub is_refusal : ℕ → ℕ → Bool
is_refusal number count =
    if count == 8 then number == 9 || number == 10 || number == 19
    else if count == 16 then number == 11 || number == 18 || number == 23
    else if count == 32 then number == 24
    else false

-- whether an operation with these bytes behind it is a reply
abbrev pub is_reply_of : ℕ → List ℕ → Bool
is_reply_of operation fields =
    if operation == 160 then length fields == 8
    else if operation == 161 then true
    else if operation == 141 then length fields == 0
    else if operation == 255 then is_refusal (number_at 0 fields) (length fields)
    else false

-- whether a reply of an operation may have so many bytes behind it
abbrev pub may_have : ℕ → ℕ → Bool
may_have operation count =
    if operation == 160 then count == 8
    else if operation == 161 then true
    else if operation == 141 then count == 0
    else if operation == 255 then count == 8 || count == 16 || count == 32
    else false

abbrev pub is_reply : List ℕ → Bool
is_reply [] = false
is_reply (operation ∷ fields) = is_reply_of operation fields

-- whether the bytes are one whole frame, whose length isn't too great, with a reply
abbrev pub is_reply_frame : List ℕ → Bool
is_reply_frame frame = is_whole frame && (nat_le (length_of frame) max_frame && is_reply (drop 4 frame))

-- however they go on, the bytes are no reply
abbrev pub IsOutside : List ℕ → Type 0
IsOutside got = (more : List ℕ) → is_reply_frame (got ++ more) ≡ false
