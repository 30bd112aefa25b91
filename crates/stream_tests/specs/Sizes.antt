-- Streams in which each byte asks for a reply of that many thousand bytes.
use Rattle.std.specs.Prelude.{ℕ, ◌*◌, false, List, map, replicate}
use Rattle.request_form.specs.Stream.{Stream}
use Rattle.request_form.specs.declared.form.Heard.{Heard}
use Rattle.request_form.specs.declared.form.Heard.TheVariants.{Wrong}
use Rattle.request_form.specs.declared.form.Reply.{Reply}
use Rattle.request_form.specs.declared.form.Reply.TheVariants.{Refused}
use Rattle.request_form.specs.declared.form.Fault.TheVariants.{FrameTooLong}

-- what a byte says: the fault that carries the length of its reply
abbrev pub item_of : ℕ → Heard
item_of byte = Wrong (FrameTooLong (byte * 1000))

abbrev pub heard : List ℕ → Stream
heard bytes = record { items = map item_of bytes; whole = map item_of bytes; cut = false }

abbrev pub said_length : Reply → ℕ
said_length (Refused (FrameTooLong count)) = count
said_length _ = 0

abbrev pub said : Reply → List ℕ
said reply = replicate (said_length reply) 33
