-- The grammar of a stream of frames of requests.
use Rattle.std.specs.Prelude.{ℕ, ◌==◌, Bool, if◌then◌else◌, List, [], ◌∷◌, take, drop, Option, Some, None}
use Rattle.std.specs.Str.{bytes_eq}
use Rattle.request_form.specs.Stream.{Stream, after_item}
use Rattle.request_form.specs.declared.form.Request.{Request}
use Rattle.request_form.specs.declared.form.Request.TheVariants.{Hello}
use Rattle.request_form.specs.declared.form.Heard.{Heard}
use Rattle.request_form.specs.declared.form.Heard.TheVariants.{Asked, Wrong}
use Rattle.request_form.specs.declared.form.Fault.TheVariants.{BadFrame, FrameTooLong}
use Rattle.std.proofs.Common.{refl, lit<}
use Rattle.items.specs.Framing.{Framing, IsFraming, framed}
use Rattle.request_form.specs.declared.operation.Operation.TheVariants as Operations
use Rattle.request_form.specs.Operations.{number_of}
use Rattle.frame_wire.specs.Requests.{request_of}

-- the most bytes that a frame's length may count, in version 1 and in version 2
abbrev pub max_frame : ℕ
max_frame = 2097152

abbrev pub second_max_frame : ℕ
second_max_frame = 17825792

-- a frame asks for the request that it spells, and is bad where it spells none
abbrev pub heard_as : Option Request → Heard
heard_as (Some request) = Asked request
heard_as None = Wrong BadFrame

-- frames of requests of version 1
abbrev pub request_frames : Framing Heard
request_frames = record {
  limit = max_frame;
  too_long = λ length. Wrong (FrameTooLong length);
  bad = Wrong BadFrame;
  spelled = λ bytes. heard_as (request_of 1 bytes);
}

-- and of version 2
abbrev pub second_frames : Framing Heard
second_frames = record {
  limit = second_max_frame;
  too_long = λ length. Wrong (FrameTooLong length);
  bad = Wrong BadFrame;
  spelled = λ bytes. heard_as (request_of 2 bytes);
}

-- no operation has the number 0
pub request_frames_hold : IsFraming request_frames
request_frames_hold = record { fits = lit< tt; empty = refl; zero = λ bytes. refl }

pub second_frames_hold : IsFraming second_frames
second_frames_hold = record { fits = lit< tt; empty = refl; zero = λ bytes. refl }

-- The frame by which a stream asks for frames of version 2: it has 9 bytes, its operation and that number.
abbrev pub hello : List ℕ
hello = 0 ∷ 0 ∷ 0 ∷ 9 ∷ number_of Operations.Hello ∷ 0 ∷ 0 ∷ 0 ∷ 0 ∷ 0 ∷ 0 ∷ 0 ∷ 2 ∷ []

-- whether it is the first frame of a stream
abbrev pub begins_with_hello : List ℕ → Bool
begins_with_hello bytes = bytes_eq (take 13 bytes) hello

-- What a stream of frames says. Where the first one is a hello, those behind it are of version 2. All others are of version 1, in which no frame says hello.
abbrev pub heard : List ℕ → Stream
heard bytes =
    if begins_with_hello bytes then after_item (Asked (Hello 2)) (framed second_frames (drop 13 bytes)) else framed request_frames bytes

-- what bytes say from where it is known of which version the frames are, or from the first of a stream on
abbrev pub heard_in : Option ℕ → List ℕ → Stream
heard_in None bytes = heard bytes
heard_in (Some version) bytes = framed (if version == 2 then second_frames else request_frames) bytes
