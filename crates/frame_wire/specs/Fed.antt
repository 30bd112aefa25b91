-- What a dialect of frames was fed.
use Rattle.std.specs.Prelude.{◌≡◌, ◌<◌, ℕ, if◌then◌else◌, List, ◌++◌, take, Option, Some, None, refl}
use Rattle.std.specs.Coded.{Coded, code_by, coded×, coded_ℕ, coded_list, coded_option}
use Rattle.request_form.specs.Stream.{Stream}
use Rattle.frame_wire.specs.Frames.{hello, heard, heard_in}
use Rattle.frame_wire.specs.declared.spoken.Spoken.{Spoken}
use Rattle.frame_wire.specs.declared.spoken.Spoken.TheVariants.{Opening, First, Second}

-- the version of its frames, where that is known, and the bytes that were fed and not answered
pub record Fed : Type 0 where
  pub version : Option ℕ
  pub bytes : List ℕ

abbrev pub fed_coded : Coded Fed
fed_coded = code_by (Option ℕ × List ℕ) (coded× (coded_option coded_ℕ) (coded_list coded_ℕ)) (λ f. (f.version, f.bytes)) (λ p. record { version = p.0; bytes = p.1 }) (λ _. refl)

-- what is still to be heard then, where the stream goes on by more bytes and then ends
abbrev pub heard_by : Fed → List ℕ → Stream
heard_by fed more = heard_in fed.version (fed.bytes ++ more)

-- A hello that wasn't answered yet stands before the frames of version 2.
abbrev pub fed_by : Spoken → Fed
fed_by (Opening count) = record { version = None; bytes = take count hello }
fed_by (First bytes) = record { version = Some 1; bytes = bytes }
fed_by (Second told bytes) = if told then record { version = Some 2; bytes = bytes } else record { version = None; bytes = hello ++ bytes }

-- a hello of which all bytes have come is no opening
abbrev pub IsSpoken : Spoken → Type 0
IsSpoken (Opening count) = count < 13
IsSpoken (First bytes) = Unit {0}
IsSpoken (Second told bytes) = Unit {0}

-- however a stream goes on, these bytes from its first on say the same as what is known of it
pub record SpeaksAs (bytes : List ℕ) (spoken : Spoken) : Type 0 where
  pub is_spoken : IsSpoken spoken
  pub says : (more : List ℕ) → heard_by (fed_by spoken) more ≡ heard (bytes ++ more)
