-- A line that has begun, and the bytes in whose place stands what is kept of it.
use Rattle.std.specs.Prelude.{◌≡◌, ◌<◌, ◌≤◌, ℕ, Bool, true, false, List, [], ◌∷◌, ◌++◌, length, take, slice_index, Option, Some, None}
use Rattle.items.specs.Items.{after_item}
use Rattle.items.specs.declared.ending.Ending.{Ending}
use Rattle.items.specs.declared.ending.Ending.TheVariants.{Clean, Last, Cut}
use Rattle.items.specs.Lines.{Lining, item_of_text, item_of, with_item, lined}
use Rattle.items.specs.Text.{IsWithout, EndsPlain, IsText}
use Rattle.items.specs.declared.begun_line.Begun.{Begun}
use Rattle.items.specs.declared.begun_line.Begun.TheVariants.{Text, Comment, Bad}
use Rattle.items.specs.declared.begun_line.Added.{Added as Adding}
use Rattle.items.specs.declared.begun_line.Added.TheVariants as Adds

-- however a stream goes on behind the one or the other, it says the same
abbrev pub GoesOnAs : {A : Type 0} → Lining A → List ℕ → List ℕ → Type 0
GoesOnAs f bytes other = (more : List ℕ) → lined f (bytes ++ more) ≡ lined f (other ++ more)

-- however a line goes on, given without its end, it says the same
abbrev pub SaysAs : {A : Type 0} → Lining A → List ℕ → List ℕ → Type 0
SaysAs f text other = (more : List ℕ) → item_of_text f (text ++ more) ≡ item_of_text f (other ++ more)

-- Of a comment and of a line that is certainly bad no bytes are kept. A line that begins with a space is bad.
abbrev pub begun_text : {B : Type 0} → (B → List ℕ) → Begun B → List ℕ
begun_text text (Text body) = text body
begun_text text Comment = 35 ∷ []
begun_text text Bad = 32 ∷ []

-- so many bytes have come of a line that may still be good, and not too many
abbrev pub IsBegun : {B : Type 0} → ℕ → (B → List ℕ) → Begun B → ℕ → Type 0
IsBegun limit text (Text body) count = IsText (text body) × (length (text body) ≡ count) × (count ≤ limit)
IsBegun limit text Comment count = Unit {0}
IsBegun limit text Bad count = Unit {0}

-- so many bytes, at least one, have come off the front of a run
pub record Pushes {A : Type 0} (f : Lining A) (text run text' : List ℕ) (count : ℕ) : Type 0 where
  pub some : 0 < count
  pub within : count ≤ length run
  pub says : SaysAs f (text ++ take count run) text'
  pub ends : IsWithout 13 run → EndsPlain text'

-- what bytes at the front of a run make of a text of so many bytes
abbrev pub Added : {A : Type 0} → Lining A → List ℕ → List ℕ → List ℕ → ℕ → Adding → Type 0
Added f text run text' count' (Adds.Some count) = IsText text' × (length text' ≡ count') × (count' ≤ f.limit) × Pushes f text run text' count
Added f text run text' count' Adds.Comment = SaysAs f (text ++ run) (35 ∷ [])
Added f text run text' count' Adds.Bad = SaysAs f (text ++ run) (32 ∷ [])

-- all bytes of a run have come
pub record PushesAll {A : Type 0} (f : Lining A) (text run text' : List ℕ) : Type 0 where
  pub says : SaysAs f (text ++ run) text'
  pub ends : 0 < length run → IsWithout 13 run → EndsPlain text'

-- the CR that has come behind a text, and is its end's if nothing follows
abbrev pub return_text : Bool → List ℕ
return_text true = 13 ∷ []
return_text false = []

-- a text behind which a CR may have come; elsewhere none stands at its end
pub record IsLine {B : Type 0} (limit : ℕ) (text : B → List ℕ) (begun : Begun B) (count : ℕ) (returned : Bool) : Type 0 where
  pub begun_well : IsBegun limit text begun count
  pub plain : returned ≡ false → EndsPlain (begun_text text begun)

-- some bytes of a line have come off the front of a piece
pub record TakesSome {A : Type 0} (f : Lining A) (line piece line' : List ℕ) (count : ℕ) : Type 0 where
  pub some : 0 < count
  pub within : count ≤ length piece
  pub goes_on : GoesOnAs f (line ++ take count piece) line'

-- bytes of a line have come off the front of a piece: all of them, or all before a line feed
pub record TakesFront {A : Type 0} (f : Lining A) (line piece line' : List ℕ) (count : ℕ) : Type 0 where
  pub within : count ≤ length piece
  pub goes_on : GoesOnAs f (line ++ take count piece) line'
  pub without : IsWithout 10 line'
  pub enough : count < length piece → slice_index piece count ≡ 10

-- bytes were moved from a stream to the line before it: up to a line feed, which was dropped, or all of them
abbrev pub TakesLine : {A : Type 0} → Lining A → List ℕ → List ℕ → List ℕ → List ℕ → Bool → Type 0
TakesLine f line rest line' rest' true = (more : List ℕ) → lined f (line ++ (rest ++ more)) ≡ with_item (item_of f line') (lined f (rest' ++ more))
TakesLine f line rest line' rest' false = (rest' ≡ []) × GoesOnAs f (line ++ rest) line' × IsWithout 10 line'

-- one item was taken off, or there is no whole one
abbrev pub TakesItem : {A : Type 0} → Lining A → (A → Type 0) → List ℕ → List ℕ → List ℕ → List ℕ → Option A → Type 0
TakesItem f Well line rest line' rest' (Some item) = ((more : List ℕ) → lined f (line ++ (rest ++ more)) ≡ after_item item (lined f (line' ++ (rest' ++ more)))) × Well item
TakesItem f Well line rest line' rest' None = (rest' ≡ []) × GoesOnAs f (line ++ rest) line' × IsWithout 10 line'

-- what a line leaves over that no line feed ends
abbrev pub EndsLine : {A : Type 0} → Lining A → (A → Type 0) → List ℕ → Ending A → Type 0
EndsLine f Well line Clean = item_of f line ≡ None
EndsLine f Well line (Last item) = (item_of f line ≡ Some item) × Well item
EndsLine f Well line Cut = ⊥
