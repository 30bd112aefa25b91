-- The grammar of lines, whatever they say.
use Rattle.std.specs.Prelude.{◌≡◌, ◌≤◌, ℕ, ◌==◌, nat_lt, false, if◌then◌else◌, List, [], ◌∷◌, length, Option, Some, None}
use Rattle.std.specs.Option.{option_to_list}
use Rattle.std.specs.List.{slice_split}
use Rattle.std.specs.Str.Lines.{strip_carriage_return}
use Rattle.items.specs.Items.{ItemStream, after_item}

-- What lines say: the most bytes of a line, its end not counted, what a line says that is bad or has more, and what the bytes of any other spell.
pub record Lining (A : Type 0) : Type 0 where
  pub limit : ℕ
  pub bad : A
  pub spelled : List ℕ → A

-- a line may have a byte, and one that begins with a space is bad
pub record IsLining {A : Type 0} (f : Lining A) : Type 0 where
  pub some : 1 ≤ f.limit
  pub space : (text : List ℕ) → f.spelled (32 ∷ text) ≡ f.bad

-- the item of a line without its end: an empty line and one that begins with `#` have none
abbrev pub item_of_text : {A : Type 0} → Lining A → List ℕ → Option A
item_of_text f [] = None
item_of_text f (b ∷ bs) =
    if b == 35 then None
    else Some (if nat_lt f.limit (length (b ∷ bs)) then f.bad else f.spelled (b ∷ bs))

-- the item of the bytes before a line feed, or behind the last one; a CR at their end isn't part of the line
abbrev pub item_of : {A : Type 0} → Lining A → List ℕ → Option A
item_of f line = item_of_text f (strip_carriage_return line)

abbrev pub with_item : {A : Type 0} → Option A → ItemStream A → ItemStream A
with_item None stream = stream
with_item (Some item) stream = after_item item stream

-- the stream of some lines: each is ended by a line feed, but the last, which the stream's end makes whole
abbrev pub stream_of : {A : Type 0} → Lining A → List (List ℕ) → ItemStream A
stream_of f [] = record { items = []; whole = []; cut = false }
stream_of f (last ∷ []) = record { items = option_to_list (item_of f last); whole = []; cut = false }
stream_of f (line ∷ next ∷ more) = with_item (item_of f line) (stream_of f (next ∷ more))

-- what bytes say as lines, which lie between their line feeds
abbrev pub lined : {A : Type 0} → Lining A → List ℕ → ItemStream A
lined f bytes = stream_of f (slice_split (λ b. b == 10) bytes)
