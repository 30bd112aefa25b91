-- What no script says.
use Rattle.std.proofs.Common.{◌≡◌, ℕ, suc, ◌+◌, ◌≤◌, ◌==◌, Bool, true, false, if◌then◌else◌, List, [], ◌∷◌, length, refl, arith}
use Rattle.std.specs.Prelude.{Option, Some, None, nat_lt}
use Rattle.std.specs.List.{slice_split}
use Rattle.std.proofs.lemmas.List.Splits.{length-slice_split}
use Rattle.std.proofs.lemmas.List.Sums.{count_by-le-length}
use Rattle.std.specs.Option.{option_to_list}
use Rattle.std.specs.Str.Lines.{strip_carriage_return}
use Rattle.request_form.specs.Stream.{Stream, IsWellHeard, AllWellHeard}
use Rattle.request_form.specs.declared.form.Request.{Request}
use Rattle.request_form.specs.declared.form.Heard.{Heard}
use Rattle.request_form.specs.declared.form.Heard.TheVariants.{Wrong}
use Rattle.request_form.specs.declared.form.Fault.TheVariants.{Malformed}
use Rattle.script_text.specs.Requests.{request_of}
use Rattle.script_text.specs.Lines.{max_line, fields_of, heard_as, spelled, item_of_text, item_of, with_item, stream_of, heard}

-- ---- a script isn't cut

with_item-cut : (item : Option Heard) (s : Stream) → s.cut ≡ false → (with_item item s).cut ≡ false
with_item-cut None s h = h
with_item-cut (Some heard) s h = h

not_cut : (lines : List (List ℕ)) → (stream_of lines).cut ≡ false
not_cut [] = refl
not_cut (line ∷ []) = refl
not_cut (line ∷ next ∷ lines) = with_item-cut (item_of line) (stream_of (next ∷ lines)) (not_cut (next ∷ lines))

pub script_not_cut : (script : List ℕ) → (heard script).cut ≡ false
script_not_cut script = not_cut (slice_split (λ b. b == 10) script)

-- ---- it has no more items than bytes, and one

with_item-few : (item : Option Heard) (s : Stream) (n : ℕ) → length s.items ≤ n → length s.whole ≤ n → (length (with_item item s).items ≤ suc n) × (length (with_item item s).whole ≤ suc n)
with_item-few None s n h k = (omega (arith, h), omega (arith, k))
with_item-few (Some heard) s n h k = (omega (arith, h), omega (arith, k))

option_few : (o : Option Heard) → length (option_to_list o) ≤ 1
option_few None = omega arith
option_few (Some heard) = omega arith

few_items : (lines : List (List ℕ)) → (length (stream_of lines).items ≤ length lines) × (length (stream_of lines).whole ≤ length lines)
few_items [] = (omega arith, omega arith)
few_items (line ∷ []) = (option_few (item_of line), omega arith)
few_items (line ∷ next ∷ lines) =
    let more = few_items (next ∷ lines) in
    with_item-few (item_of line) (stream_of (next ∷ lines)) (length (next ∷ lines)) more.0 more.1

few_lines : (script : List ℕ) → length (slice_split (λ b. b == 10) script) ≤ length script + 1
few_lines script = omega (arith, length-slice_split (λ b. b == 10) script, count_by-le-length (λ b. b == 10) script)

pub script_few : (script : List ℕ) → (length (heard script).items ≤ length script + 1) × (length (heard script).whole ≤ length script + 1)
script_few script =
    let few = few_items (slice_split (λ b. b == 10) script) in
    let lines = few_lines script in
    (omega (arith, few.0, lines), omega (arith, few.1, lines))

-- ---- no wrong line is a fault of the outside

heard_well : (o : Option Request) → IsWellHeard (heard_as o)
heard_well (Some request) = tt
heard_well None = refl

-- what an item may be says is well heard
abbrev WellItem : Option Heard → Type 0
WellItem o = AllWellHeard (option_to_list o)

either : {A : Type 0} (b : Bool) (P : A → Type 0) (x y : A) → P x → P y → P (if b then x else y)
either true P x y p q = p
either false P x y p q = q

text_well : (text : List ℕ) → WellItem (item_of_text text)
text_well [] = tt
text_well (b ∷ bs) =
    let long : IsWellHeard (Wrong Malformed) = refl in
    let one : IsWellHeard (if nat_lt max_line (length (b ∷ bs)) then Wrong Malformed else spelled (b ∷ bs)) =
    either (nat_lt max_line (length (b ∷ bs))) IsWellHeard (Wrong Malformed) (spelled (b ∷ bs)) long (heard_well (request_of (fields_of (b ∷ bs)))) in
    either (b == 35) WellItem None (Some (if nat_lt max_line (length (b ∷ bs)) then Wrong Malformed else spelled (b ∷ bs))) tt (one, tt)

with_item-well : (o : Option Heard) (s : Stream) → WellItem o → AllWellHeard s.items → AllWellHeard (with_item o s).items
with_item-well None s h k = k
with_item-well (Some heard) s h k = (h.0, k)

lines_well : (lines : List (List ℕ)) → AllWellHeard (stream_of lines).items
lines_well [] = tt
lines_well (line ∷ []) = text_well (strip_carriage_return line)
lines_well (line ∷ next ∷ lines) = with_item-well (item_of line) (stream_of (next ∷ lines)) (text_well (strip_carriage_return line)) (lines_well (next ∷ lines))

pub script_well : (script : List ℕ) → AllWellHeard (heard script).items
script_well script = lines_well (slice_split (λ b. b == 10) script)

with_item-well_whole : (o : Option Heard) (s : Stream) → WellItem o → AllWellHeard s.whole → AllWellHeard (with_item o s).whole
with_item-well_whole None s h k = k
with_item-well_whole (Some heard) s h k = (h.0, k)

whole_lines_well : (lines : List (List ℕ)) → AllWellHeard (stream_of lines).whole
whole_lines_well [] = tt
whole_lines_well (line ∷ []) = tt
whole_lines_well (line ∷ next ∷ lines) = with_item-well_whole (item_of line) (stream_of (next ∷ lines)) (text_well (strip_carriage_return line)) (whole_lines_well (next ∷ lines))

pub whole_script_well : (script : List ℕ) → AllWellHeard (heard script).whole
whole_script_well script = whole_lines_well (slice_split (λ b. b == 10) script)
