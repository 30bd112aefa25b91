-- Lines aren't cut, and a wrong one is malformed.
use Rattle.std.proofs.Common.{◌≡◌, ℕ, ◌==◌, Bool, true, false, if◌then◌else◌, List, [], ◌∷◌, ◌++◌, length, Option, Some, None, refl, subst}
use Rattle.std.specs.Prelude.{nat_lt}
use Rattle.std.specs.List.{slice_split}
use Rattle.std.specs.Option.{option_to_list}
use Rattle.std.specs.Str.Lines.{strip_carriage_return}
use Rattle.items.specs.Items.{ItemStream}
use Rattle.items.specs.Rounds.{until_last}
use Rattle.items.specs.Lines.{item_of_text, item_of, with_item, stream_of}
use Rattle.script_text.specs.Lines.{max_line, fields_of}
use Rattle.request_form.specs.declared.form.Fault.TheVariants.{Malformed}
use Rattle.file_names.specs.Lines.{file_lines, heard_as, line_of, heard, IsWellHeard, AllWellHeard}
use Rattle.file_names.specs.declared.form.FileLine.{FileLine}
use Rattle.file_names.specs.declared.form.FileHeard.{FileHeard}
use Rattle.file_names.specs.declared.form.FileHeard.TheVariants.{Wrong}

with_item-cut : (item : Option FileHeard) (s : ItemStream FileHeard) → s.cut ≡ false → (with_item item s).cut ≡ false
with_item-cut None s h = h
with_item-cut (Some heard) s h = h

not_cut : (lines : List (List ℕ)) → (stream_of file_lines lines).cut ≡ false
not_cut [] = refl
not_cut (line ∷ []) = refl
not_cut (line ∷ next ∷ lines) = with_item-cut (item_of file_lines line) (stream_of file_lines (next ∷ lines)) (not_cut (next ∷ lines))

pub files_not_cut : (bytes : List ℕ) → (heard bytes).cut ≡ false
files_not_cut bytes = not_cut (slice_split (λ b. b == 10) bytes)

heard_well : (o : Option FileLine) → IsWellHeard (heard_as o)
heard_well (Some line) = tt
heard_well None = refl

either : {A : Type 0} (b : Bool) (P : A → Type 0) (x y : A) → P x → P y → P (if b then x else y)
either true P x y p q = p
either false P x y p q = q

abbrev WellItem : Option FileHeard → Type 0
WellItem o = AllWellHeard (option_to_list o)

text_well : (text : List ℕ) → WellItem (item_of_text file_lines text)
text_well [] = tt
text_well (b ∷ bs) =
    let long : IsWellHeard (Wrong Malformed) = refl in
    let one : IsWellHeard (if nat_lt max_line (length (b ∷ bs)) then Wrong Malformed else heard_as (line_of (fields_of (b ∷ bs)))) =
    either (nat_lt max_line (length (b ∷ bs))) IsWellHeard (Wrong Malformed) (heard_as (line_of (fields_of (b ∷ bs)))) long (heard_well (line_of (fields_of (b ∷ bs)))) in
    either (b == 35) WellItem None (Some (if nat_lt max_line (length (b ∷ bs)) then Wrong Malformed else heard_as (line_of (fields_of (b ∷ bs))))) tt (one, tt)

with_items-well : (o : Option FileHeard) (s : ItemStream FileHeard) → WellItem o → AllWellHeard s.items → AllWellHeard (with_item o s).items
with_items-well None s h k = k
with_items-well (Some heard) s h k = (h.0, k)

with_whole-well : (o : Option FileHeard) (s : ItemStream FileHeard) → WellItem o → AllWellHeard s.whole → AllWellHeard (with_item o s).whole
with_whole-well None s h k = k
with_whole-well (Some heard) s h k = (h.0, k)

lines_well : (lines : List (List ℕ)) → AllWellHeard (stream_of file_lines lines).items
lines_well [] = tt
lines_well (line ∷ []) = text_well (strip_carriage_return line)
lines_well (line ∷ next ∷ lines) = with_items-well (item_of file_lines line) (stream_of file_lines (next ∷ lines)) (text_well (strip_carriage_return line)) (lines_well (next ∷ lines))

whole_lines_well : (lines : List (List ℕ)) → AllWellHeard (stream_of file_lines lines).whole
whole_lines_well [] = tt
whole_lines_well (line ∷ []) = tt
whole_lines_well (line ∷ next ∷ lines) = with_whole-well (item_of file_lines line) (stream_of file_lines (next ∷ lines)) (text_well (strip_carriage_return line)) (whole_lines_well (next ∷ lines))

pub files_well : (bytes : List ℕ) → AllWellHeard (heard bytes).items
files_well bytes = lines_well (slice_split (λ b. b == 10) bytes)

pub whole_files_well : (bytes : List ℕ) → AllWellHeard (heard bytes).whole
whole_files_well bytes = whole_lines_well (slice_split (λ b. b == 10) bytes)

-- ---- a part of them

pub until_well : (is_last : FileHeard → Bool) (items : List FileHeard) → AllWellHeard items → AllWellHeard (until_last is_last items)
until_well is_last [] well = tt
until_well is_last (item ∷ items) well = (well.0, either (is_last item) AllWellHeard [] (until_last is_last items) tt (until_well is_last items well.1))

pub front_well : (first later : List FileHeard) → AllWellHeard (first ++ later) → AllWellHeard first
front_well [] later well = tt
front_well (item ∷ first) later well = (well.0, front_well first later well.1)

rest_well : (first later : List FileHeard) → AllWellHeard (first ++ later) → AllWellHeard later
rest_well [] later well = well
rest_well (item ∷ first) later well = rest_well first later well.1

pub later_well : (is_last : FileHeard → Bool) (due first later : List FileHeard) → until_last is_last due ≡ first ++ later → AllWellHeard due → AllWellHeard later
later_well is_last due first later is well = rest_well first later (subst AllWellHeard is (until_well is_last due well))
