-- The fields of a text, and what words and fields make.
use Rattle.std.proofs.Common.{◌≡◌, ◌≢◌, ◌∙◌, ℕ, suc, ◌+◌, ◌-◌, ◌<◌, ◌==◌, Bool, true, false, List, [], ◌∷◌, ◌++◌, length, take, drop, drop-cons, add-one, take-append-drop, length-drop, slice_index, Option, Some, None, refl, sym, ap, arith}
use Rattle.std.specs.Str.{bytes_eq}
use Rattle.std.specs.Option.{MatchOption}
use Rattle.std.proofs.lemmas.List.{take_all}
use Rattle.std.proofs.lemmas.List.Splits.{slice_split_at, slice_split_none}
use Rattle.std.proofs.lemmas.Slice.Eq.{bytes_eq-Decides}
use Rattle.items.specs.Text.{IsWithout}
use Rattle.items.proofs.LinesHeard.{HasFirst, slice_split_has}
use Rattle.script_text.specs.Lines.{fields_of}
use Rattle.file_names.specs.declared.command.FileCommand.{FileCommand}
use Rattle.file_names.specs.declared.form.FileLine.{FileLine}
use Rattle.file_names.specs.Lines.{only, alone, command_of, commands, line_in, line_of}

-- ---- the first field

pub cut_at : (text : List ℕ) (at : ℕ) → IsWithout 32 (take at text) → at < length text → slice_index text at ≡ 32
    → fields_of text ≡ take at text ∷ fields_of (take (length text - (at + 1)) (drop (at + 1) text))
cut_at text at without less space =
    let there = length-drop (at + 1) text in
    let rest : List ℕ = drop (at + 1) text in
    let whole : take (length text - (at + 1)) rest ≡ rest = take_all (length text - (at + 1)) rest (omega arith) in
    let behind : drop at text ≡ 32 ∷ rest =
    drop-cons text at 0 less ∙ ap (λ (b : ℕ). b ∷ drop (suc at) text) space ∙ ap (λ (n : ℕ). 32 ∷ drop n text) (sym (add-one at)) in
    ap (λ (l : List ℕ). fields_of l) (sym (take-append-drop at text) ∙ ap (λ (l : List ℕ). take at text ++ l) behind)
    ∙ slice_split_at (λ b. b == 32) (take at text) 32 rest without refl
    ∙ ap (λ (l : List ℕ). take at text ∷ fields_of l) (sym whole)

pub cut_none : (text : List ℕ) → IsWithout 32 text → fields_of text ≡ text ∷ []
cut_none text without = slice_split_none (λ b. b == 32) text without

-- a text has fields
pub record StartsWith (text word : List ℕ) : Type 0 where
  pub fields : List (List ℕ)
  pub is : fields_of text ≡ word ∷ fields

pub starts : {R : Type 0} (rest : Option R) (now : R → List ℕ) (text word : List ℕ) → MatchOption rest (fields_of text ≡ word ∷ []) (λ r. fields_of text ≡ word ∷ fields_of (now r)) → StartsWith text word
starts None now text word h = record { fields = []; is = h }
starts (Some r) now text word h = record { fields = fields_of (now r); is = h }

-- more than one field
pub not_only : {A : Type 0} (read : List ℕ → Option A) (text field rest : List ℕ) → fields_of text ≡ field ∷ fields_of rest → None ≡ only read (fields_of text)
not_only read text field rest is =
    let has : HasFirst (fields_of rest) = slice_split_has 32 rest in
    sym (ap (λ (fs : List (List ℕ)). only read fs) is ∙ ap (λ (fs : List (List ℕ)). only read (field ∷ fs)) has.is)

pub not_alone : (line : FileLine) (text : List ℕ) → None ≡ alone line (fields_of text)
not_alone line text = let has : HasFirst (fields_of text) = slice_split_has 32 text in sym (ap (λ (fs : List (List ℕ)). alone line fs) has.is)

-- ---- commands

differs : (a b : List ℕ) → a ≢ b → bytes_eq a b ≡ false
differs a b h = go (bytes_eq a b) refl
  where
    go : (t : Bool) → bytes_eq a b ≡ t → bytes_eq a b ≡ false
    go true e = let d = bytes_eq-Decides a b in absurd (h (d.0 e))
    go false e = e

none_of : (others : List FileCommand) (word : List ℕ) (fields : List (List ℕ)) → ((command : FileCommand) → word ≢ command_of command) → line_in others word fields ≡ None
none_of [] word fields h = refl
none_of (command ∷ others) word fields h = rw (differs word (command_of command) (h command)) (none_of others word fields h)

pub no_command : (word : List ℕ) (fields : List (List ℕ)) → ((command : FileCommand) → word ≢ command_of command) → line_in commands word fields ≡ None
no_command word fields h = none_of commands word fields h

-- a text whose first field is no command
pub no_line : (text word : List ℕ) → StartsWith text word → ((command : FileCommand) → word ≢ command_of command) → None ≡ line_of (fields_of text)
no_line text word s h = sym (ap (λ (fs : List (List ℕ)). line_of fs) s.is ∙ no_command word s.fields h)
