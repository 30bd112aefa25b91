-- What a text says as a line, however it goes on.
use Rattle.std.proofs.Common.{◌≡◌, ◌≢◌, ◌∙◌, ◌⊎◌, inl, inr, ℕ, ◌≤◌, ◌==◌, false, List, [], ◌∷◌, ◌++◌, length, sym, ap, subst, arith, rules, append_assoc, length-append}
use Rattle.std.specs.List.{All}
use Rattle.std.proofs.lemmas.Bool.{ne_eqb}
use Rattle.std.proofs.lemmas.List.Elements.{All-head, All-tail, All-push}
use Rattle.request_form.specs.declared.operation.Operation.{Operation}
use Rattle.request_form.specs.Operations.{HasWord, operation_of_word}
use Rattle.script_text.specs.Requests.{request_in, request_of}
use Rattle.script_text.specs.Lines.{fields_of}
use Rattle.script_text.specs.Begun.{IsWithout, IsLetter}
use Rattle.script_text.specs.Decoded.{command_of, AsksNothing}
use Rattle.items.proofs.LinesHeard.{slice_split_has, split_behind}
use Rattle.script_text.proofs.FieldLemmas.{fields_of-cut, fields_of-one, letters_solid, solid_without, command_letters, no_command, is_command}

-- ---- words

command_short : (operation : Operation) → length (command_of operation) ≤ 12
command_short operation = search rules

letter_inside : (front : List ℕ) (b : ℕ) (back : List ℕ) → All IsLetter (front ++ b ∷ back) → IsLetter b
letter_inside [] b back h = All-head IsLetter b back h
letter_inside (x ∷ front) b back h = letter_inside front b back (All-tail IsLetter x (front ++ b ∷ back) h)

-- a byte that makes a word no command's
pub word_stops : (word : List ℕ) (byte : ℕ) → All IsLetter word → byte ≢ 32 → ((IsLetter byte → ⊥) ⊎ (12 ≤ length word)) → AsksNothing (word ++ byte ∷ [])
word_stops word byte letters other why more =
    let first = slice_split_has 32 more in
    let joined : IsWithout 32 (word ++ byte ∷ []) = All-push (λ b. (b == 32) ≡ false) word byte (solid_without word (letters_solid word letters)) (ne_eqb byte 32 other) in
    let text : List ℕ = (word ++ byte ∷ []) ++ first.first in
    ap (λ (fs : List (List ℕ)). request_of fs) (split_behind 32 (word ++ byte ∷ []) more first joined)
    ∙ no_command text first.others (no why)
  where
    no : ((IsLetter byte → ⊥) ⊎ (12 ≤ length word)) → (operation : Operation) → HasWord operation ((word ++ byte ∷ []) ++ (slice_split_has 32 more).first) → ⊥
    no (inl bad) operation h =
        let e = is_command operation ((word ++ byte ∷ []) ++ (slice_split_has 32 more).first) h in
        bad (letter_inside word byte (slice_split_has 32 more).first (subst (λ (l : List ℕ). All IsLetter l) (sym (sym (append_assoc word (byte ∷ []) (slice_split_has 32 more).first) ∙ e)) (command_letters operation)))
    no (inr long) operation h =
        let e = is_command operation ((word ++ byte ∷ []) ++ (slice_split_has 32 more).first) h in
        let a = length-append (word ++ byte ∷ []) (slice_split_has 32 more).first in
        let b = length-append word (byte ∷ []) in
        let c : length ((word ++ byte ∷ []) ++ (slice_split_has 32 more).first) ≡ length (command_of operation) = ap (λ (l : List ℕ). length l) e in
        let d = command_short operation in
        omega arith

-- a space behind what is no command
pub unknown_stops : (word : List ℕ) → All IsLetter word → ((operation : Operation) → HasWord operation word → ⊥) → AsksNothing (word ++ 32 ∷ [])
unknown_stops word letters unknown more =
    ap (λ (t : List ℕ). request_of (fields_of t)) (append_assoc word (32 ∷ []) more)
    ∙ ap (λ (fs : List (List ℕ)). request_of fs) (fields_of-cut word more (solid_without word (letters_solid word letters)))
    ∙ no_command word (fields_of more) unknown

-- a line that is no more than a word
pub word_asks : (word : List ℕ) → All IsLetter word → request_of (fields_of word) ≡ request_in (operation_of_word word) []
word_asks word letters = ap (λ (fs : List (List ℕ)). request_of fs) (fields_of-one word (solid_without word (letters_solid word letters)))
