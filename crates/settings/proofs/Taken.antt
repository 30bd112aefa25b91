-- Words that name a command and spell its options are taken.
use Rattle.std.proofs.Common.{◌≡◌, ◌∙◌, ◌-◌, Bool, true, false, cond, find, List, [], ◌∷◌, take, drop, length, map, slice_get, Option, Some, None, unwrap_or, option_and_then, refl, sym, ap}
use Rattle.std.specs.Str.{bytes_eq}
use Rattle.std.proofs.lemmas.List.{take_rest}
use Rattle.std.proofs.lemmas.Slice.Eq.{bytes_eq-Decides}
use Rattle.settings.specs.declared.table.Command.{Command}
use Rattle.settings.specs.Table.{commands, command_name, command_named}
use Rattle.settings.specs.Values.{GivenValues}
use Rattle.settings.specs.Words.{Bytes, names_of, pairs_of, given_by_pairs, given_behind, given_by_words}
use Rattle.settings.specs.Spelling.{is_spelled}
use Rattle.settings.specs.Parser.{pairs_in}
use Rattle.settings.proofs.Parses.{some_is}

taken_behind : (words : List Bytes) (command : Command) (given : GivenValues) → is_spelled (names_of command) words false ≡ true
    → given_by_pairs command (pairs_in command words) ≡ Some given → given_behind words command ≡ Some (command, given)
taken_behind words command given spelled gives = rw (some_is (pairs_of (names_of command) words None) [] spelled, gives) refl

-- the first of the texts that are spelled so names the command, and the others are its options with their values
pub words_taken : {S : Type 0} (spell : S → Bytes) (texts : List S) (first : S) (word : Bytes) (named : Option Command) (command : Command) (given : GivenValues)
    → Some first ≡ slice_get texts 0 → word ≡ spell first → named ≡ command_named word → named ≡ Some command
    → is_spelled (names_of command) (map spell (take (length texts - 1) (drop 1 texts))) false ≡ true
    → given_by_pairs command (pairs_in command (drop 1 (map spell texts))) ≡ Some given → given_by_words (map spell texts) ≡ Some (command, given)
words_taken spell [] first word named command given first_is is by_name found spelled gives = absurd (cc)
words_taken {S = S} spell (text ∷ texts) first word named command given first_is is by_name found spelled gives =
    let rest : is_spelled (names_of command) (map spell texts) false ≡ true =
    ap (λ (ts : List S). is_spelled (names_of command) (map spell ts) false) (sym (take_rest (text ∷ texts) 1)) ∙ spelled in
    let same : spell text ≡ word = ap spell (sym (ap (λ o. unwrap_or o text) first_is)) ∙ sym is in
    ap (option_and_then (given_behind (map spell texts))) (ap command_named same ∙ sym by_name ∙ found) ∙ taken_behind (map spell texts) command given rest gives

found_passes : {X : Type 0} (test : X → Bool) (xs : List X) (x : X) → find test xs ≡ Some x → test x ≡ true
found_passes test [] x found = absurd (cc (found))
found_passes {X = X} test (y ∷ ys) x found = go (test y) refl found (found_passes test ys x)
  where
    go : (b : Bool) → test y ≡ b → cond b (Some y) (find test ys) ≡ Some x → (find test ys ≡ Some x → test x ≡ true) → test x ≡ true
    go true passes here later = let same : y ≡ x = cc (here) in ap test (sym same) ∙ passes
    go false passes here later = later here

-- the first of the texts is the command's name
pub words_labelled : {S : Type 0} (spell : S → Bytes) (texts : List S) (first : S) (word : Bytes) (named : Option Command) (command : Command)
    → Some first ≡ slice_get texts 0 → word ≡ spell first → named ≡ command_named word → named ≡ Some command
    → map spell texts ≡ command_name command ∷ drop 1 (map spell texts)
words_labelled spell [] first word named command first_is is by_name found = absurd (cc)
words_labelled {S = S} spell (text ∷ texts) first word named command first_is is by_name found =
    let same : spell text ≡ word = ap spell (sym (ap (λ o. unwrap_or o text) first_is)) ∙ sym is in
    let name : command_name command ≡ word = (bytes_eq-Decides (command_name command) word).0 (found_passes (λ c. bytes_eq (command_name c) word) commands command (sym by_name ∙ found)) in
    ap (λ (w : Bytes). w ∷ map spell texts) (same ∙ sym name)
