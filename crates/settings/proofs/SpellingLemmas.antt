-- How words are taken apart.
use Rattle.std.proofs.Common.{◌≡◌, ◌≢◌, ◌∙◌, ℕ, ◌+◌, ◌<◌, ◌==◌, String, Global, string_bytes, Bool, true, false, List, [], ◌∷◌, map, drop, length, get_or, Option, Some, None, option_map, refl, sym, ap}
use Rattle.std.specs.Option.{is_some, option_map_or}
use Rattle.std.proofs.lemmas.List.{drop_more}
use Rattle.std.specs.Prelude.{MatchOption}
use Rattle.std.specs.Borrow.{Bor}
use Rattle.clap.specs.Lexer.{strip_byte}
use Rattle.clap.proofs.LexerLemmas.{strip_byte-from}
use Rattle.settings.specs.Words.{Bytes, Pair, strip_hyphen, is_plain, option_word, is_listed, pairs_of, with_pair, after_name, at_option}
use Rattle.settings.specs.Spelling.{waits_after, waits_after_name, waits_after_option, is_spelled}

same_strip : (word : Bytes) → strip_byte 45 word ≡ strip_hyphen word
same_strip [] = refl
same_strip (b ∷ bs) = refl

pub strip_hyphen-from : (bs : Bytes) (r : Option (Bor (List ℕ)))
    → MatchOption r ((rest : List ℕ) → bs ≢ 45 ∷ rest) (λ x. bs ≡ 45 ∷ x.now) → option_map (λ s. s.now) r ≡ strip_hyphen bs
strip_hyphen-from bs r h = strip_byte-from 45 bs r h ∙ same_strip bs

-- which option waits makes no difference to whether words spell pairs
pair_some : (name value : Bytes) (o : Option (List Pair)) → is_some (with_pair name value o) ≡ is_some o
pair_some name value None = refl
pair_some name value (Some ps) = refl

same_word : (names : List Bytes) (word : Bytes) (words : List Bytes) (a b : Bytes) → is_some (pairs_of names (word ∷ words) (Some a)) ≡ is_some (pairs_of names (word ∷ words) (Some b))
same_word names word words a b = go (is_plain word) refl
  where
    go : (p : Bool) → is_plain word ≡ p → is_some (pairs_of names (word ∷ words) (Some a)) ≡ is_some (pairs_of names (word ∷ words) (Some b))
    go true e = rw e (pair_some a word _ ∙ sym (pair_some b word _))
    go false e = rw e refl

pub any_name : (names : List Bytes) (words : List Bytes) (a : Bytes) → is_some (pairs_of names words (Some a)) ≡ is_spelled names words true
any_name names [] a = refl
any_name names (word ∷ words) a = same_word names word words a []

name_next : (names words : List Bytes) (name : Bytes) (value : Option Bytes)
    → is_some (after_name name value (pairs_of names words)) ≡ option_map_or (is_spelled names words) (waits_after_name value) false
name_next names words name None = any_name names words name
name_next names words name (Some value) = go (length value == 0) refl
  where
    go : (b : Bool) → (length value == 0) ≡ b
        → is_some (after_name name (Some value) (pairs_of names words)) ≡ option_map_or (is_spelled names words) (waits_after_name (Some value)) false
    go true e = rw e refl
    go false e = rw e (pair_some name value (pairs_of names words None))

option_next : (names words : List Bytes) (o : Option (Bytes × Option Bytes))
    → is_some (at_option names o (pairs_of names words)) ≡ option_map_or (is_spelled names words) (waits_after_option names o) false
option_next names words None = refl
option_next names words (Some o) = go (is_listed names o.0) refl
  where
    go : (b : Bool) → is_listed names o.0 ≡ b → is_some (at_option names (Some o) (pairs_of names words)) ≡ option_map_or (is_spelled names words) (waits_after_option names (Some o)) false
    go true e = rw e (name_next names words o.0 o.1)
    go false e = rw e refl

-- words spell pairs where the first may stand there and the others spell pairs after it
spelled_next : (names : List Bytes) (word : Bytes) (words : List Bytes) (waits : Bool)
    → is_spelled names (word ∷ words) waits ≡ option_map_or (is_spelled names words) (waits_after names waits word) false
spelled_next names word words true = go (is_plain word) refl
  where
    go : (b : Bool) → is_plain word ≡ b → is_spelled names (word ∷ words) true ≡ option_map_or (is_spelled names words) (waits_after names true word) false
    go true e = rw e (pair_some [] word (pairs_of names words None))
    go false e = rw e refl
spelled_next names word words false = option_next names words (option_word word)

pub spelled_at : (names words : List Bytes) (word : Bytes) (waits : Bool) (o : Option Bool) → o ≡ waits_after names waits word
    → is_spelled names (word ∷ words) waits ≡ option_map_or (is_spelled names words) o false
spelled_at names words word waits o e = spelled_next names word words waits ∙ ap (λ p. option_map_or (is_spelled names words) p false) (sym e)

pub texts_from : (words : List (String Global)) (i : ℕ) (word : String Global) → i < length words → word ≡ get_or words i word
    → map string_bytes (drop i words) ≡ string_bytes word ∷ map string_bytes (drop (i + 1) words)
texts_from words i word lt at = ap (map string_bytes) (drop_more words i word lt) ∙ ap (λ w. string_bytes w ∷ map string_bytes (drop (i + 1) words)) (sym at)
