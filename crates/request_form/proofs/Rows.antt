-- The table of the operations, looked up.
use Rattle.std.proofs.Common.{◌≡◌, ℕ, ◌≤◌, ◌==◌, ◌&&◌, Bool, true, false, List, [], ◌∷◌, find, Option, Some, None, MatchOption, refl, rules}
use Rattle.std.proofs.lemmas.Bool.{and_parts, eqb-true}
use Rattle.std.proofs.lemmas.Slice.Eq.{bytes_eq-Decides}
use Rattle.request_form.specs.declared.operation.Operation.{Operation}
use Rattle.request_form.specs.Operations.{operations, word_of, number_of, since_of, is_word, IsWord, is_since, IsSince, HasWord, HasNumber, operation_of_word, operation_of_number}

off : (b : Bool) → (b ≡ true → ⊥) → b ≡ false
off true h = absurd (h refl)
off false h = refl

none_found : (test : Operation → Bool) (os : List Operation) → ((o : Operation) → test o ≡ true → ⊥) → find test os ≡ None
none_found test [] h = refl
none_found test (x ∷ os) h = rw (off (test x) (h x)) (none_found test os h)

-- ---- by its word

word_from : (word : Option (List ℕ)) (text : List ℕ) → is_word word text ≡ true → IsWord word text
word_from word text h = search (rules, bytes_eq-Decides)

pub word_found : (o : Operation) (text : List ℕ) → HasWord o text → operation_of_word text ≡ Some o
word_found o text h = search rules

-- what `of_word` answers is what the table has
pub word_is : (result : Option Operation) (text : List ℕ) → MatchOption result ((o : Operation) → HasWord o text → ⊥) (λ o. HasWord o text) → operation_of_word text ≡ result
word_is None text h = none_found (λ o. is_word (word_of o) text) operations (λ o e. h o (word_from (word_of o) text e))
word_is (Some o) text h = word_found o text h

-- ---- by its number

since_from : (since : Option ℕ) (version : ℕ) → is_since since version ≡ true → IsSince since version
since_from since version h = search rules

pub since_more : (since : Option ℕ) (version later : ℕ) → IsSince since version → version ≤ later → IsSince since later
since_more since version later h more = search rules

-- an operation with a number that another has, which isn't there yet
pub too_early : (o other : Operation) (number version : ℕ) → number_of other ≡ number → (IsSince (since_of other) version → ⊥) → HasNumber o number version → ⊥
too_early o other number version e early h = search rules

pub number_found : (o : Operation) (number version : ℕ) → HasNumber o number version → operation_of_number number version ≡ Some o
number_found o number version h = search rules

-- what `of_number` answers is what the table has
pub number_is : (result : Option Operation) (number version : ℕ) → MatchOption result ((o : Operation) → HasNumber o number version → ⊥) (λ o. HasNumber o number version) → operation_of_number number version ≡ result
number_is None number version h =
    none_found (λ o. number_of o == number && is_since (since_of o) version) operations
    (λ o e. let parts = and_parts (number_of o == number) (is_since (since_of o) version) e in h o (eqb-true (number_of o) number parts.0, since_from (since_of o) version parts.1))
number_is (Some o) number version h = number_found o number version h
