-- What a text says as a line, however it goes on.
use Rattle.std.proofs.Common.{◌≡◌, ◌≢◌, ◌∙◌, ℕ, zero, suc, ◌-◌, ◌<◌, ◌≤◌, ◌==◌, nat_lt, Bool, true, false, cond, List, [], ◌∷◌, ◌++◌, length, take, drop, slice_index, Some, refl, sym, ap, arith, append-nil, length-append, length-drop}
use Rattle.std.specs.Str.Lines.{strip_carriage_return}
use Rattle.std.proofs.lemmas.Bool.{ne_eqb, le-ltb}
use Rattle.std.proofs.lemmas.List.{length-take-le, take-take, take_all}
use Rattle.std.proofs.lemmas.List.Elements.{All-take}
use Rattle.items.specs.Lines.{Lining, item_of_text, item_of}
use Rattle.items.specs.Text.{IsWithout, EndsPlain, IsText, TakesText}
use Rattle.items.specs.BegunLine.{SaysAs, Pushes}

-- ---- CRs

-- a line without its byte at that place, where it is a CR
abbrev strip_at : ℕ → List ℕ → List ℕ
strip_at n l = cond (slice_index l n == 13) (take n l) l

strip_at-cons : (n x : ℕ) (l : List ℕ) → strip_at (suc n) (x ∷ l) ≡ x ∷ strip_at n l
strip_at-cons n x l = go (slice_index l n == 13)
  where
    go : (b : Bool) → cond b (x ∷ take n l) (x ∷ l) ≡ x ∷ cond b (take n l) l
    go true = refl
    go false = refl

strip-cons : (x : ℕ) (l : List ℕ) → 0 < length l → strip_carriage_return (x ∷ l) ≡ x ∷ strip_carriage_return l
strip-cons x l some_more =
    let n : ℕ = length l - 1 in
    let here : length (x ∷ l) - 1 ≡ suc n = omega arith in
    ap (λ (m : ℕ). strip_at m (x ∷ l)) here ∙ strip_at-cons n x l

pub strip-append : (text more : List ℕ) → 0 < length more → strip_carriage_return (text ++ more) ≡ text ++ strip_carriage_return more
strip-append [] more some_more = refl
strip-append (x ∷ text) more some_more =
    let l = length-append text more in
    strip-cons x (text ++ more) (omega arith) ∙ ap (λ (t : List ℕ). x ∷ t) (strip-append text more some_more)

pub strip-plain : (text : List ℕ) → IsWithout 13 text → strip_carriage_return text ≡ text
strip-plain [] h = refl
strip-plain (b ∷ bs) h = rw (h (length (b ∷ bs) - 1) 0 (omega arith)) refl

-- text to which bytes without a CR came
pub plain_behind : (text more : List ℕ) → 0 < length more → IsWithout 13 more → EndsPlain (text ++ more)
plain_behind text more some_more out = strip-append text more some_more ∙ ap (λ (l : List ℕ). text ++ l) (strip-plain more out)

-- the item of a line that goes on behind a text
pub item_behind : {A : Type 0} (f : Lining A) (text more : List ℕ) → 0 < length more → item_of f (text ++ more) ≡ item_of_text f (text ++ strip_carriage_return more)
item_behind f text more some_more = ap (λ (l : List ℕ). item_of_text f l) (strip-append text more some_more)

pub item_plain : {A : Type 0} (f : Lining A) (text more : List ℕ) → EndsPlain text → item_of f (text ++ more) ≡ item_of_text f (text ++ strip_carriage_return more)
item_plain f text [] h = ap (λ (l : List ℕ). item_of f l) (append-nil text) ∙ ap (λ (l : List ℕ). item_of_text f l) (h ∙ sym (append-nil text))
item_plain f text (b ∷ bs) h = item_behind f text (b ∷ bs) (omega arith)

-- ---- what a text says that isn't empty and no comment

says : {A : Type 0} (f : Lining A) (text : List ℕ) → 0 < length text → slice_index text 0 ≢ 35 → item_of_text f text ≡ Some (cond (nat_lt f.limit (length text)) f.bad (f.spelled text))
says f [] some_text first = absurd (omega arith)
says f (b ∷ bs) some_text first = rw (ne_eqb b 35 first) refl

first_of : (text more : List ℕ) → 0 < length text → slice_index (text ++ more) 0 ≡ slice_index text 0
first_of [] more some_text = absurd (omega arith)
first_of (b ∷ bs) more some_text = refl

-- the same of all that it may go on as
says_on : {A : Type 0} (f : Lining A) (text more : List ℕ) → 0 < length text → slice_index text 0 ≢ 35
    → item_of_text f (text ++ more) ≡ Some (cond (nat_lt f.limit (length (text ++ more))) f.bad (f.spelled (text ++ more)))
says_on f text more some_text first =
    let l = length-append text more in
    says f (text ++ more) (omega arith) (λ e. first (sym (first_of text more some_text) ∙ e))

-- the item of a whole text that isn't too long
pub says_whole : {A : Type 0} (f : Lining A) (text : List ℕ) → 0 < length text → slice_index text 0 ≢ 35 → length text ≤ f.limit → item_of_text f text ≡ Some (f.spelled text)
says_whole f text some_text first short = says f text some_text first ∙ rw (le-ltb f.limit (length text) short) refl

-- two texts as long that spell the same however they go on
says_same : {A : Type 0} (f : Lining A) (text other : List ℕ) → 0 < length text → length other ≡ length text → slice_index text 0 ≢ 35 → slice_index other 0 ≢ 35
    → ((more : List ℕ) → f.spelled (text ++ more) ≡ f.spelled (other ++ more)) → SaysAs f text other
says_same {A = A} f text other some_text same first first' spells more =
    let l = length-append text more in
    let l' = length-append other more in
    let lengths : length (text ++ more) ≡ length (other ++ more) = omega arith in
    says_on f text more some_text first
    ∙ ap (λ (n : ℕ). Some (cond (nat_lt f.limit n) f.bad (f.spelled (text ++ more)))) lengths
    ∙ ap (λ (item : A). Some (cond (nat_lt f.limit (length (other ++ more))) f.bad item)) (spells more)
    ∙ sym (says_on f other more (omega arith) first')

-- ---- bytes that come to a text

-- its first byte is no `#`, nor are those in front of it
pub no_mark_behind : (text run : List ℕ) (k : ℕ) → slice_index text 0 ≢ 35 → (length text ≡ 0 → slice_index run 0 ≢ 35) → 0 < k → slice_index (text ++ take k run) 0 ≢ 35
no_mark_behind (b ∷ bs) run k first next some_run = first
no_mark_behind [] run zero first next some_run = absurd (omega arith)
no_mark_behind [] [] (suc k) first next some_run = first
no_mark_behind [] (b ∷ run) (suc k) first next some_run = next refl

-- so many bytes of the front of a run
pub took : {A : Type 0} (f : Lining A) (text run text' : List ℕ) (count k : ℕ) → IsText text → (length text ≡ 0 → slice_index run 0 ≢ 35) → k ≤ length run → TakesText f text (take k run) text' count → Pushes f text run text' count
took f text run text' count k is next within t =
    let front = length-take-le k run within in
    let few : count ≤ k = omega (arith, t.within) in
    let twice : take count (take k run) ≡ take count run = take-take count k run few in
    let taken = length-take-le count run (omega arith) in
    let joined = length-append text (take count run) in
    let some_count = t.some in
    record {
      some = t.some;
      within = omega arith;
      says = says_same f (text ++ take count run) text' (omega arith) (omega (arith, t.longer)) (no_mark_behind text run count is.no_mark next some_count) t.is_text.no_mark
          (λ more. ap (λ (l : List ℕ). f.spelled ((text ++ l) ++ more)) (sym twice) ∙ t.spells more);
      ends = λ out. t.ends (All-take (λ x. (x == 13) ≡ false) k run out);
    }

-- what is left of a piece behind those that were taken
pub tail_is : (piece : List ℕ) (taken : ℕ) → taken ≤ length piece → take (length piece - taken) (drop taken piece) ≡ drop taken piece
tail_is piece taken within = let there = length-drop taken piece in take_all (length piece - taken) (drop taken piece) (omega arith)
