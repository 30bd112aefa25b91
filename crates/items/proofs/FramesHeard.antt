-- What streams of frames say, frame by frame.
use Rattle.std.proofs.Common.{◌≡◌, ◌∙◌, ℕ, zero, suc, ◌+◌, ◌<◌, ◌≤◌, ◌==◌, nat_le, Bool, cond, true, false, not, List, [], ◌∷◌, ◌++◌, length, refl, sym, ap, subst, arith, append_assoc, append-nil, length-append}
use Rattle.std.proofs.lemmas.Bool.{and_parts}
use Rattle.std.proofs.lemmas.Bool.Decides.{nat_tests}
use Rattle.byteorder.specs.Numbers.{big_from-append}
use Rattle.items.specs.Items.{after_item}
use Rattle.items.specs.Framing.{Framing, length_of, item_of, is_whole, framed_behind, framed}
use Rattle.items.specs.Taken.{IsOpen}

-- the length stands in the first four bytes
pub length_front : (p q : List ℕ) → 4 ≤ length p → length_of (p ++ q) ≡ length_of p
length_front p q h = big_from-append 4 p q h

pub whole_is : (p : List ℕ) → is_whole p ≡ true → (4 ≤ length p) × (length p ≡ 4 + length_of p)
whole_is p h = let both = and_parts (nat_le 4 (length p)) _ h in (grind (arith, nat_tests, both.0), grind (arith, nat_tests, both.1))

pub is_whole_by : (p : List ℕ) (n : ℕ) → length_of p ≡ n → length p ≡ 4 + n → is_whole p ≡ true
is_whole_by p n number lengths = grind (arith, nat_tests, number, lengths)

pub open_not_whole : (p : List ℕ) → IsOpen p → is_whole p ≡ false
open_not_whole p h = go (is_whole p) refl
  where
    go : (b : Bool) → is_whole p ≡ b → b ≡ false
    go true e = let w = whole_is p e in let less = h w.0 in absurd (omega arith)
    go false e = refl

open_front : (p q : List ℕ) → IsOpen (p ++ q) → IsOpen p
open_front p q h four =
    let lengths = length-append p q in
    let number = length_front p q four in
    let less = h (omega arith) in
    omega arith

whole_front : (p q : List ℕ) → is_whole (p ++ q) ≡ true → 0 < length q → IsOpen p
whole_front p q whole some_more four =
    let lengths = length-append p q in
    let number = length_front p q four in
    let w = whole_is (p ++ q) whole in
    omega arith

-- bytes behind a begun frame that don't make it whole are a part of it
pub open_on : {A : Type 0} (f : Framing A) (begun xs more : List ℕ) → IsOpen (begun ++ xs) → framed_behind f begun (xs ++ more) ≡ framed_behind f (begun ++ xs) more
open_on f begun [] more h = ap (λ (l : List ℕ). framed_behind f l more) (sym (append-nil begun))
open_on f begun (b ∷ xs) more h =
    let joined = append_assoc begun (b ∷ []) xs in
    let here = subst IsOpen (sym joined) h in
    let first = open_not_whole (begun ++ b ∷ []) (open_front (begun ++ b ∷ []) xs here) in
    rw first (open_on f (begun ++ b ∷ []) xs more here ∙ ap (λ (l : List ℕ). framed_behind f l more) joined)

-- bytes that make it whole are an item
pub fill : {A : Type 0} (f : Framing A) (begun xs more : List ℕ) → 0 < length xs → is_whole (begun ++ xs) ≡ true → framed_behind f begun (xs ++ more) ≡ after_item (item_of f (begun ++ xs)) (framed f more)
fill f begun [] more some_more whole = absurd (omega arith)
fill f begun (b ∷ []) more some_more whole = rw whole refl
fill f begun (b ∷ c ∷ xs) more some_more whole =
    let joined = append_assoc begun (b ∷ []) (c ∷ xs) in
    let here = subst (λ (l : List ℕ). is_whole l ≡ true) (sym joined) whole in
    let first = open_not_whole (begun ++ b ∷ []) (whole_front (begun ++ b ∷ []) (c ∷ xs) here (omega arith)) in
    rw first (fill f (begun ++ b ∷ []) (c ∷ xs) more (omega arith) here ∙ ap (λ (l : List ℕ). after_item (item_of f l) (framed f more)) joined)

-- ---- two begun frames that go on alike

-- as many bytes are to come, and they are one item whatever comes
pub record Alike {A : Type 0} (f : Framing A) (p q : List ℕ) (left : ℕ) : Type 0 where
  pub four_p : 4 ≤ length p
  pub four_q : 4 ≤ length q
  pub left_p : length p + left ≡ 4 + length_of p
  pub left_q : length q + left ≡ 4 + length_of q
  pub same_item : (xs : List ℕ) → length xs ≡ left → item_of f (p ++ xs) ≡ item_of f (q ++ xs)

pub whole_now : (p : List ℕ) → 4 ≤ length p → length p + 0 ≡ 4 + length_of p → is_whole p ≡ true
whole_now p four lengths = is_whole_by p (length_of p) refl (omega arith)

pub open_now : (p : List ℕ) (left : ℕ) → length p + left ≡ 4 + length_of p → 0 < left → IsOpen p
open_now p left lengths more four = omega arith

push_length : (p : List ℕ) (b left : ℕ) → 4 ≤ length p → length p + suc left ≡ 4 + length_of p → (length (p ++ b ∷ []) + left ≡ 4 + length_of (p ++ b ∷ [])) × (4 ≤ length (p ++ b ∷ []))
push_length p b left four lengths =
    let n = length_front p (b ∷ []) four in
    let l = length-append p (b ∷ []) in
    (omega arith, omega arith)

pushed : {A : Type 0} (f : Framing A) (p q : List ℕ) (b left : ℕ) → Alike f p q (suc left) → Alike f (p ++ b ∷ []) (q ++ b ∷ []) left
pushed f p q b left a =
    let in_p = push_length p b left a.four_p a.left_p in
    let in_q = push_length q b left a.four_q a.left_q in
    record {
      four_p = in_p.1;
      four_q = in_q.1;
      left_p = in_p.0;
      left_q = in_q.0;
      same_item = λ xs h.
          ap (item_of f) (append_assoc p (b ∷ []) xs) ∙ a.same_item (b ∷ xs) (omega arith) ∙ sym (ap (item_of f) (append_assoc q (b ∷ []) xs));
    }

some_test : (n : ℕ) → 4 ≤ n → (n == 0) ≡ false
some_test n h = grind (arith, nat_tests, h)

whole_alike : {A : Type 0} (f : Framing A) (p q : List ℕ) → Alike f p q 0 → item_of f p ≡ item_of f q
whole_alike f p q a = ap (item_of f) (sym (append-nil p)) ∙ a.same_item [] refl ∙ ap (item_of f) (append-nil q)

-- behind frames that have begun and aren't whole
alike_behind : {A : Type 0} (f : Framing A) (p q more : List ℕ) (left : ℕ) → Alike f p q (suc left) → framed_behind f p more ≡ framed_behind f q more
alike_behind f p q [] left a = rw (some_test (length p) a.four_p, some_test (length q) a.four_q) refl
alike_behind f p q (b ∷ more) left a = go left (pushed f p q b left a) (alike_behind f (p ++ b ∷ []) (q ++ b ∷ []) more)
  where
    go : (left' : ℕ) → Alike f (p ++ b ∷ []) (q ++ b ∷ []) left'
        → ((l : ℕ) → Alike f (p ++ b ∷ []) (q ++ b ∷ []) (suc l) → framed_behind f (p ++ b ∷ []) more ≡ framed_behind f (q ++ b ∷ []) more)
        → framed_behind f p (b ∷ more) ≡ framed_behind f q (b ∷ more)
    go zero here on =
        rw (whole_now (p ++ b ∷ []) here.four_p here.left_p, whole_now (q ++ b ∷ []) here.four_q here.left_q, whole_alike f (p ++ b ∷ []) (q ++ b ∷ []) here) refl
    go (suc l) here on =
        rw (open_not_whole (p ++ b ∷ []) (open_now (p ++ b ∷ []) (suc l) here.left_p (omega arith)), open_not_whole (q ++ b ∷ []) (open_now (q ++ b ∷ []) (suc l) here.left_q (omega arith)))
        (on l here)

-- a whole frame is an item, and the next begins behind it
pub whole_heard : {A : Type 0} (f : Framing A) (p more : List ℕ) → is_whole p ≡ true → framed f (p ++ more) ≡ after_item (item_of f p) (framed f more)
whole_heard f p more whole = fill f [] p more (let w = whole_is p whole in omega arith) whole

pub alike_on : {A : Type 0} (f : Framing A) (p q : List ℕ) (left : ℕ) → Alike f p q left → (more : List ℕ) → framed f (p ++ more) ≡ framed f (q ++ more)
alike_on {A = A} f p q zero a more =
    whole_heard f p more (whole_now p a.four_p a.left_p) ∙ ap (λ (h : A). after_item h (framed f more)) (whole_alike f p q a) ∙ sym (whole_heard f q more (whole_now q a.four_q a.left_q))
alike_on f p q (suc left) a more =
    open_on f [] p more (open_now p (suc left) a.left_p (omega arith)) ∙ alike_behind f p q more left a ∙ sym (open_on f [] q more (open_now q (suc left) a.left_q (omega arith)))

-- ---- the end

pub cut_where : {A : Type 0} (f : Framing A) (begun bytes : List ℕ) → (framed_behind f begun bytes).whole ≡ [] → (framed_behind f begun bytes).cut ≡ not (length (begun ++ bytes) == 0)
cut_where f begun [] none = ap (λ (l : List ℕ). not (length l == 0)) (sym (append-nil begun))
cut_where f begun (b ∷ bytes) none = go (is_whole (begun ++ b ∷ [])) refl none (cut_where f (begun ++ b ∷ []) bytes)
  where
    go : (w : Bool) → is_whole (begun ++ b ∷ []) ≡ w → (cond w (after_item (item_of f (begun ++ b ∷ [])) (framed f bytes)) (framed_behind f (begun ++ b ∷ []) bytes)).whole ≡ []
        → ((framed_behind f (begun ++ b ∷ []) bytes).whole ≡ [] → (framed_behind f (begun ++ b ∷ []) bytes).cut ≡ not (length ((begun ++ b ∷ []) ++ bytes) == 0))
        → (framed_behind f begun (b ∷ bytes)).cut ≡ not (length (begun ++ b ∷ bytes) == 0)
    go true e k on = absurd (cc)
    go false e k on = rw e (on k ∙ ap (λ (l : List ℕ). not (length l == 0)) (append_assoc begun (b ∷ []) bytes))
