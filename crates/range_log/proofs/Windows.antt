-- A page of what a put leaves, and the pieces of an update that lie in a page.
use Rattle.std.proofs.Common.{◌≡◌, ℕ, ◌+◌, ◌-◌, ◌<◌, ◌≤◌, List, ◌++◌, length, take, drop, get_or, arith, inl, inr, ap, sym, ◌∙◌, max, min, length-take, length-append, length-drop, append_assoc}
use Rattle.std.proofs.lemmas.Bool.{cases_lt}
use Rattle.std.proofs.lemmas.List.{get_or_append_left, get_or-append_right, get_or-take, get_or-drop, length-take-le, ext_get_or}
use Rattle.blob_model.specs.Content.{put}
use Rattle.range_log.proofs.Bytes.{length-put}

pub put_before : (c : List ℕ) (at : ℕ) (b : List ℕ) (x : ℕ) → at ≤ length c → x < at → get_or (put c at b) x 0 ≡ get_or c x 0
put_before c at b x fits lt =
    ap (λ l. get_or l x 0) (append_assoc (take at c) b (drop (at + length b) c))
    ∙ get_or_append_left (take at c) (b ++ drop (at + length b) c) 0 x (omega (arith, length-take-le at c fits))
    ∙ get_or-take at c x 0 lt

pub put_within : (c : List ℕ) (at : ℕ) (b : List ℕ) (x : ℕ) → at ≤ length c → at ≤ x → x < at + length b → get_or (put c at b) x 0 ≡ get_or b (x - at) 0
put_within c at b x fits from to =
    ap (λ l. get_or l x 0) (append_assoc (take at c) b (drop (at + length b) c))
    ∙ get_or-append_right (take at c) (b ++ drop (at + length b) c) at x 0 (length-take-le at c fits) from
    ∙ get_or_append_left b (drop (at + length b) c) 0 (x - at) (omega arith)

pub put_after : (c : List ℕ) (at : ℕ) (b : List ℕ) (x : ℕ) → at ≤ length c → at + length b ≤ x → get_or (put c at b) x 0 ≡ get_or c x 0
put_after c at b x fits from =
    let n : ℕ = at + length b in
    let e : n + (x - n) ≡ x = omega arith in
    get_or-append_right (take at c ++ b) (drop n c) n x 0 (length-append (take at c) b ∙ ap (λ k. k + length b) (length-take-le at c fits)) from
    ∙ get_or-drop n c (x - n) 0
    ∙ ap (λ k. get_or c k 0) e

window : (xs : List ℕ) (o p y : ℕ) → y < p → get_or (take p (drop o xs)) y 0 ≡ get_or xs (o + y) 0
window xs o p y lt = get_or-take p (drop o xs) y 0 lt ∙ get_or-drop o xs y 0

pub length-window : (xs : List ℕ) (o p : ℕ) → length (take p (drop o xs)) ≡ min p (length xs - o)
length-window xs o p = length-take p (drop o xs) ∙ ap (min p) (length-drop o xs)

-- the bytes of b, put at `at`, that fall in a window
abbrev pub part : List ℕ → ℕ → ℕ → ℕ → List ℕ
part b at o p = take (min (at + length b) (o + p) - max at o) (drop (max at o - at) b)

pub part_length : (b : List ℕ) (at o p : ℕ) → length (part b at o p) ≡ min (at + length b) (o + p) - max at o
part_length b at o p =
    let e : length (part b at o p) ≡ min (min (at + length b) (o + p) - max at o) (length b - (max at o - at)) = length-window b (max at o - at) (min (at + length b) (o + p) - max at o) in
    omega (arith, e)

part_at : (b : List ℕ) (at o p y : ℕ) → max at o - o ≤ y → o + y < min (at + length b) (o + p) → get_or (part b at o p) (y - (max at o - o)) 0 ≡ get_or b (o + y - at) 0
part_at b at o p y from to =
    let e : max at o - at + (y - (max at o - o)) ≡ o + y - at = omega arith in
    window b (max at o - at) (min (at + length b) (o + p) - max at o) (y - (max at o - o)) (omega arith)
    ∙ ap (λ k. get_or b k 0) e

pub window_put : (c b : List ℕ) (at o p : ℕ) → at ≤ length c → o < at + length b → at < o + p
    → take p (drop o (put c at b)) ≡ put (take p (drop o c)) (max at o - o) (part b at o p)
window_put c b at o p fits from to =
    let w : List ℕ = take p (drop o c) in
    let s : ℕ = max at o - o in
    let n : length (part b at o p) ≡ min (at + length b) (o + p) - max at o = part_length b at o p in
    let lw : length w ≡ min p (length c - o) = length-window c o p in
    let left : length (take p (drop o (put c at b))) ≡ min p (max (length c) (at + length b) - o) = length-window (put c at b) o p ∙ ap (λ k. min p (k - o)) (length-put c at b fits) in
    let inside : s ≤ length w = omega (arith, lw) in
    let right : length (put w s (part b at o p)) ≡ max (length w) (s + length (part b at o p)) = length-put w s (part b at o p) inside in
    ext_get_or 0 (take p (drop o (put c at b))) (put w s (part b at o p)) (omega (arith, left, right, n, lw))
    (λ y lt.
    let small : y < p = omega (arith, left) in
    window (put c at b) o p y small
    ∙ elim (cases_lt y s) [
      | inl before ↦
          put_before c at b (o + y) fits (omega arith)
          ∙ sym (put_before w s (part b at o p) y inside before ∙ window c o p y small)
      | inr past ↦
          elim (cases_lt y (s + length (part b at o p))) [
            | inl within ↦
                put_within c at b (o + y) fits (omega arith) (omega (arith, n))
                ∙ sym (put_within w s (part b at o p) y inside past within ∙ part_at b at o p y past (omega (arith, n)))
            | inr after ↦
                put_after c at b (o + y) fits (omega (arith, n))
                ∙ sym (put_after w s (part b at o p) y inside after ∙ window c o p y small)
          ]
    ])
