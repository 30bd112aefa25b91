-- Touches under the versions from one on.
use Rattle.std.proofs.Common.{◌≡◌, ℕ, zero, suc, ◌+◌, ◌-◌, ◌<◌, ◌≤◌, List, [], ◌∷◌, ◌++◌, length, take, drop, map, arith, refl, ap, sym, ◌∙◌, get_or}
use Rattle.std.proofs.lemmas.List.{get_or-drop, length-drop, length-take-le}
use Rattle.std.proofs.Math.Seq.{take-suc, take-add}
use Rattle.tree_geom.specs.declared.touch.Touch.{Touch}
use Rattle.tree_geom.specs.Geometry.{no_touch}
use Rattle.range_log.specs.declared.open.OpenTouch.{OpenTouch}
use Rattle.range_log.specs.Open.{no_open}
use Rattle.publisher.specs.Windows.{opens_from}

abbrev pub open_as : ℕ → Touch → OpenTouch
open_as v t = record { version = v; touch = t }

pub opens_push : (v w : ℕ) (ts : List Touch) (t : Touch) → w ≡ v + length ts → opens_from v (ts ++ t ∷ []) ≡ opens_from v ts ++ open_as w t ∷ []
opens_push v w [] t e = let f : v ≡ w = omega arith in ap (λ k. open_as k t ∷ []) f
opens_push v w (x ∷ ts) t e = ap (λ l. open_as v x ∷ l) (opens_push (v + 1) w ts t (omega arith))

pub opens_at : (v : ℕ) (ts : List Touch) (i : ℕ) → i < length ts → (get_or (opens_from v ts) i no_open).version ≡ v + i
opens_at v [] i lt = absurd (omega arith)
opens_at v (t ∷ ts) zero lt = omega arith
opens_at v (t ∷ ts) (suc i) lt = opens_at (v + 1) ts i (omega arith) ∙ (let e : v + 1 + i ≡ v + suc i = omega arith in e)

pub length-opens : (v : ℕ) (ts : List Touch) → length (opens_from v ts) ≡ length ts
length-opens v [] = refl
length-opens v (t ∷ ts) = ap suc (length-opens (v + 1) ts)

pub opens_touch : (v : ℕ) (ts : List Touch) → map (λ (o : OpenTouch). o.touch) (opens_from v ts) ≡ ts
opens_touch v [] = refl
opens_touch v (t ∷ ts) = ap (λ l. t ∷ l) (opens_touch (v + 1) ts)

-- ---- from one number to another
pub length-between : (ts : List Touch) (a b : ℕ) → a ≤ b → b ≤ length ts → length (take (b - a) (drop a ts)) ≡ b - a
length-between ts a b le within = length-take-le (b - a) (drop a ts) (omega (arith, length-drop a ts))

-- fewer than 64 of them leave room
pub few_open : (ts : List Touch) (a i : ℕ) (opens : List OpenTouch) → a ≤ i → i ≤ length ts → i - a < 64 → opens ≡ opens_from (a + 1) (take (i - a) (drop a ts)) → length opens < 64
few_open ts a i opens le within few is =
    let between : List Touch = take (i - a) (drop a ts) in
    omega (arith, ap length is ∙ length-opens (a + 1) between, length-between ts a i le within)

-- the version before the next one
pub next_open : (ts : List Touch) (a i : ℕ) (opens : List OpenTouch) → a ≤ i → i < length ts → opens ≡ opens_from (a + 1) (take (i - a) (drop a ts)) → 0 < length opens
    → i + 1 ≡ (get_or opens (length opens - 1) no_open).version + 1
next_open ts a i opens le lt is some =
    let between : List Touch = take (i - a) (drop a ts) in
    let count : length between ≡ i - a = length-between ts a i le (omega arith) in
    let long : length opens ≡ length between = ap length is ∙ length-opens (a + 1) between in
    let at : (get_or (opens_from (a + 1) between) (length opens - 1) no_open).version ≡ a + 1 + (length opens - 1) = opens_at (a + 1) between (length opens - 1) (omega arith) in
    let same : (get_or opens (length opens - 1) no_open).version ≡ (get_or (opens_from (a + 1) between) (length opens - 1) no_open).version =
    ap (λ (l : List OpenTouch). (get_or l (length opens - 1) no_open).version) is in
    omega arith

pub one_open : (ts : List Touch) (a i : ℕ) (t : Touch) (opens : List OpenTouch) → a ≤ i → i < length ts → t ≡ get_or ts i no_touch → opens ≡ opens_from (a + 1) (take (i - a) (drop a ts))
    → opens ++ open_as (i + 1) t ∷ [] ≡ opens_from (a + 1) (take (i + 1 - a) (drop a ts))
one_open ts a i t opens le lt at is =
    let rest : List Touch = drop a ts in
    let next : suc (i - a) ≡ i + 1 - a = omega arith in
    let here : a + (i - a) ≡ i = omega arith in
    let read : get_or rest (i - a) no_touch ≡ t = get_or-drop a ts (i - a) no_touch ∙ ap (λ n. get_or ts n no_touch) here ∙ sym at in
    ap (λ l. l ++ open_as (i + 1) t ∷ []) is
    ∙ sym (opens_push (a + 1) (i + 1) (take (i - a) rest) t (omega (arith, length-between ts a i le (omega arith))))
    ∙ ap (opens_from (a + 1)) (ap (λ x. take (i - a) rest ++ x ∷ []) (sym read) ∙ sym (take-suc rest (i - a) no_touch (omega (arith, length-drop a ts))) ∙ ap (λ n. take n rest) next)

-- the touches up to one, and then those from there on
pub between_joined : (ts : List Touch) (a b : ℕ) → a ≤ b → take a ts ++ take (b - a) (drop a ts) ≡ take b ts
between_joined ts a b le = let e : a + (b - a) ≡ b = omega arith in sym (take-add a (b - a) ts) ∙ ap (λ n. take n ts) e
