-- Touches under the versions from one on.
use Rattle.std.proofs.Common.{◌≡◌, ℕ, zero, suc, ◌+◌, ◌<◌, List, [], ◌∷◌, ◌++◌, length, drop, arith, refl, ap, ◌∙◌, get_or}
use Rattle.tree_geom.specs.declared.touch.Touch.{Touch}
use Rattle.range_log.specs.declared.open.OpenTouch.{OpenTouch}
use Rattle.range_log.specs.Open.{no_open}
use Rattle.publisher.specs.Windows.{opens_from}

abbrev pub open_as : ℕ → Touch → OpenTouch
open_as v t = record { version = v; touch = t }

pub opens_drop : (v : ℕ) (ts : List Touch) (m : ℕ) → drop m (opens_from v ts) ≡ opens_from (v + m) (drop m ts)
opens_drop v ts zero = let e : v ≡ v + 0 = omega arith in ap (λ k. opens_from k ts) e
opens_drop v [] (suc m) = refl
opens_drop v (t ∷ ts) (suc m) =
    let e : v + 1 + m ≡ v + suc m = omega arith in
    opens_drop (v + 1) ts m ∙ ap (λ k. opens_from k (drop m ts)) e

pub opens_push : (v w : ℕ) (ts : List Touch) (t : Touch) → w ≡ v + length ts → opens_from v (ts ++ t ∷ []) ≡ opens_from v ts ++ open_as w t ∷ []
opens_push v w [] t e = let f : v ≡ w = omega arith in ap (λ k. open_as k t ∷ []) f
opens_push v w (x ∷ ts) t e = ap (λ l. open_as v x ∷ l) (opens_push (v + 1) w ts t (omega arith))

pub opens_at : (v : ℕ) (ts : List Touch) (i : ℕ) → i < length ts → (get_or (opens_from v ts) i no_open).version ≡ v + i
opens_at v [] i lt = absurd (omega arith)
opens_at v (t ∷ ts) zero lt = omega arith
opens_at v (t ∷ ts) (suc i) lt = opens_at (v + 1) ts i (omega arith) ∙ (let e : v + 1 + i ≡ v + suc i = omega arith in e)
