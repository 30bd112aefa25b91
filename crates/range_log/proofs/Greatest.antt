-- The newest version that touches a range.
use Rattle.std.proofs.Common.{◌≡◌, ℕ, ◌+◌, ◌≤◌, zero, suc, List, arith, inl, inr, refl, subst, ◌⊎◌, true, false, Bool}
use Rattle.std.proofs.lemmas.Bool.{cases_lt, cases_order}
use Rattle.tree_geom.specs.declared.range.Range.{Range}
use Rattle.tree_geom.specs.declared.touch.Touch.{Touch}
use Rattle.tree_geom.specs.Geometry.{Meets}
use Rattle.tree_geom.proofs.Touches.{meets_true, meets_false, meets_cases}
use Rattle.range_log.specs.Log.{touch_at, newest_of, IsNewest}
use Rattle.range_log.specs.Laws.{NewestIsGreatest, LinksAgree, NewestHits, NewestMisses, NewestOfNone}

pub bool_cases : (b : Bool) → (b ≡ true) ⊎ (b ≡ false)
bool_cases true = inl refl
bool_cases false = inr refl

pub newest_hit : NewestHits
unfolding newest_of
newest_hit p log k r h = rw (meets_true p (touch_at log (suc k)) r h, newest_of)

pub newest_miss : NewestMisses
unfolding newest_of
newest_miss p log k r h = rw (meets_false p (touch_at log (suc k)) r h, newest_of)

pub newest_none : NewestOfNone
unfolding newest_of
newest_none p log r = refl

pub newest_is : (p : ℕ) (log : List Touch) (k : ℕ) (r : Range) → IsNewest p log k r (newest_of p log k r)
unfolding newest_of
newest_is p log zero r = record { upto = omega arith; met = λ h. absurd (omega arith); none = λ i a b m. omega arith }
newest_is p log (suc k) r =
    elim (meets_cases p (touch_at log (suc k)) r) [
      | inl hit ↦
          rw (newest_hit p log k r hit)
          (record { upto = omega arith; met = λ h. hit; none = λ i a b m. omega arith })
      | inr miss ↦
          let before = newest_is p log k r in
          rw (newest_miss p log k r miss)
          (record {
            upto = omega (arith, before.upto);
            met = before.met;
            none = λ i a b m. elim (cases_order i (suc k)) [
              | inl e ↦ miss (let P : ℕ → Type 0 = λ n. Meets p (touch_at log n) r in subst P e m)
              | inr d ↦ before.none i a (omega (arith, d, b)) m
            ];
          })
    ]

pub only_one : {p : ℕ} {log : List Touch} {k : ℕ} {r : Range} {i j : ℕ} → IsNewest p log k r i → IsNewest p log k r j → i ≡ j
only_one {p} {log} {k} {r} {i} {j} a b =
    elim (cases_order i j) [
      | inl e ↦ e
      | inr d ↦ elim d [
        | inl lt ↦ absurd (a.none j lt b.upto (b.met (omega arith)))
        | inr gt ↦ absurd (b.none i gt a.upto (a.met (omega arith)))
      ]
    ]

-- a part of a range
abbrev pub Within : Range → Range → Type 0
Within s r = (r.offset ≤ s.offset) × (s.offset + s.size ≤ r.offset + r.size)

pub meets_wider : (p : ℕ) (t : Touch) (s r : Range) → Within s r → Meets p t s → Meets p t r
meets_wider p t s r w m = (omega (arith, w, m), omega (arith, w, m), omega (arith, w, m))

-- The newest version of a part of a range is no newer than that of the range, and is the newest there too.
pub newest_within : (p : ℕ) (log : List Touch) (k : ℕ) (s r : Range) → Within s r
    → newest_of p log (newest_of p log k r) s ≡ newest_of p log k s
newest_within p log k s r w =
    let whole : IsNewest p log k r (newest_of p log k r) = newest_is p log k r in
    let part : IsNewest p log k s (newest_of p log k s) = newest_is p log k s in
    let there : IsNewest p log (newest_of p log k r) s (newest_of p log k s) = record {
      upto = elim (cases_lt (newest_of p log k r) (newest_of p log k s)) [
        | inl lt ↦ absurd (whole.none (newest_of p log k s) lt part.upto (meets_wider p (touch_at log (newest_of p log k s)) s r w (part.met (omega arith))))
        | inr ge ↦ ge
      ];
      met = part.met;
      none = λ i a b m. part.none i a (omega (arith, whole.upto)) m;
    } in
    only_one (newest_is p log (newest_of p log k r) s) there

pub links_agree : LinksAgree
links_agree p k log s r from to = newest_within p log k s r (from, to)

pub newest_is_greatest : NewestIsGreatest
newest_is_greatest p k log r = (newest_is p log k r, λ j h. only_one h (newest_is p log k r))
