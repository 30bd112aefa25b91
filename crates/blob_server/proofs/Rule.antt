-- Each step keeps the rule of the queue.
use Rattle.std.proofs.Common.{◌≡◌, ℕ, zero, suc, ◌+◌, ◌-◌, ◌<◌, List, [], ◌∷◌, ◌++◌, length, set, refl, ap, sym, arith, length-append}
use Rattle.std.specs.List.{All}
use Rattle.std.specs.Prelude.{sum_by}
use Rattle.std.proofs.lemmas.List.Sums.{sum_by-append, sum_by-cons}
use Rattle.std.proofs.lemmas.List.Elements.{All-nil, All-cons, All-head, All-tail, All-set, All-push}
use mathlib.Core.Option.{some, some-injective, some-ne-none}
use lib.ListN.{get_elem?}
use Rattle.crossbeam_queue.specs.Fifo.{Pushes, Pops, Forks, Merges, Learns}
use Rattle.blob_server.specs.declared.tally.Tally.{Tally}
use Rattle.blob_server.specs.Tallies.{all_parts, tally, both, after_put, after_take, IsEmptyIfIdle, Balanced, HasTaken}

-- ---- sums over what is known

module _ {X : Type 0} where
  -- one entry is changed
  pub sum_changed : (f : X → ℕ) (xs : List X) (k : ℕ) (x y : X) → get_elem? xs k ≡ some x → sum_by f (set xs k y) + f x ≡ sum_by f xs + f y
  sum_changed f [] k x y at = absurd (some-ne-none x (sym at))
  sum_changed f (a ∷ xs) zero x y at =
      let same : f a ≡ f x = ap f (some-injective a x at) in
      let new = sum_by-cons f y xs in
      let old = sum_by-cons f a xs in
      omega (arith, same, new, old)
  sum_changed f (a ∷ xs) (suc k) x y at =
      let rest = sum_changed f xs k x y at in
      let new = sum_by-cons f a (set xs k y) in
      let old = sum_by-cons f a xs in
      omega (arith, rest, new, old)

module _ {P : Type 0} where
  abbrev parts_of : Tally P → ℕ
  parts_of v = v.parts

  abbrev put_of : Tally P → ℕ
  put_of v = v.put

  abbrev taken_of : Tally P → ℕ
  taken_of v = length v.taken

  abbrev empty : Tally P
  empty = tally 0 0 []

  -- where no pass has a part, none has put or taken anything
  none_put : (views : List (Tally P)) → All IsEmptyIfIdle views → sum_by parts_of views ≡ 0 → (sum_by put_of views ≡ 0) × (sum_by taken_of views ≡ 0)
  none_put [] idle no_parts = (refl, refl)
  none_put (v ∷ vs) idle no_parts =
      let parts = sum_by-cons parts_of v vs in
      let put = sum_by-cons put_of v vs in
      let taken = sum_by-cons taken_of v vs in
      let here = All-head IsEmptyIfIdle v vs idle (omega (arith, parts, no_parts)) in
      let rest = none_put vs (All-tail IsEmptyIfIdle v vs idle) (omega (arith, parts, no_parts)) in
      let h0 = here.0 in let h1 = here.1 in let r0 = rest.0 in let r1 = rest.1 in
      (omega (arith, put, h0, r0), omega (arith, taken, h1, r1))

  -- one pass knows more, and holds its parts
  changed : (items items' : List P) (views : List (Tally P)) (port : ℕ) (v w : Tally P) → Balanced items views → get_elem? views port ≡ some v
      → w.parts ≡ v.parts → w.put + length v.taken + length items ≡ v.put + length w.taken + length items' → (w.parts ≡ 0 → (w.put ≡ 0) × (length w.taken ≡ 0))
      → Balanced items' (set views port w)
  changed items items' views port v w b at same even idle =
      let parts = sum_changed parts_of views port v w at in
      let put = sum_changed put_of views port v w at in
      let taken = sum_changed taken_of views port v w at in
      let b0 = b.parts in
      let b1 = b.even in
      record {
        parts = omega (arith, parts, same, b0);
        even = omega (arith, put, taken, b1, even);
        idle = All-set IsEmptyIfIdle views port w idle b.idle;
      }

  pub begins : Balanced {P = P} [] (tally all_parts 0 [] ∷ [])
  begins = record { parts = refl; even = refl; idle = All-cons IsEmptyIfIdle (tally all_parts 0 []) [] (λ no. absurd (omega arith)) (All-nil IsEmptyIfIdle) }

  pub puts : (n port : ℕ) (v : Tally P) (x : P) → 0 < v.parts → Pushes Balanced n port v x (λ w. w ≡ after_put v)
  puts n port v x some_part items views room b at = (
    after_put v,
    changed items (items ++ x ∷ []) views port v (after_put v) b at refl (let more = length-append items (x ∷ []) in omega arith) (λ none. absurd (omega arith)),
    refl,
  )

  pub takes : (port : ℕ) (v : Tally P) → 0 < v.parts → Pops Balanced port v (λ x w. w ≡ after_take v x)
  takes port v some_part x items views b at = (
    after_take v x,
    changed (x ∷ items) items views port v (after_take v x) b at refl (let more = length-append v.taken (x ∷ []) in omega arith) (λ none. absurd (omega arith)),
    refl,
  )

  pub forks : (port : ℕ) (v : Tally P) → 1 < v.parts → Forks Balanced port v (tally (v.parts - 1) v.put v.taken) (tally 1 0 [])
  forks port v some_parts items views b at =
      let left = tally (v.parts - 1) v.put v.taken in
      let right : Tally P = tally 1 0 [] in
      let views' = set views port left in
      let parts = sum_changed parts_of views port v left at in
      let put = sum_changed put_of views port v left at in
      let taken = sum_changed taken_of views port v left at in
      let parts' = sum_by-append parts_of views' (right ∷ []) in
      let put' = sum_by-append put_of views' (right ∷ []) in
      let taken' = sum_by-append taken_of views' (right ∷ []) in
      let b0 = b.parts in
      let b1 = b.even in
      record {
        parts = omega (arith, parts, parts', b0, some_parts);
        even = omega (arith, put, taken, put', taken', b1);
        idle = All-push IsEmptyIfIdle views' right (All-set IsEmptyIfIdle views port left (λ none. absurd (omega (arith, some_parts, none))) b.idle) (λ none. absurd (omega (arith, none)));
      }

  pub merges : (port : ℕ) (v : Tally P) (other : ℕ) (w : Tally P) → 0 < v.parts → Merges Balanced port v other w (both v w) (tally 0 0 [])
  merges port v other w some_part items views b at two at' =
      let views' = set views port (both v w) in
      let parts = sum_changed parts_of views port v (both v w) at in
      let put = sum_changed put_of views port v (both v w) at in
      let taken = sum_changed taken_of views port v (both v w) at in
      let parts' = sum_changed parts_of views' other w empty at' in
      let put' = sum_changed put_of views' other w empty at' in
      let taken' = sum_changed taken_of views' other w empty at' in
      let joined = length-append v.taken w.taken in
      let b0 = b.parts in
      let b1 = b.even in
      record {
        parts = omega (arith, parts, parts', b0);
        even = omega (arith, put, taken, put', taken', b1, joined);
        idle = All-set IsEmptyIfIdle views' other empty (λ _. (refl, refl)) (All-set IsEmptyIfIdle views port (both v w) (λ none. absurd (omega (arith, some_part, none))) b.idle);
      }

  pub learns : (port : ℕ) (v : Tally P) → Learns Balanced port v (HasTaken v)
  learns port v items views b at all =
      let views' = set views port empty in
      let parts = sum_changed parts_of views port v empty at in
      let put = sum_changed put_of views port v empty at in
      let taken = sum_changed taken_of views port v empty at in
      let b0 = b.parts in
      let b1 = b.even in
      let rest = none_put views' (All-set IsEmptyIfIdle views port empty (λ _. (refl, refl)) b.idle) (omega (arith, parts, b0, all)) in
      let r0 = rest.0 in
      let r1 = rest.1 in
      omega (arith, put, taken, b1, r0, r1)
