use Rattle.std.proofs.Common.{◌≡◌, ℕ, ◌+◌, ◌-◌, ◌≤◌, List, [], ◌∷◌, ◌++◌, length, take, drop, map, get_or, Some, None, vec_len, sym, ap, ◌∙◌, arith, inl, inr}
use Rattle.std.specs.Prelude.{slice_get, vec_capacity}
use Rattle.std.specs.Arc.{arc_value}
use Rattle.std.proofs.lemmas.List.{map_push, take_more, length-drop, get_or-drop}
use Rattle.std.proofs.lemmas.Option.{none-some, slice_get_within, slice_get_cases, get_or_from_slice_get}
use Rattle.radix_list.proofs.grown.Grown.rest.Goals as goal
use Rattle.radix_list.proofs.grown.Grown.rest.Goals.{in-Some+in_ok-try_clone, in_default}

-- one item more of those from a on
one_more : {X Y : Type 0} (f : X → Y) (items : List X) (x : X) (xs : List Y) (a i : ℕ) → map f items ≡ take (i - a) (drop a xs) → slice_get xs i ≡ Some (f x) → a ≤ i
    → map f (items ++ x ∷ []) ≡ take (i + 1 - a) (drop a xs)
one_more f items x xs a i so_far is from =
    let rest = drop a xs in
    let e : a + (i - a) ≡ i = omega arith in
    let n : i - a + 1 ≡ i + 1 - a = omega arith in
    let read : get_or rest (i - a) (f x) ≡ f x = get_or-drop a xs (i - a) (f x) ∙ (ap (λ j. get_or xs j (f x)) e ∙ get_or_from_slice_get xs i (f x) (f x) is) in
    map_push f items x
    ∙ (ap (λ l. l ++ f x ∷ []) so_far
    ∙ (ap (λ y. take (i - a) rest ++ y ∷ []) (sym read)
    ∙ (sym (take_more rest (i - a) (f x) (omega (arith, slice_get_within xs i (f x) is, length-drop a xs))) ∙ ap (λ k. take k rest) n)))

there : {X : Type 0} (xs : List X) (i : ℕ) → slice_get xs i ≡ None → length xs ≤ i
there xs i none = elim (slice_get_cases xs i).1 [
  | inl here ↦ absurd (none-some here.0 (sym none ∙ here.2))
  | inr past ↦ past.0
]

pub loop-i-preserved : goal.loop-i-preserved
loop-i-preserved g c =
    elim c.match-handle.branch [
      | in-Some+in_ok-try_clone w ↦ record {
        count = omega (arith, ap vec_len w.items-is, w.push_reserved.ensures.len, c.loop-i.invariant.count, c.loop-i.auto.i);
        room = omega (arith, ap vec_capacity w.items-is, w.push_reserved.ensures.capacity, c.loop-i.invariant.room);
        items =
            rw (w.items-is, w.push_reserved.ensures.items)
            (one_more arc_value c.loop-i.items.items w.in_ok-try_clone.field-0 c.args.self.now c.args.first c.loop-i.i c.loop-i.invariant.items (sym w.in-Some.ensures ∙ ap Some (sym w.in_ok-try_clone.ensures)) c.loop-i.auto.i);
      }
      | in_default w ↦
          absurd (omega (arith, c.loop-i-test.true, c.len-end.ensures.is, there c.args.self.now c.loop-i.i (sym w.in_default.ensures)))
    ]
