-- The root of a version, and the bound of a walk from it.
use Rattle.std.proofs.Common.{◌≡◌, ℕ, zero, suc, ◌+◌, ◌-◌, ◌*◌, ◌/◌, ◌^◌, ◌≤◌, List, length, arith, refl, ap, sym, ◌∙◌, subst}
use Rattle.blob_model.specs.Content.{Update, size_of}
use Rattle.tree_geom.specs.declared.range.Range.{Range}
use Rattle.tree_geom.specs.Geometry.{tree_range, height_of, span_of}
use Rattle.range_log.specs.Extents.{size_after}
use Rattle.range_log.specs.Laws.{NewestIsGreatest, ExtentsStand}
use Rattle.range_log.specs.Walk.{nodes_visited, root_of, RootsStand, WalksAreBounded}
use Rattle.snapshot.specs.Versions.{Version, updates_of, size_now, root_key, HasNodeFor, IsVersion}
use Rattle.tree_geom.proofs.Spans.{page_pos}
use Rattle.range_log.proofs.Bytes.{length-extents}
use Rattle.range_reader.specs.Reading.{falls, log_of, newest_in, backs_in, bound}
use Rattle.range_reader.proofs.Among.{length-updates}
use Rattle.range_reader.proofs.Along.{own_newest}
use Rattle.range_reader.proofs.Walking.{root_span}
use Rattle.range_log.proofs.Grown.{size-touches}

-- a version of no updates has no bytes
some_rows : (us : List Update) (v : ℕ) → 1 ≤ size_of us v → 1 ≤ v
some_rows us zero some = absurd (omega arith)
some_rows us (suc v) some = omega arith

module _ (stand : ExtentsStand) (s : Version) (is : IsVersion s) where
  pub size_known : size_after (falls s) (length s.rows) ≡ size_now s
  size_known = (stand (updates_of s) is.replayable).2 (length s.rows) (omega (arith, length-updates s))

  root_is : root_of s.page_size (log_of s) (length s.rows) ≡ (root_key s).range
  root_is =
      let make : ℕ → Range = λ n. record { offset = 0; size = n } in
      ap (λ n. make (span_of s.page_size n)) (size-touches s.page_size (falls s) (length s.rows) (omega (arith, length-extents (updates_of s), length-updates s)) ∙ size_known)

  pub root_stands : RootsStand → (range : Range) → 1 ≤ size_now s → range ≡ (root_key s).range → HasNodeFor s (length s.rows) range
  root_stands roots range some same =
      let H : Range → Type 0 = λ r. HasNodeFor s (length s.rows) r in
      subst H (root_is ∙ sym same)
      (roots s.page_size (length s.rows) (falls s) (page_pos s.page_size is.page_size) (stand (updates_of s) is.replayable).0 (some_rows (updates_of s) (length s.rows) some)
      (omega (arith, length-extents (updates_of s), length-updates s)))

  pub root_newest : RootsStand → NewestIsGreatest → (range : Range) → 1 ≤ size_now s → range ≡ (root_key s).range → length s.rows ≡ newest_in s range
  root_newest roots greatest range some same = sym (own_newest greatest s.page_size (length s.rows) (log_of s) range (root_stands roots range some same))

  pub root_tree : (range : Range) → 1 ≤ size_now s → range ≡ (root_key s).range → range ≡ tree_range s.page_size (height_of s.page_size (size_now s)) 0
  root_tree range some same =
      let p : ℕ = s.page_size in
      let h : ℕ = height_of p (size_now s) in
      let make : ℕ → Range = λ n. record { offset = 0; size = n } in
      let start : ℕ → Range = λ o. record { offset = o; size = p * 2 ^ h } in
      let none : 0 ≡ 0 * (p * 2 ^ h) = omega arith in
      same ∙ ap make (root_span p (size_now s) some) ∙ ap start none

  pub walk_bound : WalksAreBounded → (o n : ℕ) → 1 ≤ n → o + n ≤ size_now s
      → nodes_visited (height_of s.page_size (size_now s)) 0 (o / s.page_size) ((o + n - 1) / s.page_size) + backs_in s o n ≤ bound s o n
  walk_bound walks o n some fits =
      let p : ℕ = s.page_size in
      let w = walks p (length s.rows) o n (falls s) (page_pos p is.page_size) some (omega (arith, fits, size_known)) in
      let P : ℕ → Type 0 = λ z. nodes_visited (height_of p z) 0 (o / p) ((o + n - 1) / p) + backs_in s o n ≤ bound s o n in
      subst P size_known w

pub not_zero : (n : ℕ) → (n ≡ 0 → ⊥) → 1 ≤ n
not_zero zero never = absurd (never refl)
not_zero (suc n) never = omega arith
