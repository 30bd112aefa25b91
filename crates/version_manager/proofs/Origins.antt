-- A desk's rows lie under the blobs that their versions were numbered in, as its history goes on.
use Rattle.std.proofs.Common.{◌≡◌, ℕ, ◌-◌, ◌<◌, ◌≤◌, ◌==◌, false, List, [], ◌∷◌, ◌++◌, length, map, set, get_or, take, zero, suc, refl, sym, ◌∙◌, ap, subst, inl, inr, arith, length-append}
use Rattle.std.specs.Prelude.{Option, Some, None, is_some, slice_get}
use Rattle.std.proofs.Math.ListN.{length-set}
use Rattle.std.proofs.Math.Seq.{take-length}
use Rattle.std.proofs.lemmas.Bool.{cases_lt}
use Rattle.std.proofs.lemmas.Bool.Decides.{nat_tests}
use Rattle.std.proofs.lemmas.Option.{slice_get-get_or, slice_get_within, none-some, same_Some}
use Rattle.blob_model.specs.declared.call.Event.{Event}
use Rattle.blob_model.specs.declared.call.Event.TheVariants as Events
use Rattle.branching.specs.Parents.{origin_of}
use Rattle.branching.specs.declared.Parent.{Parent}
use Rattle.branching.proofs.Parents.{origin_older, origin_past, origin_own, origin_shared}
use Rattle.node_store.specs.UpdateRows.{UpdateRow}
use Rattle.publisher.specs.Windows.{Numbered, leading, window_on, version_of, with_numbered, with_finished}
use Rattle.snapshot.specs.Versions.{older_version, under_blob}
use Rattle.tree_geom.specs.declared.touch.Touch.{Touch}
use Rattle.version_manager.specs.Origins.{LieUnderOrigins, parents_after, parents_from, parents_of, stored_under, AreUnder, KeepsOrigins}
use Rattle.blob_model.proofs.Marks.{by_test, get-set_other, get-push_other}
use Rattle.version_manager.proofs.Stores.{get-set_is, get-push_last}

-- ---- the history
pub from_append : (parents : List (Option Parent)) (xs ys : List Event) → parents_from parents (xs ++ ys) ≡ parents_from (parents_from parents xs) ys
from_append parents [] ys = refl
from_append parents (x ∷ xs) ys = from_append (parents_after parents x) xs ys

pub parents_next : (h : List Event) (e : Event) → parents_of (h ++ e ∷ []) ≡ parents_after (parents_of h) e
parents_next h e = from_append [] h (e ∷ [])

-- the versions of a blob that is there keep their origins
pub origin_from : (parents : List (Option Parent)) (es : List Event) (blob version : ℕ) → blob ≤ length parents → origin_of (parents_from parents es) blob version ≡ origin_of parents blob version
origin_from parents [] blob version le = refl
origin_from parents (Events.Create caller ∷ es) blob version le = origin_from (None ∷ parents) es blob version (omega (arith, le)) ∙ origin_older None parents blob version le
origin_from parents (Events.Assign caller at place bytes ∷ es) blob version le = origin_from parents es blob version le
origin_from parents (Events.Finish caller at v ∷ es) blob version le = origin_from parents es blob version le
origin_from parents (Events.Branch caller at v ∷ es) blob version le =
    let next : Option Parent = Some (record { blob = at; version = v }) in
    origin_from (next ∷ parents) es blob version (omega (arith, le)) ∙ origin_older next parents blob version le

-- what is kept of the windows of the history with one event more
pub origins_after : (h h' : List Event) (e : Event) (ws ws' : List Numbered) → h' ≡ h ++ e ∷ [] → ws' ≡ ws → KeepsOrigins (parents_after (parents_of h) e) ws → KeepsOrigins (parents_of h') ws'
origins_after h h' e ws ws' history windows kept =
    let O : List Event → Type 0 = λ l. KeepsOrigins (parents_of l) ws' in
    let P : List (Option Parent) → Type 0 = λ l. KeepsOrigins l ws' in
    let W : List Numbered → Type 0 = λ l. KeepsOrigins (parents_after (parents_of h) e) l in
    subst O (sym history) (subst P (sym (parents_next h e)) (subst W (sym windows) kept))

-- ---- one blob
with_none : (rows : List (Option UpdateRow)) (j : ℕ) → get_or (rows ++ None ∷ []) j None ≡ get_or rows j None
with_none [] zero = refl
with_none [] (suc j) = refl
with_none (o ∷ os) zero = refl
with_none (o ∷ os) (suc j) = with_none os j

with_row : (blob : ℕ) (rows : List (Option UpdateRow)) (k j : ℕ) (row : UpdateRow) → row.blob ≡ blob → get_or rows k None ≡ None
    → stored_under blob (get_or (set rows k (Some row)) j None) ≡ stored_under blob (get_or rows j None)
with_row blob [] k j row under none = refl
with_row blob (o ∷ os) zero zero row under none = under ∙ sym (ap (stored_under blob) none)
with_row blob (o ∷ os) zero (suc j) row under none = refl
with_row blob (o ∷ os) (suc k) zero row under none = refl
with_row blob (o ∷ os) (suc k) (suc j) row under none = with_row blob os k j row under none

pub unfinished_none : (rows : List (Option UpdateRow)) (k : ℕ) → get_or (map is_some rows) k false ≡ false → get_or rows k None ≡ None
unfinished_none [] k e = refl
unfinished_none (None ∷ rest) zero e = refl
unfinished_none (Some row ∷ rest) zero e = absurd (grind (arith, e))
unfinished_none (o ∷ rest) (suc k) e = unfinished_none rest k e

-- the published rows stand first
published_row : (a b : ℕ) (rows : List (Option UpdateRow)) (v j : ℕ) → v ≤ length (leading rows) → j < v
    → stored_under a (get_or (map {A = UpdateRow} {B = Option UpdateRow} (λ row. Some row) (take v (leading rows))) j None) ≡ stored_under b (get_or rows j None)
published_row a b [] v j within lt = absurd (omega (arith, within, lt))
published_row a b (None ∷ rest) v j within lt = absurd (omega (arith, within, lt))
published_row a b (Some row ∷ rest) zero j within lt = absurd (omega (arith, lt))
published_row a b (Some row ∷ rest) (suc v) zero within lt = refl
published_row a b (Some row ∷ rest) (suc v) (suc j) within lt = published_row a b rest v j (omega arith) (omega arith)

none_there : (v j : ℕ) (row : UpdateRow) → slice_get (take {A = UpdateRow} v []) j ≡ Some row → ⊥
none_there zero j row at = none-some row at
none_there (suc v) j row at = none-some row at

first_row : (blob : ℕ) (rows : List (Option UpdateRow)) (v j : ℕ) (row : UpdateRow) → slice_get (take v (leading rows)) j ≡ Some row → row.blob ≡ stored_under blob (get_or rows j None)
first_row blob [] v j row at = absurd (none_there v j row at)
first_row blob (None ∷ rest) v j row at = absurd (none_there v j row at)
first_row blob (Some r ∷ rest) zero j row at = absurd (none-some row at)
first_row blob (Some r ∷ rest) (suc v) zero row at = ap (λ (x : UpdateRow). x.blob) (sym (same_Some r row at))
first_row blob (Some r ∷ rest) (suc v) (suc j) row at = first_row blob rest v j row at

no_row : (rows : List UpdateRow) (v j : ℕ) → v ≤ j → get_or (map {A = UpdateRow} {B = Option UpdateRow} (λ row. Some row) (take v rows)) j None ≡ None
no_row [] zero j le = refl
no_row [] (suc v) j le = refl
no_row (row ∷ rows) zero j le = refl
no_row (row ∷ rows) (suc v) zero le = absurd (omega (arith, le))
no_row (row ∷ rows) (suc v) (suc j) le = no_row rows v j (omega arith)

module _ (parents : List (Option Parent)) where
  pub numbered_under : (blob : ℕ) (w : Numbered) (touch : Touch) → AreUnder parents blob w.rows → AreUnder parents blob (with_numbered w touch).rows
  numbered_under blob w touch h j = ap (stored_under blob) (with_none w.rows j) ∙ h j

  pub finished_under : (blob : ℕ) (w : Numbered) (version : ℕ) (row : UpdateRow) → row.blob ≡ blob → get_or w.rows (version - 1) None ≡ None
      → AreUnder parents blob w.rows → AreUnder parents blob (with_finished w version row).rows
  finished_under blob w version row under none h j = with_row blob w.rows (version - 1) j row under none ∙ h j

  -- the rows of a published version
  pub leading_under : (blob : ℕ) (rows : List (Option UpdateRow)) (v j : ℕ) (row : UpdateRow) → AreUnder parents blob rows → slice_get (take v (leading rows)) j ≡ Some row → row.blob ≡ origin_of parents blob (suc j)
  leading_under blob rows v j row h at = first_row blob rows v j row at ∙ h j

  pub none_under : (w : Numbered) (blob : ℕ) → length parents < blob → w.rows ≡ [] → AreUnder (None ∷ parents) blob w.rows
  none_under w blob new e j = ap (λ (l : List (Option UpdateRow)). stored_under blob (get_or l j None)) e ∙ sym (origin_past parents blob (suc j) new)

  pub branch_under : (q : Parent) (w : Numbered) (blob : ℕ) → blob ≡ suc (length parents) → q.version ≤ length (leading w.rows) → AreUnder parents q.blob w.rows
      → AreUnder (Some q ∷ parents) blob (window_on (under_blob (older_version (version_of w) q.version) blob)).rows
  branch_under q w blob new within h j = elim (cases_lt j q.version) [
    | inl below ↦ published_row blob q.blob w.rows q.version j within below ∙ h j ∙ sym (origin_shared q parents blob (suc j) new (omega arith))
    | inr above ↦ ap (stored_under blob) (no_row (leading w.rows) q.version j above) ∙ sym (origin_own q parents blob (suc j) new (omega arith))
  ]

pub older_under : (h : List Event) (blob version : ℕ) (w : Numbered) → AreUnder (parents_of h) blob w.rows → LieUnderOrigins h blob (older_version (version_of w) version).rows
older_under h blob version w under j row at = leading_under (parents_of h) blob w.rows version j row under at

pub version_under : (h : List Event) (blob : ℕ) (w : Numbered) → AreUnder (parents_of h) blob w.rows → LieUnderOrigins h blob (leading w.rows)
version_under h blob w under =
    let O : List UpdateRow → Type 0 = λ l. LieUnderOrigins h blob l in
    subst O (take-length (leading w.rows)) (older_under h blob (length (leading w.rows)) w under)

-- ---- all blobs
module _ (parents : List (Option Parent)) (ws : List Numbered) (kept : KeepsOrigins parents ws) where
  -- a blob more
  pub origins_pushed : (next : Option Parent) (w : Numbered) → AreUnder (next ∷ parents) (suc (length ws)) w.rows → KeepsOrigins (next ∷ parents) (ws ++ w ∷ [])
  origins_pushed next w new = record {
    count = omega (arith, kept.count, length-append ws (w ∷ []));
    each = λ i w' at. by_test _ (i == length ws)
        (λ t.
        let last : i ≡ length ws = grind (arith, nat_tests) in
        let is_w : Some w ≡ Some w' = sym (get-push_last ws w) ∙ ap (λ (n : ℕ). slice_get (ws ++ w ∷ []) n) (sym last) ∙ at in
        let same_w : w ≡ w' = cc in
        subst (λ (n : ℕ). AreUnder (next ∷ parents) (suc n) w'.rows) (sym last) (subst (λ (x : Numbered). AreUnder (next ∷ parents) (suc (length ws)) x.rows) same_w new))
        (λ t.
        let apart : i ≡ length ws → ⊥ = λ last. grind (arith, nat_tests) in
        let old : slice_get ws i ≡ Some w' = sym (get-push_other ws i w apart) ∙ at in
        λ j. kept.each i w' old j ∙ sym (origin_older next parents (suc i) (suc j) (omega (arith, kept.count, slice_get_within ws i w' old))));
  }

  -- one blob's rows changed
  pub origins_set : (blob : ℕ) (w : Numbered) → 1 ≤ blob → AreUnder parents blob w.rows → KeepsOrigins parents (set ws (blob - 1) w)
  origins_set blob w some new = record {
    count = kept.count ∙ sym (length-set ws (blob - 1) w);
    each = λ i w' at. by_test _ (i == blob - 1)
        (λ t.
        let is : i ≡ blob - 1 = grind (arith, nat_tests) in
        let same_w : w ≡ w' = get-set_is ws (blob - 1) w' w (ap (λ (n : ℕ). slice_get (set ws (blob - 1) w) n) (sym is) ∙ at) in
        let id : blob ≡ suc i = omega (arith, is, some) in
        subst (λ (n : ℕ). AreUnder parents n w'.rows) id (subst (λ (x : Numbered). AreUnder parents blob x.rows) same_w new))
        (λ t.
        let apart : i ≡ blob - 1 → ⊥ = λ is. grind (arith, nat_tests) in
        kept.each i w' (sym (get-set_other ws (blob - 1) i w apart) ∙ at));
  }

  -- a blob's own
  pub origins_at : (blob : ℕ) (w d : Numbered) → 1 ≤ blob → blob ≤ length ws → w ≡ get_or ws (blob - 1) d → AreUnder parents blob w.rows
  origins_at blob w d some within is =
      let id : suc (blob - 1) ≡ blob = omega arith in
      let item : slice_get ws (blob - 1) ≡ Some w = slice_get-get_or ws (blob - 1) d (omega arith) ∙ ap (λ (x : Numbered). Some x) (sym is) in
      subst (λ (n : ℕ). AreUnder parents n w.rows) id (kept.each (blob - 1) w item)
