-- Where a blob's snapshot stands among those that are kept.
use Rattle.std.proofs.Common.{◌≡◌, ℕ, zero, suc, ◌+◌, ◌-◌, ◌<◌, ◌≤◌, ◌==◌, Bool, true, false, nat_le, nat_lt, if◌then◌else◌, refl, ap, sym, ◌∙◌, arith}
use Rattle.std.proofs.Common.{List, [], ◌∷◌, ◌++◌, length, drop, set, get_or, length-append}
use Rattle.std.specs.Prelude.{All}
use Rattle.std.proofs.Math.ListN.{length-set}
use Rattle.std.proofs.lemmas.List.{set-get_or}
use Rattle.std.proofs.lemmas.Bool.Decides.{nat_tests}
use Rattle.std.proofs.lemmas.List.Elements.{All-cons, All-head, All-tail, All-drop, All-nil}
use Rattle.snapshot.specs.Versions.{Version}
use Rattle.range_reader.specs.Opened.{all_kept, has_opened, place_of, newer, and_snapshot, keeping}

-- ---- what is found there
none_case : (blob version : ℕ) (x : Version) (xs : List Version) (b : Bool) → (length xs ≤ place_of blob xs → has_opened (all_kept xs) blob version ≡ false)
    → suc (length xs) ≤ (if b then 0 else suc (place_of blob xs)) → (if b then nat_le version (length x.rows) else has_opened (all_kept xs) blob version) ≡ false
none_case blob version x xs true more past = absurd (omega arith)
none_case blob version x xs false more past = more (omega arith)

-- nothing, where the blob has no place
pub none_opened : (blob version : ℕ) (vs : List Version) → length vs ≤ place_of blob vs → has_opened (all_kept vs) blob version ≡ false
none_opened blob version [] past = refl
none_opened blob version (x ∷ xs) past = none_case blob version x xs (x.blob == blob) (none_opened blob version xs) past

some_case : (blob version : ℕ) (x : Version) (xs : List Version) (d : Version) (at : ℕ) (b : Bool) → (x.blob == blob) ≡ b
    → ((k : ℕ) → k ≡ place_of blob xs → k < length xs → ((get_or xs k d).blob ≡ blob) × (has_opened (all_kept xs) blob version ≡ nat_le version (length (get_or xs k d).rows)))
    → at ≡ (if b then 0 else suc (place_of blob xs)) → at < suc (length xs)
    → ((get_or (x ∷ xs) at d).blob ≡ blob)
    × ((if b then nat_le version (length x.rows) else has_opened (all_kept xs) blob version) ≡ nat_le version (length (get_or (x ∷ xs) at d).rows))
some_case blob version x xs d zero true t more is less = (grind (arith, nat_tests, t), refl)
some_case blob version x xs d (suc at) true t more is less = absurd (omega (arith, is))
some_case blob version x xs d zero false t more is less = absurd (omega (arith, is))
some_case blob version x xs d (suc at) false t more is less = more at (omega (arith, is)) (omega arith)

-- the blob's snapshot, where it has one
pub some_opened : (blob version : ℕ) (vs : List Version) (d : Version) (at : ℕ) → at ≡ place_of blob vs → at < length vs
    → ((get_or vs at d).blob ≡ blob) × (has_opened (all_kept vs) blob version ≡ nat_le version (length (get_or vs at d).rows))
some_opened blob version [] d at is less = absurd (omega arith)
some_opened blob version (x ∷ xs) d at is less = some_case blob version x xs d at (x.blob == blob) refl (some_opened blob version xs d) is less

-- ---- what is kept then
old_case : (x : Version) (xs : List Version) (v d : Version) (at : ℕ) (b : Bool)
    → ((k : ℕ) → k ≡ place_of v.blob xs → k < length xs → set xs k (newer (get_or xs k d) v) ≡ and_snapshot xs v)
    → at ≡ (if b then 0 else suc (place_of v.blob xs)) → at < suc (length xs)
    → set (x ∷ xs) at (newer (get_or (x ∷ xs) at d) v) ≡ (if b then newer x v ∷ xs else x ∷ and_snapshot xs v)
old_case x xs v d zero true more is less = refl
old_case x xs v d (suc at) true more is less = absurd (omega (arith, is))
old_case x xs v d zero false more is less = absurd (omega (arith, is))
old_case x xs v d (suc at) false more is less = ap (λ l. x ∷ l) (more at (omega (arith, is)) (omega arith))

in_place : (vs : List Version) (v d : Version) (at : ℕ) → at ≡ place_of v.blob vs → at < length vs → set vs at (newer (get_or vs at d) v) ≡ and_snapshot vs v
in_place [] v d at is less = absurd (omega arith)
in_place (x ∷ xs) v d at is less = old_case x xs v d at (x.blob == v.blob) (in_place xs v d) is less

new_case : (x : Version) (xs : List Version) (v : Version) (b : Bool) → (length xs ≤ place_of v.blob xs → and_snapshot xs v ≡ xs ++ v ∷ [])
    → suc (length xs) ≤ (if b then 0 else suc (place_of v.blob xs)) → (if b then newer x v ∷ xs else x ∷ and_snapshot xs v) ≡ x ∷ xs ++ v ∷ []
new_case x xs v true more past = absurd (omega arith)
new_case x xs v false more past = ap (λ l. x ∷ l) (more (omega arith))

behind : (vs : List Version) (v : Version) → length vs ≤ place_of v.blob vs → and_snapshot vs v ≡ vs ++ v ∷ []
behind [] v past = refl
behind (x ∷ xs) v past = new_case x xs v (x.blob == v.blob) (behind xs v) past

few_keep : (vs : List Version) (v : Version) (new : List Version) → new ≡ and_snapshot vs v → length new ≤ 4 → new ≡ keeping vs v
few_keep vs v new is few =
    let none : length (and_snapshot vs v) - 4 ≡ 0 = omega (arith, ap length is, few) in
    is ∙ ap (λ n. drop n (and_snapshot vs v)) (sym none)

-- a newer one in the place of its blob's, or the one that is there
pub keeps_newer : (vs : List Version) (v d : Version) (at : ℕ) → length vs ≤ 4 → at ≡ place_of v.blob vs → at < length vs → length (get_or vs at d).rows < length v.rows → set vs at v ≡ keeping vs v
keeps_newer vs v d at few is less lt =
    let yes : nat_lt (length (get_or vs at d).rows) (length v.rows) ≡ true = grind (arith, nat_tests, lt) in
    let this : newer (get_or vs at d) v ≡ v = rw yes refl in
    few_keep vs v (set vs at v) (ap (set vs at) (sym this) ∙ in_place vs v d at is less) (omega (arith, length-set vs at v, few))

pub keeps_older : (vs : List Version) (v d : Version) (at : ℕ) → length vs ≤ 4 → at ≡ place_of v.blob vs → at < length vs → length v.rows ≤ length (get_or vs at d).rows → vs ≡ keeping vs v
keeps_older vs v d at few is less le =
    let no : nat_lt (length (get_or vs at d).rows) (length v.rows) ≡ false = grind (arith, nat_tests, le) in
    let that : newer (get_or vs at d) v ≡ get_or vs at d = rw no refl in
    few_keep vs v vs (sym (set-get_or vs at d) ∙ (ap (set vs at) (sym that) ∙ in_place vs v d at is less)) few

-- one of another blob
pub keeps_more : (vs : List Version) (v : Version) → length vs < 4 → length vs ≤ place_of v.blob vs → vs ++ v ∷ [] ≡ keeping vs v
keeps_more vs v few past = few_keep vs v (vs ++ v ∷ []) (sym (behind vs v past)) (omega (arith, length-append vs (v ∷ []), few))

pub keeps_last : (vs : List Version) (v : Version) → length vs ≡ 4 → length vs ≤ place_of v.blob vs → drop 1 vs ++ v ∷ [] ≡ keeping vs v
keeps_last [] v full past = absurd (omega (arith, full))
keeps_last (x ∷ xs) v full past =
    let one : length ((x ∷ xs) ++ v ∷ []) - 4 ≡ 1 = omega (arith, length-append (x ∷ xs) (v ∷ []), full) in
    ap (λ n. drop n ((x ∷ xs) ++ v ∷ [])) (sym one) ∙ ap (λ l. drop (length l - 4) l) (sym (behind (x ∷ xs) v past))

-- ---- of what is kept then
-- it is found there
few_snapshots : (vs : List Version) (v : Version) → length (and_snapshot vs v) ≤ length vs + 1
few_snapshots [] v = omega arith
few_snapshots (x ∷ xs) v = by_case (x.blob == v.blob) (few_snapshots xs v)
  where
    by_case : (b : Bool) → length (and_snapshot xs v) ≤ length xs + 1 → length (if b then newer x v ∷ xs else x ∷ and_snapshot xs v) ≤ suc (length xs) + 1
    by_case true rest = omega arith
    by_case false rest = omega (arith, rest)

newer_reaches : (version : ℕ) (x v : Version) → version ≤ length v.rows → nat_le version (length (newer x v).rows) ≡ true
newer_reaches version x v le = by_case (nat_lt (length x.rows) (length v.rows)) refl
  where
    by_case : (b : Bool) → nat_lt (length x.rows) (length v.rows) ≡ b → nat_le version (length (let n : Version = if b then v else x in n).rows) ≡ true
    by_case true is = grind (arith, nat_tests, le)
    by_case false is = grind (arith, nat_tests, le, is)

newer_blob : (x v : Version) → x.blob ≡ v.blob → ((newer x v).blob == v.blob) ≡ true
newer_blob x v same = by_case (nat_lt (length x.rows) (length v.rows))
  where
    by_case : (b : Bool) → ((let n : Version = if b then v else x in n).blob == v.blob) ≡ true
    by_case true = grind (arith, nat_tests)
    by_case false = grind (arith, nat_tests, same)

in_rest : (version : ℕ) (x v : Version) (xs : List Version) (n : ℕ) → (x.blob == v.blob) ≡ false → n ≤ 1 → has_opened (all_kept xs) v.blob version ≡ true
    → has_opened (all_kept (drop n (x ∷ xs))) v.blob version ≡ true
in_rest version x v xs zero other few is = rw other is
in_rest version x v xs (suc zero) other few is = is
in_rest version x v xs (suc (suc n)) other few is = absurd (omega (arith, few))

found_all : (vs : List Version) (v : Version) (version : ℕ) → version ≤ length v.rows → has_opened (all_kept (and_snapshot vs v)) v.blob version ≡ true
found_all [] v version le = let same : (v.blob == v.blob) ≡ true = grind (arith, nat_tests) in rw same (grind (arith, nat_tests, le))
found_all (x ∷ xs) v version le = by_case (x.blob == v.blob) refl (found_all xs v version le)
  where
    by_case : (b : Bool) → (x.blob == v.blob) ≡ b → has_opened (all_kept (and_snapshot xs v)) v.blob version ≡ true
        → has_opened (all_kept (if b then newer x v ∷ xs else x ∷ and_snapshot xs v)) v.blob version ≡ true
    by_case true is rest = rw (newer_blob x v (grind (arith, nat_tests, is))) (newer_reaches version x v le)
    by_case false is rest = rw is rest

found_then : (vs : List Version) (v : Version) (version : ℕ) → length vs ≤ 4 → version ≤ length v.rows → has_opened (all_kept (keeping vs v)) v.blob version ≡ true
found_then [] v version few le = found_all [] v version le
found_then (x ∷ xs) v version few le = by_case (x.blob == v.blob) refl
  where
    by_case : (b : Bool) → (x.blob == v.blob) ≡ b
        → has_opened (all_kept (let l : List Version = if b then newer x v ∷ xs else x ∷ and_snapshot xs v in drop (length l - 4) l)) v.blob version ≡ true
    by_case true is =
        let none : suc (length xs) - 4 ≡ 0 = omega (arith, few) in
        rw none (rw (newer_blob x v (grind (arith, nat_tests, is))) (newer_reaches version x v le))
    by_case false is = in_rest version x v (and_snapshot xs v) (suc (length (and_snapshot xs v)) - 4) is (omega (arith, few_snapshots xs v, few)) (found_all xs v version le)

pub then_found : (vs new : List Version) (v : Version) → length vs ≤ 4 → new ≡ keeping vs v → (version : ℕ) → version ≤ length v.rows → has_opened (all_kept new) v.blob version ≡ true
then_found vs new v few is version le = ap (λ (l : List Version). has_opened (all_kept l) v.blob version) is ∙ found_then vs v version few le

-- what holds of each and of the new one holds of each
all_and : (P : Version → Type 0) (vs : List Version) (v : Version) → All P vs → P v → All P (and_snapshot vs v)
all_and P [] v each this = All-cons P v [] this (All-nil P)
all_and P (x ∷ xs) v each this = by_case (x.blob == v.blob) (by_newer (nat_lt (length x.rows) (length v.rows))) (all_and P xs v (All-tail P x xs each) this)
  where
    by_newer : (b : Bool) → P (if b then v else x)
    by_newer true = this
    by_newer false = All-head P x xs each

    by_case : (b : Bool) → P (newer x v) → All P (and_snapshot xs v) → All P (if b then newer x v ∷ xs else x ∷ and_snapshot xs v)
    by_case true of_newer rest = All-cons P (newer x v) xs of_newer (All-tail P x xs each)
    by_case false of_newer rest = All-cons P x (and_snapshot xs v) (All-head P x xs each) rest

pub all_keeping : (P : Version → Type 0) (vs : List Version) (v : Version) → All P vs → P v → All P (keeping vs v)
all_keeping P vs v each this = All-drop P (length (and_snapshot vs v) - 4) (and_snapshot vs v) (all_and P vs v each this)
