-- What a walk brings, case by case.
use Rattle.std.proofs.Common.{◌≡◌, ◌⊎◌, ℕ, ◌+◌, ◌-◌, ◌*◌, ◌/◌, ◌^◌, ◌<◌, ◌≤◌, zero, suc, Bool, true, false, List, [], ◌++◌, take, drop, arith, refl, ap, sym, ◌∙◌, append-nil, append_assoc}
use Rattle.std.specs.Prelude.{◌==◌, ◌&&◌, nat_lt, nat_le, Some, None, Result, Ok, Err, IfOk}
use Rattle.std.proofs.lemmas.Bool.Decides.{nat_tests}
use Rattle.std.proofs.Math.Nat.{pow-succ'}
use Rattle.blob_model.specs.Content.{put, size_of}
use Rattle.blob_model.specs.Store.{Store, Blob, blob_at, published}
use Rattle.blob_model.specs.Answer.{answer}
use Rattle.blob_model.specs.History.{is_refused}
use Rattle.blob_model.specs.declared.call.Call.TheVariants as Calls
use Rattle.tree_geom.specs.declared.node.Node.{Node}
use Rattle.tree_geom.specs.Geometry.{tree_range, page_range, height_of}
use Rattle.range_log.specs.Extents.{size_after}
use Rattle.range_log.specs.Updates.{extents}
use Rattle.tree_geom.specs.Nodes.{left_link, right_link, back_link, is_leaf, start_of, first_of, second_of}
use Rattle.blob_core.specs.World.{World, UpdateEntry, node_in, kept_at, origin}
use Rattle.blob_core.specs.Walk.{Walked, nothing, bytes_of_piece, leaf_walk, tree_walk_from, read_walk, walked_in}
use Rattle.blob_core.proofs.Lists.{one_value}
use Rattle.blob_core.proofs.Taken.{read_done}
use Rattle.blob_core.proofs.Reading.{walk_apart, walk_leaf, walk_inner, leaf_walk_on, older_walk, older_none, older_on, read_some}

pub ok_on : {E : Type 0} (r : Result (Unit {0}) E) (P Q : Type 0) → (P → Q) → IfOk r (λ _. P) → IfOk r (λ _. Q)
ok_on (Ok u) P Q f h = f h
ok_on (Err e) P Q f h = h

-- ---- a leaf
abbrev Bytes : Walked → List ℕ
Bytes walked = walked.bytes

pub leaf_last : (most p : ℕ) (w : World) (blob j i : ℕ) → most ≡ 0 → (leaf_walk most p w blob j i).bytes ≡ []
unfolding leaf_walk
leaf_last zero p w blob j i e = refl
leaf_last (suc most) p w blob j i e = absurd (omega arith)

pub leaf_gone : (most p : ℕ) (w : World) (blob j i : ℕ) → node_in w blob j (page_range p i) ≡ None → (leaf_walk most p w blob j i).bytes ≡ []
unfolding leaf_walk
leaf_gone zero p w blob j i e = refl
leaf_gone (suc most) p w blob j i e = ap Bytes (let f : leaf_walk (suc most) p w blob j i ≡ nothing = rw (e, leaf_walk) refl in f)

pub leaf_unkept : (most p : ℕ) (w : World) (blob j i : ℕ) (n : Node) → node_in w blob j (page_range p i) ≡ Some n → kept_at w.updates (origin w blob j) j ≡ None
    → (leaf_walk most p w blob j i).bytes ≡ []
unfolding leaf_walk
leaf_unkept zero p w blob j i n e f = refl
leaf_unkept (suc most) p w blob j i n e f = ap Bytes (let g : leaf_walk (suc most) p w blob j i ≡ nothing = rw (e, f, leaf_walk) refl in g)

pub leaf_inner : (most p : ℕ) (w : World) (blob j i : ℕ) (n : Node) (kept : UpdateEntry) → is_leaf n ≡ false → node_in w blob j (page_range p i) ≡ Some n → kept_at w.updates (origin w blob j) j ≡ Some kept
    → (leaf_walk most p w blob j i).bytes ≡ []
unfolding leaf_walk
leaf_inner zero p w blob j i n kept inner e f = refl
leaf_inner (suc most) p w blob j i n kept inner e f = ap Bytes (let g : leaf_walk (suc most) p w blob j i ≡ nothing = rw (e, f, inner, leaf_walk) refl in g)

-- the bytes of the leaf that a back leads to, or none
older_by : (most p : ℕ) (w : World) (blob back i : ℕ) (bytes : List ℕ) (t : Bool) → (back == 0) ≡ t → (t ≡ true → bytes ≡ []) → (t ≡ false → bytes ≡ (leaf_walk most p w blob back i).bytes)
    → bytes ≡ (older_walk most p w blob back i).bytes
older_by most p w blob back i bytes true t none on = none refl ∙ ap Bytes (sym (older_none most p w blob back i t))
older_by most p w blob back i bytes false t none on = on refl ∙ ap Bytes (sym (older_on most p w blob back i t))

pub leaf_on : (most p : ℕ) (w : World) (blob j i : ℕ) (n : Node) (kept : UpdateEntry) (older own : List ℕ) → 1 ≤ most → is_leaf n ≡ true
    → node_in w blob j (page_range p i) ≡ Some n → kept_at w.updates (origin w blob j) j ≡ Some kept
    → (back_link n ≡ 0 → older ≡ []) → (1 ≤ back_link n → older ≡ (leaf_walk (most - 1) p w blob (back_link n) i).bytes)
    → own ≡ bytes_of_piece w blob j i kept.pages (first_of n) ++ bytes_of_piece w blob j i kept.pages (second_of n)
    → put older (start_of n) own ≡ (leaf_walk most p w blob j i).bytes
leaf_on zero p w blob j i n kept older own some leaf node there none on pieces = absurd (omega arith)
leaf_on (suc most) p w blob j i n kept older own some leaf node there none on pieces =
    let one : suc most - 1 ≡ most = omega arith in
    let back : ℕ = back_link n in
    let is : older ≡ (older_walk most p w blob back i).bytes =
    older_by most p w blob back i older (back == 0) refl (λ t. none (grind (arith, nat_tests)))
    (λ t. on (grind (arith, nat_tests)) ∙ ap (λ (m : ℕ). (leaf_walk m p w blob back i).bytes) one) in
    ap (λ (l : List ℕ). put l (start_of n) own) is
    ∙ ap (λ (l : List ℕ). put (older_walk most p w blob back i).bytes (start_of n) l) pieces
    ∙ ap Bytes (sym (leaf_walk_on most p w blob j i n kept leaf node there))

-- ---- a tree
pub tree_apart : (h p : ℕ) (w : World) (blob j q first last : ℕ) (before : List ℕ) → (last < q * 2 ^ h) ⊎ ((q + 1) * 2 ^ h ≤ first)
    → before ≡ before ++ (tree_walk_from h p w blob j q first last).bytes
tree_apart h p w blob j q first last before past = sym (append-nil before) ∙ ap (λ (t : Walked). before ++ t.bytes) (sym (walk_apart h p w blob j q first last past))

pub tree_leaf : (h p : ℕ) (w : World) (blob j q first last : ℕ) → h ≡ 0 → q * 2 ^ h ≤ last → first < (q + 1) * 2 ^ h
    → (tree_walk_from h p w blob j q first last).bytes ≡ (leaf_walk j p w blob j q).bytes
tree_leaf zero p w blob j q first last e begins ends = ap Bytes (walk_leaf p w blob j q first last (omega arith) (omega arith))
tree_leaf (suc h) p w blob j q first last e begins ends = absurd (omega arith)

pub tree_gone : (h p : ℕ) (w : World) (blob j q first last : ℕ) (before : List ℕ) → 1 ≤ h → q * 2 ^ h ≤ last → first < (q + 1) * 2 ^ h → node_in w blob j (tree_range p h q) ≡ None
    → before ≡ before ++ (tree_walk_from h p w blob j q first last).bytes
unfolding tree_walk_from
tree_gone zero p w blob j q first last before some begins ends none = absurd (omega arith)
tree_gone (suc h) p w blob j q first last before some begins ends none =
    let e : (nat_le (q * 2 ^ suc h) last && nat_lt first ((q + 1) * 2 ^ suc h)) ≡ true = grind (arith, nat_tests) in
    let f : tree_walk_from (suc h) p w blob j q first last ≡ nothing = rw (e, none, tree_walk_from) refl in
    sym (append-nil before) ∙ ap (λ (t : Walked). before ++ t.bytes) (sym f)

pub tree_on : (h p : ℕ) (w : World) (blob j q first last : ℕ) (n : Node) (before middle after : List ℕ) → 1 ≤ h → q * 2 ^ h ≤ last → first < (q + 1) * 2 ^ h
    → node_in w blob j (tree_range p h q) ≡ Some n
    → middle ≡ before ++ (tree_walk_from (h - 1) p w blob (left_link n) (2 * q) first last).bytes
    → after ≡ middle ++ (tree_walk_from (h - 1) p w blob (right_link n) (2 * q + 1) first last).bytes
    → after ≡ before ++ (tree_walk_from h p w blob j q first last).bytes
tree_on zero p w blob j q first last n before middle after some begins ends is left right = absurd (omega arith)
tree_on (suc h) p w blob j q first last n before middle after some begins ends is left right =
    let one : suc h - 1 ≡ h = omega arith in
    let L : ℕ → List ℕ = λ m. (tree_walk_from m p w blob (left_link n) (2 * q) first last).bytes in
    let R : ℕ → List ℕ = λ m. (tree_walk_from m p w blob (right_link n) (2 * q + 1) first last).bytes in
    right ∙ ap (λ (l : List ℕ). l ++ R (suc h - 1)) left ∙ append_assoc before (L (suc h - 1)) (R (suc h - 1))
    ∙ ap (λ (m : ℕ). before ++ (L m ++ R m)) one
    ∙ ap (λ (t : Walked). before ++ t.bytes) (sym (walk_inner h p w blob j q first last n begins ends is))

-- the halves of a range end where it does, or before
pub child_fits : (q h most : ℕ) → 1 ≤ h → (q + 1) * 2 ^ h ≤ most → ((2 * q + 1) * 2 ^ (h - 1) ≤ most) × ((2 * q + 1 + 1) * 2 ^ (h - 1) ≤ most)
child_fits q zero most some fits = absurd (omega arith)
child_fits q (suc h) most some fits =
    let one : suc h - 1 ≡ h = omega arith in
    let a : (q + 1) * (2 * 2 ^ h) ≤ most = rw (pow-succ' 2 h) at fits in
    rw one (omega arith, omega arith)

-- ---- a read
-- a read that isn't refused is of a published version, and within its size
pub read_within : (s : Store) (blob version offset count : ℕ) (b : Blob) → blob_at s blob ≡ Some b → is_refused (answer s 0 (Calls.Read blob version offset count)).1 ≡ false
    → (version ≤ published b) × (offset + count ≤ size_of b.updates version)
read_within s blob version offset count b there taken =
    let (x, is, upto, inside, gives) = read_done s 0 blob version offset count taken in
    let same : x ≡ b = one_value (blob_at s blob) x b is there in
    (rw same at upto, rw same at inside)

pub walked_some : (p : ℕ) (w : World) (blob version offset count : ℕ) (b : Blob) → blob_at w.store blob ≡ Some b → is_refused (answer w.store 0 (Calls.Read blob version offset count)).1 ≡ false
    → walked_in p w blob version offset count ≡ Some (read_walk p w blob b version offset count).bytes
walked_some p w blob version offset count b there taken = rw (taken, there, walked_in) refl

pub walked_cut : (p : ℕ) (w : World) (blob version offset count : ℕ) (b : Blob) → 1 ≤ count
    → (read_walk p w blob b version offset count).bytes
    ≡ take count (drop (offset - offset / p * p) (tree_walk_from (height_of p (size_after (extents b.updates) version)) p w blob version 0 (offset / p) ((offset + count - 1) / p)).bytes)
walked_cut p w blob version offset count b some = ap Bytes (read_some p w blob b version offset count (grind (arith, nat_tests)))
