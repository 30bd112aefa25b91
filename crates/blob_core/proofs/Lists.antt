-- Lists, finite maps, pages and lineages.
use Rattle.std.proofs.Common.{◌≡◌, ◌⊎◌, ℕ, ◌+◌, ◌*◌, ◌<◌, ◌≤◌, zero, suc, Bool, true, false, List, [], ◌∷◌, ◌++◌, length, take, drop, arith, inl, inr, refl, ap, sym, subst, ◌∙◌, append-nil}
use Rattle.std.specs.Prelude.{◌==◌, ◌&&◌, Option, Some, None, slice_get, slice_set, slice_index_or, replicate}
use Rattle.std.proofs.lemmas.Bool.{and_parts, cases_eq}
use Rattle.std.proofs.lemmas.Bool.Decides.{nat_tests}
use Rattle.std.proofs.lemmas.List.{get_or-set_other, length-append, take_all}
use Rattle.std.proofs.Math.Seq.{take-append_seam, drop-append-add}
use Rattle.std.proofs.Math.ListN.{drop_of_length-le}
use Rattle.blob_model.specs.Store.{true_prefix}
use Rattle.tree_geom.specs.declared.node.NodeKey.{NodeKey}
use Rattle.blob_core.specs.World.{IsKnown, entry_at, same_number, same_update, same_key, page_at, bytes_of_page, bytes_of_pages, nth_page, AreCut, same_fold}
use Rattle.blob_core.specs.declared.world.FoldKey.{FoldKey}
use Rattle.blob_core.specs.declared.world.UpdateKey.{UpdateKey}

-- ---- tests
pub none_some : {V : Type 0} (o : Option V) (v : V) → o ≡ None → o ≡ Some v → ⊥
none_some o v a b = cc

pub one_value : {V : Type 0} (o : Option V) (v w : V) → o ≡ Some v → o ≡ Some w → v ≡ w
one_value o v w a b = cc

number_is : (a b : ℕ) → (a == b) ≡ true → a ≡ b
number_is a b e = grind (arith, nat_tests)

number_same : (a : ℕ) → (a == a) ≡ true
number_same a = grind (arith, nat_tests)

pub number_means : (a b : ℕ) → same_number a b ≡ true → a ≡ b
number_means a b e = number_is a b e

abbrev update_key : ℕ → ℕ → UpdateKey
update_key blob version = record { blob = blob; version = version }

pub update_means : (a b : UpdateKey) → same_update a b ≡ true → a ≡ b
update_means a b e =
    let d = and_parts (a.blob == b.blob) (a.version == b.version) e in
    ap (λ (n : ℕ). update_key n a.version) (number_is a.blob b.blob d.0) ∙ ap (λ (n : ℕ). update_key b.blob n) (number_is a.version b.version d.1)

pub update_itself : (a : UpdateKey) → same_update a a ≡ true
update_itself a = rw (number_same a.blob, number_same a.version) refl

abbrev node_key : ℕ → ℕ → ℕ → ℕ → NodeKey
node_key blob version offset size = record { blob = blob; version = version; range = record { offset = offset; size = size } }

pub key_means : (a b : NodeKey) → same_key a b ≡ true → a ≡ b
key_means a b e =
    let d = and_parts (a.blob == b.blob && a.version == b.version && a.range.offset == b.range.offset) (a.range.size == b.range.size) e in
    let c = and_parts (a.blob == b.blob && a.version == b.version) (a.range.offset == b.range.offset) d.0 in
    let f = and_parts (a.blob == b.blob) (a.version == b.version) c.0 in
    ap (λ (n : ℕ). node_key n a.version a.range.offset a.range.size) (number_is a.blob b.blob f.0)
    ∙ ap (λ (n : ℕ). node_key b.blob n a.range.offset a.range.size) (number_is a.version b.version f.1)
    ∙ ap (λ (n : ℕ). node_key b.blob b.version n a.range.size) (number_is a.range.offset b.range.offset c.1)
    ∙ ap (λ (n : ℕ). node_key b.blob b.version b.range.offset n) (number_is a.range.size b.range.size d.1)

abbrev fold_key : ℕ → ℕ → ℕ → FoldKey
fold_key blob version page = record { blob = blob; version = version; page = page }

pub fold_means : (a b : FoldKey) → same_fold a b ≡ true → a ≡ b
fold_means a b e =
    let d = and_parts (a.blob == b.blob && a.version == b.version) (a.page == b.page) e in
    let c = and_parts (a.blob == b.blob) (a.version == b.version) d.0 in
    ap (λ (n : ℕ). fold_key n a.version a.page) (number_is a.blob b.blob c.0)
    ∙ ap (λ (n : ℕ). fold_key b.blob n a.page) (number_is a.version b.version c.1)
    ∙ ap (λ (n : ℕ). fold_key b.blob b.version n) (number_is a.page b.page d.1)

-- ---- entries
kept_case : {K V : Type 0} (same : K → K → Bool) (es : List (K × V)) (k : K) (x : V) (q : K) (v : V) → (same k q ≡ true → k ≡ q) → entry_at same es k ≡ None
    → entry_at same es q ≡ Some v → (b : Bool) → same k q ≡ b → entry_at same ((k, x) ∷ es) q ≡ Some v
kept_case {K} {V} same es k x q v means none e true t =
    let P : K → Type 0 = λ (i : K). entry_at same es i ≡ None in
    absurd (none_some (entry_at same es q) v (subst P (means t) none) e)
kept_case same es k x q v means none e false t = rw t e

-- an entry for a key that isn't there keeps all that are
pub entry_kept : {K V : Type 0} (same : K → K → Bool) (es : List (K × V)) (k : K) (x : V) (q : K) (v : V) → (same k q ≡ true → k ≡ q) → entry_at same es k ≡ None
    → entry_at same es q ≡ Some v → entry_at same ((k, x) ∷ es) q ≡ Some v
entry_kept same es k x q v means none e = kept_case same es k x q v means none e (same k q) refl

pub entry_new : {K V : Type 0} (same : K → K → Bool) (es : List (K × V)) (k : K) (x : V) → same k k ≡ true → entry_at same ((k, x) ∷ es) k ≡ Some x
entry_new same es k x t = rw t refl

old_case : {K V : Type 0} (same : K → K → Bool) (es : List (K × V)) (k : K) (x : V) (q : K) (v : V) → (same k q ≡ true → k ≡ q)
    → entry_at same ((k, x) ∷ es) q ≡ Some v → (b : Bool) → same k q ≡ b → ((k ≡ q) × (x ≡ v)) ⊎ (entry_at same es q ≡ Some v)
old_case same es k x q v means e true t = let f : Some x ≡ Some v = rw t at e in inl (means t, (let g : x ≡ v = cc in g))
old_case same es k x q v means e false t = inr (rw t at e)

-- what is found is the new entry, or was there
pub entry_old : {K V : Type 0} (same : K → K → Bool) (es : List (K × V)) (k : K) (x : V) (q : K) (v : V) → (same k q ≡ true → k ≡ q)
    → entry_at same ((k, x) ∷ es) q ≡ Some v → ((k ≡ q) × (x ≡ v)) ⊎ (entry_at same es q ≡ Some v)
entry_old same es k x q v means e = old_case same es k x q v means e (same k q) refl

-- ---- items
-- an item of a list with one more is the new one, or was there
pub get_next : {X : Type 0} (xs : List X) (x : X) (j : ℕ) (y : X) → slice_get (xs ++ x ∷ []) j ≡ Some y → ((j ≡ length xs) × (x ≡ y)) ⊎ (slice_get xs j ≡ Some y)
get_next [] x zero y e = inl (refl, (let g : x ≡ y = cc in g))
get_next [] x (suc j) y e = (let no : ⊥ = cc in absurd no)
get_next (z ∷ xs) x zero y e = inr e
get_next (z ∷ xs) x (suc j) y e = elim (get_next xs x j y e) [ inl a ↦ inl (ap (λ (n : ℕ). suc n) a.0, a.1) | inr b ↦ inr b ]

-- ---- marks
pub mark_next : (bs : List Bool) (i : ℕ) → slice_index_or (bs ++ false ∷ []) i false ≡ slice_index_or bs i false
mark_next [] zero = refl
mark_next [] (suc i) = refl
mark_next (b ∷ bs) zero = refl
mark_next (b ∷ bs) (suc i) = mark_next bs i

pub mark_set : (bs : List Bool) (i j : ℕ) → slice_index_or (slice_set bs i true) j false ≡ true → (j ≡ i) ⊎ (slice_index_or bs j false ≡ true)
mark_set bs i j e = elim (cases_eq j i) [ inl same ↦ inl same | inr apart ↦ inr (sym (get_or-set_other bs i j true false apart) ∙ e) ]

-- what lies below the prefix is marked
pub prefix_marked : (bs : List Bool) (j : ℕ) → j < true_prefix bs → slice_index_or bs j false ≡ true
prefix_marked [] j lt = absurd (omega arith)
prefix_marked (true ∷ bs) zero lt = refl
prefix_marked (true ∷ bs) (suc j) lt = prefix_marked bs j (omega arith)
prefix_marked (false ∷ bs) j lt = absurd (omega arith)

pub prefix_all : (n : ℕ) → true_prefix (replicate n true) ≡ n
prefix_all zero = refl
prefix_all (suc n) = omega (arith, prefix_all n)

-- ---- pages
-- what is there stays
abbrev pub KeepsPages : List (ℕ × List ℕ) → List (ℕ × List ℕ) → Type 0
KeepsPages a b = (n : ℕ) (bytes : List ℕ) → page_at a n ≡ Some bytes → page_at b n ≡ Some bytes

-- each page has 1 to p bytes
abbrev pub SmallPages : ℕ → List (ℕ × List ℕ) → Type 0
SmallPages p a = (n : ℕ) (bytes : List ℕ) → page_at a n ≡ Some bytes → (1 ≤ length bytes) × (length bytes ≤ p)

pub bytes_are : (a : List (ℕ × List ℕ)) (n : ℕ) (bytes : List ℕ) → page_at a n ≡ Some bytes → bytes_of_page a n ≡ bytes
bytes_are a n bytes e = rw (e, bytes_of_page) refl

bytes_kept : (a b : List (ℕ × List ℕ)) → KeepsPages a b → (n : ℕ) → IsKnown (page_at a n) → bytes_of_page b n ≡ bytes_of_page a n
bytes_kept a b keeps n (bytes, e) = bytes_are b n bytes (keeps n bytes e) ∙ sym (bytes_are a n bytes e)

pub cut_kept : (p : ℕ) (a b : List (ℕ × List ℕ)) → KeepsPages a b → (ns : List ℕ) → AreCut p a ns → AreCut p b ns
cut_kept p a b keeps [] cut = cut
cut_kept p a b keeps (n ∷ []) cut = (cut.0, keeps n cut.0 cut.1)
cut_kept p a b keeps (n ∷ (m ∷ ns)) cut =
    ((cut.0.0, keeps n cut.0.0 cut.0.1), ap length (bytes_kept a b keeps n cut.0) ∙ cut.1, cut_kept p a b keeps (m ∷ ns) cut.2)

pub joined_kept : (p : ℕ) (a b : List (ℕ × List ℕ)) → KeepsPages a b → (ns : List ℕ) → AreCut p a ns → bytes_of_pages b ns ≡ bytes_of_pages a ns
joined_kept p a b keeps [] cut = refl
joined_kept p a b keeps (n ∷ []) cut = ap (λ (x : List ℕ). x ++ []) (bytes_kept a b keeps n cut)
joined_kept p a b keeps (n ∷ (m ∷ ns)) cut =
    ap (λ (x : List ℕ). x ++ bytes_of_pages b (m ∷ ns)) (bytes_kept a b keeps n cut.0)
    ∙ ap (λ (y : List ℕ). bytes_of_page a n ++ y) (joined_kept p a b keeps (m ∷ ns) cut.2)

pub page_small : (p : ℕ) (a : List (ℕ × List ℕ)) (n : ℕ) → SmallPages p a → IsKnown (page_at a n) → (1 ≤ length (bytes_of_page a n)) × (length (bytes_of_page a n) ≤ p)
page_small p a n small (bytes, e) = let f : length (bytes_of_page a n) ≡ length bytes = ap length (bytes_are a n bytes e) in (omega (arith, small n bytes e), omega (arith, small n bytes e))

-- some pages have a byte
pub joined_some : (p : ℕ) (a : List (ℕ × List ℕ)) → SmallPages p a → (ns : List ℕ) → AreCut p a ns → 1 ≤ length (bytes_of_pages a ns)
joined_some p a small [] cut = absurd cut
joined_some p a small (n ∷ []) cut = omega (arith, (page_small p a n small cut).0, length-append (bytes_of_page a n) [])
joined_some p a small (n ∷ (m ∷ ns)) cut = omega (arith, (page_small p a n small cut.0).0, length-append (bytes_of_page a n) (bytes_of_pages a (m ∷ ns)))

first_full : (p : ℕ) (b rest : List ℕ) → length b ≡ p → take p (b ++ rest) ≡ b
first_full p b rest e = ap (λ (n : ℕ). take n (b ++ rest)) (sym e) ∙ take-append_seam b rest

next_full : (p i : ℕ) (b rest : List ℕ) → length b ≡ p → drop (suc i * p) (b ++ rest) ≡ drop (i * p) rest
next_full p i b rest e =
    let f : suc i * p ≡ length b + i * p = omega arith in
    ap (λ (n : ℕ). drop n (b ++ rest)) f ∙ drop-append-add b rest (i * p)

-- Page i of the buffer that some pages hold is item i of the pages.
pub nth_is : (p : ℕ) (a : List (ℕ × List ℕ)) → SmallPages p a → (ns : List ℕ) (i : ℕ) → AreCut p a ns → take p (drop (i * p) (bytes_of_pages a ns)) ≡ nth_page a ns i
nth_is p a small [] i cut = absurd cut
nth_is p a small (n ∷ []) zero cut =
    let z : 0 * p ≡ 0 = omega arith in
    ap (λ (k : ℕ). take p (drop k (bytes_of_page a n ++ []))) z ∙ ap (λ (l : List ℕ). take p l) (append-nil (bytes_of_page a n)) ∙ take_all p (bytes_of_page a n) (page_small p a n small cut).1
nth_is p a small (n ∷ []) (suc i) cut =
    let le : length (bytes_of_page a n) ≤ suc i * p = omega (arith, (page_small p a n small cut).1) in
    ap (λ (l : List ℕ). take p (drop (suc i * p) l)) (append-nil (bytes_of_page a n)) ∙ ap (λ (l : List ℕ). take p l) (drop_of_length-le (bytes_of_page a n) le) ∙ take_all p [] (omega arith)
nth_is p a small (n ∷ (m ∷ ns)) zero cut =
    let z : 0 * p ≡ 0 = omega arith in
    ap (λ (k : ℕ). take p (drop k (bytes_of_page a n ++ bytes_of_pages a (m ∷ ns)))) z ∙ first_full p (bytes_of_page a n) (bytes_of_pages a (m ∷ ns)) cut.1
nth_is p a small (n ∷ (m ∷ ns)) (suc i) cut =
    ap (λ (l : List ℕ). take p l) (next_full p i (bytes_of_page a n) (bytes_of_pages a (m ∷ ns)) cut.1) ∙ nth_is p a small (m ∷ ns) i cut.2
