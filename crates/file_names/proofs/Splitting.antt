-- A path is cut at its last slash, and put together again.
use Rattle.std.specs.Prelude.{nat_le, if◌then◌else◌, codes}
use Rattle.std.proofs.Common.{◌≡◌, ℕ, ◌+◌, ◌-◌, ◌<◌, ◌⊎◌, inl, inr, Bool, true, false, not, ◌&&◌, List, [], ◌∷◌, ◌++◌, reverse, length, drop, All, refl, sym, ap, subst, ◌∙◌, append_assoc, length-append, take_at, drop_at, zero-add, arith}
use Rattle.std.specs.List.{prefix_len, before_last, slice_split, onto_first, list_all}
use Rattle.std.proofs.lemmas.Bool.{cond-true, eqb-true, false≢true}
use Rattle.std.proofs.lemmas.List.{length_push, reverse-append, length-reverse}
use Rattle.std.proofs.lemmas.List.Elements.{All-nil, All-cons, All-head, All-tail, All-append}
use Rattle.std.proofs.lemmas.List.Splits.{slice_split_none, slice_split-cons_yes, slice_split-cons_no, length-slice_split}
use Rattle.file_names.specs.Paths.{is_slash, is_name, are_names, is_path, is_root, parent_of, name_of, behind_slash, child_of, or_root}

abbrev pub NoSlash : List ℕ → Type 0
NoSlash name = All (λ x. not (is_slash x) ≡ true) name

All-reverse : (P : ℕ → Type 0) (xs : List ℕ) → All P xs → All P (reverse xs)
All-reverse P [] h = h
All-reverse P (x ∷ xs) h =
    subst (All P) (sym (reverse-append (x ∷ []) xs))
    (All-append P (reverse xs) (x ∷ []) (All-reverse P xs (All-tail P x xs h)) (All-cons P x [] (All-head P x xs h) (All-nil P)))

prefix_len-past : (p : ℕ → Bool) (xs ys : List ℕ) → All (λ x. p x ≡ true) xs → prefix_len p (xs ++ ys) ≡ length xs + prefix_len p ys
prefix_len-past p [] ys h = sym (zero-add _)
prefix_len-past p (x ∷ xs) ys h =
    let more = prefix_len-past p xs ys (All-tail (λ y. p y ≡ true) x xs h) in
    cond-true (p x) _ 0 (All-head (λ y. p y ≡ true) x xs h) ∙ omega arith

-- how many bytes stand behind the last slash
pub behind-at : (pre name : List ℕ) → NoSlash name → behind_slash (pre ++ 47 ∷ name) ≡ length name
behind-at pre name h =
    let p : ℕ → Bool = λ x. not (is_slash x) in
    let turned : reverse (pre ++ 47 ∷ name) ≡ reverse name ++ (47 ∷ reverse pre) =
    reverse-append pre (47 ∷ name) ∙ ap (λ zs. zs ++ reverse pre) (reverse-append (47 ∷ []) name) ∙ append_assoc (reverse name) (47 ∷ []) (reverse pre) in
    ap (prefix_len p) turned ∙ prefix_len-past p (reverse name) _ (All-reverse (λ x. p x ≡ true) name h) ∙ omega (arith, length-reverse name)

pub before-at : (pre name : List ℕ) → NoSlash name → before_last is_slash (pre ++ 47 ∷ name) ≡ pre
before-at pre name h = take_at pre (47 ∷ name) _ (omega (arith, behind-at pre name h, length-append pre (47 ∷ name)))

pub name_of-at : (pre name : List ℕ) → NoSlash name → name_of (pre ++ 47 ∷ name) ≡ name
name_of-at pre name h =
    let n = length (pre ++ 47 ∷ name) - behind_slash (pre ++ 47 ∷ name) in
    ap (drop n) (sym (append_assoc pre (47 ∷ []) name))
    ∙ drop_at (pre ++ 47 ∷ []) name n (omega (arith, behind-at pre name h, length-append pre (47 ∷ name), length_push pre 47))

first_cut : (x : ℕ) (xs : List ℕ) → NoSlash xs → (b : Bool) → is_slash x ≡ b → NoSlash (x ∷ xs) ⊎ ((pre : List ℕ) × (name : List ℕ) × (x ∷ xs ≡ pre ++ 47 ∷ name) × NoSlash name)
first_cut x xs h true e = inr ([], xs, ap (λ y. y ∷ xs) (eqb-true x 47 e), h)
first_cut x xs h false e = inl (All-cons (λ y. not (is_slash y) ≡ true) x xs (ap not e) h)

-- a text with a slash is cut at its last one
pub last_cut : (xs : List ℕ) → NoSlash xs ⊎ ((pre : List ℕ) × (name : List ℕ) × (xs ≡ pre ++ 47 ∷ name) × NoSlash name)
last_cut [] = inl (All-nil (λ y. not (is_slash y) ≡ true))
last_cut (x ∷ xs) = elim (last_cut xs) [
  | inl h ↦ first_cut x xs h (is_slash x) refl
  | inr c ↦ inr (x ∷ c.0, c.1, ap (λ l. x ∷ l) c.2, c.3)
]

-- a text that begins with a slash, cut at its last one
pub record Cut (text : List ℕ) : Type 0 where
  pub before : List ℕ
  pub name : List ℕ
  pub joins : text ≡ before ++ 47 ∷ name
  pub plain : NoSlash name

pub cut : (rest : List ℕ) → Cut (47 ∷ rest)
cut rest = elim (last_cut (47 ∷ rest)) [
  | inl h ↦ absurd (false≢true (All-head (λ y. not (is_slash y) ≡ true) 47 rest h))
  | inr c ↦ record { before = c.0; name = c.1; joins = c.2; plain = c.3 }
]

-- ---- the parts of a text

onto_parts : (x : ℕ) (ps qs : List (List ℕ)) → 0 < length ps → onto_first x (ps ++ qs) ≡ onto_first x ps ++ qs
onto_parts x [] qs some = absurd (omega arith)
onto_parts x (p ∷ ps) qs some = refl

parts-cons : (x : ℕ) (xs ys : List ℕ) (b : Bool) → is_slash x ≡ b → slice_split is_slash (xs ++ 47 ∷ ys) ≡ slice_split is_slash xs ++ slice_split is_slash ys
    → slice_split is_slash (x ∷ xs ++ 47 ∷ ys) ≡ slice_split is_slash (x ∷ xs) ++ slice_split is_slash ys
parts-cons x xs ys true e more = slice_split-cons_yes is_slash x (xs ++ 47 ∷ ys) e ∙ ap (λ ps. [] ∷ ps) more ∙ ap (λ ps. ps ++ slice_split is_slash ys) (sym (slice_split-cons_yes is_slash x xs e))
parts-cons x xs ys false e more =
    slice_split-cons_no is_slash x (xs ++ 47 ∷ ys) e ∙ ap (onto_first x) more
    ∙ onto_parts x (slice_split is_slash xs) (slice_split is_slash ys) (omega (arith, length-slice_split is_slash xs))
    ∙ ap (λ ps. ps ++ slice_split is_slash ys) (sym (slice_split-cons_no is_slash x xs e))

pub parts-append : (xs ys : List ℕ) → slice_split is_slash (xs ++ 47 ∷ ys) ≡ slice_split is_slash xs ++ slice_split is_slash ys
parts-append [] ys = refl
parts-append (x ∷ xs) ys = parts-cons x xs ys (is_slash x) refl (parts-append xs ys)

not_slash : (b : Bool) → not b ≡ true → b ≡ false
not_slash true e = absurd (false≢true e)
not_slash false e = refl

pub NoSlash-false : (name : List ℕ) → NoSlash name → All (λ x. is_slash x ≡ false) name
NoSlash-false [] h = All-nil (λ x. is_slash x ≡ false)
NoSlash-false (x ∷ xs) h = All-cons (λ x. is_slash x ≡ false) x xs (not_slash (is_slash x) (All-head (λ y. not (is_slash y) ≡ true) x xs h)) (NoSlash-false xs (All-tail (λ y. not (is_slash y) ≡ true) x xs h))

pub parts-name : (name : List ℕ) → NoSlash name → slice_split is_slash name ≡ name ∷ []
parts-name name h = slice_split_none is_slash name (NoSlash-false name h)

and_assoc : (a b c : Bool) → ((a && b) && c) ≡ (a && (b && c))
and_assoc true b c = refl
and_assoc false b c = refl

pub all-append : (xs ys : List (List ℕ)) → list_all is_name (xs ++ ys) ≡ (list_all is_name xs && list_all is_name ys)
all-append [] ys = refl
all-append (x ∷ xs) ys = ap (λ b. is_name x && b) (all-append xs ys) ∙ sym (and_assoc (is_name x) _ _)

split_both : (whole parts : List (List ℕ)) (last : Bool) → length whole ≡ length parts + 1 → list_all is_name whole ≡ (list_all is_name parts && (last && true))
    → (nat_le (length whole) 16 && list_all is_name whole) ≡ true → ((nat_le (length parts) 16 && list_all is_name parts) ≡ true) × (last ≡ true)
split_both whole parts last len both ok = grind arith

-- what stands before the last name of some names is names too
pub names-split : (before name : List ℕ) → NoSlash name → are_names (before ++ 47 ∷ name) ≡ true → (are_names before ≡ true) × (is_name name ≡ true)
names-split before name h ok =
    let parts : slice_split is_slash (before ++ 47 ∷ name) ≡ slice_split is_slash before ++ (name ∷ []) = parts-append before name ∙ ap (λ ps. slice_split is_slash before ++ ps) (parts-name name h) in
    let all = all-append (slice_split is_slash before) (name ∷ []) in
    let len : length (slice_split is_slash (before ++ 47 ∷ name)) ≡ length (slice_split is_slash before) + 1 = ap length parts ∙ length_push (slice_split is_slash before) name in
    let both : list_all is_name (slice_split is_slash (before ++ 47 ∷ name)) ≡ (list_all is_name (slice_split is_slash before) && (is_name name && true)) = ap (list_all is_name) parts ∙ all in
    split_both (slice_split is_slash (before ++ 47 ∷ name)) (slice_split is_slash before) (is_name name) len both ok

-- ---- the parent of a path

-- how a path is cut: by its last name, and by the path of its folder
pub record IsCut (path : List ℕ) : Type 0 where
  pub name : is_name (name_of path) ≡ true
  pub parent : is_path (parent_of path) ≡ true
  pub joins : child_of (parent_of path) (name_of path) ≡ path

pub and_both : (a b : Bool) → (a && b) ≡ true → (a ≡ true) × (b ≡ true)
and_both true b e = (refl, e)
and_both false b e = absurd (false≢true e)

pub slash_first : (x : ℕ) (rest : List ℕ) → is_path (x ∷ rest) ≡ true → x ≡ 47
slash_first x [] ok = eqb-true x 47 ok
slash_first x (y ∷ rest) ok = eqb-true x 47 (and_both (is_slash x) _ ok).0

some_names : are_names [] ≡ true → ⊥
some_names e = false≢true e

pub path_of : (rest : List ℕ) → are_names rest ≡ true → is_path (47 ∷ rest) ≡ true
path_of [] ok = refl
path_of (x ∷ rest) ok = ok

pub one_name : (name : List ℕ) → NoSlash name → are_names name ≡ true → is_name name ≡ true
one_name name h ok =
    let parts = parts-name name h in
    let all = (and_both (nat_le (length (slice_split is_slash name)) 16) _ ok).1 in
    (and_both (is_name name) true (sym (ap (list_all is_name) parts) ∙ all)).0

pub parent-at : (before name : List ℕ) → NoSlash name → parent_of (before ++ 47 ∷ name) ≡ or_root before
parent-at before name h = ap or_root (before-at before name h)

cut_first : (name : List ℕ) → NoSlash name → are_names name ≡ true → IsCut ([] ++ 47 ∷ name)
cut_first name h ok = record {
  name = ap is_name (name_of-at [] name h) ∙ one_name name h ok;
  parent = ap is_path (parent-at [] name h);
  joins = ap (λ f. child_of f (name_of ([] ++ 47 ∷ name))) (parent-at [] name h) ∙ ap (λ n. 47 ∷ n) (name_of-at [] name h);
}

root_apart : (before : List ℕ) → are_names before ≡ true → is_root (47 ∷ before) ≡ false
root_apart [] ok = absurd (some_names ok)
root_apart (x ∷ xs) ok = refl

cut_later : (before name : List ℕ) → NoSlash name → are_names (before ++ 47 ∷ name) ≡ true → IsCut ((47 ∷ before) ++ 47 ∷ name)
cut_later before name h ok =
    let both = names-split before name h ok in
    let up : parent_of ((47 ∷ before) ++ 47 ∷ name) ≡ 47 ∷ before = parent-at (47 ∷ before) name h in
    let last : name_of ((47 ∷ before) ++ 47 ∷ name) ≡ name = name_of-at (47 ∷ before) name h in record {
      name = ap is_name last ∙ both.1;
      parent = ap is_path up ∙ path_of before both.0;
      joins = ap (λ f. child_of f (name_of ((47 ∷ before) ++ 47 ∷ name))) up ∙ ap (child_of (47 ∷ before)) last ∙ ap (λ b. (if b then codes "/" else (47 ∷ before) ++ codes "/") ++ name) (root_apart before both.0) ∙ append_assoc (47 ∷ before) (codes "/") name;
    }

cut_names : (rest before name : List ℕ) → 47 ∷ rest ≡ before ++ 47 ∷ name → NoSlash name → are_names rest ≡ true → IsCut (before ++ 47 ∷ name)
cut_names rest [] name e h ok = cut_first name h (let same : rest ≡ name = cc in subst (λ l. are_names l ≡ true) same ok)
cut_names rest (x ∷ xs) name e h ok =
    let first : 47 ≡ x = cc in
    let others : rest ≡ xs ++ 47 ∷ name = cc in
    subst (λ y. IsCut ((y ∷ xs) ++ 47 ∷ name)) first (cut_later xs name h (subst (λ l. are_names l ≡ true) others ok))

cut_rest : (rest : List ℕ) → are_names rest ≡ true → IsCut (47 ∷ rest)
cut_rest rest ok = let c = cut rest in subst IsCut (sym c.joins) (cut_names rest c.before c.name c.joins c.plain ok)

slashed : (rest : List ℕ) → is_path (47 ∷ rest) ≡ true → is_root (47 ∷ rest) ≡ false → IsCut (47 ∷ rest)
slashed [] ok other = absurd (false≢true (sym other))
slashed (x ∷ rest) ok other = cut_rest (x ∷ rest) ok

-- every path but `/` is cut
pub path_cut : (path : List ℕ) → is_path path ≡ true → is_root path ≡ false → IsCut path
path_cut [] ok other = absurd (false≢true ok)
path_cut (x ∷ rest) ok other = subst (λ y. is_path (y ∷ rest) ≡ true → is_root (y ∷ rest) ≡ false → IsCut (y ∷ rest)) (sym (slash_first x rest ok)) (slashed rest) ok other

-- the path of a path's folder is one
pub parent_ok : (path : List ℕ) → is_path path ≡ true → is_path (parent_of path) ≡ true
parent_ok [] ok = absurd (false≢true ok)
parent_ok (x ∷ []) ok = subst (λ y. is_path (parent_of (y ∷ [])) ≡ true) (sym (slash_first x [] ok)) refl
parent_ok (x ∷ y ∷ rest) ok = (path_cut (x ∷ y ∷ rest) ok refl).parent
