-- The path of a name in a folder is cut into these two again.
use Rattle.std.proofs.Common.{◌≡◌, ℕ, Bool, true, false, not, ◌&&◌, List, [], ◌∷◌, ◌++◌, refl, sym, ap, subst, ◌∙◌, append_assoc}
use Rattle.std.specs.List.{list_all}
use Rattle.std.specs.Str.{bytes_eq}
use Rattle.std.specs.Cmp.Lexicographic.{bytes_decides}
use Rattle.std.proofs.lemmas.Bool.{eqb-true, false≢true}
use Rattle.std.proofs.lemmas.List.Elements.{All-nil, All-cons}
use Rattle.file_names.specs.Paths.{is_slash, is_name_byte, is_name, is_path, is_root, parent_of, name_of, child_of}
use Rattle.file_names.proofs.Splitting.{NoSlash, name_of-at, parent-at, slash_first, path_cut, and_both}

byte_apart : (b : ℕ) → is_name_byte b ≡ true → (t : Bool) → is_slash b ≡ t → not t ≡ true
byte_apart b ok true e = absurd (false≢true (subst (λ x. is_name_byte x ≡ true) (eqb-true b 47 e) ok))
byte_apart b ok false e = refl

plain_bytes : (name : List ℕ) → list_all is_name_byte name ≡ true → NoSlash name
plain_bytes [] ok = All-nil (λ x. not (is_slash x) ≡ true)
plain_bytes (x ∷ xs) ok =
    let both = and_both (is_name_byte x) (list_all is_name_byte xs) ok in
    All-cons (λ y. not (is_slash y) ≡ true) x xs (byte_apart x both.0 (is_slash x) refl) (plain_bytes xs both.1)

-- a name has no slash
pub name_plain : (name : List ℕ) → is_name name ≡ true → NoSlash name
name_plain name ok = plain_bytes name (and_both _ (list_all is_name_byte name) ok).1

pub record Child (folder name : List ℕ) : Type 0 where
  pub parent : parent_of (child_of folder name) ≡ folder
  pub last : name_of (child_of folder name) ≡ name
  pub other : is_root (child_of folder name) ≡ false

pub child_cut : (folder name : List ℕ) → is_path folder ≡ true → is_name name ≡ true → Child folder name
child_cut [] name ok is = absurd (false≢true ok)
child_cut folder [] ok is = absurd (false≢true is)
child_cut (x ∷ []) (n ∷ ns) ok is =
    let h = name_plain (n ∷ ns) is in
    subst (λ y. Child (y ∷ []) (n ∷ ns)) (sym (slash_first x [] ok)) (record { parent = parent-at [] (n ∷ ns) h; last = name_of-at [] (n ∷ ns) h; other = refl })
child_cut (x ∷ y ∷ rest) (n ∷ ns) ok is =
    let h = name_plain (n ∷ ns) is in
    let joined : child_of (x ∷ y ∷ rest) (n ∷ ns) ≡ (x ∷ y ∷ rest) ++ 47 ∷ (n ∷ ns) = append_assoc (x ∷ y ∷ rest) (47 ∷ []) (n ∷ ns) in record {
      parent = ap parent_of joined ∙ parent-at (x ∷ y ∷ rest) (n ∷ ns) h;
      last = ap name_of joined ∙ name_of-at (x ∷ y ∷ rest) (n ∷ ns) h;
      other = refl;
    }

both_ways : (a b : Bool) → (a ≡ true → b ≡ true) → (b ≡ true → a ≡ true) → a ≡ b
both_ways true b f g = sym (f refl)
both_ways false true f g = absurd (false≢true (g refl))
both_ways false false f g = refl

and_true : (a b : Bool) → a ≡ true → b ≡ true → (a && b) ≡ true
and_true true b p q = q
and_true false b p q = absurd (false≢true p)

-- a path is that of a name in a folder where it is cut into them
pub same_child : (path folder name : List ℕ) → is_path path ≡ true → is_root path ≡ false → is_path folder ≡ true → is_name name ≡ true
    → bytes_eq path (child_of folder name) ≡ (bytes_eq (parent_of path) folder && bytes_eq (name_of path) name)
same_child path folder name ok other in_ok is =
    let c = child_cut folder name in_ok is in
    let p = path_cut path ok other in
    both_ways (bytes_eq path (child_of folder name)) (bytes_eq (parent_of path) folder && bytes_eq (name_of path) name)
    (λ e. let same = (bytes_decides path (child_of folder name)).0 e in
    and_true _ _ ((bytes_decides (parent_of path) folder).1 (ap parent_of same ∙ c.parent)) ((bytes_decides (name_of path) name).1 (ap name_of same ∙ c.last)))
    (λ e. let both = and_both (bytes_eq (parent_of path) folder) (bytes_eq (name_of path) name) e in
    let up : parent_of path ≡ folder = (bytes_decides (parent_of path) folder).0 both.0 in
    let last : name_of path ≡ name = (bytes_decides (name_of path) name).0 both.1 in
    (bytes_decides path (child_of folder name)).1 (sym p.joins ∙ ap (λ f. child_of f (name_of path)) up ∙ ap (child_of folder) last))
