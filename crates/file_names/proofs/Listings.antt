-- A folder's map in order is its listing.
use Rattle.std.proofs.Common.{◌≡◌, ℕ, Bool, true, false, cond, List, [], ◌∷◌, map, Option, Some, All, get_or, refl, sym, ap, ◌∙◌, arith}
use Rattle.std.proofs.lemmas.Bool.{cond-false}
use Rattle.std.specs.Prelude.{if◌then◌else◌}
use Rattle.std.specs.Option.{option_map}
use Rattle.std.specs.Map.{lookup, keys_of}
use Rattle.std.specs.BTreeMap.{is_at}
use Rattle.std.specs.Ordering.{nat_cmp, is_eq}
use Rattle.std.specs.Cmp.Lexicographic.{slice_cmp}
use Rattle.std.specs.Str.{bytes_eq}
use Rattle.std.specs.List.{AllByRecursion}
use Rattle.std.specs.List.Sorted.{IsStrictlySortedBy}
use Rattle.std.specs.declared.cmp.Ordering.TheVariants.{Less}
use Rattle.std.specs.declared.vec.Vec.{Vec}
use Rattle.std.specs.declared.alloc.Global.{Global}
use Rattle.std.proofs.lemmas.Map.Text.{is_eq-slice_cmp}
use Rattle.std.proofs.lemmas.List.Elements.{All-nil, All-cons, All-head, All-tail}
use Rattle.file_names.specs.Paths.{is_name, is_path, is_root, child_of}
use Rattle.file_names.specs.Tree.{NameLog, named_at, entered_at, is_folder, listed_as, IsListing}
use Rattle.file_names.specs.Folders.{Folders, Entries, at_bytes, entries_at, kept_at, listed_of, AreOf, IsInOrder, entry_in}
use Rattle.file_names.specs.declared.tree.Named.{Named}
use Rattle.file_names.specs.declared.tree.Named.TheVariants.{Folder}
use Rattle.file_names.specs.declared.tree.Listed.{Listed}
use Rattle.file_names.proofs.Children.{child_cut}

abbrev Pairs : Type 0
Pairs = List (Vec ℕ Global × Named)

abbrev pub listed_all : Pairs → List Listed
listed_all es = map (λ e. listed_of (e.0.items, e.1)) es

less_all : (x : List ℕ) (es : Pairs) → AllByRecursion (λ (y : Vec ℕ Global). slice_cmp nat_cmp x y.items ≡ Less) (keys_of es) → AllByRecursion (λ y. slice_cmp nat_cmp x y ≡ Less) (map (λ (l : Listed). l.name) (listed_all es))
less_all x [] h = tt
less_all x (e ∷ es) h = (h.0, less_all x es h.1)

sorted_all : (es : Pairs) → IsStrictlySortedBy (λ (x y : Vec ℕ Global). slice_cmp nat_cmp x.items y.items) (keys_of es) → IsStrictlySortedBy (slice_cmp nat_cmp) (map (λ (l : Listed). l.name) (listed_all es))
unfolding IsStrictlySortedBy
sorted_all [] h = tt
sorted_all (e ∷ es) h = (less_all e.0.items es h.0, sorted_all es h.1)

as_kept : (name : List ℕ) (e : Vec ℕ Global × Named) (b t : Bool) → t ≡ b → (more : Option Bool) (rest : Option Named) → more ≡ option_map is_folder rest
    → (if b then Some (is_folder e.1) else more) ≡ option_map is_folder (cond t (Some e.1) rest)
as_kept name e true t same more rest h = rw same refl
as_kept name e false t same more rest h = rw same h

found_all : (es : Pairs) (name : List ℕ) → listed_as (listed_all es) name ≡ option_map is_folder (lookup (is_at (λ (k : Vec ℕ Global). slice_cmp nat_cmp name k.items)) es)
found_all [] name = refl
found_all (e ∷ es) name = as_kept name e (bytes_eq name e.0.items) (is_eq (slice_cmp nat_cmp name e.0.items)) (is_eq-slice_cmp name e.0.items) _ _ (found_all es name)

names_all : (es : Pairs) → All (λ (e : Vec ℕ Global × Named). is_name e.0.items ≡ true) es → All (λ (l : Listed). is_name l.name ≡ true) (listed_all es)
names_all [] h = All-nil (λ (l : Listed). is_name l.name ≡ true)
names_all (e ∷ es) h =
    All-cons (λ (l : Listed). is_name l.name ≡ true) (listed_of (e.0.items, e.1)) (listed_all es)
    (All-head (λ (e : Vec ℕ Global × Named). is_name e.0.items ≡ true) e es h)
    (names_all es (All-tail (λ (e : Vec ℕ Global × Named). is_name e.0.items ≡ true) e es h))

pub listing_ok : (log : NameLog) (folders : Folders) → AreOf log folders → (path : List ℕ) → is_path path ≡ true → (entries : Entries) → entries_at folders path ≡ Some entries → IsInOrder entries
    → All (λ (e : Vec ℕ Global × Named). at_bytes entries e.0.items ≡ Some e.1) entries.entries → IsListing log path (listed_all entries.entries)
listing_ok log folders are path ok entries at in_order found = record {
  in_order = sorted_all entries.entries in_order;
  names = names_all entries.entries (λ i d lt. let e = get_or entries.entries i d in
      are.names path e.0.items (let here : kept_at folders path e.0.items ≡ Some e.1 = ap (λ o. entry_in o e.0.items) at ∙ found i d lt in grind (arith, here)));
  exactly = λ name is.
      let kept : kept_at folders path name ≡ at_bytes entries name = ap (λ o. entry_in o name) at in
      let other = (child_cut path name ok is).other in
      let there : named_at log (child_of path name) ≡ entered_at log (child_of path name) = cond-false (is_root (child_of path name)) (Some Folder) _ other in
      found_all entries.entries name ∙ ap (option_map is_folder) (sym kept ∙ are.kept path name ok is ∙ sym there);
}
