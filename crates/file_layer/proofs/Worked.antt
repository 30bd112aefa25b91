-- Worked rows of one stream alone, by computation.
use Rattle.std.specs.Prelude.{◌≢◌, ℕ, ◌≤◌, List, [], ◌∷◌, codes}
use Rattle.std.proofs.Common.{inl, refl, lit≤, arith}
use Rattle.std.proofs.lemmas.List.Elements.{All-cons, All-nil}
use Rattle.items.specs.Rounds.{Rounds}
use Rattle.blob_model.specs.Limits.{greatest}
use Rattle.blob_model.specs.Store.{Blob, finish}
use Rattle.file_names.specs.declared.form.FileLine.TheVariants as Lines
use Rattle.file_names.specs.declared.form.FileReply.TheVariants as Says
use Rattle.file_names.specs.declared.form.FileFault.TheVariants as FileFaults
use Rattle.file_names.specs.declared.form.FileHeard.TheVariants.{Asked}
use Rattle.file_names.specs.declared.form.PageHolders.{PageHolders}
use Rattle.file_layer.specs.Files.{LieAt, ArePlacesOf, refused}
use Rattle.file_layer.specs.PathMap.{Thing, PathMap, new_map, new_file, and_thing, and_blob, puts, appended, FileSays, AppendSays, WhereSays, MapItemReply}

abbrev a : List ℕ
a = codes "/a"

abbrev d : List ℕ
d = codes "/d"

abbrev d_b : List ℕ
d_b = codes "/d/b"

abbrev abcdef : List ℕ
abcdef = codes "abcdef"

abbrev none : Blob
none = record { updates = []; finished = [] }

-- three providers, pages of four bytes
abbrev m0 : PathMap
m0 = new_map (record { limits = greatest; page = 4 }) 3 1

abbrev m1 : PathMap
m1 = and_thing (and_blob m0) a (new_file 1)

abbrev m2 : PathMap
m2 = puts m1 a (finish (appended m1 none abcdef) 1)

abbrev m3 : PathMap
m3 = and_thing m2 d Thing.folder

abbrev m4 : PathMap
m4 = and_thing (and_blob m3) d_b (new_file 2)

lies : (page x y : ℕ) → 1 ≤ x → x ≤ 3 → 1 ≤ y → y ≤ 3 → LieAt 3 (record { page = page; providers = x ∷ y ∷ [] })
lies page x y some_x few_x some_y few_y = record {
  some = lit≤ tt;
  few = lit≤ tt;
  ours = All-cons (λ (n : ℕ). (1 ≤ n) × (n ≤ 3)) x (y ∷ []) (some_x, few_x) (All-cons (λ (n : ℕ). (1 ≤ n) × (n ≤ 3)) y [] (some_y, few_y) (All-nil (λ (n : ℕ). (1 ≤ n) × (n ≤ 3))));
}

abbrev places : List PageHolders
places = record { page = 0; providers = 1 ∷ 2 ∷ [] } ∷ record { page = 1; providers = 3 ∷ 1 ∷ [] } ∷ []

both_lie : ArePlacesOf 4 3 0 6 places
both_lie = record {
  which = refl;
  lie =
      All-cons (LieAt 3) (record { page = 0; providers = 1 ∷ 2 ∷ [] }) (record { page = 1; providers = 3 ∷ 1 ∷ [] } ∷ []) (lies 0 1 2 (lit≤ tt) (lit≤ tt) (lit≤ tt) (lit≤ tt))
      (All-cons (LieAt 3) (record { page = 1; providers = 3 ∷ 1 ∷ [] }) [] (lies 1 3 1 (lit≤ tt) (lit≤ tt) (lit≤ tt) (lit≤ tt)) (All-nil (LieAt 3)));
}

none_full : ◌≢◌ {A = ℕ} 0 65535
none_full e = omega (arith, e)

one_not_full : ◌≢◌ {A = ℕ} 1 65535
one_not_full e = omega (arith, e)

-- files, folders, and what is refused of them
worked : Rounds MapItemReply m0
    (Asked (Lines.Make a) ∷ Asked (Lines.Append a abcdef) ∷ Asked (Lines.Where a 1 0 6) ∷ Asked (Lines.Mkdir d) ∷ Asked (Lines.Make d_b) ∷ Asked (Lines.Stat a) ∷ Asked (Lines.Make a) ∷ Asked (Lines.Append d (0 ∷ [])) ∷ Asked (Lines.Read (codes "/x") 0 0 0) ∷ Asked (Lines.List a) ∷ [])
    (Says.File a 1 ∷ Says.Appended 1 0 6 ∷ Says.HeldBy places ∷ Says.Folder d ∷ Says.File d_b 2 ∷ Says.FileIs 1 1 6 ∷ refused (FileFaults.Exists a) ∷ refused (FileFaults.NotFile d) ∷ refused (FileFaults.NoName (codes "/x"))
    ∷ refused (FileFaults.NotFolder a) ∷ [])
    m4
worked = (m1, FileSays.made none_full refl refl, (m2, AppendSays.done refl refl refl, (m2, (WhereSays.places refl places refl both_lie, refl), (m3, inl (refl, refl), (m4, FileSays.made one_not_full refl refl, (m4, (refl, refl), (m4, (refl, refl), (m4, (refl, refl), (m4, (refl, refl), (m4, inl (refl, refl), refl))))))))))
