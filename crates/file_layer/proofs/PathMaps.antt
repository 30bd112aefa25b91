-- The names of a map of paths, what is told of them, and what a change leaves of the map.
use Rattle.std.proofs.Common.{◌≡◌, ◌⊎◌, inl, inr, ℕ, ◌+◌, Bool, true, false, cond, List, [], ◌∷◌, ◌++◌, length, map, Option, Some, None, Result, Ok, Err, refl, sym, ap, subst, ◌∙◌}
use Rattle.std.specs.Prelude.{if◌then◌else◌, nat_le}
use Rattle.std.specs.List.{count_by}
use Rattle.std.specs.Option.{option_map}
use Rattle.std.specs.Str.{bytes_eq}
use Rattle.std.proofs.lemmas.List.{length-map, map-append}
use Rattle.std.proofs.lemmas.List.Sums.{sum_by-cons}
use Rattle.std.proofs.lemmas.Option.{none-some, same_Some}
use Rattle.blob_model.specs.Store.{Blob}
use Rattle.file_names.specs.Paths.{is_root, parent_of, child_of}
use Rattle.file_names.specs.Tree as Tree
use Rattle.file_names.specs.Tree.{NameLog, IsListing, ListsNamed, entered_at, named_at, fault_under, enter_fault, blob_at, blob_named, stat_at, stat_of, entries_in, most_names}
use Rattle.file_names.specs.declared.tree.Named.{Named}
use Rattle.file_names.specs.declared.tree.Named.TheVariants as Nameds
use Rattle.file_names.specs.declared.tree.Entered.{Entered}
use Rattle.file_names.specs.declared.tree.Stat.{Stat}
use Rattle.file_names.specs.declared.tree.Stat.TheVariants as Stats
use Rattle.file_names.specs.declared.tree.Listed.{Listed}
use Rattle.file_names.specs.declared.tree.EnterFault.{EnterFault}
use Rattle.file_names.specs.declared.tree.EnterFault.TheVariants as EnterFaults
use Rattle.file_names.specs.declared.tree.FindFault.{FindFault}
use Rattle.file_names.specs.declared.tree.FindFault.TheVariants as FindFaults
use Rattle.file_names.specs.declared.tree.ListFault.{ListFault}
use Rattle.file_names.specs.declared.tree.ListFault.TheVariants as ListFaults
use Rattle.file_names.specs.declared.form.FileReply.TheVariants as Says
use Rattle.file_layer.specs.Files.{list_reply}
use Rattle.file_layer.specs.PathMap.{Thing, PathMap, AreIn, thing_in, thing_at, entries_of, is_folder, with_content, put_in, fault_below, new_fault, ListSays}

-- ---- the names of a map

abbrev pub Things : Type 0
Things = List (List ℕ × Thing)

abbrev pub named_of : Thing → Named
named_of Thing.folder = Nameds.Folder
named_of (Thing.file blob content) = Nameds.File blob

abbrev pub entered_of : ℕ → List ℕ × Thing → ℕ × Entered
entered_of by t = (by, record { path = t.0; named = named_of t.1 })

abbrev pub names_of : ℕ → Things → NameLog
names_of by things = map (entered_of by) things

picked : {A B : Type 0} (f : A → B) (b : Bool) (x : A) (o : Option B) (p : Option A) → o ≡ option_map f p → (if b then Some (f x) else o) ≡ option_map f (if b then Some x else p)
picked f true x o p e = refl
picked f false x o p e = e

entered_is : (by : ℕ) (things : Things) (path : List ℕ) → entered_at (names_of by things) path ≡ option_map named_of (thing_in things path)
entered_is by [] path = refl
entered_is by (t ∷ ts) path = picked named_of (bytes_eq t.0 path) t.1 (entered_at (names_of by ts) path) (thing_in ts path) (entered_is by ts path)

pub named_is : (by : ℕ) (things : Things) (path : List ℕ) → named_at (names_of by things) path ≡ option_map named_of (thing_at things path)
named_is by things path = picked named_of (is_root path) Thing.folder (entered_at (names_of by things) path) (thing_in things path) (entered_is by things path)

-- ---- what is told of the names

-- what a find gives
abbrev pub found : Option Thing → Result ℕ FindFault
found None = Err FindFaults.NoName
found (Some Thing.folder) = Err FindFaults.NotFile
found (Some (Thing.file blob content)) = Ok blob

found_cases : (o : Option Thing) → (let r : Result ℕ FindFault = elim (option_map named_of o) [ None ↦ Err FindFaults.NoName | Some named ↦ blob_named named ] in r) ≡ found o
found_cases None = refl
found_cases (Some Thing.folder) = refl
found_cases (Some (Thing.file blob content)) = refl

pub blob_is : (by : ℕ) (things : Things) (path : List ℕ) → blob_at (names_of by things) path ≡ found (thing_at things path)
blob_is by things path =
    ap (λ (o : Option Named). let r : Result ℕ FindFault = elim o [ None ↦ Err FindFaults.NoName | Some named ↦ blob_named named ] in r) (named_is by things path) ∙ found_cases (thing_at things path)

module _ (by : ℕ) (m : PathMap) where
  abbrev log : NameLog
  log = names_of by m.things

  -- why a path can't be entered
  taken : (o : Option Named) (p : Option Thing) (n k : ℕ) → o ≡ option_map named_of p → n ≡ k
      → (let r : Option EnterFault = elim o [ Some named ↦ Some EnterFaults.Exists | None ↦ if nat_le most_names n then Some EnterFaults.TooManyNames else None ] in r)
      ≡ (let r : Option EnterFault = elim p [ Some thing ↦ Some EnterFaults.Exists | None ↦ if nat_le most_names k then Some EnterFaults.TooManyNames else None ] in r)
  taken o None n k e same =
      ap (λ (o : Option Named). let r : Option EnterFault = elim o [ Some named ↦ Some EnterFaults.Exists | None ↦ if nat_le most_names n then Some EnterFaults.TooManyNames else None ] in r) e
      ∙ ap (λ (n : ℕ). if nat_le most_names n then Some EnterFaults.TooManyNames else None) same
  taken o (Some thing) n k e same =
      ap (λ (o : Option Named). let r : Option EnterFault = elim o [ Some named ↦ Some EnterFaults.Exists | None ↦ if nat_le most_names n then Some EnterFaults.TooManyNames else None ] in r) e

  below : (o : Option Thing) (path : List ℕ) → fault_under (option_map named_of o) log path ≡ fault_below o m path
  below None path = refl
  below (Some Thing.folder) path = taken (named_at log path) (thing_at m.things path) (length log) (length m.things) (named_is by m.things path) (length-map m.things (entered_of by))
  below (Some (Thing.file blob content)) path = refl

  pub fault_is : (path : List ℕ) → enter_fault log path ≡ new_fault m path
  fault_is path =
      ap (λ (o : Option EnterFault). if is_root path then Some EnterFaults.Exists else o)
      (ap (λ (o : Option Named). fault_under o log path) (named_is by m.things (parent_of path)) ∙ below (thing_at m.things (parent_of path)) path)

  -- how many entries a folder has
  counted : (things : Things) (folder : List ℕ) → entries_in (names_of by things) folder ≡ count_by (λ (t : List ℕ × Thing). bytes_eq (parent_of t.0) folder) things
  counted [] folder = refl
  counted (t ∷ ts) folder =
      sum_by-cons (λ (e : ℕ × Entered). cond (bytes_eq (parent_of e.1.path) folder) 1 0) (entered_of by t) (names_of by ts)
      ∙ ap (λ (n : ℕ). cond (bytes_eq (parent_of t.0) folder) 1 0 + n) (counted ts folder)
      ∙ sym (sum_by-cons (λ (t : List ℕ × Thing). cond (bytes_eq (parent_of t.0) folder) 1 0) t ts)

  -- what a look gives
  abbrev pub looked : List ℕ → Option Thing → Option Stat
  looked path None = None
  looked path (Some Thing.folder) = Some (Stats.Folder (entries_of m path))
  looked path (Some (Thing.file blob content)) = Some (Stats.File blob)

  looked_cases : (path : List ℕ) (o : Option Thing) → (let r : Option Stat = elim (option_map named_of o) [ None ↦ None | Some named ↦ Some (stat_of log path named) ] in r) ≡ looked path o
  looked_cases path None = refl
  looked_cases path (Some Thing.folder) = ap (λ (n : ℕ). Some (Stats.Folder n)) (counted m.things path)
  looked_cases path (Some (Thing.file blob content)) = refl

  pub stat_is : (path : List ℕ) → stat_at log path ≡ looked path (thing_at m.things path)
  stat_is path =
      ap (λ (o : Option Named). let r : Option Stat = elim o [ None ↦ None | Some named ↦ Some (stat_of log path named) ] in r) (named_is by m.things path) ∙ looked_cases path (thing_at m.things path)

  -- what is told of what is in a folder
  folder_is : (o : Option Thing) → option_map Tree.is_folder (option_map named_of o) ≡ option_map is_folder o
  folder_is None = refl
  folder_is (Some Thing.folder) = refl
  folder_is (Some (Thing.file blob content)) = refl

  are_in : (path : List ℕ) (listed : List Listed) → IsListing log path listed → AreIn m path listed
  are_in path listed l = record {
    in_order = l.in_order;
    names = l.names;
    exactly = λ name is. l.exactly name is ∙ ap (λ (o : Option Named). option_map Tree.is_folder o) (named_is by m.things (child_of path name)) ∙ folder_is (thing_at m.things (child_of path name));
  }

  ok_err : (listed : List Listed) (fault : ListFault) → Ok listed ≡ Err fault → ⊥
  ok_err listed fault e = cc

  not_both : (r : Result (List Listed) ListFault) → r ≡ Err ListFaults.NoName → r ≡ Err ListFaults.NotFolder → ⊥
  not_both r p q = cc

  listed_cases : (path : List ℕ) (o : Option Thing) (said : Result (List Listed) ListFault) → ListsNamed log path (option_map named_of o) said
      → ListSays m path o (list_reply path said) ⊎ (list_reply path said ≡ Says.Unsaid)
  listed_cases path o (Err ListFaults.NoMemory) h = inr refl
  listed_cases path None (Ok listed) h = absurd (ok_err listed ListFaults.NoName h)
  listed_cases path None (Err ListFaults.NoName) h = inl refl
  listed_cases path None (Err ListFaults.NotFolder) h = absurd (not_both (Err ListFaults.NotFolder) h refl)
  listed_cases path (Some Thing.folder) (Ok listed) h = inl (listed, refl, are_in path listed h)
  listed_cases path (Some Thing.folder) (Err ListFaults.NoName) h = absurd h
  listed_cases path (Some Thing.folder) (Err ListFaults.NotFolder) h = absurd h
  listed_cases path (Some (Thing.file blob content)) (Ok listed) h = absurd (ok_err listed ListFaults.NotFolder h)
  listed_cases path (Some (Thing.file blob content)) (Err ListFaults.NoName) h = absurd (not_both (Err ListFaults.NoName) refl h)
  listed_cases path (Some (Thing.file blob content)) (Err ListFaults.NotFolder) h = inl refl

  pub list_is : (path : List ℕ) (said : Result (List Listed) ListFault) → Tree.Lists log path said
      → ListSays m path (thing_at m.things path) (list_reply path said) ⊎ (list_reply path said ≡ Says.Unsaid)
  list_is path said h = listed_cases path (thing_at m.things path) said (subst (λ (o : Option Named). ListsNamed log path o said) (named_is by m.things path) h)

-- ---- a file with other updates

named_with : (thing : Thing) (b : Blob) → named_of (with_content thing b) ≡ named_of thing
named_with Thing.folder b = refl
named_with (Thing.file blob content) b = refl

put_first : (by : ℕ) (c : Bool) (t : List ℕ × Thing) (ts others : Things) (b : Blob) → names_of by others ≡ names_of by ts
    → names_of by (if c then (t.0, with_content t.1 b) ∷ ts else t ∷ others) ≡ entered_of by t ∷ names_of by ts
put_first by true t ts others b e = ap (λ (n : Named). let e : ℕ × Entered = (by, record { path = t.0; named = n }) in e ∷ names_of by ts) (named_with t.1 b)
put_first by false t ts others b e = ap (λ (l : NameLog). entered_of by t ∷ l) e

-- the names stay
pub put_names : (by : ℕ) (things : Things) (path : List ℕ) (b : Blob) → names_of by (put_in things path b) ≡ names_of by things
put_names by [] path b = refl
put_names by (t ∷ ts) path b = put_first by (bytes_eq t.0 path) t ts (put_in ts path b) b (put_names by ts path b)

-- files of the same blobs
abbrev pub Keeps : Things → Things → Type 0
Keeps old new = (path : List ℕ) (blob : ℕ) (content : Blob) → thing_at old path ≡ Some (Thing.file blob content) → (now : Blob) × (thing_at new path ≡ Some (Thing.file blob now))

abbrev KeepsIn : Things → Things → Type 0
KeepsIn old new = (path : List ℕ) (blob : ℕ) (content : Blob) → thing_in old path ≡ Some (Thing.file blob content) → (now : Blob) × (thing_in new path ≡ Some (Thing.file blob now))

folder_no_file : (blob : ℕ) (content : Blob) → Some Thing.folder ≡ Some (Thing.file blob content) → ⊥
folder_no_file blob content e = cc

under_root : (root : Bool) (o : Option Thing) (blob : ℕ) (content : Blob) → (if root then Some Thing.folder else o) ≡ Some (Thing.file blob content) → (root ≡ false) × (o ≡ Some (Thing.file blob content))
under_root true o blob content e = absurd (folder_no_file blob content e)
under_root false o blob content e = (refl, e)

pub in_things : (things : Things) (path : List ℕ) (blob : ℕ) (content : Blob) → thing_at things path ≡ Some (Thing.file blob content) → thing_in things path ≡ Some (Thing.file blob content)
in_things things path blob content e = (under_root (is_root path) (thing_in things path) blob content e).1

keeps_at : (old new : Things) → KeepsIn old new → Keeps old new
keeps_at old new keeps path blob content e =
    let u = under_root (is_root path) (thing_in old path) blob content e in
    let k = keeps path blob content u.1 in
    (k.0, ap (λ (b : Bool). if b then Some Thing.folder else thing_in new path) u.0 ∙ k.1)

with_same : (thing : Thing) (blob : ℕ) (content b : Blob) → Some thing ≡ Some (Thing.file blob content) → Some (with_content thing b) ≡ Some (Thing.file blob b)
with_same thing blob content b e = ap (λ (t : Thing). Some (with_content t b)) (same_Some thing (Thing.file blob content) e)

put_keeps : (things : Things) (path : List ℕ) (b : Blob) → KeepsIn things (put_in things path b)
put_keeps [] path b q blob content e = absurd (none-some (Thing.file blob content) e)
put_keeps (t ∷ ts) path b q blob content e =
    let n = first (put_keeps ts path b q blob content) (bytes_eq t.0 path) (bytes_eq t.0 q) e in
    (n.0, split (bytes_eq t.0 path) ∙ n.1)
  where
    first : (thing_in ts q ≡ Some (Thing.file blob content) → (now : Blob) × (thing_in (put_in ts path b) q ≡ Some (Thing.file blob now))) → (c d : Bool) → (if d then Some t.1 else thing_in ts q) ≡ Some (Thing.file blob content)
        → (now : Blob) × ((if c then (if d then Some (with_content t.1 b) else thing_in ts q) else (if d then Some t.1 else thing_in (put_in ts path b) q)) ≡ Some (Thing.file blob now))
    first later true true h = (b, with_same t.1 blob content b h)
    first later true false h = (content, h)
    first later false true h = (content, h)
    first later false false h = later h

    split : (c : Bool) → thing_in (if c then (t.0, with_content t.1 b) ∷ ts else t ∷ put_in ts path b) q
        ≡ (if c then (if bytes_eq t.0 q then Some (with_content t.1 b) else thing_in ts q) else (if bytes_eq t.0 q then Some t.1 else thing_in (put_in ts path b) q))
    split true = refl
    split false = refl

pub puts_keep : (things : Things) (path : List ℕ) (b : Blob) → Keeps things (put_in things path b)
puts_keep things path b = keeps_at things (put_in things path b) (put_keeps things path b)

-- ---- a thing more

push_keeps : (things more : Things) → KeepsIn things (things ++ more)
push_keeps [] more q blob content e = absurd (none-some (Thing.file blob content) e)
push_keeps (t ∷ ts) more q blob content e = first (push_keeps ts more q blob content) (bytes_eq t.0 q) e
  where
    first : (thing_in ts q ≡ Some (Thing.file blob content) → (now : Blob) × (thing_in (ts ++ more) q ≡ Some (Thing.file blob now))) → (d : Bool) → (if d then Some t.1 else thing_in ts q) ≡ Some (Thing.file blob content) → (now : Blob) × ((if d then Some t.1 else thing_in (ts ++ more) q) ≡ Some (Thing.file blob now))
    first later true h = (content, h)
    first later false h = later h

pub pushes_keep : (things more : Things) → Keeps things (things ++ more)
pushes_keep things more = keeps_at things (things ++ more) (push_keeps things more)

pub push_names : (by : ℕ) (things : Things) (path : List ℕ) (thing : Thing) → names_of by (things ++ (path, thing) ∷ []) ≡ names_of by things ++ entered_of by (path, thing) ∷ []
push_names by things path thing = map-append (entered_of by) things ((path, thing) ∷ [])
