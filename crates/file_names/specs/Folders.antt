-- How names are kept: the entries of each folder in a map of their own.
use Rattle.std.specs.Prelude.{◌≡◌, ◌≤◌, ◌+◌, ◌&&◌, ℕ, true, cond, if◌then◌else◌, List, length, Option, Some, None, IsSome, is_some}
use Rattle.std.specs.Ordering.{nat_cmp}
use Rattle.std.specs.Cmp.Lexicographic.{slice_cmp}
use Rattle.std.specs.Str.{bytes_eq}
use Rattle.std.specs.BTreeMap.{BTreeMap, get_by, btree_map_len, IsOrdered}
use Rattle.std.specs.declared.vec.Vec.{Vec}
use Rattle.std.specs.declared.alloc.Global.{Global}
use Rattle.file_names.specs.Paths.{is_path, is_name, is_root, parent_of, name_of, child_of}
use Rattle.file_names.specs.Tree.{NameLog, IsLegal, named_at, entered_at, entries_in, is_folder, most_names}
use Rattle.file_names.specs.declared.tree.Named.{Named}
use Rattle.file_names.specs.declared.tree.Named.TheVariants.{Folder}
use Rattle.file_names.specs.declared.tree.Listed.{Listed}

-- what is right in a folder, by name
abbrev pub Entries : Type 0
Entries = BTreeMap (Vec ℕ Global) Named

-- the entries of each folder, by path
abbrev pub Folders : Type 0
Folders = BTreeMap (Vec ℕ Global) Entries

-- what stands in a map at these bytes
abbrev pub at_bytes : {X : Type 0} → BTreeMap (Vec ℕ Global) X → List ℕ → Option X
at_bytes m bytes = get_by (λ k. slice_cmp nat_cmp bytes k.items) m

abbrev pub entries_at : Folders → List ℕ → Option Entries
entries_at folders folder = at_bytes folders folder

abbrev pub entry_in : Option Entries → List ℕ → Option Named
entry_in None name = None
entry_in (Some entries) name = at_bytes entries name

abbrev pub count_of : Option Entries → ℕ
count_of None = 0
count_of (Some entries) = btree_map_len entries

-- what a name in a folder is
abbrev pub kept_at : Folders → List ℕ → List ℕ → Option Named
kept_at folders folder name = entry_in (entries_at folders folder) name

-- how many entries a folder has
abbrev pub count_at : Folders → List ℕ → ℕ
count_at folders folder = count_of (entries_at folders folder)

-- what a path names
abbrev pub named_in : Folders → List ℕ → Option Named
named_in folders path = if is_root path then Some Folder else kept_at folders (parent_of path) (name_of path)

abbrev pub listed_of : List ℕ × Named → Listed
listed_of e = record { name = e.0; folder = is_folder e.1 }

-- each folder has the entries that it had
pub record Keeps (old new : Folders) : Type 0 where
  pub kept : (folder name : List ℕ) → kept_at new folder name ≡ kept_at old folder name
  pub counts : (folder : List ℕ) → count_at new folder ≡ count_at old folder
  pub others : (folder : List ℕ) → IsSome (entries_at old folder) → IsSome (entries_at new folder)

-- the names of a map in the order of their bytes
abbrev pub IsInOrder : Entries → Type 0
IsInOrder entries = IsOrdered (λ (x y : Vec ℕ Global). slice_cmp nat_cmp x.items y.items) entries

-- a folder has a map for its entries, and each folder has those that it had
pub record IsOpened (old : Folders) (path : List ℕ) (new : Folders) : Type 0 where
  pub opened : IsSome (entries_at new path)
  pub keeps : Keeps old new

-- a value was put into a map at these bytes
pub record HasPut {X : Type 0} (old : BTreeMap (Vec ℕ Global) X) (bytes : List ℕ) (value : X) (new : BTreeMap (Vec ℕ Global) X) : Type 0 where
  pub kept : (other : List ℕ) → at_bytes new other ≡ cond (bytes_eq bytes other) (Some value) (at_bytes old other)
  pub count : btree_map_len new ≡ btree_map_len old + (if is_some (at_bytes old bytes) then 0 else 1)

-- an entry was put into a folder, and all others are as they were
pub record IsPut (old : Folders) (path name : List ℕ) (named : Named) (new : Folders) : Type 0 where
  pub kept : (folder other : List ℕ) → kept_at new folder other ≡ (if bytes_eq path folder && bytes_eq name other then Some named else kept_at old folder other)
  pub counts : (folder : List ℕ) → count_at new folder ≡ count_at old folder + (if bytes_eq path folder then (if is_some (kept_at old path name) then 0 else 1) else 0)
  pub others : (folder : List ℕ) → IsSome (entries_at old folder) → IsSome (entries_at new folder)

-- a path was put into its parent, with a map for its entries where it is a folder
pub record HasPath (old : Folders) (path : List ℕ) (named : Named) (new : Folders) : Type 0 where
  pub between : Folders
  pub keeps : Keeps old between
  pub opened : named ≡ Folder → IsSome (entries_at between path)
  pub put : IsPut between (parent_of path) (name_of path) named new

-- these folders are those of a history
pub record AreOf (log : NameLog) (folders : Folders) : Type 0 where
  pub legal : IsLegal log
  pub few : length log ≤ most_names
  pub kept : (folder name : List ℕ) → is_path folder ≡ true → is_name name ≡ true → kept_at folders folder name ≡ entered_at log (child_of folder name)
  pub names : (folder name : List ℕ) → IsSome (kept_at folders folder name) → is_name name ≡ true
  pub counts : (folder : List ℕ) → is_path folder ≡ true → count_at folders folder ≡ entries_in log folder
  pub opened : (folder : List ℕ) → is_path folder ≡ true → named_at log folder ≡ Some Folder → IsSome (entries_at folders folder)
