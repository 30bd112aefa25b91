-- The tree of names, as the meaning of a history: which paths were entered, and what each of them names.
use Rattle.std.specs.Prelude.{◌≡◌, ℕ, nat_le, Bool, true, false, if◌then◌else◌, List, [], ◌∷◌, ◌++◌, length, map, Option, Some, None, Result, Ok, Err}
use Rattle.std.specs.List.{count_by, All}
use Rattle.std.specs.Option.{option_map}
use Rattle.std.specs.List.Sorted.{IsStrictlySortedBy}
use Rattle.std.specs.Ordering.{nat_cmp}
use Rattle.std.specs.Cmp.Lexicographic.{slice_cmp}
use Rattle.std.specs.Str.{bytes_eq}
use Rattle.turn_lock.specs.History.{Log}
use Rattle.file_names.specs.Paths.{is_name, is_path, is_root, parent_of, child_of}
use Rattle.file_names.specs.declared.tree.Named.{Named}
use Rattle.file_names.specs.declared.tree.Named.TheVariants.{Folder, File}
use Rattle.file_names.specs.declared.tree.Stat.{Stat}
use Rattle.file_names.specs.declared.tree.Stat.TheVariants as Stats
use Rattle.file_names.specs.declared.tree.Entered.{Entered}
use Rattle.file_names.specs.declared.tree.Listed.{Listed}
use Rattle.file_names.specs.declared.tree.EnterFault.{EnterFault}
use Rattle.file_names.specs.declared.tree.EnterFault.TheVariants as EnterFaults
use Rattle.file_names.specs.declared.tree.FindFault.{FindFault}
use Rattle.file_names.specs.declared.tree.FindFault.TheVariants as FindFaults
use Rattle.file_names.specs.declared.tree.ListFault.{ListFault}
use Rattle.file_names.specs.declared.tree.ListFault.TheVariants as ListFaults

-- what was entered, oldest first, each with its caller
abbrev pub NameLog : Type 0
NameLog = Log Entered

-- the most paths beside `/`
abbrev pub most_names : ℕ
most_names = 65535

-- what the path was entered as
abbrev pub entered_at : NameLog → List ℕ → Option Named
entered_at [] path = None
entered_at (e ∷ es) path = if bytes_eq e.1.path path then Some e.1.named else entered_at es path

-- what the path names, if it is there: `/` is a folder from the first
abbrev pub named_at : NameLog → List ℕ → Option Named
named_at log path = if is_root path then Some Folder else entered_at log path

-- ---- entering

-- why a path can't be entered, its parent being this
abbrev pub fault_under : Option Named → NameLog → List ℕ → Option EnterFault
fault_under None log path = Some EnterFaults.NoParent
fault_under (Some (File blob)) log path = Some EnterFaults.ParentNotFolder
fault_under (Some Folder) log path =
    elim (named_at log path) [
      | Some named ↦ Some EnterFaults.Exists
      | None ↦ if nat_le most_names (length log) then Some EnterFaults.TooManyNames else None
    ]

-- why a path can't be entered, if it can't
abbrev pub enter_fault : NameLog → List ℕ → Option EnterFault
enter_fault log path = if is_root path then Some EnterFaults.Exists else fault_under (named_at log (parent_of path)) log path

-- behind the first entries, each further one is a path that can be entered then
abbrev pub IsLegalBehind : NameLog → NameLog → Type 0
IsLegalBehind before [] = Unit {0}
IsLegalBehind before (e ∷ es) = (is_path e.1.path ≡ true) × (enter_fault before e.1.path ≡ None) × IsLegalBehind (before ++ e ∷ []) es

-- each entry is a path that can be entered behind those before it
abbrev pub IsLegal : NameLog → Type 0
IsLegal log = IsLegalBehind [] log

-- ---- looking

abbrev pub blob_named : Named → Result ℕ FindFault
blob_named Folder = Err FindFaults.NotFile
blob_named (File blob) = Ok blob

-- the blob of a file
abbrev pub blob_at : NameLog → List ℕ → Result ℕ FindFault
blob_at log path = elim (named_at log path) [ None ↦ Err FindFaults.NoName | Some named ↦ blob_named named ]

abbrev pub is_folder : Named → Bool
is_folder Folder = true
is_folder (File blob) = false

-- how many paths have that folder as their parent
abbrev pub entries_in : NameLog → List ℕ → ℕ
entries_in log folder = count_by (λ (e : ℕ × Entered). bytes_eq (parent_of e.1.path) folder) log

abbrev pub stat_of : NameLog → List ℕ → Named → Stat
stat_of log path Folder = Stats.Folder (entries_in log path)
stat_of log path (File blob) = Stats.File blob

-- what a path names, a folder with the number of its entries
abbrev pub stat_at : NameLog → List ℕ → Option Stat
stat_at log path = elim (named_at log path) [ None ↦ None | Some named ↦ Some (stat_of log path named) ]

-- whether a list has the name, and whether as a folder
abbrev pub listed_as : List Listed → List ℕ → Option Bool
listed_as [] name = None
listed_as (l ∷ ls) name = if bytes_eq name l.name then Some l.folder else listed_as ls name

-- names in the order of their bytes, each once, and exactly those that are there with the folder before them
pub record IsListing (log : NameLog) (folder : List ℕ) (listed : List Listed) : Type 0 where
  pub in_order : IsStrictlySortedBy (slice_cmp nat_cmp) (map (λ (l : Listed). l.name) listed)
  pub names : All (λ (l : Listed). is_name l.name ≡ true) listed
  pub exactly : (name : List ℕ) → is_name name ≡ true → listed_as listed name ≡ option_map is_folder (named_at log (child_of folder name))

abbrev pub ListsNamed : NameLog → List ℕ → Option Named → Result (List Listed) ListFault → Type 0
ListsNamed log path named (Err ListFaults.NoMemory) = Unit {0}
ListsNamed log path None said = said ≡ Err ListFaults.NoName
ListsNamed log path (Some (File blob)) said = said ≡ Err ListFaults.NotFolder
ListsNamed log path (Some Folder) (Ok listed) = IsListing log path listed
ListsNamed log path (Some Folder) (Err ListFaults.NoName) = ⊥
ListsNamed log path (Some Folder) (Err ListFaults.NotFolder) = ⊥

-- what is said of what is in a folder
abbrev pub Lists : NameLog → List ℕ → Result (List Listed) ListFault → Type 0
Lists log path said = ListsNamed log path (named_at log path) said

-- what became of a path that was to be entered
abbrev pub Enters : NameLog → ℕ → List ℕ → Named → Result (Unit {0}) EnterFault → NameLog → Type 0
Enters before by path named (Ok done) after = (enter_fault before path ≡ None) × (after ≡ before ++ (by, record { path = path; named = named }) ∷ [])
Enters before by path named (Err EnterFaults.NoMemory) after = after ≡ before
Enters before by path named (Err fault) after = (enter_fault before path ≡ Some fault) × (after ≡ before)
