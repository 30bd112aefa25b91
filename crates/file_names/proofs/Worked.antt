-- Paths and small trees, by computation.
use Rattle.std.specs.Prelude.{◌≡◌, true, false, [], ◌∷◌, Some, None, Ok, Err, codes}
use Rattle.std.proofs.Common.{refl}
use Rattle.file_names.specs.Paths.{is_path, parent_of, name_of, child_of}
use Rattle.file_names.specs.Tree.{NameLog, named_at, enter_fault, blob_at, stat_at}
use Rattle.file_names.specs.declared.tree.Named.TheVariants.{Folder, File}
use Rattle.file_names.specs.declared.tree.Stat.TheVariants as Stats
use Rattle.file_names.specs.declared.tree.EnterFault.TheVariants as EnterFaults
use Rattle.file_names.specs.declared.tree.FindFault.TheVariants as FindFaults

root_is_path : is_path (codes "/") ≡ true
root_is_path = refl

two_names : is_path (codes "/logs/run-7") ≡ true
two_names = refl

three_dots : is_path (codes "/...") ≡ true
three_dots = refl

nothing : is_path [] ≡ false
nothing = refl

no_slash : is_path (codes "a/b") ≡ false
no_slash = refl

slash_behind : is_path (codes "/a/") ≡ false
slash_behind = refl

two_slashes : is_path (codes "//a") ≡ false
two_slashes = refl

two_dots : is_path (codes "/a/..") ≡ false
two_dots = refl

space_within : is_path (codes "/a b") ≡ false
space_within = refl

parent_of_two : parent_of (codes "/a/b") ≡ codes "/a"
parent_of_two = refl

parent_of_one : parent_of (codes "/a") ≡ codes "/"
parent_of_one = refl

last_name : name_of (codes "/a/bc") ≡ codes "bc"
last_name = refl

child_of_root : child_of (codes "/") (codes "a") ≡ codes "/a"
child_of_root = refl

child_of_folder : child_of (codes "/a") (codes "b") ≡ codes "/a/b"
child_of_folder = refl

-- a folder of the first caller, and in it a file of the second
abbrev two : NameLog
two = (1, record { path = codes "/d"; named = Folder }) ∷ (2, record { path = codes "/d/b"; named = File 2 }) ∷ []

file_named : named_at two (codes "/d/b") ≡ Some (File 2)
file_named = refl

root_named : named_at [] (codes "/") ≡ Some Folder
root_named = refl

not_named : named_at two (codes "/b") ≡ None
not_named = refl

free : enter_fault two (codes "/d/c") ≡ None
free = refl

exists : enter_fault two (codes "/d/b") ≡ Some EnterFaults.Exists
exists = refl

root_exists : enter_fault two (codes "/") ≡ Some EnterFaults.Exists
root_exists = refl

no_parent : enter_fault two (codes "/x/y") ≡ Some EnterFaults.NoParent
no_parent = refl

parent_is_file : enter_fault two (codes "/d/b/c") ≡ Some EnterFaults.ParentNotFolder
parent_is_file = refl

blob_of_file : blob_at two (codes "/d/b") ≡ Ok 2
blob_of_file = refl

blob_of_folder : blob_at two (codes "/d") ≡ Err FindFaults.NotFile
blob_of_folder = refl

one_in_folder : stat_at two (codes "/d") ≡ Some (Stats.Folder 1)
one_in_folder = refl

one_in_root : stat_at two (codes "/") ≡ Some (Stats.Folder 1)
one_in_root = refl
