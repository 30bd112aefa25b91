-- How replies are written.
use Rattle.std.specs.Prelude.{ℕ, Bool, true, false, if◌then◌else◌, List, [], ◌∷◌, ◌++◌, flat_map, codes}
use Rattle.std.specs.Fmt.{decimal}
use Rattle.file_names.specs.declared.tree.Listed.{Listed}
use Rattle.script_text.specs.Said as Script
use Rattle.file_names.specs.declared.form.PageHolders.{PageHolders}
use Rattle.file_names.specs.declared.form.FileFault.{FileFault}
use Rattle.file_names.specs.declared.form.FileFault.TheVariants as Faults
use Rattle.file_names.specs.declared.form.FileReply.{FileReply}
use Rattle.file_names.specs.declared.form.FileReply.TheVariants as Replies

-- a fault's line, without its end: those of the store are written as in a script
abbrev pub fault_text : FileFault → List ℕ
fault_text (Faults.NoName path) = codes "error no-name " ++ path
fault_text (Faults.Exists path) = codes "error exists " ++ path
fault_text (Faults.NotFolder path) = codes "error not-folder " ++ path
fault_text (Faults.NotFile path) = codes "error not-file " ++ path
fault_text Faults.TooManyNames = codes "error too-many-names 65535"
fault_text (Faults.Store fault) = Script.fault_text fault

-- an entry of a folder, and a folder with `/`
abbrev pub entry_text : Listed → List ℕ
entry_text entry = codes " " ++ entry.name ++ (if entry.folder then codes "/" else [])

-- a number, and before it a comma if it isn't the first
abbrev pub number_text : Bool → ℕ → List ℕ
number_text first n = (if first then [] else codes ",") ++ decimal n

abbrev pub numbers_behind : Bool → List ℕ → List ℕ
numbers_behind first [] = []
numbers_behind first (n ∷ ns) = number_text first n ++ numbers_behind false ns

-- numbers with commas between
abbrev pub numbers_text : List ℕ → List ℕ
numbers_text ns = numbers_behind true ns

-- a page, and the providers of its replicas
abbrev pub page_text : PageHolders → List ℕ
page_text held = codes " " ++ decimal held.page ++ codes ":" ++ numbers_text held.providers

abbrev pub pages_text : List PageHolders → List ℕ
pages_text [] = codes " -"
pages_text (held ∷ more) = flat_map page_text (held ∷ more)

-- what is never said: no bytes spell it
abbrev pub no_text : List ℕ
no_text = 256 ∷ []

-- a reply's line, without its end
abbrev pub reply_text : FileReply → List ℕ
reply_text (Replies.Folder path) = codes "folder " ++ path
reply_text (Replies.File path blob) = codes "file " ++ path ++ codes " blob " ++ decimal blob
reply_text (Replies.Appended version at size) = Script.update_text version at size
reply_text (Replies.Started ticket version at size) = Script.started_text ticket version at size
reply_text (Replies.Content bytes) = codes "data " ++ Script.hex_text bytes
reply_text (Replies.FileIs blob version size) = codes "file blob " ++ decimal blob ++ codes " version " ++ decimal version ++ codes " size " ++ decimal size
reply_text (Replies.FolderIs entries) = codes "folder " ++ decimal entries
reply_text (Replies.Listed entries) = codes "list" ++ flat_map entry_text entries
reply_text (Replies.HeldBy pages) = codes "where" ++ pages_text pages
reply_text (Replies.Finished published) = codes "published " ++ decimal published
reply_text (Replies.Refused fault) = fault_text fault
reply_text Replies.Bye = codes "bye"
reply_text Replies.Unsaid = no_text

-- how a reply is written: its line, ended by a line feed
abbrev pub said : FileReply → List ℕ
said reply = reply_text reply ++ 10 ∷ []
