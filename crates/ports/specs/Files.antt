-- What a read of a file answers, by what is known of the file.
use Rattle.std.specs.Prelude.{◌≡◌, ℕ, ◌<◌, ◌≤◌, List, length, Option, None, Some, ⊤}
use Rattle.ports.specs.declared.files.FileText.{FileText}
use Rattle.ports.specs.declared.files.FileText.TheVariants as Texts

-- of files by their names: whether there is one of that name, and then its bytes, where that is known
abbrev pub Files : Type 0
Files = List ℕ → Option (Option (List ℕ))

-- the faults that a read tells of
abbrev pub file_faults : FileText → ℕ
file_faults (Texts.Text bytes) = 0
file_faults Texts.TooLong = 0
file_faults Texts.Failed = 1
file_faults Texts.NoMemory = 0

-- no text is longer than the limit
abbrev pub IsWithinLimit : ℕ → FileText → Type 0
IsWithinLimit limit (Texts.Text bytes) = length bytes ≤ limit
IsWithinLimit limit Texts.TooLong = ⊤
IsWithinLimit limit Texts.Failed = ⊤
IsWithinLimit limit Texts.NoMemory = ⊤

-- the text is the whole file, and the file is too long where it has more bytes than the limit
abbrev pub ReadsBytes : List ℕ → ℕ → FileText → Type 0
ReadsBytes file limit (Texts.Text bytes) = bytes ≡ file
ReadsBytes file limit Texts.TooLong = limit < length file
ReadsBytes file limit Texts.Failed = ⊤
ReadsBytes file limit Texts.NoMemory = length file ≤ limit

-- a name without a file is a fault
abbrev pub ReadsNone : FileText → Type 0
ReadsNone (Texts.Text bytes) = ⊥
ReadsNone Texts.TooLong = ⊥
ReadsNone Texts.Failed = ⊤
ReadsNone Texts.NoMemory = ⊥

abbrev pub Reads : Option (Option (List ℕ)) → ℕ → FileText → Type 0
Reads None limit text = ⊤
Reads (Some None) limit text = ReadsNone text
Reads (Some (Some file)) limit text = ReadsBytes file limit text

-- what a reader of these bytes gives of them: all, or that they are too many
abbrev pub ReadsStart : List ℕ → ℕ → FileText → Type 0
ReadsStart file limit (Texts.Text bytes) = bytes ≡ file
ReadsStart file limit Texts.TooLong = limit < length file
ReadsStart file limit Texts.Failed = ⊤
ReadsStart file limit Texts.NoMemory = ⊤
