-- How often the outside failed for a reply, after which the file session is this one.
use Rattle.std.specs.Prelude.{ℕ, List, Result, Ok, Err}
use Rattle.request_form.specs.Answers.{held_back_faults}
use Rattle.request_form.specs.Replies.{page_faults}
use Rattle.file_names.specs.Tree.{blob_at}
use Rattle.file_names.specs.declared.tree.FindFault.{FindFault}
use Rattle.file_names.specs.declared.form.FileLine.{FileLine}
use Rattle.file_names.specs.declared.form.FileLine.TheVariants as Lines
use Rattle.file_names.specs.declared.form.FileReply.{FileReply}
use Rattle.file_names.specs.declared.form.FileReply.TheVariants as Says
use Rattle.file_names.specs.declared.form.FileFault.TheVariants as FileFaults
use Rattle.file_names.specs.declared.form.FileHeard.{FileHeard}
use Rattle.file_names.specs.declared.form.FileHeard.TheVariants.{Asked, Wrong}
use Rattle.file_layer.specs.Files.{Files}

-- a lost page is one
abbrev pub file_fault_count : FileReply → ℕ
file_fault_count (Says.Refused (FileFaults.Store fault)) = page_faults fault
file_fault_count _ = 0

-- an append that is held back though the version before it doesn't wait is one
abbrev pub blob_faults : Files → ℕ → FileReply → ℕ
blob_faults f blob (Says.Started ticket version at size) = held_back_faults f.store blob version
blob_faults f blob reply = file_fault_count reply

abbrev pub found_faults : Files → Result ℕ FindFault → FileReply → ℕ
found_faults f (Ok blob) reply = blob_faults f blob reply
found_faults f (Err fault) reply = file_fault_count reply

abbrev pub append_faults : Files → List ℕ → FileReply → ℕ
append_faults f path reply = found_faults f (blob_at f.names path) reply

abbrev pub line_faults : Files → FileLine → FileReply → ℕ
line_faults f (Lines.Append path bytes) reply = append_faults f path reply
line_faults f line reply = file_fault_count reply

abbrev pub file_item_faults : Files → FileHeard → FileReply → ℕ
file_item_faults f (Asked line) reply = line_faults f line reply
file_item_faults f (Wrong fault) reply = page_faults fault
