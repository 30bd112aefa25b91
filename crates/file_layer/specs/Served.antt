-- How a stream of lines about files was served.
use Rattle.std.specs.Prelude.{◌≢◌, ℕ, Bool, true, false, length, Option}
use Rattle.atomic_table.specs.Seated.{TableId}
use Rattle.server_core.specs.Talk.{Talk, PointOf}
use Rattle.server_core.specs.Conversed.{Input, Conversed, EndsExactly}
use Rattle.server_core.specs.declared.flow.End.{End}
use Rattle.server_core.specs.declared.flow.End.TheVariants as Ends
use Rattle.client_session.specs.Sessions.{StoreState}
use Rattle.file_names.specs.Lines.{heard, IsWellHeard}
use Rattle.file_names.specs.Said.{said}
use Rattle.file_names.specs.declared.form.FileLine.{FileLine}
use Rattle.file_names.specs.declared.form.FileLine.TheVariants as Lines
use Rattle.file_names.specs.declared.form.FileReply.{FileReply}
use Rattle.file_names.specs.declared.form.FileHeard.{FileHeard}
use Rattle.file_names.specs.declared.form.FileHeard.TheVariants.{Asked, Wrong}
use Rattle.file_layer.specs.Files.{Files, among_others, FileItemReply}
use Rattle.file_layer.specs.Faults.{file_item_faults}
use Rattle.file_layer.specs.Laws.{SeesOwn, IsFirst, AnsweredByMap, Enters, all_made}
use Rattle.file_layer.specs.Sessions.{FileState}

abbrev pub is_quit : FileLine → Bool
is_quit (Lines.Mkdir path) = false
is_quit (Lines.Make path) = false
is_quit (Lines.Append path bytes) = false
is_quit (Lines.Read path version offset count) = false
is_quit (Lines.Stat path) = false
is_quit (Lines.List path) = false
is_quit (Lines.Where path version offset count) = false
is_quit (Lines.Finish ticket) = false
is_quit Lines.Quit = true

-- whether the item is the last that has a reply
abbrev pub is_last : FileHeard → Bool
is_last (Asked line) = is_quit line
is_last (Wrong fault) = false

-- lines of a file session, with what others do meanwhile
abbrev pub file_talk : Talk FileHeard
file_talk = record {
  Reply = FileReply;
  Session = Files;
  Answers = FileItemReply among_others;
  is_last = is_last;
  fault_count = file_item_faults;
  said = said;
  IsWell = IsWellHeard;
}

abbrev pub FilePoint : Type 0
FilePoint = PointOf Files

-- What a stream of lines was answered: the bytes that were taken, the items in them that were answered, one reply each by the
-- definition, what of their replies wasn't written, and what the end says of them. Each end but Cut, which never comes, comes
-- exactly in its case. Of the names the session entered what its replies tell. And where it had seen nothing before, and nothing
-- but its own then, the replies are those of a map from paths to folders and lists of updates.
pub record ServedFiles (old : FilePoint) (before after : Input) (limit : ℕ) (new : FilePoint) (end : End) : Type 0 where
  pub conversed : Conversed file_talk old heard before after limit new end
  pub exactly : EndsExactly is_last (heard conversed.taken) (length conversed.taken) limit conversed.items conversed.rest before.ends after.ends end
  pub uncut : end ≢ Ends.Cut
  pub enters : Enters old.session (all_made conversed.items conversed.progress.replies) new.session
  pub alone : IsFirst old.session → SeesOwn new.session → AnsweredByMap old.session conversed.items conversed.progress.replies

-- what no line changes: the store and the names, and who asks them
pub record FileKept : Type 0 where
  pub store : StoreState
  pub caller : ℕ
  pub lock : TableId
  pub by : ℕ
  pub fixed : Option (Unit {0})

abbrev pub kept_of : {D : Type 0} → FileState D → FileKept
kept_of s = record { store = s.session.store; caller = s.session.caller; lock = s.names.lock; by = s.names.caller; fixed = s.names.fixed }
