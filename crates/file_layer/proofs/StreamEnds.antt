-- A stream of lines that was served in a dialect that was fed nothing, and one that wasn't served.
use Rattle.std.proofs.Common.{◌≡◌, ℕ, List, [], ◌++◌, length, refl, sym, subst, ◌∙◌}
use Rattle.std.specs.Prelude.{◌≢◌, Option}
use Rattle.std.proofs.lemmas.Bool.{false≢true}
use Rattle.items.specs.Rounds.{until_last}
use Rattle.request_form.specs.Laws.{OwnIsAlone}
use Rattle.request_form.specs.Transcript.{until_quit}
use Rattle.request_form.proofs.Runs.{Run-alone, alone_faults}
use Rattle.request_form.proofs.Own.{answer_makes}
use Rattle.server_core.specs.Conversed.{Input, Conversed, Ended}
use Rattle.server_core.specs.Conversing.{AnswersFront}
use Rattle.server_core.specs.declared.flow.End.{End}
use Rattle.server_core.specs.declared.flow.End.TheVariants as Ends
use Rattle.server_core.proofs.Conversed.{Conversed-none}
use Rattle.server_core.proofs.Exact.{exactly}
use Rattle.file_names.specs.Lines.{heard, AllWellHeard}
use Rattle.file_names.specs.declared.form.FileHeard.{FileHeard}
use Rattle.file_names.proofs.Hearing.{files_not_cut, files_well, whole_files_well, until_well, front_well}
use Rattle.file_layer.specs.Served.{FilePoint, file_talk, is_last, ServedFiles}
use Rattle.file_layer.proofs.Alone.{rounds_alone}
use Rattle.file_layer.proofs.Entries.{rounds_enter}
use Rattle.file_layer.proofs.Mapped.{answered_by_map}

-- the items that were answered are lines, or malformed
all_of : (due items : List FileHeard) → items ≡ until_last is_last due → AllWellHeard due → AllWellHeard items
all_of due items is well = subst AllWellHeard (sym is) (until_well is_last due well)

first_of : (due items : List FileHeard) → AnswersFront is_last due items → AllWellHeard due → AllWellHeard items
first_of due items front well = front_well items front.0 (subst AllWellHeard front.1 (until_well is_last due well))

items_well : (taken : List ℕ) (limit : ℕ) (items : List FileHeard) (rest : List ℕ) (left : Option (List ℕ)) (end : End) → Ended is_last (heard taken) (length taken) limit items rest left end → AllWellHeard items
items_well taken limit items rest left Ends.Quit e = all_of (heard taken).items items e.0.0 (files_well taken)
items_well taken limit items rest left Ends.InputEnd e = all_of (heard taken).items items e.0.0 (files_well taken)
items_well taken limit items rest left Ends.Cut e = all_of (heard taken).whole items e.0.0 (whole_files_well taken)
items_well taken limit items rest left Ends.ReadFault e = all_of (heard taken).whole items e.0.0 (whole_files_well taken)
items_well taken limit items rest left Ends.InputTooLong e = all_of (heard taken).whole items e.0.0 (whole_files_well taken)
items_well taken limit items rest left Ends.WriteFault e = first_of (heard taken).items items e.0 (files_well taken)
items_well taken limit items rest left Ends.NoMemory e = first_of (heard taken).items items e (files_well taken)

-- a stream of lines never ends inside one
not_cut : (taken : List ℕ) (limit : ℕ) (items : List FileHeard) (rest : List ℕ) (left : Option (List ℕ)) (end : End) → Ended is_last (heard taken) (length taken) limit items rest left end → end ≢ Ends.Cut
not_cut taken limit items rest left Ends.Quit e = λ is. cc
not_cut taken limit items rest left Ends.InputEnd e = λ is. cc
not_cut taken limit items rest left Ends.Cut e = λ is. false≢true (sym (files_not_cut taken) ∙ e.2)
not_cut taken limit items rest left Ends.ReadFault e = λ is. cc
not_cut taken limit items rest left Ends.InputTooLong e = λ is. cc
not_cut taken limit items rest left Ends.WriteFault e = λ is. cc
not_cut taken limit items rest left Ends.NoMemory e = λ is. cc

own_is_alone : OwnIsAlone
own_is_alone s heard replies s' own run = (Run-alone s (until_quit heard) replies s' own run, alone_faults s (until_quit heard) replies s' own run)

module _ (old : FilePoint) (before after : Input) (limit : ℕ) (new : FilePoint) (end : End) where
  served : Conversed file_talk old heard before after limit new end → ServedFiles old before after limit new end
  served c = record {
    conversed = c;
    exactly = exactly is_last (heard c.taken) (length c.taken) limit c.items c.rest after.left before.ends after.ends end c.ended c.closing;
    uncut = not_cut c.taken limit c.items c.rest after.left end c.ended;
    enters = rounds_enter old.session c.items c.progress.replies new.session c.progress.run;
    alone = λ first own.
        answered_by_map old.session c.items c.progress.replies new.session first (items_well c.taken limit c.items c.rest after.left end c.ended)
        (rounds_alone own_is_alone answer_makes old.session c.items c.progress.replies new.session own c.progress.run);
  }

  pub served_from : (fed : List ℕ) → fed ≡ [] → Conversed file_talk old (λ more. heard (fed ++ more)) before after limit new end → ServedFiles old before after limit new end
  served_from fed none c = served (subst (λ (l : List ℕ). Conversed file_talk old (λ more. heard (l ++ more)) before after limit new end) none c)

pub unserved : (old : FilePoint) (before : Input) (limit : ℕ) → ServedFiles old before before limit old Ends.NoMemory
unserved old before limit = served old before before limit old Ends.NoMemory (Conversed-none file_talk old heard before limit refl)
