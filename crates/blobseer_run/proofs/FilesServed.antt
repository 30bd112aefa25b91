-- What a file session wrote, from what its stream says, and how it ended then.
use Rattle.std.proofs.Common.{◌≡◌, ◌∙◌, ℕ, ◌+◌, ◌-◌, ◌^◌, ◌<◌, ◌≤◌, min, true, false, List, [], ◌++◌, length, flat_map, refl, sym, ap, subst, inl, inr, arith, append_assoc, append-nil, length-append}
use Rattle.std.specs.Prelude.{◌⊎◌}
use Rattle.std.proofs.lemmas.Bool.{false≢true}
use Rattle.std.proofs.lemmas.Grind.{flat_map-append}
use Rattle.faults.specs.Counts.{RoseBy}
use Rattle.items.specs.Rounds.{until_last, has_last, Rounds, sum_rounds}
use Rattle.version_manager.specs.Log.{IsHistory}
use Rattle.version_manager.proofs.Orders.{none_in_order}
use Rattle.request_form.specs.Session.{Fixed, AllOwn}
use Rattle.request_form.specs.Laws.{OwnIsAlone, OwnEventsAreMade}
use Rattle.server_core.specs.declared.flow.End.{End}
use Rattle.server_core.specs.declared.flow.End.TheVariants as Ends
use Rattle.server_core.specs.Conversing.{AnswersFront}
use Rattle.server_core.specs.Conversed as Served
use Rattle.server_core.specs.Conversed.{CameToEnd, end_read_faults, end_write_faults}
use Rattle.file_names.specs.Tree as Names
use Rattle.file_names.specs.Lines.{heard, AllWellHeard}
use Rattle.file_names.proofs.Hearing.{files_not_cut, files_well, whole_files_well, until_well, later_well}
use Rattle.file_names.specs.Said.{said}
use Rattle.file_names.specs.declared.form.FileHeard.{FileHeard}
use Rattle.file_names.specs.declared.form.FileReply.{FileReply}
use Rattle.file_layer.specs.Files.{Files, nobody, FileItemReply}
use Rattle.file_layer.specs.Faults.{file_item_faults}
use Rattle.file_layer.specs.Laws.{AllBy, SeesOwn}
use Rattle.file_layer.specs.Served.{file_talk, is_last}
use Rattle.file_layer.proofs.Alone.{rounds_alone, alone_count}
use Rattle.file_layer.proofs.Mapped.{answered_by_map}
use Rattle.blobseer_run.specs.declared.status.Status.{Status}
use Rattle.blobseer_run.specs.declared.status.Status.TheVariants as Statuses
use Rattle.blobseer_run.specs.Outside.{Outside}
use Rattle.blobseer_run.specs.Conversation.{input_limit, status_after, Dialogue, IsDue, Ended}
use Rattle.blobseer_run.specs.Filing.{first_files, Says, lines, DidFiles, ServedByOne}
use Rattle.blobseer_run.specs.Status.{code_of}
use Rattle.blobseer_run.proofs.Conversations.{input_of, conversed_with, conversed_none}
use Rattle.blobseer_run.proofs.FilesAnswered.{Answered, idle_rounds, joined}
use Rattle.blobseer_run.proofs.Runs.{GaveBack, rose_within, rose_none}

some_more : (rest more : List ℕ) → 0 < length rest → 0 < length (rest ++ more)
some_more rest more some = omega (arith, some, length-append rest more)

module _ (law : OwnIsAlone) (made : OwnEventsAreMade) (fixed : Fixed) (providers : ℕ) (calm : Type 0) (old new : Outside) (faults faults' : ℕ) (gave : GaveBack calm faults faults' old.doors new.doors) where
  abbrev first : Files
  first = first_files fixed providers

  module _ (end : End) (s : ServedByOne fixed providers (input_of old) (input_of new) faults faults' old.written new.written end) where
    abbrev served : Served.Conversed file_talk (record { session = first; faults = faults; written = old.written }) heard (input_of old) (input_of new) input_limit (record { session = s.named.lines.last; faults = faults'; written = new.written }) end
    served = s.named.lines.served.conversed

    abbrev taken : List ℕ
    taken = served.taken

    abbrev text : List ℕ
    text = served.progress.out

    abbrev items : List FileHeard
    items = served.items

    abbrev replies : List FileReply
    replies = served.progress.replies

    abbrev last : Files
    last = s.named.lines.last

    own : SeesOwn last
    own = record {
      store = subst (λ (c : ℕ). AllOwn c last.store.seen) (sym s.named.lines.caller) (subst (AllOwn 1) (sym s.named.lines.saw) s.own);
      names = subst (λ (c : ℕ). AllBy c last.names) (sym s.named.lines.by) (subst (AllBy 1) (sym s.named.lines.entered) s.named.own);
    }

    abbrev alone : Rounds (FileItemReply nobody) first items replies last
    alone = rounds_alone law made first items replies last own served.progress.run

    -- how often the outside failed
    abbrev count : ℕ
    count = sum_rounds file_item_faults (FileItemReply nobody) first items replies last alone

    rose : RoseBy count faults faults'
    rose = subst (λ (n : ℕ). RoseBy n faults faults') (sym (alone_count law made first items replies last own served.progress.run)) served.progress.faults

    says_from : (due : List FileHeard) (all : List FileReply) (words : List ℕ) → AllWellHeard due → Answered first (until_last is_last due) last all count → words ≡ flat_map said all
        → Says fixed providers calm old.doors new.doors due words
    says_from due all words well a says =
        let rises = subst (λ (n : ℕ). RoseBy n faults faults') (sym a.counts) rose in
        record {
          replies = all;
          alone = record {
            last = last;
            rounds = a.rounds;
            by_map = answered_by_map first (until_last is_last due) all last (record { store = refl; names = refl }) (until_well is_last due well) a.rounds;
            history = subst (IsHistory fixed.page fixed.limits) (sym s.named.lines.saw) s.history;
            names_legal = subst Names.IsLegal (sym s.named.lines.entered) s.named.legal;
          };
          says = says;
          page_faults = rose_within _ faults faults' old.doors new.doors gave.fresh gave.rises rises;
          no_page_fault = λ is_calm. rose_none _ faults faults' gave.fresh (gave.quiet is_calm) rises;
        }

    says_all : (due : List FileHeard) → AllWellHeard due → items ≡ until_last is_last due → served.rest ≡ [] → Says fixed providers calm old.doors new.doors due text
    says_all due well is none =
        let a : Answered first items last replies count = record { rounds = alone; counts = refl } in
        says_from due replies text well (subst (λ (l : List FileHeard). Answered first l last replies count) is a)
        (sym (served.progress.says ∙ ap (λ (l : List ℕ). text ++ l) none ∙ append-nil text))

    -- the replies to the lines behind these
    module _ (due : List FileHeard) (well : AllWellHeard due) (front : AnswersFront is_last due items) where
      abbrev idle : (more : List FileReply) × Answered last front.0 last more 0
      idle = idle_rounds last front.0 (later_well is_last due items front.0 front.1 well)

      abbrev more : List ℕ
      more = served.rest ++ flat_map said idle.0

      says_front : Says fixed providers calm old.doors new.doors due (text ++ more)
      says_front =
          let a = joined first last last items front.0 replies idle.0 alone idle.1 in
          says_from due (replies ++ idle.0) (text ++ more) well (subst (λ (l : List FileHeard). Answered first l last (replies ++ idle.0) count) (sym front.1) a)
          (sym (flat_map-append said replies idle.0 ∙ ap (λ (l : List ℕ). l ++ flat_map said idle.0) served.progress.says ∙ append_assoc text served.rest (flat_map said idle.0)))

    abbrev talk : Dialogue FileHeard
    talk = lines fixed providers calm old.doors new.doors

    did_with : (rest : List ℕ) (status : Status) → new.net ≡ old.net → Ended talk taken text rest old new (code_of status) → DidFiles fixed providers calm old new (code_of status)
    did_with rest status net e = record {
      served = conversed_with talk taken text rest old new (code_of status) (record { gave = served.takes.given; took = served.takes.left }) served.within served.progress.adds e;
      uncut = files_not_cut taken;
      net = net;
    }

    quit : ((items ≡ until_last is_last (heard taken).whole) × (has_last is_last (heard taken).whole ≡ true)) ⊎ CameToEnd (length taken) input_limit old.ends new.ends new.left
        → items ≡ until_last is_last (heard taken).items → has_last is_last (heard taken).items ≡ true → served.rest ≡ [] → Ended talk taken text [] old new (code_of Statuses.Done)
    quit (inl x) is quits none = Ended.quit refl (heard taken).whole (IsDue.whole refl) x.1 refl (says_all (heard taken).whole (whole_files_well taken) x.0 none)
    quit (inr came) is quits none = Ended.quit refl (heard taken).items (IsDue.all came.0 came.1 came.2 refl) quits refl (says_all (heard taken).items (files_well taken) is none)

    -- the lines that were due, of which those that were answered are the first
    record Front : Type 0 where
      due : List FileHeard
      is : IsDue (heard taken) taken old new due
      well : AllWellHeard due
      first_ones : AnswersFront is_last due items

    front_of : AnswersFront is_last (heard taken).whole items ⊎ CameToEnd (length taken) input_limit old.ends new.ends new.left → AnswersFront is_last (heard taken).items items → Front
    front_of (inl f) g = record { due = (heard taken).whole; is = IsDue.whole refl; well = whole_files_well taken; first_ones = f }
    front_of (inr came) g = record { due = (heard taken).items; is = IsDue.all came.0 came.1 came.2 refl; well = files_well taken; first_ones = g }

    unwritten : Front → RoseBy 1 old.writes new.writes → 0 < length served.rest → (rest : List ℕ) × Ended talk taken text rest old new (code_of Statuses.WriteFault)
    unwritten f wrote some = (more f.due f.well f.first_ones, Ended.unwritten refl wrote f.due f.is (some_more _ _ some) (says_front f.due f.well f.first_ones))

    starved : Front → (rest : List ℕ) × Ended talk taken text rest old new (code_of Statuses.OutOfMemory)
    starved f = (more f.due f.well f.first_ones, Ended.starved refl f.due f.is (says_front f.due f.well f.first_ones))

  pub did : (end : End) → ServedByOne fixed providers (input_of old) (input_of new) faults faults' old.written new.written end → RoseBy (end_read_faults end) old.reads new.reads
      → RoseBy (end_write_faults end) old.writes new.writes → new.net ≡ old.net → DidFiles fixed providers calm old new (code_of (status_after end))
  did Ends.Quit s r w net =
      let e = s.named.lines.served.conversed.ended in
      did_with Ends.Quit s [] Statuses.Done net (quit Ends.Quit s s.named.lines.served.conversed.reaches e.0.0 e.1 e.0.1)
  did Ends.InputEnd s r w net =
      let e = s.named.lines.served.conversed.ended in
      did_with Ends.InputEnd s [] Statuses.Done net (Ended.finished refl e.3 s.named.lines.served.conversed.closing e.4 e.2 refl (says_all Ends.InputEnd s _ (files_well s.named.lines.served.conversed.taken) e.0.0 e.0.1))
  did Ends.Cut s r w net =
      let no : true ≡ false = sym s.named.lines.served.conversed.ended.2 ∙ files_not_cut s.named.lines.served.conversed.taken in
      absurd (false≢true (sym no))
  did Ends.ReadFault s r w net =
      let e = s.named.lines.served.conversed.ended in
      did_with Ends.ReadFault s [] Statuses.ReadFault net (Ended.unread refl e.2 r e.1 refl (says_all Ends.ReadFault s _ (whole_files_well s.named.lines.served.conversed.taken) e.0.0 e.0.1))
  did Ends.WriteFault s r w net =
      let e = s.named.lines.served.conversed.ended in
      let u = unwritten Ends.WriteFault s (front_of Ends.WriteFault s s.named.lines.served.conversed.reaches e.0) w e.1 in
      did_with Ends.WriteFault s u.0 Statuses.WriteFault net u.1
  did Ends.InputTooLong s r w net =
      let e = s.named.lines.served.conversed.ended in
      did_with Ends.InputTooLong s [] Statuses.InputTooLong net (Ended.too_long refl e.2 e.1 refl (says_all Ends.InputTooLong s _ (whole_files_well s.named.lines.served.conversed.taken) e.0.0 e.0.1))
  did Ends.NoMemory s r w net =
      let u = starved Ends.NoMemory s (front_of Ends.NoMemory s s.named.lines.served.conversed.reaches s.named.lines.served.conversed.ended) in
      did_with Ends.NoMemory s u.0 Statuses.OutOfMemory net u.1

-- the same of a store that keeps to the same and has as many providers, at the status that was answered
pub did_as : (fixed fixed' : Fixed) (providers providers' : ℕ) (calm : Type 0) (old new : Outside) (end : End) (status : Status) → fixed ≡ fixed' → providers ≡ providers' → status ≡ status_after end
    → DidFiles fixed providers calm old new (code_of (status_after end)) → DidFiles fixed' providers' calm old new (code_of status)
did_as fixed fixed' providers providers' calm old new end status same as_many is done =
    let at : DidFiles fixed' providers calm old new (code_of (status_after end)) = subst (λ (f : Fixed). DidFiles f providers calm old new (code_of (status_after end))) same done in
    subst (λ (s : Status). DidFiles fixed' providers' calm old new (code_of s)) (sym is) (subst (λ (n : ℕ). DidFiles fixed' n calm old new (code_of (status_after end))) as_many at)

-- where nothing could be done for want of memory
pub did_none : (fixed : Fixed) (providers : ℕ) (calm : Type 0) (old new : Outside) → new.given ≡ old.given → new.left ≡ old.left → new.written ≡ old.written → new.net ≡ old.net
    → min old.doors (2 ^ 64 - 1) ≤ new.doors → DidFiles fixed providers calm old new (code_of Statuses.OutOfMemory)
did_none fixed providers calm old new given left written net rises = record {
  served = conversed_none (lines fixed providers calm old.doors new.doors) old new given left written (record {
    replies = [];
    alone = record {
      last = first_files fixed providers;
      rounds = refl;
      by_map = answered_by_map (first_files fixed providers) [] [] (first_files fixed providers) (record { store = refl; names = refl }) tt refl;
      history = record { legal = tt; short = omega arith; in_order = none_in_order fixed.page fixed.limits };
      names_legal = tt;
    };
    says = refl;
    page_faults = λ less. omega arith;
    no_page_fault = λ is_calm. refl;
  });
  uncut = refl;
  net = net;
}
