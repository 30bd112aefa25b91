-- What a run wrote, from what the stream's loop says, and how it ended then.
use Rattle.std.proofs.Common.{◌≡◌, ℕ, ◌+◌, ◌-◌, ◌^◌, ◌<◌, ◌≤◌, min, true, false, List, [], length, sum_by, refl, sym, ◌∙◌, subst, inl, inr, arith}
use Rattle.std.proofs.lemmas.Bool.{false≢true}
use Rattle.std.proofs.lemmas.List.Sums.{sum_by-cons}
use Rattle.std.specs.Prelude.{◌∷◌}
use Rattle.faults.specs.Counts.{RoseBy}
use Rattle.request_form.specs.Session.{Fixed, AllOwn}
use Rattle.request_form.specs.Stream.{AllWellHeard}
use Rattle.request_form.specs.Transcript.{first_session}
use Rattle.request_form.specs.declared.form.Heard.{Heard}
use Rattle.script_text.specs.Lines.{heard}
use Rattle.script_text.specs.Said.{said}
use Rattle.server_core.specs.declared.flow.End.{End}
use Rattle.server_core.specs.declared.flow.End.TheVariants as Ends
use Rattle.server_core.specs.Progress.{Point}
use Rattle.server_core.specs.Served.{end_read_faults, end_write_faults}
use Rattle.server_core.specs.Laws as Streams
use Rattle.blobseer_run.specs.declared.status.Status.{Status}
use Rattle.blobseer_run.specs.declared.status.Status.TheVariants as Statuses
use Rattle.version_manager.proofs.Orders.{none_in_order}
use Rattle.blobseer_run.specs.Legal.{HistoriesAlone, faults_alone}
use Rattle.blobseer_run.specs.Outside.{Outside}
use Rattle.blobseer_run.specs.Conversation.{input_limit, status_after, Dialogue, IsDue, Ended}
use Rattle.blobseer_run.specs.Script.{IsCalm, Says, script, DidRun}
use Rattle.blobseer_run.specs.Serving.{ServedByOne}
use Rattle.blobseer_run.specs.Status.{code_of}
use Rattle.blobseer_run.proofs.Conversations.{input_of, conversed_with, conversed_none}
use Rattle.blobseer_run.proofs.Scripts.{script_well, whole_script_well, script_not_cut, script_few}

-- ---- what the doors tell

sum_none : {D : Type 0} (faults : D → ℕ) → IsCalm faults → (doors : List D) → sum_by faults doors ≡ 0
sum_none faults calm [] = refl
sum_none faults calm (door ∷ doors) = sum_by-cons faults door doors ∙ omega (arith, calm door, sum_none faults calm doors)

-- the faults of a session's doors, which went back to a maker, and the maker's count before and after
pub record GaveBack (calm : Type 0) (before after doors doors' : ℕ) : Type 0 where
  pub fresh : before ≡ 0
  pub rises : min (doors + after) (2 ^ 64 - 1) ≤ doors'
  pub quiet : calm → after ≡ 0

pub gave_back : {D : Type 0} (faults : D → ℕ) (old new : List D) (doors mid doors' : ℕ) → sum_by faults old ≡ 0 → mid ≡ doors → min (mid + sum_by faults new) (2 ^ 64 - 1) ≤ doors' →
    GaveBack (IsCalm faults) (sum_by faults old) (sum_by faults new) doors doors'
gave_back {D} faults old new doors mid doors' fresh same rises = record { fresh = fresh; rises = omega (arith, same, rises); quiet = λ calm. sum_none faults calm new }

pub rose_within : (n before after doors doors' : ℕ) → before ≡ 0 → min (doors + after) (2 ^ 64 - 1) ≤ doors' → RoseBy n before after → doors' < 2 ^ 64 - 1 → doors + n ≤ doors'
rose_within n before after doors doors' fresh rises rose less = omega (arith, rose.by)

pub rose_none : (n before after : ℕ) → before ≡ 0 → after ≡ 0 → RoseBy n before after → n ≡ 0
rose_none n before after fresh quiet rose = omega (arith, rose.by)

-- ---- a script that was served

module _ (alone : Streams.ServedAlone) (histories : HistoriesAlone) (fixed : Fixed) (calm : Type 0) (old new : Outside) (faults faults' : ℕ) (gave : GaveBack calm faults faults' old.doors new.doors) where
  says : (items : List Heard) (text : List ℕ) → AllWellHeard items → length items < 2 ^ 37 → Streams.SaysWithin said fixed items faults faults' text → Says fixed calm old.doors new.doors items text
  says items text well few s = record {
    alone = s.alone;
    history = histories fixed items s.alone.replies s.alone.last s.alone.transcript few;
    page_faults = rose_within (faults_alone fixed items text s.alone) faults faults' old.doors new.doors gave.fresh gave.rises (s.faults well);
    no_page_fault = λ is_calm. rose_none (faults_alone fixed items text s.alone) faults faults' gave.fresh (gave.quiet is_calm) (s.faults well);
  }

  abbrev lines : Dialogue Heard
  lines = script fixed calm old.doors new.doors

  module _ (end : End) (s : ServedByOne fixed (input_of old) (input_of new) faults faults' old.written new.written end) where
    abbrev start : Point
    start = record { session = first_session fixed 1; faults = faults; written = old.written }

    abbrev stop : Point
    stop = record { session = s.lines.last; faults = faults'; written = new.written }

    own : AllOwn 1 s.lines.last.seen
    own = subst (AllOwn 1) (sym s.lines.sees) s.own

    pub wrote : Streams.WroteAlone said fixed (heard s.lines.served.taken) (length s.lines.served.taken) input_limit old.ends new.ends new.left faults faults' s.lines.served.progress.out end
    wrote = alone said fixed start heard (input_of old) (input_of new) input_limit stop end refl own s.lines.served

    abbrev taken : List ℕ
    taken = s.lines.served.taken

    abbrev text : List ℕ
    text = s.lines.served.progress.out

    pub due_of : (due : List Heard) → Streams.IsDue (heard taken) (length taken) input_limit old.ends new.ends new.left due → IsDue (heard taken) taken old new due
    due_of due (inl x) = IsDue.all x.1.0 x.1.1 x.1.2 x.0
    due_of due (inr e) = IsDue.whole e

    pub well_due : (due : List Heard) → Streams.IsDue (heard taken) (length taken) input_limit old.ends new.ends new.left due → AllWellHeard due
    well_due due (inl x) = subst AllWellHeard (sym x.0) (script_well taken)
    well_due due (inr e) = subst AllWellHeard (sym e) (whole_script_well taken)

    few_items : length (heard taken).items < 2 ^ 37
    few_items = omega (arith, (script_few taken).0, s.lines.served.within)

    few_whole : length (heard taken).whole < 2 ^ 37
    few_whole = omega (arith, (script_few taken).1, s.lines.served.within)

    few_due : (due : List Heard) → Streams.IsDue (heard taken) (length taken) input_limit old.ends new.ends new.left due → length due < 2 ^ 37
    few_due due (inl x) = subst (λ (l : List Heard). length l < 2 ^ 37) (sym x.0) few_items
    few_due due (inr e) = subst (λ (l : List Heard). length l < 2 ^ 37) (sym e) few_whole

    pub says_due : (due : List Heard) (words : List ℕ) → Streams.IsDue (heard taken) (length taken) input_limit old.ends new.ends new.left due → Streams.SaysWithin said fixed due faults faults' words → Says fixed calm old.doors new.doors due words
    says_due due words is within = says due words (well_due due is) (few_due due is) within

    pub says_whole : Streams.SaysWithin said fixed (heard taken).whole faults faults' text → Says fixed calm old.doors new.doors (heard taken).whole text
    says_whole within = says (heard taken).whole text (whole_script_well taken) few_whole within

    pub says_all : Streams.SaysWithin said fixed (heard taken).items faults faults' text → Says fixed calm old.doors new.doors (heard taken).items text
    says_all within = says (heard taken).items text (script_well taken) few_items within

    pub ran_with : (rest : List ℕ) (status : Status) → new.net ≡ old.net → Ended lines taken text rest old new (code_of status) → DidRun fixed calm old new (code_of status)
    ran_with rest status net e = record {
      served = conversed_with lines taken text rest old new (code_of status) (record { gave = s.lines.served.takes.given; took = s.lines.served.takes.left }) s.lines.served.within s.lines.served.progress.adds e;
      uncut = script_not_cut taken;
      net = net;
    }

  pub ran : (end : End) → ServedByOne fixed (input_of old) (input_of new) faults faults' old.written new.written end → RoseBy (end_read_faults end) old.reads new.reads → RoseBy (end_write_faults end) old.writes new.writes
      → new.net ≡ old.net → DidRun fixed calm old new (code_of (status_after end))
  ran Ends.Quit s r w net =
      let t = wrote Ends.Quit s in
      ran_with Ends.Quit s [] Statuses.Done net (Ended.quit refl t.0 (due_of Ends.Quit s t.0 t.1) t.2 refl (says_due Ends.Quit s t.0 _ t.1 t.3))
  ran Ends.InputEnd s r w net =
      ran_with Ends.InputEnd s [] Statuses.Done net (Ended.finished refl s.lines.served.ended.3 s.lines.served.closing s.lines.served.ended.4 s.lines.served.ended.2 refl (says_all Ends.InputEnd s (wrote Ends.InputEnd s)))
  ran Ends.Cut s r w net =
      let no : true ≡ false = sym s.lines.served.ended.2 ∙ script_not_cut s.lines.served.taken in
      absurd (false≢true (sym no))
  ran Ends.ReadFault s r w net =
      ran_with Ends.ReadFault s [] Statuses.ReadFault net (Ended.unread refl s.lines.served.ended.2 r s.lines.served.ended.1 refl (says_whole Ends.ReadFault s (wrote Ends.ReadFault s)))
  ran Ends.WriteFault s r w net =
      let t = wrote Ends.WriteFault s in
      ran_with Ends.WriteFault s t.2.0 Statuses.WriteFault net (Ended.unwritten refl w t.0 (due_of Ends.WriteFault s t.0 t.1) t.2.1 (says_due Ends.WriteFault s t.0 _ t.1 t.2.2))
  ran Ends.InputTooLong s r w net =
      ran_with Ends.InputTooLong s [] Statuses.InputTooLong net (Ended.too_long refl s.lines.served.ended.2 s.lines.served.ended.1 refl (says_whole Ends.InputTooLong s (wrote Ends.InputTooLong s)))
  ran Ends.NoMemory s r w net =
      let t = wrote Ends.NoMemory s in
      ran_with Ends.NoMemory s t.2.0 Statuses.OutOfMemory net (Ended.starved refl t.0 (due_of Ends.NoMemory s t.0 t.1) (says_due Ends.NoMemory s t.0 _ t.1 t.2.1))

-- the same of a store that keeps to the same, at the status that was answered
pub ran_as : (fixed fixed' : Fixed) (calm : Type 0) (old new : Outside) (end : End) (status : Status) → fixed ≡ fixed' → status ≡ status_after end → DidRun fixed calm old new (code_of (status_after end))
    → DidRun fixed' calm old new (code_of status)
ran_as fixed fixed' calm old new end status same is did =
    subst (λ (s : Status). DidRun fixed' calm old new (code_of s)) (sym is) (subst (λ (f : Fixed). DidRun f calm old new (code_of (status_after end))) same did)

-- where nothing could be done for want of memory
pub ran_none : (fixed : Fixed) (calm : Type 0) (old new : Outside) → new.given ≡ old.given → new.left ≡ old.left → new.written ≡ old.written → new.net ≡ old.net → min old.doors (2 ^ 64 - 1) ≤ new.doors →
    DidRun fixed calm old new (code_of Statuses.OutOfMemory)
ran_none fixed calm old new given left written net rises = record {
  served = conversed_none (script fixed calm old.doors new.doors) old new given left written (record {
    alone = record { replies = []; last = first_session fixed 1; transcript = refl; says = refl };
    history = record { legal = tt; short = omega arith; in_order = none_in_order fixed.page fixed.limits };
    page_faults = λ less. omega arith;
    no_page_fault = λ is_calm. refl;
  });
  uncut = refl;
  net = net;
}
