-- What was answered when a stream ends.
use Rattle.std.proofs.Common.{◌≡◌, ℕ, ◌<◌, true, false, List, [], ◌∷◌, ◌++◌, length, refl, sym, ◌∙◌, ap, subst, append_assoc, append-nil}
use Rattle.std.proofs.KnownBytes.{Appends-nil, Appends-trans, Consumes-nil, Consumes-trans}
use Rattle.std.specs.Prelude.{Option}
use Rattle.std.specs.Io.KnownBytes.{Appends, Consumes, IsAtEnd}
use Rattle.faults.specs.Counts.{RoseBy}
use Rattle.items.specs.Items.{ItemStream, IsFed, after_items}
use Rattle.items.specs.Rounds.{until_last, has_last}
use Rattle.items.proofs.Rounds.{until_last-append, has_last-append, until_last-all, until_last-one}
use Rattle.server_core.specs.declared.flow.End.{End}
use Rattle.server_core.specs.declared.flow.End.TheVariants as Ends
use Rattle.server_core.specs.declared.flow.Flow.{Flow}
use Rattle.server_core.specs.declared.flow.Flow.TheVariants as Flows
use Rattle.server_core.specs.Talk.{Talk, PointOf}
use Rattle.server_core.specs.Conversing.{Progress, AnswersFront, IsQuitBy, Goes, Quits, Stops, IsDrained}
use Rattle.server_core.specs.Conversed.{AnswersAll, Ended, Closing, Input, TakesOff, Finished}
use Rattle.server_core.proofs.GoingOn.{Progress-trans, Progress-none, written_at, point, at_point}

pub TakesOff-none : (a : Input) → TakesOff [] a a
TakesOff-none a = record { given = Appends-nil a.given; left = Consumes-nil a.left }

pub TakesOff-same : (bytes : List ℕ) (a b c : Input) → TakesOff bytes a b → c.given ≡ b.given → c.left ≡ b.left → TakesOff bytes a c
TakesOff-same bytes a b c p same_given same_left = record {
  given = subst (λ (x : Option (List ℕ)). Appends a.given x bytes) (sym same_given) p.given;
  left = subst (λ (x : Option (List ℕ)). Consumes a.left x bytes) (sym same_left) p.left;
}

pub TakesOff-trans : (xs ys : List ℕ) (a b c : Input) → TakesOff xs a b → TakesOff ys b c → TakesOff (xs ++ ys) a c
TakesOff-trans xs ys a b c p q = record {
  given = Appends-trans a.given b.given c.given xs ys p.given q.given;
  left = Consumes-trans a.left b.left c.left xs ys p.left q.left;
}

-- a stream that goes on: what was taken, and what was answered of it
pub record Serving {Item : Type 0} (talk : Talk Item) (old : PointOf talk.Session) (reads : List ℕ → ItemStream Item) (before now : Input) (count : ℕ) (new : PointOf talk.Session) (after : List ℕ → ItemStream Item) : Type 0 where
  pub taken : List ℕ
  pub takes : TakesOff taken before now
  pub counts : length taken ≡ count
  pub goes : Goes talk old (λ (more : List ℕ). reads (taken ++ more)) [] new after
  pub empty : (after []).whole ≡ []
  pub same_ends : now.ends ≡ before.ends

-- the same where the bytes written are named otherwise
pub Serving-at : {Item : Type 0} (talk : Talk Item) (old : PointOf talk.Session) (reads : List ℕ → ItemStream Item) (before now : Input) (count : ℕ) (new : PointOf talk.Session) (after : List ℕ → ItemStream Item) (written : Option (List ℕ)) → written ≡ new.written →
    Serving talk old reads before now count new after → Serving talk old reads before now count (written_at new written) after
Serving-at talk old reads before now count new after written same s = subst (λ (w : Option (List ℕ)). Serving talk old reads before now count (written_at new w) after) (sym same) s

module _ {Item : Type 0} (talk : Talk Item) where
  -- no memory for what is left over
  pub Finished-none : (old : PointOf talk.Session) (heard : ItemStream Item) → Finished talk old heard old Ends.NoMemory
  Finished-none old heard = record { items = []; rest = []; progress = Progress-none talk [] old; tells = (until_last talk.is_last heard.items, refl) }

  pub Finished-cut : (old : PointOf talk.Session) (heard : ItemStream Item) → heard.cut ≡ true → Finished talk old heard old Ends.Cut
  Finished-cut old heard cut = record { items = []; rest = []; progress = Progress-none talk [] old; tells = (refl, refl, cut) }

  -- nothing is left over
  pub Finished-clean : (old : PointOf talk.Session) (heard : ItemStream Item) → heard.items ≡ heard.whole → heard.whole ≡ [] → heard.cut ≡ false → Finished talk old heard old Ends.InputEnd
  Finished-clean old heard same none cut =
      let empty : heard.items ≡ [] = same ∙ none in
      record { items = []; rest = []; progress = Progress-none talk [] old; tells = ((ap (until_last talk.is_last) (sym empty), refl), ap (has_last talk.is_last) empty, cut) }

  -- the same where a step changed neither the session nor its count
  pub Finished-at : (old : PointOf talk.Session) (heard : ItemStream Item) (session session' : talk.Session) (faults faults' : ℕ) (written : Option (List ℕ)) (end : End) → session' ≡ session → faults' ≡ faults →
      Finished talk old heard (point session faults written) end → Finished talk old heard (point session' faults' written) end
  Finished-at old heard session session' faults faults' written end same same_faults f = at_point (λ (p : PointOf talk.Session). Finished talk old heard p end) session session' faults faults' written same same_faults f

  module _ (old new : PointOf talk.Session) (heard : ItemStream Item) (item : Item) (is : heard.items ≡ heard.whole ++ item ∷ []) (none : heard.whole ≡ []) where
    one_item : heard.items ≡ item ∷ []
    one_item = is ∙ ap (λ (x : List Item). x ++ item ∷ []) none

    until_item : until_last talk.is_last heard.items ≡ item ∷ []
    until_item = ap (until_last talk.is_last) one_item ∙ until_last-one talk.is_last item

    -- the last item was answered, and was no Quit
    pub Finished-last : Progress talk [] old (item ∷ []) [] new → talk.is_last item ≡ false → heard.cut ≡ false → Finished talk old heard new Ends.InputEnd
    Finished-last progress e cut = record { items = item ∷ []; rest = []; progress = progress; tells = ((sym until_item, refl), ap (has_last talk.is_last) one_item ∙ (rw e refl), cut) }

    pub Finished-quit : Progress talk [] old (item ∷ []) [] new → talk.is_last item ≡ true → heard.cut ≡ false → Finished talk old heard new Ends.Quit
    Finished-quit progress e cut = record { items = item ∷ []; rest = []; progress = progress; tells = ((sym until_item, refl), ap (has_last talk.is_last) one_item ∙ (rw e refl), cut) }

    pub Finished-fault : (rest : List ℕ) → 0 < length rest → Progress talk [] old (item ∷ []) rest new → heard.cut ≡ false → Finished talk old heard new Ends.WriteFault
    Finished-fault rest some progress cut = record { items = item ∷ []; rest = rest; progress = progress; tells = (([], until_item), some, cut) }

    pub Finished-no_memory : (rest : List ℕ) → Progress talk [] old (item ∷ []) rest new → Finished talk old heard new Ends.NoMemory
    Finished-no_memory rest progress = record { items = item ∷ []; rest = rest; progress = progress; tells = ([], until_item) }

  abbrev pub Goes-feed : (old : PointOf talk.Session) (reads : List ℕ → ItemStream Item) (taken : List ℕ) (mid : PointOf talk.Session) (now : List ℕ → ItemStream Item) (piece : List ℕ) →
      Goes talk old (λ (more : List ℕ). reads (taken ++ more)) [] mid now → Goes talk old (λ (more : List ℕ). reads ((taken ++ piece) ++ more)) [] mid (λ (more : List ℕ). now (piece ++ more))
  Goes-feed old reads taken mid now piece goes = record {
    items = goes.items;
    progress = goes.progress;
    goes = goes.goes;
    reads = λ more. ap reads (append_assoc taken piece more) ∙ goes.reads (piece ++ more);
  }

  module _ (old : PointOf talk.Session) (before : List ℕ → ItemStream Item) (mid : PointOf talk.Session) (now : List ℕ → ItemStream Item) (goes : Goes talk old before [] mid now) where
    pub after_both : (items : List Item) (stream : ItemStream Item) → after_items goes.items (after_items items stream) ≡ after_items (goes.items ++ items) stream
    after_both items stream = simp append_assoc

    pub before_items : (more : List ℕ) → (before more).items ≡ goes.items ++ (now more).items
    before_items more = ap (λ (x : ItemStream Item). x.items) (goes.reads more)

    pub until_both : (more : List ℕ) → until_last talk.is_last (before more).items ≡ goes.items ++ until_last talk.is_last (now more).items
    until_both more = ap (until_last talk.is_last) (before_items more) ∙ until_last-append talk.is_last goes.items (now more).items goes.goes

    pub quit_both : (more : List ℕ) → has_last talk.is_last (before more).items ≡ has_last talk.is_last (now more).items
    quit_both more = ap (has_last talk.is_last) (before_items more) ∙ has_last-append talk.is_last goes.items (now more).items goes.goes

    cut_both : (more : List ℕ) → (before more).cut ≡ (now more).cut
    cut_both more = ap (λ (x : ItemStream Item). x.cut) (goes.reads more)

    pub whole_all : (more : List ℕ) → (before more).whole ≡ goes.items ++ (now more).whole
    whole_all more = ap (λ (x : ItemStream Item). x.whole) (goes.reads more)

    pub front_by : (xs ys items : List Item) → xs ≡ goes.items ++ ys → AnswersFront talk.is_last ys items → AnswersFront talk.is_last xs (goes.items ++ items)
    front_by xs ys items is front =
        (front.0, ap (until_last talk.is_last) is ∙ (until_last-append talk.is_last goes.items ys goes.goes ∙ (ap (λ (x : List Item). goes.items ++ x) front.1 ∙ sym (append_assoc goes.items items front.0))))

    pub front_both : (more : List ℕ) (items : List Item) → AnswersFront talk.is_last (now more).items items → AnswersFront talk.is_last (before more).items (goes.items ++ items)
    front_both more items front = front_by (before more).items (now more).items items (before_items more) front

    pub quit_by : (xs ys items : List Item) → xs ≡ goes.items ++ ys → IsQuitBy talk.is_last items ys → IsQuitBy talk.is_last (goes.items ++ items) xs
    quit_by xs ys items is quit = (
      ap (until_last talk.is_last) is ∙ (until_last-append talk.is_last goes.items ys goes.goes ∙ ap (λ (x : List Item). goes.items ++ x) quit.0),
      ap (has_last talk.is_last) is ∙ (has_last-append talk.is_last goes.items ys goes.goes ∙ quit.1),
    )

    all_both : (more : List ℕ) (items : List Item) (rest : List ℕ) → AnswersAll talk.is_last (now more).items items rest → AnswersAll talk.is_last (before more).items (goes.items ++ items) rest
    all_both more items rest all = (ap (λ (x : List Item). goes.items ++ x) all.0 ∙ sym (until_both more), all.1)

    abbrev pub Goes-trans : (new : PointOf talk.Session) (after : List ℕ → ItemStream Item) → Goes talk mid now [] new after → Goes talk old before [] new after
    Goes-trans new after more = record {
      items = goes.items ++ more.items;
      progress = Progress-trans talk [] old mid new goes.items more.items [] [] goes.progress more.progress;
      goes = has_last-append talk.is_last goes.items more.items goes.goes ∙ more.goes;
      reads = λ bytes. goes.reads bytes ∙ (ap (after_items goes.items) (more.reads bytes) ∙ after_both more.items (after bytes));
    }

    abbrev pub Goes-quits : (new : PointOf talk.Session) → Quits talk mid now [] new → Quits talk old before [] new
    Goes-quits new quits = record {
      items = goes.items ++ quits.items;
      progress = Progress-trans talk [] old mid new goes.items quits.items [] [] goes.progress quits.progress;
      reads = λ more. quit_by (before more).items (now more).items quits.items (before_items more) (quits.reads more);
      whole = λ more. quit_by (before more).whole (now more).whole quits.items (whole_all more) (quits.whole more);
    }

    abbrev pub Goes-stops : (rest : List ℕ) (new : PointOf talk.Session) → Stops talk mid now rest new → Stops talk old before rest new
    Goes-stops rest new stops = record {
      items = goes.items ++ stops.items;
      progress = Progress-trans talk [] old mid new goes.items stops.items [] rest goes.progress stops.progress;
      reads = λ more. front_both more stops.items (stops.reads more);
      whole = λ more. front_by (before more).whole (now more).whole stops.items (whole_all more) (stops.whole more);
    }

    -- where no whole item is left, the whole items were answered, and none was a Quit
    pub whole_both : (more : List ℕ) → (now more).whole ≡ [] → (before more).whole ≡ goes.items
    whole_both more none = ap (λ (x : ItemStream Item). x.whole) (goes.reads more) ∙ (ap (λ (x : List Item). goes.items ++ x) none ∙ append-nil goes.items)

    pub all_whole : (more : List ℕ) → (now more).whole ≡ [] → AnswersAll talk.is_last (before more).whole goes.items []
    all_whole more none = (sym (ap (until_last talk.is_last) (whole_both more none) ∙ until_last-all talk.is_last goes.items goes.goes), refl)

    pub no_quit_whole : (more : List ℕ) → (now more).whole ≡ [] → has_last talk.is_last (before more).whole ≡ false
    no_quit_whole more none = ap (has_last talk.is_last) (whole_both more none) ∙ goes.goes

    -- what the end says of all items, from what it says of those that were left over
    pub finish_both : (new : PointOf talk.Session) (end : End) (taken limit : ℕ) (left : Option (List ℕ)) → (now []).whole ≡ [] → taken < limit → IsAtEnd left → (f : Finished talk mid (now []) new end) →
        Ended talk.is_last (before []) taken limit (goes.items ++ f.items) f.rest left end
    finish_both new Ends.Quit taken limit left none less at_end f = (all_both [] f.items f.rest f.tells.0, quit_both [] ∙ f.tells.1)
    finish_both new Ends.InputEnd taken limit left none less at_end f = (all_both [] f.items f.rest f.tells.0, quit_both [] ∙ f.tells.1, cut_both [] ∙ f.tells.2, less, at_end)
    finish_both new Ends.Cut taken limit left none less at_end f =
        let same : goes.items ++ f.items ≡ goes.items = ap (λ (x : List Item). goes.items ++ x) f.tells.0 ∙ append-nil goes.items in
        ((same ∙ (all_whole [] none).0, f.tells.1), no_quit_whole [] none, cut_both [] ∙ f.tells.2, less, at_end)
    finish_both new Ends.WriteFault taken limit left none less at_end f = (front_both [] f.items f.tells.0, f.tells.1)
    finish_both new Ends.NoMemory taken limit left none less at_end f = front_both [] f.items f.tells
    finish_both new Ends.ReadFault taken limit left none less at_end f = absurd f.tells
    finish_both new Ends.InputTooLong taken limit left none less at_end f = absurd f.tells

    -- the last item is answered only where the stream doesn't end inside one
    pub close_both : (new : PointOf talk.Session) (ends ends' : ℕ) (end : End) → RoseBy 1 ends ends' → (f : Finished talk mid (now []) new end) → Closing (before []) ends ends' end
    close_both new ends ends' Ends.Quit rose f = λ cut. cc (cut_both [], f.tells.2)
    close_both new ends ends' Ends.InputEnd rose f = rose
    close_both new ends ends' Ends.Cut rose f = rose
    close_both new ends ends' Ends.WriteFault rose f = λ cut. cc (cut_both [], f.tells.2)
    close_both new ends ends' Ends.NoMemory rose f = tt
    close_both new ends ends' Ends.ReadFault rose f = absurd f.tells
    close_both new ends ends' Ends.InputTooLong rose f = absurd f.tells

  stops_fed : (old : PointOf talk.Session) (reads : List ℕ → ItemStream Item) (piece : List ℕ) (fed : List ℕ → ItemStream Item) (rest : List ℕ) (new : PointOf talk.Session) →
      IsFed reads piece fed → Stops talk old fed rest new → Stops talk old (λ (more : List ℕ). reads (piece ++ more)) rest new
  stops_fed old reads piece fed rest new feeds s = record {
    items = s.items;
    progress = s.progress;
    reads = λ more. subst (λ (x : ItemStream Item). AnswersFront talk.is_last x.items s.items) (feeds more) (s.reads more);
    whole = λ more. subst (λ (x : ItemStream Item). AnswersFront talk.is_last x.whole s.items) (feeds more) (s.whole more);
  }

  -- a stream that was fed a piece reads on as the old one does from the piece on
  pub IsDrained-fed : (old : PointOf talk.Session) (reads : List ℕ → ItemStream Item) (piece : List ℕ) (fed : List ℕ → ItemStream Item) (held : List ℕ) (new : PointOf talk.Session) (after : List ℕ → ItemStream Item) (flow : Flow) →
      IsFed reads piece fed → IsDrained talk old fed held new after flow → IsDrained talk old (λ (more : List ℕ). reads (piece ++ more)) held new after flow
  IsDrained-fed old reads piece fed held new after Flows.Goes feeds d =
      (record { items = d.0.items; progress = d.0.progress; goes = d.0.goes; reads = λ more. sym (feeds more) ∙ d.0.reads more }, d.1)
  IsDrained-fed old reads piece fed held new after Flows.Quits feeds d = record {
    items = d.items;
    progress = d.progress;
    reads = λ more. subst (λ (x : ItemStream Item). IsQuitBy talk.is_last d.items x.items) (feeds more) (d.reads more);
    whole = λ more. subst (λ (x : ItemStream Item). IsQuitBy talk.is_last d.items x.whole) (feeds more) (d.whole more);
  }
  IsDrained-fed old reads piece fed held new after Flows.WriteFault feeds d = (d.0, d.1, stops_fed old reads piece fed d.0 new feeds d.2)
  IsDrained-fed old reads piece fed held new after Flows.NoMemory feeds d = (d.0, stops_fed old reads piece fed (held ++ d.0) new feeds d.1)

  pub Stops-none : (old : PointOf talk.Session) (before : List ℕ → ItemStream Item) → Stops talk old before [] old
  Stops-none old before =
      record { items = []; progress = Progress-none talk [] old; reads = λ more. (until_last talk.is_last (before more).items, refl); whole = λ more. (until_last talk.is_last (before more).whole, refl) }
