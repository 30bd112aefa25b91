-- Where a file session sees its own alone, each gap was empty.
use Rattle.std.proofs.Common.{◌≡◌, ℕ, ◌+◌, Bool, true, false, List, [], ◌∷◌, ◌++◌, Option, Some, None, Result, Ok, Err, refl, sym, ap, subst, ◌∙◌, append_assoc, append-nil}
use Rattle.std.specs.Prelude.{◌==◌, if◌then◌else◌}
use Rattle.std.proofs.lemmas.Bool.{false≢true, eq-eqb}
use Rattle.items.specs.Rounds.{Rounds, sum_rounds}
use Rattle.turn_lock.specs.History.{entries_by}
use Rattle.blob_model.specs.History.{AllOther}
use Rattle.blob_model.specs.declared.call.Event.{Event}
use Rattle.request_form.specs.Session.{Session, AllOwn, IsNobody, sees}
use Rattle.request_form.specs.Answers.{Answers}
use Rattle.request_form.specs.Transcript.{is_quit, ItemReply}
use Rattle.request_form.specs.Laws.{OwnIsAlone, OwnEventsAreMade}
use Rattle.request_form.specs.declared.form.Request.{Request}
use Rattle.request_form.specs.declared.form.Request.TheVariants as Requests
use Rattle.request_form.specs.declared.form.Reply.{Reply}
use Rattle.request_form.specs.declared.form.Heard.{Heard}
use Rattle.request_form.specs.declared.form.Heard.TheVariants as Hears
use Rattle.file_names.specs.Tree.{NameLog, Enters, enter_fault, blob_at, stat_at}
use Rattle.file_names.specs.declared.tree.Named.{Named}
use Rattle.file_names.specs.declared.tree.Stat.{Stat}
use Rattle.file_names.specs.declared.tree.Stat.TheVariants as Stats
use Rattle.file_names.specs.declared.tree.EnterFault.{EnterFault}
use Rattle.file_names.specs.declared.tree.EnterFault.TheVariants as EnterFaults
use Rattle.file_names.specs.declared.tree.FindFault.{FindFault}
use Rattle.file_names.specs.declared.form.FileLine.{FileLine}
use Rattle.file_names.specs.declared.form.FileLine.TheVariants as Lines
use Rattle.file_names.specs.declared.form.FileReply.{FileReply}
use Rattle.file_names.specs.declared.form.FileHeard.{FileHeard}
use Rattle.file_names.specs.declared.form.FileHeard.TheVariants.{Asked, Wrong}
use Rattle.file_layer.specs.Files.{Files, among_others, nobody, with_store, LooksAtNames, EntersNames, AsksStore, AsksOf, OnBlob, OnFile, MakesFile, OnFree, OnRecent, OnStat, WhereAnswer, FileAnswers, FileItemReply}
use Rattle.file_layer.specs.Faults.{file_item_faults}
use Rattle.file_layer.specs.Laws.{AllBy, SeesOwn}

-- ---- lists of one's own entries and events

own_front : (by : ℕ) (xs ys : NameLog) → AllBy by (xs ++ ys) → AllBy by xs
own_front by [] ys h = tt
own_front by (x ∷ xs) ys h = (h.0, own_front by xs ys h.1)

own_rest : (by : ℕ) (xs ys : NameLog) → AllBy by (xs ++ ys) → AllBy by ys
own_rest by [] ys h = h
own_rest by (x ∷ xs) ys h = own_rest by xs ys h.1

no_others : (by : ℕ) (xs : NameLog) → AllBy by xs → entries_by by xs ≡ [] → xs ≡ []
no_others by [] h none = refl
no_others by (x ∷ xs) h none = absurd (first (x.0 == by) (eq-eqb x.0 by h.0) none)
  where
    first : (b : Bool) → b ≡ true → (if b then x ∷ entries_by by xs else entries_by by xs) ≡ [] → ⊥
    first true e n = cc
    first false e n = false≢true e

events_front : (c : ℕ) (xs ys : List Event) → AllOwn c (xs ++ ys) → AllOwn c xs
events_front c [] ys h = tt
events_front c (x ∷ xs) ys h = (h.0, events_front c xs ys h.1)

events_rest : (c : ℕ) (xs ys : List Event) → AllOwn c (xs ++ ys) → AllOwn c ys
events_rest c [] ys h = h
events_rest c (x ∷ xs) ys h = events_rest c xs ys h.1

no_other_events : (c : ℕ) (xs : List Event) → AllOwn c xs → AllOther c xs → xs ≡ []
no_other_events c [] h o = refl
no_other_events c (x ∷ xs) h o = absurd (o.0 h.0)

-- ---- what was seen only grows

record Grows (f f' : Files) : Type 0 where
  by : f'.by ≡ f.by
  caller : f'.store.caller ≡ f.store.caller
  names : (more : NameLog) × (f'.names ≡ f.names ++ more)
  seen : (more : List Event) × (f'.store.seen ≡ f.store.seen ++ more)

stays : (f : Files) → Grows f f
stays f = record { by = refl; caller = refl; names = ([], sym (append-nil f.names)); seen = ([], sym (append-nil f.store.seen)) }

then_grows : (f g h : Files) → Grows f g → Grows g h → Grows f h
then_grows f g h a b = record {
  by = b.by ∙ a.by;
  caller = b.caller ∙ a.caller;
  names = (a.names.0 ++ b.names.0, b.names.1 ∙ ap (λ l. l ++ b.names.0) a.names.1 ∙ append_assoc f.names a.names.0 b.names.0);
  seen = (a.seen.0 ++ b.seen.0, b.seen.1 ∙ ap (λ l. l ++ b.seen.0) a.seen.1 ∙ append_assoc f.store.seen a.seen.0 b.seen.0);
}

own_before : (f f' : Files) → Grows f f' → SeesOwn f' → SeesOwn f
own_before f f' g own = record {
  store = events_front f.store.caller f.store.seen g.seen.0 (subst (λ c. AllOwn c (f.store.seen ++ g.seen.0)) g.caller (subst (AllOwn f'.store.caller) g.seen.1 own.store));
  names = own_front f.by f.names g.names.0 (subst (λ c. AllBy c (f.names ++ g.names.0)) g.by (subst (AllBy f'.by) g.names.1 own.names));
}

same_grows : (f g : Files) → g ≡ f → Grows f g
same_grows f g e = subst (Grows f) (sym e) (stays f)

looks_grow : (f seen : Files) → LooksAtNames among_others f seen → Grows f seen
looks_grow f seen l = subst (Grows f) (sym l.is) (record { by = refl; caller = refl; names = (l.others, refl); seen = ([], sym (append-nil f.store.seen)) })

looks_alone : (f seen : Files) → LooksAtNames among_others f seen → SeesOwn seen → LooksAtNames nobody f seen
looks_alone f seen l own =
    let all : AllBy f.by (f.names ++ l.others) = (subst SeesOwn l.is own).names in
    record { others = l.others; is_gap = no_others f.by l.others (own_rest f.by f.names l.others all) l.is_gap; is = l.is }

enters_more : (before after : NameLog) (by : ℕ) (path : List ℕ) (named : Named) (said : Result (Unit {0}) EnterFault) → Enters before by path named said after → (more : NameLog) × (after ≡ before ++ more)
enters_more before after by path named (Ok done) h = ((by, record { path = path; named = named }) ∷ [], h.1)
enters_more before after by path named (Err EnterFaults.NoMemory) h = ([], h ∙ sym (append-nil before))
enters_more before after by path named (Err EnterFaults.NoParent) h = ([], h.1 ∙ sym (append-nil before))
enters_more before after by path named (Err EnterFaults.ParentNotFolder) h = ([], h.1 ∙ sym (append-nil before))
enters_more before after by path named (Err EnterFaults.Exists) h = ([], h.1 ∙ sym (append-nil before))
enters_more before after by path named (Err EnterFaults.TooManyNames) h = ([], h.1 ∙ sym (append-nil before))

enter_grows : (f f' : Files) (path : List ℕ) (named : Named) (said : Result (Unit {0}) EnterFault) → EntersNames among_others f path named said f' → Grows f f'
enter_grows f f' path named said e =
    let m = enters_more (f.names ++ e.others) e.after f.by path named said e.enters in
    subst (Grows f) (sym e.is) (record { by = refl; caller = refl; names = (e.others ++ m.0, m.1 ∙ append_assoc f.names e.others m.0); seen = ([], sym (append-nil f.store.seen)) })

enter_alone : (f f' : Files) (path : List ℕ) (named : Named) (said : Result (Unit {0}) EnterFault) → EntersNames among_others f path named said f' → SeesOwn f' → EntersNames nobody f path named said f'
enter_alone f f' path named said e own =
    let m = enters_more (f.names ++ e.others) e.after f.by path named said e.enters in
    let all : AllBy f.by ((f.names ++ e.others) ++ m.0) = subst (AllBy f.by) m.1 (subst SeesOwn e.is own).names in
    let own_gap = own_rest f.by f.names e.others (own_front f.by (f.names ++ e.others) m.0 all) in
    record { others = e.others; is_gap = no_others f.by e.others own_gap e.is_gap; after = e.after; enters = e.enters; is = e.is }

-- ---- requests to the store

abbrev rest_if : Bool → List Heard
rest_if b = if b then [] else []

if_same : (b : Bool) → rest_if b ≡ []
if_same true = refl
if_same false = refl

module _ (law : OwnIsAlone) (made : OwnEventsAreMade) where
  answer_alone : (s : Session) (request : Request) (told : Reply) (s' : Session) → AllOwn s.caller s'.seen → Answers AllOther s request told s' → Answers IsNobody s request told s'
  answer_alone s request told s' own a =
      let rest : List Heard = rest_if (is_quit request) in
      let run : Rounds (ItemReply AllOther) s (Hears.Asked request ∷ rest) (told ∷ []) s' =
      subst (λ l. Rounds (ItemReply AllOther) s (Hears.Asked request ∷ l) (told ∷ []) s') (sym (if_same (is_quit request))) (s', a, refl) in
      let alone : Rounds (ItemReply IsNobody) s (Hears.Asked request ∷ rest) (told ∷ []) s' = (law s (Hears.Asked request ∷ []) (told ∷ []) s' own run).0 in
      let one : Rounds (ItemReply IsNobody) s (Hears.Asked request ∷ []) (told ∷ []) s' =
      subst (λ l. Rounds (ItemReply IsNobody) s (Hears.Asked request ∷ l) (told ∷ []) s') (if_same (is_quit request)) alone in
      subst (λ x. Answers IsNobody s request told x) (sym one.2) one.1

  asks_grow : (f f' : Files) (request : Request) (told : Reply) → AsksStore among_others f request told f' → Grows f f'
  asks_grow f f' request told a =
      let m = made f.store request told a.after a.answers in
      subst (Grows f) (sym a.is) (record { by = refl; caller = m.caller; names = ([], sym (append-nil f.names)); seen = (m.more, m.seen) })

  asks_alone : (f f' : Files) (request : Request) (told : Reply) → AsksStore among_others f request told f' → SeesOwn f' → AsksStore nobody f request told f'
  asks_alone f f' request told a own =
      let m = made f.store request told a.after a.answers in
      let all : AllOwn f.store.caller a.after.seen = subst (λ c. AllOwn c a.after.seen) m.caller (subst SeesOwn a.is own).store in
      record { after = a.after; answers = answer_alone f.store request told a.after all a.answers; is = a.is }

  -- ---- lines

  -- a part of an answer, which only grows and is alone where it sees its own
  record IsPart (f f' : Files) (Among Alone : Type 0) : Type 0 where
    grows : Among → Grows f f'
    alone : Among → SeesOwn f' → Alone

  asks_of : (f f' : Files) (request : Request) (reply : FileReply) → IsPart f f' (AsksOf among_others f request reply f') (AsksOf nobody f request reply f')
  asks_of f f' request reply = record {
    grows = λ a. asks_grow f f' request a.told a.asks;
    alone = λ a own. record { told = a.told; asks = asks_alone f f' request a.told a.asks own; says = a.says };
  }

  recent_of : (f f' : Files) (blob : ℕ) (reply : FileReply) → IsPart f f' (OnRecent among_others f blob reply f') (OnRecent nobody f blob reply f')
  recent_of f f' blob reply = record {
    grows = λ a. asks_grow f f' (Requests.Recent blob) a.0 a.1;
    alone = λ a own. (a.0, asks_alone f f' (Requests.Recent blob) a.0 a.1 own, a.2);
  }

  makes_of : (f f' : Files) (path : List ℕ) (reply : FileReply) → IsPart f f' (MakesFile among_others f path reply f') (MakesFile nobody f path reply f')
  makes_of f f' path reply = record { grows = grow; alone = only }
    where
      grow : MakesFile among_others f path reply f' → Grows f f'
      grow (MakesFile.not_created fault asks says) = asks_grow f f' Requests.Create _ asks
      grow (MakesFile.created mid blob said asks enters says) = then_grows f mid f' (asks_grow f mid Requests.Create _ asks) (enter_grows mid f' path _ said enters)

      only : MakesFile among_others f path reply f' → SeesOwn f' → MakesFile nobody f path reply f'
      only (MakesFile.not_created fault asks says) own = MakesFile.not_created fault (asks_alone f f' Requests.Create _ asks own) says
      only (MakesFile.created mid blob said asks enters says) own =
          MakesFile.created mid blob said (asks_alone f mid Requests.Create _ asks (own_before mid f' (enter_grows mid f' path _ said enters) own)) (enter_alone mid f' path _ said enters own) says

  where_of : (f f' : Files) (blob version offset count : ℕ) (reply : FileReply)
      → IsPart f f' (WhereAnswer among_others f blob version offset count reply f') (WhereAnswer nobody f blob version offset count reply f')
  where_of f f' blob version offset count reply = record { grows = grow; alone = only }
    where
      seen_more : (others : List Event) → f' ≡ with_store f (sees f.store others) → Grows f f'
      seen_more others is = subst (Grows f) (sym is) (record { by = refl; caller = refl; names = ([], sym (append-nil f.names)); seen = (others, refl) })

      gap_of : (others : List Event) → AllOther f.store.caller others → f' ≡ with_store f (sees f.store others) → SeesOwn f' → others ≡ []
      gap_of others gap is own = no_other_events f.store.caller others (events_rest f.store.caller f.store.seen others (subst SeesOwn is own).store) gap

      grow : WhereAnswer among_others f blob version offset count reply f' → Grows f f'
      grow (WhereAnswer.too_long fault long says is) = same_grows f f' is
      grow (WhereAnswer.told others gap short is tells) = seen_more others is
      grow (WhereAnswer.no_memory others gap short is says) = seen_more others is
      grow (WhereAnswer.unsaid others gap short is says) = seen_more others is

      only : WhereAnswer among_others f blob version offset count reply f' → SeesOwn f' → WhereAnswer nobody f blob version offset count reply f'
      only (WhereAnswer.too_long fault long says is) own = WhereAnswer.too_long fault long says is
      only (WhereAnswer.told others gap short is tells) own = WhereAnswer.told others (gap_of others gap is own) short is tells
      only (WhereAnswer.no_memory others gap short is says) own = WhereAnswer.no_memory others (gap_of others gap is own) short is says
      only (WhereAnswer.unsaid others gap short is says) own = WhereAnswer.unsaid others (gap_of others gap is own) short is says

  -- what comes behind a look at the names
  on_blob : (path : List ℕ) (seen f' : Files) (Among Alone : ℕ → FileReply → Files → Type 0) (reply : FileReply) (found : Result ℕ FindFault) → ((blob : ℕ) → IsPart seen f' (Among blob reply f') (Alone blob reply f'))
      → IsPart seen f' (OnBlob path seen Among found reply f') (OnBlob path seen Alone found reply f')
  on_blob path seen f' Among Alone reply (Ok blob) part = part blob
  on_blob path seen f' Among Alone reply (Err fault) part = record { grows = λ a. same_grows seen f' a.1; alone = λ a own. a }

  on_file : (f f' : Files) (path : List ℕ) (Among Alone : Files → ℕ → FileReply → Files → Type 0) (reply : FileReply) → ((seen : Files) (blob : ℕ) → IsPart seen f' (Among seen blob reply f') (Alone seen blob reply f'))
      → IsPart f f' (OnFile among_others f path Among reply f') (OnFile nobody f path Alone reply f')
  on_file f f' path Among Alone reply part = record {
    grows = λ a. then_grows f a.seen f' (looks_grow f a.seen a.looks) ((on_blob path a.seen f' (Among a.seen) (Alone a.seen) reply (blob_at a.seen.names path) (part a.seen)).grows a.goes_on);
    alone = λ a own. let p = on_blob path a.seen f' (Among a.seen) (Alone a.seen) reply (blob_at a.seen.names path) (part a.seen) in
        record { seen = a.seen; looks = looks_alone f a.seen a.looks (own_before a.seen f' (p.grows a.goes_on) own); goes_on = p.alone a.goes_on own };
  }

  on_stat : (path : List ℕ) (seen f' : Files) (reply : FileReply) (found : Option Stat) → IsPart seen f' (OnStat among_others path seen found reply f') (OnStat nobody path seen found reply f')
  on_stat path seen f' reply None = record { grows = λ a. same_grows seen f' a.1; alone = λ a own. a }
  on_stat path seen f' reply (Some (Stats.Folder entries)) = record { grows = λ a. same_grows seen f' a.1; alone = λ a own. a }
  on_stat path seen f' reply (Some (Stats.File blob)) = recent_of seen f' blob reply

  on_free : (path : List ℕ) (seen f' : Files) (reply : FileReply) (found : Option EnterFault) → IsPart seen f' (OnFree among_others path seen found reply f') (OnFree nobody path seen found reply f')
  on_free path seen f' reply None = makes_of seen f' path reply
  on_free path seen f' reply (Some fault) = record { grows = λ a. same_grows seen f' a.1; alone = λ a own. a }

  line_of : (f f' : Files) (line : FileLine) (reply : FileReply) → IsPart f f' (FileAnswers among_others f line reply f') (FileAnswers nobody f line reply f')
  line_of f f' (Lines.Mkdir path) reply = record {
    grows = λ a. enter_grows f f' path _ a.said a.enters;
    alone = λ a own. record { said = a.said; enters = enter_alone f f' path _ a.said a.enters own; is = a.is };
  }
  line_of f f' (Lines.Make path) reply = record {
    grows = λ a. then_grows f a.seen f' (looks_grow f a.seen a.looks) ((on_free path a.seen f' reply (enter_fault a.seen.names path)).grows a.goes_on);
    alone = λ a own. let p = on_free path a.seen f' reply (enter_fault a.seen.names path) in
        record { seen = a.seen; looks = looks_alone f a.seen a.looks (own_before a.seen f' (p.grows a.goes_on) own); goes_on = p.alone a.goes_on own };
  }
  line_of f f' (Lines.Append path bytes) reply = on_file f f' path _ _ reply (λ seen blob. asks_of seen f' (Requests.Append blob bytes) reply)
  line_of f f' (Lines.Read path version offset count) reply = on_file f f' path _ _ reply (λ seen blob. asks_of seen f' (Requests.Read blob version offset count) reply)
  line_of f f' (Lines.Stat path) reply = record {
    grows = λ a. then_grows f a.seen f' (looks_grow f a.seen a.looks) ((on_stat path a.seen f' reply (stat_at a.seen.names path)).grows a.goes_on);
    alone = λ a own. let p = on_stat path a.seen f' reply (stat_at a.seen.names path) in
        record { seen = a.seen; looks = looks_alone f a.seen a.looks (own_before a.seen f' (p.grows a.goes_on) own); goes_on = p.alone a.goes_on own };
  }
  line_of f f' (Lines.List path) reply = record {
    grows = λ a. looks_grow f f' a.looks;
    alone = λ a own. record { looks = looks_alone f f' a.looks own; said = a.said; lists = a.lists; is = a.is };
  }
  line_of f f' (Lines.Where path version offset count) reply = on_file f f' path _ _ reply (λ seen blob. where_of seen f' blob version offset count reply)
  line_of f f' (Lines.Finish ticket) reply = asks_of f f' (Requests.Finish ticket) reply
  line_of f f' Lines.Quit reply = record { grows = λ a. same_grows f f' a.1; alone = λ a own. a }

  item_of : (f f' : Files) (item : FileHeard) (reply : FileReply) → IsPart f f' (FileItemReply among_others f item reply f') (FileItemReply nobody f item reply f')
  item_of f f' (Asked line) reply = line_of f f' line reply
  item_of f f' (Wrong fault) reply = record { grows = λ a. same_grows f f' a.1; alone = λ a own. a }

  rounds_grow : (f : Files) (items : List FileHeard) (replies : List FileReply) (f' : Files) → Rounds (FileItemReply among_others) f items replies f' → Grows f f'
  rounds_grow f [] [] f' run = same_grows f f' run
  rounds_grow f [] (reply ∷ replies) f' run = absurd run
  rounds_grow f (item ∷ items) [] f' run = absurd run
  rounds_grow f (item ∷ items) (reply ∷ replies) f' run = then_grows f run.0 f' ((item_of f run.0 item reply).grows run.1) (rounds_grow run.0 items replies f' run.2)

  pub rounds_alone : (f : Files) (items : List FileHeard) (replies : List FileReply) (f' : Files) → SeesOwn f' → Rounds (FileItemReply among_others) f items replies f'
      → Rounds (FileItemReply nobody) f items replies f'
  rounds_alone f [] [] f' own run = run
  rounds_alone f [] (reply ∷ replies) f' own run = absurd run
  rounds_alone f (item ∷ items) [] f' own run = absurd run
  rounds_alone f (item ∷ items) (reply ∷ replies) f' own run =
      (run.0, (item_of f run.0 item reply).alone run.1 (own_before run.0 f' (rounds_grow run.0 items replies f' run.2) own), rounds_alone run.0 items replies f' own run.2)

  -- the outside failed as often
  pub alone_count : (f : Files) (items : List FileHeard) (replies : List FileReply) (f' : Files) (own : SeesOwn f') (run : Rounds (FileItemReply among_others) f items replies f')
      → sum_rounds file_item_faults (FileItemReply nobody) f items replies f' (rounds_alone f items replies f' own run) ≡ sum_rounds file_item_faults (FileItemReply among_others) f items replies f' run
  unfolding rounds_alone
  alone_count f [] [] f' own run = refl
  alone_count f [] (reply ∷ replies) f' own run = absurd run
  alone_count f (item ∷ items) [] f' own run = absurd run
  alone_count f (item ∷ items) (reply ∷ replies) f' own (mid, answer, run) = ap (λ (n : ℕ). file_item_faults mid item reply + n) (alone_count mid items replies f' own run)
