-- A file session's entries stand in the names' history once, in order.
use Rattle.std.proofs.Common.{◌≡◌, ℕ, Bool, cond, List, [], ◌∷◌, ◌++◌, map, Option, Some, None, Result, Ok, Err, refl, sym, ap, subst, ◌∙◌, append_assoc, append-nil}
use Rattle.std.specs.Prelude.{◌==◌}
use Rattle.std.proofs.lemmas.Bool.{eq-eqb}
use Rattle.std.proofs.lemmas.List.{map-append}
use Rattle.std.proofs.lemmas.List.Elements.{filter-append}
use Rattle.items.specs.Rounds.{Rounds}
use Rattle.turn_lock.specs.History.{entries_by}
use Rattle.file_names.specs.Tree.{NameLog, blob_at, stat_at, enter_fault}
use Rattle.file_names.specs.Tree as Tree
use Rattle.file_names.specs.declared.tree.Named.{Named}
use Rattle.file_names.specs.declared.tree.Named.TheVariants as Nameds
use Rattle.file_names.specs.declared.tree.Entered.{Entered}
use Rattle.file_names.specs.declared.tree.Stat.{Stat}
use Rattle.file_names.specs.declared.tree.Stat.TheVariants as Stats
use Rattle.file_names.specs.declared.tree.EnterFault.{EnterFault}
use Rattle.file_names.specs.declared.tree.EnterFault.TheVariants as EnterFaults
use Rattle.file_names.specs.declared.tree.FindFault.{FindFault}
use Rattle.file_names.specs.declared.form.FileLine.{FileLine}
use Rattle.file_names.specs.declared.form.FileLine.TheVariants as Lines
use Rattle.file_names.specs.declared.form.FileReply.{FileReply}
use Rattle.file_names.specs.declared.form.FileReply.TheVariants as Says
use Rattle.file_names.specs.declared.form.FileHeard.{FileHeard}
use Rattle.file_names.specs.declared.form.FileHeard.TheVariants.{Asked, Wrong}
use Rattle.request_form.specs.Session.{Session, sees}
use Rattle.file_layer.specs.Files.{Files, among_others, with_store, LooksAtNames, EntersNames, OnBlob, OnFile, MakesFile, OnFree, OnStat, WhereAnswer, FileAnswers, FileItemReply, store_fault, enter_refused, entered_reply}
use Rattle.file_layer.specs.Laws.{Enters, folder_made, file_made, line_made, item_made, all_made}

-- a list with its caller
abbrev tagged : ℕ → List Entered → NameLog
tagged by made = map (λ (e : Entered). let x : ℕ × Entered = (by, e) in x) made

by_append : (by : ℕ) (xs ys : NameLog) → entries_by by (xs ++ ys) ≡ entries_by by xs ++ entries_by by ys
by_append by xs ys = filter-append (λ (x : ℕ × Entered). x.0 == by) xs ys

own_one : (by : ℕ) (e : Entered) → entries_by by ((by, e) ∷ []) ≡ (by, e) ∷ []
own_one by e = ap (λ (b : Bool). let l : NameLog = cond b ((by, e) ∷ []) [] in l) (eq-eqb by by refl)

none : (f f' : Files) → f'.by ≡ f.by → f'.names ≡ f.names → Enters f [] f'
none f f' by names = record { by = by; own = ap (λ (l : NameLog). entries_by f.by l) names ∙ sym (append-nil (entries_by f.by f.names)) }

same : (f f' : Files) → f' ≡ f → Enters f [] f'
same f f' is = none f f' (ap (λ (g : Files). g.by) is) (ap (λ (g : Files). g.names) is)

goes_on : (f g h : Files) (first later : List Entered) → Enters f first g → Enters g later h → Enters f (first ++ later) h
goes_on f g h first later a b = record {
  by = b.by ∙ a.by;
  own =
      subst (λ (c : ℕ). entries_by c h.names ≡ entries_by c g.names ++ tagged c later) a.by b.own
      ∙ ap (λ (l : NameLog). l ++ tagged f.by later) a.own
      ∙ append_assoc (entries_by f.by f.names) (tagged f.by first) (tagged f.by later)
      ∙ ap (λ (l : NameLog). entries_by f.by f.names ++ l) (sym (map-append (λ (e : Entered). let x : ℕ × Entered = (f.by, e) in x) first later));
}

looks : (f seen : Files) → LooksAtNames among_others f seen → Enters f [] seen
looks f seen l = record {
  by = ap (λ (g : Files). g.by) l.is;
  own =
      ap (λ (g : Files). entries_by f.by g.names) l.is ∙ by_append f.by f.names l.others ∙ ap (λ (x : NameLog). entries_by f.by f.names ++ x) l.is_gap;
}

asks : (f f' : Files) (after : Session) → f' ≡ with_store f after → Enters f [] f'
asks f f' after is = none f f' (ap (λ (g : Files). g.by) is) (ap (λ (g : Files). g.names) is)

-- what was entered
abbrev made_of : List ℕ → Named → Result (Unit {0}) EnterFault → List Entered
made_of path named (Ok done) = record { path = path; named = named } ∷ []
made_of path named (Err fault) = []

entered : (by : ℕ) (names others after : NameLog) (path : List ℕ) (named : Named) (said : Result (Unit {0}) EnterFault) → entries_by by others ≡ [] → Tree.Enters (names ++ others) by path named said after
    → entries_by by after ≡ entries_by by names ++ tagged by (made_of path named said)
entered by names others after path named said gap enters = cases said enters
  where
    old : entries_by by (names ++ others) ≡ entries_by by names ++ []
    old = by_append by names others ∙ ap (λ (l : NameLog). entries_by by names ++ l) gap

    stays : after ≡ names ++ others → entries_by by after ≡ entries_by by names ++ []
    stays is = ap (λ (l : NameLog). entries_by by l) is ∙ old

    cases : (said : Result (Unit {0}) EnterFault) → Tree.Enters (names ++ others) by path named said after → entries_by by after ≡ entries_by by names ++ tagged by (made_of path named said)
    cases (Ok done) h =
        let e : Entered = record { path = path; named = named } in
        ap (λ (l : NameLog). entries_by by l) h.1 ∙ by_append by (names ++ others) ((by, e) ∷ []) ∙ ap (λ (l : NameLog). l ++ entries_by by ((by, e) ∷ [])) (old ∙ append-nil (entries_by by names))
        ∙ ap (λ (l : NameLog). entries_by by names ++ l) (own_one by e)
    cases (Err EnterFaults.NoMemory) h = stays h
    cases (Err EnterFaults.NoParent) h = stays h.1
    cases (Err EnterFaults.ParentNotFolder) h = stays h.1
    cases (Err EnterFaults.Exists) h = stays h.1
    cases (Err EnterFaults.TooManyNames) h = stays h.1

enters : (f f' : Files) (path : List ℕ) (named : Named) (said : Result (Unit {0}) EnterFault) → EntersNames among_others f path named said f' → Enters f (made_of path named said) f'
enters f f' path named said e = record {
  by = ap (λ (g : Files). g.by) e.is;
  own = ap (λ (g : Files). entries_by f.by g.names) e.is ∙ entered f.by f.names e.others e.after path named said e.is_gap e.enters;
}

-- the reply tells of it
folder_told : (path : List ℕ) (said : Result (Unit {0}) EnterFault) → made_of path Nameds.Folder said ≡ folder_made path (entered_reply (Says.Folder path) path said)
folder_told path (Ok done) = refl
folder_told path (Err EnterFaults.NoParent) = refl
folder_told path (Err EnterFaults.ParentNotFolder) = refl
folder_told path (Err EnterFaults.Exists) = refl
folder_told path (Err EnterFaults.TooManyNames) = refl
folder_told path (Err EnterFaults.NoMemory) = refl

file_told : (path : List ℕ) (blob : ℕ) (said : Result (Unit {0}) EnterFault) → made_of path (Nameds.File blob) said ≡ file_made path (entered_reply (Says.File path blob) path said)
file_told path blob (Ok done) = refl
file_told path blob (Err EnterFaults.NoParent) = refl
file_told path blob (Err EnterFaults.ParentNotFolder) = refl
file_told path blob (Err EnterFaults.Exists) = refl
file_told path blob (Err EnterFaults.TooManyNames) = refl
file_told path blob (Err EnterFaults.NoMemory) = refl

refused_makes : (path : List ℕ) (fault : EnterFault) → file_made path (enter_refused path fault) ≡ []
refused_makes path EnterFaults.NoParent = refl
refused_makes path EnterFaults.ParentNotFolder = refl
refused_makes path EnterFaults.Exists = refl
refused_makes path EnterFaults.TooManyNames = refl
refused_makes path EnterFaults.NoMemory = refl

module _ (f' : Files) (reply : FileReply) where
  by_reply : (f : Files) (made : List Entered) (told : FileReply → List Entered) (other : FileReply) → reply ≡ other → made ≡ told other → Enters f made f' → Enters f (told reply) f'
  by_reply f made told other says is h = subst (λ (l : List Entered). Enters f l f') (is ∙ ap told (sym says)) h

  makes : (f : Files) (path : List ℕ) → MakesFile among_others f path reply f' → Enters f (file_made path reply) f'
  makes f path (MakesFile.not_created fault a says) = by_reply f [] (file_made path) (store_fault fault) says refl (asks f f' a.after a.is)
  makes f path (MakesFile.created mid blob said a e says) =
      by_reply f (made_of path (Nameds.File blob) said) (file_made path) (entered_reply (Says.File path blob) path said) says (file_told path blob said)
      (goes_on f mid f' [] (made_of path (Nameds.File blob) said) (asks f mid a.after a.is) (enters mid f' path (Nameds.File blob) said e))

  on_free : (f : Files) (path : List ℕ) (o : Option EnterFault) → OnFree among_others path f o reply f' → Enters f (file_made path reply) f'
  on_free f path None h = makes f path h
  on_free f path (Some fault) h = by_reply f [] (file_made path) (enter_refused path fault) h.0 (sym (refused_makes path fault)) (same f f' h.1)

  on_blob : (f : Files) (path : List ℕ) (Ask : ℕ → FileReply → Files → Type 0) (o : Result ℕ FindFault) → ((blob : ℕ) → Ask blob reply f' → Enters f [] f') → OnBlob path f Ask o reply f' → Enters f [] f'
  on_blob f path Ask (Ok blob) goes h = goes blob h
  on_blob f path Ask (Err fault) goes h = same f f' h.1

  on_file : (f : Files) (path : List ℕ) (Ask : Files → ℕ → FileReply → Files → Type 0) → ((seen : Files) (blob : ℕ) → Ask seen blob reply f' → Enters seen [] f') → OnFile among_others f path Ask reply f' → Enters f [] f'
  on_file f path Ask goes h = goes_on f h.seen f' [] [] (looks f h.seen h.looks) (on_blob h.seen path (Ask h.seen) (blob_at h.seen.names path) (goes h.seen) h.goes_on)

  on_stat : (f : Files) (path : List ℕ) (o : Option Stat) → OnStat among_others path f o reply f' → Enters f [] f'
  on_stat f path None h = same f f' h.1
  on_stat f path (Some (Stats.Folder entries)) h = same f f' h.1
  on_stat f path (Some (Stats.File blob)) h = asks f f' h.1.after h.1.is

  places : (f : Files) (blob version offset count : ℕ) → WhereAnswer among_others f blob version offset count reply f' → Enters f [] f'
  places f blob version offset count (WhereAnswer.too_long fault long says is) = same f f' is
  places f blob version offset count (WhereAnswer.told others gap short is tells) = asks f f' (sees f.store others) is
  places f blob version offset count (WhereAnswer.no_memory others gap short is says) = asks f f' (sees f.store others) is
  places f blob version offset count (WhereAnswer.unsaid others gap short is says) = asks f f' (sees f.store others) is

  line_enters : (f : Files) (line : FileLine) → FileAnswers among_others f line reply f' → Enters f (line_made line reply) f'
  line_enters f (Lines.Mkdir path) h =
      by_reply f (made_of path Nameds.Folder h.said) (folder_made path) (entered_reply (Says.Folder path) path h.said) h.is (folder_told path h.said) (enters f f' path Nameds.Folder h.said h.enters)
  line_enters f (Lines.Make path) h = goes_on f h.seen f' [] (file_made path reply) (looks f h.seen h.looks) (on_free h.seen path (enter_fault h.seen.names path) h.goes_on)
  line_enters f (Lines.Append path bytes) h = on_file f path _ (λ seen blob a. asks seen f' a.asks.after a.asks.is) h
  line_enters f (Lines.Read path version offset count) h = on_file f path _ (λ seen blob a. asks seen f' a.asks.after a.asks.is) h
  line_enters f (Lines.Stat path) h = goes_on f h.seen f' [] [] (looks f h.seen h.looks) (on_stat h.seen path (stat_at h.seen.names path) h.goes_on)
  line_enters f (Lines.List path) h = looks f f' h.looks
  line_enters f (Lines.Where path version offset count) h = on_file f path _ (λ seen blob a. places seen blob version offset count a) h
  line_enters f (Lines.Finish ticket) h = asks f f' h.asks.after h.asks.is
  line_enters f Lines.Quit h = same f f' h.1

  item_enters : (f : Files) (item : FileHeard) → FileItemReply among_others f item reply f' → Enters f (item_made item reply) f'
  item_enters f (Asked line) h = line_enters f line h
  item_enters f (Wrong fault) h = same f f' h.1

pub rounds_enter : (f : Files) (items : List FileHeard) (replies : List FileReply) (f' : Files) → Rounds (FileItemReply among_others) f items replies f' → Enters f (all_made items replies) f'
rounds_enter f [] [] f' run = same f f' run
rounds_enter f [] (reply ∷ replies) f' run = absurd run
rounds_enter f (item ∷ items) [] f' run = absurd run
rounds_enter f (item ∷ items) (reply ∷ replies) f' (mid, first, run) = goes_on f mid f' (item_made item reply) (all_made items replies) (item_enters mid reply f item first) (rounds_enter mid items replies f' run)
