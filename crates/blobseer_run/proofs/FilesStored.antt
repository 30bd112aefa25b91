-- What a file session was served, from what the store and the names say that were closed behind it.
use Rattle.std.proofs.Common.{◌≡◌, ◌⊎◌, ℕ, ◌==◌, Bool, true, false, cond, if◌then◌else◌, nat_lt, List, [], ◌∷◌, length, sum_by, suc, refl, sym, ◌∙◌, ap, subst, inl, inr, arith}
use Rattle.std.specs.Prelude.{Option}
use Rattle.std.proofs.lemmas.Bool.{false≢true}
use Rattle.std.proofs.lemmas.Bool.Decides.{nat_tests}
use Rattle.blob_model.specs.declared.call.Event.{Event}
use Rattle.request_form.specs.Session.{Session}
use Rattle.request_form.specs.Answers.{max_update}
use Rattle.request_form.specs.Transcript.{first_session}
use Rattle.turn_lock.specs.History.{Log, LacksUngiven, IsUngiven, entries_by, longer}
use Rattle.turn_lock.specs.Shown.{PassView}
use Rattle.version_manager.specs.Log.{events}
use Rattle.version_manager.specs.declared.journal.DeskFixed.{DeskFixed}
use Rattle.client_session.specs.Sessions.{StoreState, session_at, pass_of}
use Rattle.server_core.specs.Conversed.{Input}
use Rattle.server_core.specs.declared.flow.End.{End}
use Rattle.server_core.specs.declared.flow.End.TheVariants as Ends
use Rattle.file_names.specs.Tree as Names
use Rattle.file_names.specs.declared.tree.Entered.{Entered}
use Rattle.file_layer.specs.Files.{Files}
use Rattle.file_layer.specs.Laws.{AllBy}
use Rattle.file_layer.specs.Sessions.{FileState, files_of}
use Rattle.file_layer.specs.Served.{FilePoint, ServedFiles, kept_of, FileKept}
use Rattle.file_layer.proofs.StreamEnds.{unserved}
use Rattle.blobseer_run.specs.Conversation.{input_limit}
use Rattle.blobseer_run.specs.Filing.{ServedLines, ServedNamed}
use Rattle.blobseer_run.proofs.Stores.{first_there}
use Rattle.blobseer_run.proofs.Alone.{one_or_ungiven}

-- ---- histories of one pass

picked : {A : Type 0} (b : Bool) (log : List A) → b ≡ true → (if b then log else []) ≡ log
picked true log is = refl
picked false log is = absurd (false≢true is)

longer_none : {E : Type 0} (log : Log E) → longer [] log ≡ log
longer_none [] = refl
longer_none (x ∷ xs) =
    let is : nat_lt 0 (suc (length xs)) ≡ true = grind (arith, nat_tests) in
    picked (nat_lt 0 (suc (length xs))) (x ∷ xs) is

kept_none : (b : Bool) (x : ℕ × Entered) (xs : Names.NameLog) → b ≡ true → cond b (x ∷ xs) xs ≡ [] → ⊥
kept_none true x xs e none = cc
kept_none false x xs e none = cc

tail_none : (b : Bool) (x : ℕ × Entered) (xs : Names.NameLog) → cond b (x ∷ xs) xs ≡ [] → xs ≡ []
tail_none true x xs none = absurd (let no : x ∷ xs ≡ [] = none in cc)
tail_none false x xs none = none

first_is_one : (x : ℕ × Entered) (xs : Names.NameLog) → LacksUngiven 1 (x ∷ xs) → (n : ℕ) → n ≡ x.0 → (n ≡ 1) ⊎ IsUngiven 1 n → x.0 ≡ 1
first_is_one x xs lacks n same (inl e) = sym same ∙ e
first_is_one x xs lacks n same (inr ungiven) =
    let is : (x.0 == n) ≡ true = grind (arith, nat_tests) in
    absurd (kept_none (x.0 == n) x (entries_by n xs) is (lacks n ungiven))

-- where one pass was made, all entries are its own
pub all_by_one : (log : Names.NameLog) → LacksUngiven 1 log → AllBy 1 log
all_by_one [] lacks = tt
all_by_one (x ∷ xs) lacks = (first_is_one x xs lacks x.0 refl (one_or_ungiven x.0), all_by_one xs (λ c ungiven. tail_none (x.0 == c) x (entries_by c xs) (lacks c ungiven)))

pub entered_by_one : (made : ℕ) (history seen : Names.NameLog) → made ≡ 1 → LacksUngiven made history → history ≡ seen → AllBy 1 seen
entered_by_one made history seen one lacks is = all_by_one seen (subst (LacksUngiven 1) is (subst (λ (n : ℕ). LacksUngiven n history) one lacks))

-- ---- what a session was served

abbrev PassOf : Type 0
PassOf = PassView Event DeskFixed

abbrev NamesPass : Type 0
NamesPass = PassView Entered (Unit {0})

abbrev start_at : StoreState → PassOf → NamesPass → Files
start_at store pass names = record { store = session_at store.fixed pass.caller pass.seen [] 1 max_update; providers = length store.fixed.houses; by = names.caller; names = names.seen }

-- nothing was served for want of memory
pub lines_none : (at : FilePoint) (input : Input) → ServedLines at input input at.session.store.seen at.session.names at.faults at.written Ends.NoMemory
lines_none at input = record { last = at.session; caller = refl; by = refl; saw = refl; entered = refl; served = unserved at input input_limit }

-- the session couldn't be made, and its pass and its doors came back
pub lines_back : {D : Type 0} (faults : D → ℕ) (store : StoreState) (pass back : PassOf) (names : NamesPass) (doors doors' : List D) (input : Input) (written : Option (List ℕ)) → back ≡ pass → doors' ≡ doors
    → ServedLines (record { session = start_at store pass names; faults = sum_by faults doors; written = written }) input input (events back.seen) names.seen (sum_by faults doors') written Ends.NoMemory
lines_back {D} faults store pass back names doors doors' input written same all =
    let start : FilePoint = record { session = start_at store pass names; faults = sum_by faults doors; written = written } in
    let P : PassOf → Type 0 = λ p. ServedLines start input input (events p.seen) names.seen (sum_by faults doors') written Ends.NoMemory in
    let Q : List D → Type 0 = λ ds. ServedLines start input input (events pass.seen) names.seen (sum_by faults ds) written Ends.NoMemory in
    subst P (sym same) (subst Q (sym all) (lines_none start input))

module _ {D : Type 0} (faults : D → ℕ) (store : StoreState) (pass back : PassOf) (names names_back : NamesPass) (doors doors' : List D) (start stop : FileState D) (before after : Input) (written written' : Option (List ℕ)) (end : End) where
  abbrev new : FileState D
  new = record { session = record { store = store; caller = pass.caller; log = pass.seen; held = []; next = 1; doors = doors; limit = max_update; looks_first = false; turns = pass.turns; opened = [] }; names = names }

  abbrev ServedFrom : FileState D → Type 0
  ServedFrom s = ServedFiles (record { session = files_of s; faults = sum_by faults s.session.doors; written = written }) before after input_limit (record { session = files_of stop; faults = sum_by faults stop.session.doors; written = written' }) end

  pub lines_of : start ≡ new → back ≡ pass_of stop.session → names_back ≡ stop.names → doors' ≡ stop.session.doors → kept_of stop ≡ kept_of start → ServedFrom start
      → ServedLines (record { session = start_at store pass names; faults = sum_by faults doors; written = written }) before after (events back.seen) names_back.seen (sum_by faults doors') written' end
  lines_of made gave gave_names same kept served =
      let from_new : ServedFrom new = subst ServedFrom made served in
      let keeps : kept_of stop ≡ kept_of new = kept ∙ ap kept_of made in
      let F : List D → Type 0 = λ ds. ServedFiles (record { session = files_of new; faults = sum_by faults doors; written = written }) before after input_limit (record { session = files_of stop; faults = sum_by faults ds; written = written' }) end in
      record {
        last = files_of stop;
        caller = ap (λ (k : FileKept). k.caller) keeps;
        by = ap (λ (k : FileKept). k.by) keeps;
        saw = ap (λ (p : PassOf). events p.seen) (sym gave);
        entered = ap (λ (p : NamesPass). p.seen) (sym gave_names);
        served = subst F (sym same) from_new;
      }

-- ---- with new names, of which the session had the one pass

pub named_none : (store : StoreState) (pass : PassOf) (faults : ℕ) (input : Input) (written : Option (List ℕ))
    → ServedNamed (record { session = record { store = session_at store.fixed pass.caller pass.seen [] 1 max_update; providers = length store.fixed.houses; by = 1; names = [] }; faults = faults; written = written })
    input input (events pass.seen) faults written Ends.NoMemory
named_none store pass faults input written = record {
  names = [];
  own = tt;
  legal = tt;
  lines = lines_none (record { session = record { store = session_at store.fixed pass.caller pass.seen [] 1 max_update; providers = length store.fixed.houses; by = 1; names = [] }; faults = faults; written = written }) input;
}

module _ (store : StoreState) (pass : PassOf) (names back : NamesPass) (history : Names.NameLog) (owner : Names.NameLog) (made : ℕ) where
  abbrev NamedFrom : ℕ → Names.NameLog → ℕ → Option (List ℕ) → Input → Input → List Event → ℕ → Option (List ℕ) → End → Type 0
  NamedFrom by log faults written before after seen faults' written' end =
      ServedLines (record { session = record { store = session_at store.fixed pass.caller pass.seen [] 1 max_update; providers = length store.fixed.houses; by = by; names = log }; faults = faults; written = written })
      before after seen back.seen faults' written' end

  pub named_of : (faults faults' : ℕ) (written written' : Option (List ℕ)) (before after : Input) (seen : List Event) (end : End) → names.caller ≡ 1 → names.seen ≡ [] → made ≡ 1 → LacksUngiven made history → history ≡ owner
      → owner ≡ longer [] back.seen → Names.IsLegal history → NamedFrom names.caller names.seen faults written before after seen faults' written' end
      → ServedNamed (record { session = record { store = session_at store.fixed pass.caller pass.seen [] 1 max_update; providers = length store.fixed.houses; by = 1; names = [] }; faults = faults; written = written })
      before after seen faults' written' end
  named_of faults faults' written written' before after seen end one none made_one lacks is longest legal lines =
      let same : history ≡ back.seen = is ∙ longest ∙ longer_none back.seen in
      let by_one = subst (λ (n : ℕ). NamedFrom n names.seen faults written before after seen faults' written' end) one lines in
      record {
        names = back.seen;
        own = entered_by_one made history back.seen made_one lacks same;
        legal = subst Names.IsLegal same legal;
        lines = subst (λ (l : Names.NameLog). NamedFrom 1 l faults written before after seen faults' written' end) none by_one;
      }

-- ---- by the first session of a new store

module _ (store : StoreState) (faults faults' : ℕ) (written written' : Option (List ℕ)) (before after : Input) (seen : List Event) (end : End) where
  abbrev FromFirst : Session → ℕ → Type 0
  FromFirst session providers = ServedNamed (record { session = record { store = session; providers = providers; by = 1; names = [] }; faults = faults; written = written }) before after seen faults' written' end

  pub first_named : (caller : ℕ) (log : Log Event) → caller ≡ 1 → log ≡ [] → length store.fixed.houses ≡ store.providers → FromFirst (session_at store.fixed caller log [] 1 max_update) (length store.fixed.houses)
      → FromFirst (first_session (record { limits = store.fixed.limits; page = store.fixed.page_size }) 1) store.providers
  first_named caller log one none housed named =
      let by_first = subst (λ (s : Session). FromFirst s (length store.fixed.houses)) (first_there store.fixed caller log one none) named in
      subst (λ (n : ℕ). FromFirst (first_session (record { limits = store.fixed.limits; page = store.fixed.page_size }) 1) n) housed by_first
