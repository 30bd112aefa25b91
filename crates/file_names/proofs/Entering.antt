-- What stays true of the folders of a history as a path is entered.
use Rattle.std.proofs.Common.{◌≡◌, ℕ, ◌+◌, ◌<◌, Bool, true, false, cond, ◌&&◌, List, [], ◌∷◌, ◌++◌, length, Option, Some, None, refl, sym, ap, subst, ◌∙◌, append_assoc, append-nil, arith}
use Rattle.std.specs.Prelude.{if◌then◌else◌, nat_le, IsSome, is_some}
use Rattle.std.specs.Str.{bytes_eq}
use Rattle.std.specs.Cmp.Lexicographic.{bytes_decides}
use Rattle.std.proofs.lemmas.Bool.{cond-true, cond-false, false≢true}
use Rattle.std.proofs.lemmas.List.{length_push}
use Rattle.std.proofs.lemmas.List.Sums.{sum_by-append}
use Rattle.file_names.specs.Paths.{is_name, is_path, is_root, parent_of, name_of, child_of}
use Rattle.file_names.specs.Tree.{NameLog, most_names, entered_at, named_at, fault_under, enter_fault, IsLegalBehind, entries_in}
use Rattle.file_names.specs.Folders.{Folders, entries_at, kept_at, count_at, named_in, Keeps, HasPath, AreOf}
use Rattle.file_names.specs.declared.tree.Named.{Named}
use Rattle.file_names.specs.declared.tree.Named.TheVariants.{Folder, File}
use Rattle.file_names.specs.declared.tree.Entered.{Entered}
use Rattle.file_names.specs.declared.tree.EnterFault.TheVariants as EnterFaults
use Rattle.file_names.proofs.Splitting.{path_cut, parent_ok, and_both}
use Rattle.file_names.proofs.Children.{same_child}

-- ---- what a history has behind one more entry

entered_apart : (x e : Entered) (xs : Option Named) → (b : Bool) → bytes_eq x.path e.path ≡ b → (if b then Some x.named else xs) ≡ None → (bytes_eq x.path e.path ≡ false) × (xs ≡ None)
entered_apart x e xs true h none = absurd (grind arith)
entered_apart x e xs false h none = (h, none)

past_first : (x e : Entered) (q : List ℕ) (more : Option Named) → bytes_eq x.path e.path ≡ false → (b : Bool) → bytes_eq x.path q ≡ b
    → (if b then Some x.named else cond (bytes_eq e.path q) (Some e.named) more) ≡ cond (bytes_eq e.path q) (Some e.named) (if b then Some x.named else more)
past_first x e q more apart true h = sym (cond-false (bytes_eq e.path q) _ _ (not_equal (bytes_eq e.path q) refl))
  where
    not_equal : (t : Bool) → bytes_eq e.path q ≡ t → bytes_eq e.path q ≡ false
    not_equal true y = absurd (false≢true (sym apart ∙ (bytes_decides x.path e.path).1 ((bytes_decides x.path q).0 h ∙ sym ((bytes_decides e.path q).0 y))))
    not_equal false n = n
past_first x e q more apart false h = refl

pub entered_push : (log : NameLog) (e : ℕ × Entered) (q : List ℕ) → entered_at log e.1.path ≡ None → entered_at (log ++ e ∷ []) q ≡ cond (bytes_eq e.1.path q) (Some e.1.named) (entered_at log q)
entered_push [] e q none = refl
entered_push (x ∷ xs) e q none =
    let both = entered_apart x.1 e.1 (entered_at xs e.1.path) (bytes_eq x.1.path e.1.path) refl none in
    ap (λ o. if bytes_eq x.1.path q then Some x.1.named else o) (entered_push xs e q both.1) ∙ past_first x.1 e.1 q (entered_at xs q) both.0 (bytes_eq x.1.path q) refl

pub count_push : (log : NameLog) (e : ℕ × Entered) (folder : List ℕ) → entries_in (log ++ e ∷ []) folder ≡ entries_in log folder + (if bytes_eq (parent_of e.1.path) folder then 1 else 0)
count_push log e folder =
    let weigh : ℕ × Entered → ℕ = λ x. cond (bytes_eq (parent_of x.1.path) folder) 1 0 in
    sum_by-append weigh log (e ∷ []) ∙ omega arith

pub legal_push : (before xs : NameLog) (e : ℕ × Entered) → IsLegalBehind before xs → is_path e.1.path ≡ true → enter_fault (before ++ xs) e.1.path ≡ None → IsLegalBehind before (xs ++ e ∷ [])
legal_push before [] e legal ok may = (ok, subst (λ l. enter_fault l e.1.path ≡ None) (append-nil before) may, tt)
legal_push before (x ∷ xs) e legal ok may = (legal.0, legal.1, legal_push (before ++ x ∷ []) xs e legal.2 ok (subst (λ l. enter_fault l e.1.path ≡ None) (sym (append_assoc before (x ∷ []) xs)) may))

-- ---- a path that can be entered

pub record MayEnter (log : NameLog) (path : List ℕ) : Type 0 where
  pub other : is_root path ≡ false
  pub parent : named_at log (parent_of path) ≡ Some Folder
  pub absent : entered_at log path ≡ None
  pub room : length log < most_names

room_at : (log : NameLog) (b : Bool) → nat_le most_names (length log) ≡ b → (if b then Some EnterFaults.TooManyNames else None) ≡ None → length log < most_names
room_at log true e none = absurd (grind arith)
room_at log false e none = grind arith

EndsAt : NameLog → Option Named → Type 0
EndsAt log here = elim here [ Some named ↦ Some EnterFaults.Exists | None ↦ if nat_le most_names (length log) then Some EnterFaults.TooManyNames else None ] ≡ None

ends_at : (log : NameLog) (here : Option Named) → EndsAt log here → (here ≡ None) × (length log < most_names)
unfolding EndsAt
ends_at log None h = (refl, room_at log (nat_le most_names (length log)) refl h)
ends_at log (Some named) h = absurd (grind arith)

under : (log : NameLog) (path : List ℕ) (up : Option Named) → fault_under up log path ≡ None → (up ≡ Some Folder) × (named_at log path ≡ None) × (length log < most_names)
unfolding EndsAt
under log path None h = absurd (grind arith)
under log path (Some (File blob)) h = absurd (grind arith)
under log path (Some Folder) h = let e = ends_at log (named_at log path) h in (refl, e.0, e.1)

may_at : (log : NameLog) (path : List ℕ) (b : Bool) → is_root path ≡ b → (if b then Some EnterFaults.Exists else fault_under (named_at log (parent_of path)) log path) ≡ None → MayEnter log path
may_at log path true e h = absurd (grind arith)
may_at log path false e h =
    let all = under log path (named_at log (parent_of path)) h in
    record { other = e; parent = all.0; absent = sym (cond-false (is_root path) (Some Folder) (entered_at log path) e) ∙ all.1; room = all.2 }

pub may_enter : (log : NameLog) (path : List ℕ) → enter_fault log path ≡ None → MayEnter log path
may_enter log path h = may_at log path (is_root path) refl h

some_same : {X : Type 0} {x y : X} → Some x ≡ Some y → x ≡ y
some_same e = cc

-- ---- what the folders of a history have

pub named_ok : (log : NameLog) (folders : Folders) → AreOf log folders → (path : List ℕ) → is_path path ≡ true → named_in folders path ≡ named_at log path
named_ok log folders are path ok = at_root (is_root path) refl
  where
    at_root : (b : Bool) → is_root path ≡ b → (if b then Some Folder else kept_at folders (parent_of path) (name_of path)) ≡ (if b then Some Folder else entered_at log path)
    at_root true e = refl
    at_root false e = let cut = path_cut path ok e in are.kept (parent_of path) (name_of path) cut.parent cut.name ∙ ap (entered_at log) cut.joins

-- the folder into which a path can be entered has a map
pub parent_open : (log : NameLog) (folders : Folders) → AreOf log folders → (path : List ℕ) → is_path path ≡ true → enter_fault log path ≡ None → IsSome (entries_at folders (parent_of path))
parent_open log folders are path ok may = are.opened (parent_of path) (parent_ok path ok) (may_enter log path may).parent

module _ (log : NameLog) (old new : Folders) (by : ℕ) (path : List ℕ) (named : Named) (are : AreOf log old) (ok : is_path path ≡ true) (may : enter_fault log path ≡ None) (has : HasPath old path named new) where
  entry : ℕ × Entered
  entry = (by, record { path = path; named = named })

  can : MayEnter log path
  can = may_enter log path may

  after : NameLog
  after = log ++ entry ∷ []

  now_at : (q : List ℕ) → entered_at after q ≡ cond (bytes_eq path q) (Some named) (entered_at log q)
  unfolding entry after
  now_at q = entered_push log entry q can.absent

  -- the parent had no such entry
  none_before : kept_at has.between (parent_of path) (name_of path) ≡ None
  none_before =
      let cut = path_cut path ok can.other in
      has.keeps.kept (parent_of path) (name_of path) ∙ are.kept (parent_of path) (name_of path) cut.parent cut.name ∙ ap (entered_at log) cut.joins ∙ can.absent

  kept_after : (folder name : List ℕ) → is_path folder ≡ true → is_name name ≡ true → kept_at new folder name ≡ entered_at after (child_of folder name)
  kept_after folder name in_ok is =
      has.put.kept folder name
      ∙ ap (λ b. if b then Some named else kept_at has.between folder name) (sym (same_child path folder name ok can.other in_ok is))
      ∙ ap (λ o. if bytes_eq path (child_of folder name) then Some named else o) (has.keeps.kept folder name ∙ are.kept folder name in_ok is)
      ∙ sym (now_at (child_of folder name))

  name_after : (folder name : List ℕ) (b : Bool) → (bytes_eq (parent_of path) folder && bytes_eq (name_of path) name) ≡ b → IsSome (if b then Some named else kept_at has.between folder name) → is_name name ≡ true
  name_after folder name true e some = subst (λ n. is_name n ≡ true) ((bytes_decides (name_of path) name).0 (and_both (bytes_eq (parent_of path) folder) _ e).1) (path_cut path ok can.other).name
  name_after folder name false e some = are.names folder name (subst IsSome (has.keeps.kept folder name) some)

  count_after : (folder : List ℕ) → is_path folder ≡ true → count_at new folder ≡ entries_in after folder
  unfolding entry after
  count_after folder in_ok =
      has.put.counts folder
      ∙ ap (λ o. count_at has.between folder + (if bytes_eq (parent_of path) folder then (if is_some o then 0 else 1) else 0)) none_before
      ∙ ap (λ n. n + (if bytes_eq (parent_of path) folder then 1 else 0)) (has.keeps.counts folder ∙ are.counts folder in_ok)
      ∙ sym (count_push log entry folder)

  open_rest : (folder : List ℕ) → IsSome (entries_at old folder) → IsSome (entries_at new folder)
  open_rest folder some = has.put.others folder (has.keeps.others folder some)

  open_entered : (folder : List ℕ) → is_path folder ≡ true → is_root folder ≡ false → (b : Bool) → bytes_eq path folder ≡ b → cond b (Some named) (entered_at log folder) ≡ Some Folder → IsSome (entries_at new folder)
  open_entered folder in_ok other true e is = has.put.others folder (subst (λ f. IsSome (entries_at has.between f)) ((bytes_decides path folder).0 e) (has.opened (some_same is)))
  open_entered folder in_ok other false e is = open_rest folder (are.opened folder in_ok (cond-false (is_root folder) (Some Folder) (entered_at log folder) other ∙ is))

  open_after : (folder : List ℕ) → is_path folder ≡ true → (b : Bool) → is_root folder ≡ b → (if b then Some Folder else entered_at after folder) ≡ Some Folder → IsSome (entries_at new folder)
  open_after folder in_ok true e is = open_rest folder (are.opened folder in_ok (cond-true (is_root folder) (Some Folder) (entered_at log folder) e))
  open_after folder in_ok false e is = open_entered folder in_ok e (bytes_eq path folder) refl (sym (now_at folder) ∙ is)

  -- behind the entry the folders are those of the history with it
  pub entered_ok : AreOf (log ++ (by, record { path = path; named = named }) ∷ []) new
  unfolding entry after
  entered_ok = record {
    legal = legal_push [] log entry are.legal ok may;
    few = omega (arith, length_push log entry, can.room);
    kept = kept_after;
    names = λ folder name some. name_after folder name (bytes_eq (parent_of path) folder && bytes_eq (name_of path) name) refl (subst IsSome (has.put.kept folder name) some);
    counts = count_after;
    opened = λ folder in_ok is. open_after folder in_ok (is_root folder) refl is;
  }

-- where nothing was put into a folder they are those of the history still
pub kept_ok : (log : NameLog) (old new : Folders) → AreOf log old → Keeps old new → AreOf log new
kept_ok log old new are keeps = record {
  legal = are.legal;
  few = are.few;
  kept = λ folder name in_ok is. keeps.kept folder name ∙ are.kept folder name in_ok is;
  names = λ folder name some. are.names folder name (subst IsSome (keeps.kept folder name) some);
  counts = λ folder in_ok. keeps.counts folder ∙ are.counts folder in_ok;
  opened = λ folder in_ok is. keeps.others folder (are.opened folder in_ok is);
}
