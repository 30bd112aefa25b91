-- What a session of files that is alone has seen, as a map of paths: each of its files is a blob of the store, no two are the same blob, and each ticket is one
-- of a file.
use Rattle.std.proofs.Common.{◌≡◌, ℕ, ◌+◌, ◌≤◌, suc, Bool, true, false, List, [], ◌∷◌, ◌++◌, length, Option, Some, None, refl, sym, ap, subst, ◌∙◌, arith}
use Rattle.std.specs.Prelude.{◌≢◌, ◌-◌, ◌==◌, if◌then◌else◌, slice_get, slice_set, slice_index_or}
use Rattle.std.specs.Str.{bytes_eq}
use Rattle.std.proofs.lemmas.Bool.Decides.{nat_tests}
use Rattle.std.proofs.lemmas.List.{length-set, set-get_or}
use Rattle.std.proofs.lemmas.Option.{none-some, same_Some, slice_get_within}
use Rattle.blob_model.specs.Store.{Store, Blob, blob_at, with_blob, and_blob, is_finished, finish, published}
use Rattle.blob_model.specs.Answer.{Answered, answer, refuse, unless_refused, already}
use Rattle.blob_model.specs.History.{store_of}
use Rattle.blob_model.specs.declared.call.Event.{Event}
use Rattle.blob_model.specs.declared.call.Call.TheVariants as Calls
use Rattle.blob_model.specs.declared.call.Outcome.TheVariants as Outcomes
use Rattle.blob_model.specs.declared.call.Refusal.TheVariants as Refusals
use Rattle.version_manager.proofs.Stores.{in_blob_here, get-push_last}
use Rattle.blob_model.proofs.Marks.{get-set_other, get-push_other, item_under, blob_at-with}
use Rattle.request_form.specs.Session.{Session, HeldTicket, ticket_at, without_ticket}
use Rattle.request_form.specs.Answers.{max_update}
use Rattle.file_names.specs.Tree.{NameLog}
use Rattle.file_names.specs.declared.tree.Named.{Named}
use Rattle.file_names.specs.declared.tree.Named.TheVariants as Nameds
use Rattle.file_names.specs.declared.tree.Entered.{Entered}
use Rattle.file_layer.specs.Files.{Files, with_names}
use Rattle.file_layer.specs.PathMap.{Thing, HeldAppend, PathMap, thing_in, thing_at, with_content, put_in, held_in, without_held}
use Rattle.file_layer.proofs.PathMaps.{Things, named_of, names_of, Keeps, pushes_keep, push_names}

-- ---- a store in which one blob changed

-- the blob under that id became this, and all others are as they were
pub record Changes (s : Store) (blob : ℕ) (b : Blob) (s' : Store) : Type 0 where
  pub here : blob_at s' blob ≡ Some b
  pub others : (other : ℕ) → other ≢ blob → blob_at s' other ≡ blob_at s other
  pub count : length s'.blobs ≡ length s.blobs

some_id : (s : Store) (blob : ℕ) (b : Blob) → blob_at s blob ≡ Some b → (blob == 0) ≡ false
some_id s blob b h = (item_under (blob == 0) (slice_get s.blobs (blob - 1)) b h).0

pub within : (s : Store) (blob : ℕ) (b : Blob) → blob_at s blob ≡ Some b → (1 ≤ blob) × (blob ≤ length s.blobs)
within s blob b h =
    let at = item_under (blob == 0) (slice_get s.blobs (blob - 1)) b h in
    let lt = slice_get_within s.blobs (blob - 1) b at.1 in
    (grind (arith, nat_tests, at.0), grind (arith, nat_tests, at.0, lt))

apart_by_one : (m n : ℕ) → (n == 0) ≡ false → m ≢ n → (m == 0) ≡ false → m - 1 ≡ n - 1 → ⊥
apart_by_one m n some apart other e = apart (grind (arith, nat_tests, some, other, e))

other_same : (s : Store) (blob : ℕ) (b : Blob) (other : ℕ) (none : Bool) → (other == 0) ≡ none → (blob == 0) ≡ false → other ≢ blob
    → (if none then None else slice_get (slice_set s.blobs (blob - 1) b) (other - 1)) ≡ (if none then None else slice_get s.blobs (other - 1))
other_same s blob b other true is some apart = refl
other_same s blob b other false is some apart = get-set_other s.blobs (blob - 1) (other - 1) b (apart_by_one other blob some apart is)

pub with_changes : (s : Store) (blob : ℕ) (old b : Blob) → blob_at s blob ≡ Some old → Changes s blob b (with_blob s blob b)
with_changes s blob old b h = record {
  here = blob_at-with s blob old b h;
  others = λ other apart. other_same s blob b other (other == 0) refl (some_id s blob old h) apart;
  count = length-set s.blobs (blob - 1) b;
}

pub then_changes : (s s' s'' : Store) (blob : ℕ) (b b' : Blob) → Changes s blob b s' → Changes s' blob b' s'' → Changes s blob b' s''
then_changes s s' s'' blob b b' c d = record { here = d.here; others = λ other apart. d.others other apart ∙ c.others other apart; count = d.count ∙ c.count }

same_changes : (s : Store) (blob : ℕ) (b : Blob) → blob_at s blob ≡ Some b → Changes s blob b s
same_changes s blob b h = record { here = h; others = λ other apart. refl; count = refl }

-- a version that is finished already isn't changed by that
set_true : (bs : List Bool) (i : ℕ) → slice_index_or bs i false ≡ true → slice_set bs i true ≡ bs
set_true bs i e = ap (λ (b : Bool). slice_set bs i b) (sym e) ∙ set-get_or bs i false

was_finished : (b : Blob) (version : ℕ) (none : Bool) → (version == 0) ≡ none → (if none then true else slice_index_or b.finished (version - 1) false) ≡ true → 1 ≤ version → finish b version ≡ b
was_finished b version true is e some = absurd (let z : version ≡ 0 = grind (arith, nat_tests, is) in let no : ⊥ = omega (arith, z, some) in no)
was_finished b version false is e some = ap (λ (bs : List Bool). let x : Blob = record { updates = b.updates; finished = bs } in x) (set_true b.finished (version - 1) e)

-- a finish of a version finishes it, also where it is refused
pub finish_changes : (s : Store) (caller blob version : ℕ) (b : Blob) → blob_at s blob ≡ Some b → 1 ≤ version → Changes s blob (finish b version) (answer s caller (Calls.Finish blob version)).0
finish_changes s caller blob version b there some =
    subst (λ (a : Answered). Changes s blob (finish b version) a.0)
    (sym (in_blob_here s blob b (λ x. unless_refused s (already x version ∷ []) (with_blob s blob (finish x version), Outcomes.Published (published (finish x version)))) there))
    (marked (is_finished b version) refl)
  where
    marked : (done : Bool) → is_finished b version ≡ done
        → Changes s blob (finish b version)
        (let a : Answered = elim (if done then Some (Refusals.Already version) else None) [ Some r ↦ refuse s r | None ↦ (with_blob s blob (finish b version), Outcomes.Published (published (finish b version))) ] in a).0
    marked true is = subst (λ (x : Blob). Changes s blob x s) (sym (was_finished b version (version == 0) refl is some)) (same_changes s blob b there)
    marked false is = with_changes s blob b (finish b version) there

-- ---- the blobs of a map, each once

abbrev IsOther : ℕ → Named → Type 0
IsOther blob Nameds.Folder = Unit {0}
IsOther blob (Nameds.File other) = other ≢ blob

abbrev Lacks : ℕ → NameLog → Type 0
Lacks blob [] = Unit {0}
Lacks blob (e ∷ es) = IsOther blob e.1.named × Lacks blob es

abbrev IsNew : Named → NameLog → Type 0
IsNew Nameds.Folder es = Unit {0}
IsNew (Nameds.File blob) es = Lacks blob es

-- no two paths are files of one blob
abbrev pub Once : NameLog → Type 0
Once [] = Unit {0}
Once (e ∷ es) = IsNew e.1.named es × Once es

abbrev IsFile : Store → Thing → Type 0
IsFile s Thing.folder = Unit {0}
IsFile s (Thing.file blob content) = blob_at s blob ≡ Some content

-- each file is what its blob is
abbrev pub AreFiles : Store → Things → Type 0
AreFiles s [] = Unit {0}
AreFiles s (t ∷ ts) = IsFile s t.1 × AreFiles s ts

pub file_there : (s : Store) (things : Things) (path : List ℕ) (blob : ℕ) (content : Blob) → AreFiles s things → thing_in things path ≡ Some (Thing.file blob content) → blob_at s blob ≡ Some content
file_there s [] path blob content are e = absurd (none-some (Thing.file blob content) e)
file_there s (t ∷ ts) path blob content are e = first (file_there s ts path blob content are.1) (bytes_eq t.0 path) e
  where
    first : (thing_in ts path ≡ Some (Thing.file blob content) → blob_at s blob ≡ Some content) → (c : Bool) → (if c then Some t.1 else thing_in ts path) ≡ Some (Thing.file blob content) → blob_at s blob ≡ Some content
    first later true h = subst (λ (x : Thing). IsFile s x) (same_Some t.1 (Thing.file blob content) h) are.0
    first later false h = later h

-- where no file of theirs changed
pub files_kept : (s s' : Store) → ((blob : ℕ) (b : Blob) → blob_at s blob ≡ Some b → blob_at s' blob ≡ Some b) → (things : Things) → AreFiles s things → AreFiles s' things
files_kept s s' kept [] are = tt
files_kept s s' kept (t ∷ ts) are = (one t.1 are.0, files_kept s s' kept ts are.1)
  where
    one : (thing : Thing) → IsFile s thing → IsFile s' thing
    one Thing.folder h = tt
    one (Thing.file blob content) h = kept blob content h

files_lacking : (by : ℕ) (s s' : Store) (blob : ℕ) (b : Blob) → Changes s blob b s' → (things : Things) → Lacks blob (names_of by things) → AreFiles s things → AreFiles s' things
files_lacking by s s' blob b c [] lacks are = tt
files_lacking by s s' blob b c (t ∷ ts) lacks are = (one t.1 lacks.0 are.0, files_lacking by s s' blob b c ts lacks.1 are.1)
  where
    one : (thing : Thing) → IsOther blob (named_of thing) → IsFile s thing → IsFile s' thing
    one Thing.folder apart h = tt
    one (Thing.file other content) apart h = c.others other apart ∙ h

file_lacking : (by : ℕ) (things : Things) (path : List ℕ) (blob : ℕ) (content : Blob) → thing_in things path ≡ Some (Thing.file blob content) → Lacks blob (names_of by things) → ⊥
file_lacking by [] path blob content e lacks = none-some (Thing.file blob content) e
file_lacking by (t ∷ ts) path blob content e lacks = first (λ h. file_lacking by ts path blob content h lacks.1) (bytes_eq t.0 path) e
  where
    first : (thing_in ts path ≡ Some (Thing.file blob content) → ⊥) → (c : Bool) → (if c then Some t.1 else thing_in ts path) ≡ Some (Thing.file blob content) → ⊥
    first later true h = subst (λ (x : Thing). IsOther blob (named_of x)) (same_Some t.1 (Thing.file blob content) h) lacks.0 refl
    first later false h = later h

-- one file changed, as its blob did
pub files_put : (by : ℕ) (s s' : Store) (blob : ℕ) (b : Blob) → Changes s blob b s' → (things : Things) (path : List ℕ) (content : Blob) → thing_in things path ≡ Some (Thing.file blob content) → Once (names_of by things)
    → AreFiles s things → AreFiles s' (put_in things path b)
files_put by s s' blob b c [] path content e once are = tt
files_put by s s' blob b c (t ∷ ts) path content e once are = first (λ h. files_put by s s' blob b c ts path content h once.1 are.1) (bytes_eq t.0 path) e
  where
    other : (thing : Thing) → IsNew (named_of thing) (names_of by ts) → thing_in ts path ≡ Some (Thing.file blob content) → IsFile s thing → IsFile s' thing
    other Thing.folder new h is = tt
    other (Thing.file id old) new h is = c.others id (λ same. file_lacking by ts path blob content h (subst (λ (n : ℕ). Lacks n (names_of by ts)) same new)) ∙ is

    first : (thing_in ts path ≡ Some (Thing.file blob content) → AreFiles s' (put_in ts path b)) → (d : Bool) → (if d then Some t.1 else thing_in ts path) ≡ Some (Thing.file blob content) → AreFiles s' (if d then (t.0, with_content t.1 b) ∷ ts else t ∷ put_in ts path b)
    first later true h =
        let same = same_Some t.1 (Thing.file blob content) h in (
          subst (λ (x : Thing). IsFile s' (with_content x b)) (sym same) c.here,
          files_lacking by s s' blob b c ts (subst (λ (x : Thing). IsNew (named_of x) (names_of by ts)) same once.0) are.1,
        )
    first later false h = (other t.1 once.0 h are.0, later h)

-- ---- a thing more

lacks_push : (blob : ℕ) (log : NameLog) (e : ℕ × Entered) → Lacks blob log → IsOther blob e.1.named → Lacks blob (log ++ e ∷ [])
lacks_push blob [] e lacks other = (other, tt)
lacks_push blob (x ∷ xs) e lacks other = (lacks.0, lacks_push blob xs e lacks.1 other)

-- another thing than each file that is there
abbrev Apart : Things → Named → Type 0
Apart [] named = Unit {0}
Apart (t ∷ ts) named = ((blob : ℕ) (content : Blob) → t.1 ≡ Thing.file blob content → IsOther blob named) × Apart ts named

once_push : (by : ℕ) (things : Things) (e : ℕ × Entered) → Apart things e.1.named → Once (names_of by things) → Once (names_of by things ++ e ∷ [])
once_push by [] e apart once = (alone e.1.named, tt)
  where
    alone : (named : Named) → IsNew named []
    alone Nameds.Folder = tt
    alone (Nameds.File blob) = tt
once_push by (t ∷ ts) e apart once = (new t.1 once.0 apart.0, once_push by ts e apart.1 once.1)
  where
    new : (thing : Thing) → IsNew (named_of thing) (names_of by ts) → ((blob : ℕ) (content : Blob) → thing ≡ Thing.file blob content → IsOther blob e.1.named) → IsNew (named_of thing) (names_of by ts ++ e ∷ [])
    new Thing.folder is other = tt
    new (Thing.file blob content) is other = lacks_push blob (names_of by ts) e is (other blob content refl)

apart_folder : (things : Things) → Apart things Nameds.Folder
apart_folder [] = tt
apart_folder (t ∷ ts) = (λ blob content is. tt, apart_folder ts)

apart_past : (s : Store) (things : Things) → AreFiles s things → Apart things (Nameds.File (length s.blobs + 1))
apart_past s [] are = tt
apart_past s (t ∷ ts) are = (one, apart_past s ts are.1)
  where
    one : (blob : ℕ) (content : Blob) → t.1 ≡ Thing.file blob content → (length s.blobs + 1) ≢ blob
    one blob content is same =
        let in_store = within s blob content (subst (λ (x : Thing). IsFile s x) is are.0) in
        omega (arith, in_store.1, same)

pub once_folder : (by : ℕ) (things : Things) (path : List ℕ) → Once (names_of by things) → Once (names_of by things ++ (by, record { path = path; named = Nameds.Folder }) ∷ [])
once_folder by things path once = once_push by things (by, record { path = path; named = Nameds.Folder }) (apart_folder things) once

pub once_file : (by : ℕ) (s : Store) (things : Things) (path : List ℕ) → AreFiles s things → Once (names_of by things)
    → Once (names_of by things ++ (by, record { path = path; named = Nameds.File (length s.blobs + 1) }) ∷ [])
once_file by s things path are once = once_push by things (by, record { path = path; named = Nameds.File (length s.blobs + 1) }) (apart_past s things are) once

pub files_push : (s : Store) (things : Things) (path : List ℕ) (thing : Thing) → AreFiles s things → IsFile s thing → AreFiles s (things ++ (path, thing) ∷ [])
files_push s [] path thing are is = (is, tt)
files_push s (t ∷ ts) path thing are is = (are.0, files_push s ts path thing are.1 is)

-- ---- a blob more

not_past : (s : Store) (blob : ℕ) (b : Blob) → blob_at s blob ≡ Some b → blob - 1 ≡ length s.blobs → ⊥
not_past s blob b h e = let i = within s blob b h in omega (arith, i.0, i.1, e)

more_same : (s : Store) (x : Blob) (blob : ℕ) (b : Blob) → blob_at s blob ≡ Some b → blob_at (and_blob s x) blob ≡ Some b
more_same s x blob b h =
    let at = item_under (blob == 0) (slice_get s.blobs (blob - 1)) b h in
    rw at.0 (get-push_other s.blobs (blob - 1) x (not_past s blob b h) ∙ at.1)

pub more_last : (s : Store) (x : Blob) → blob_at (and_blob s x) (length s.blobs + 1) ≡ Some x
more_last s x =
    let some : (length s.blobs + 1 == 0) ≡ false = grind (arith, nat_tests) in
    let back : length s.blobs + 1 - 1 ≡ length s.blobs = omega arith in
    rw some (ap (λ (i : ℕ). slice_get (s.blobs ++ x ∷ []) i) back ∙ get-push_last s.blobs x)

pub files_more : (s : Store) (x : Blob) (things : Things) → AreFiles s things → AreFiles (and_blob s x) things
files_more s x things are = files_kept s (and_blob s x) (more_same s x) things are

-- ---- tickets

-- a ticket and the append that is held under it
pub record IsHeld (things : Things) (t : HeldTicket) (h : HeldAppend) : Type 0 where
  pub ticket : h.ticket ≡ t.number
  pub version : h.version ≡ t.version
  pub some : 1 ≤ t.version
  pub content : Blob
  pub there : thing_at things h.path ≡ Some (Thing.file t.blob content)

abbrev pub AreHeld : Things → List HeldTicket → List HeldAppend → Type 0
AreHeld things [] [] = Unit {0}
AreHeld things (t ∷ ts) (h ∷ hs) = IsHeld things t h × AreHeld things ts hs
AreHeld things [] (h ∷ hs) = ⊥
AreHeld things (t ∷ ts) [] = ⊥

pub held_kept : (old new : Things) → Keeps old new → (ts : List HeldTicket) (hs : List HeldAppend) → AreHeld old ts hs → AreHeld new ts hs
held_kept old new keeps [] [] are = tt
held_kept old new keeps (t ∷ ts) (h ∷ hs) are =
    let k = keeps h.path t.blob are.0.content are.0.there in
    (record { ticket = are.0.ticket; version = are.0.version; some = are.0.some; content = k.0; there = k.1 }, held_kept old new keeps ts hs are.1)
held_kept old new keeps [] (h ∷ hs) are = absurd are
held_kept old new keeps (t ∷ ts) [] are = absurd are

pub held_push : (things : Things) (ts : List HeldTicket) (hs : List HeldAppend) (t : HeldTicket) (h : HeldAppend) → AreHeld things ts hs → IsHeld things t h → AreHeld things (ts ++ t ∷ []) (hs ++ h ∷ [])
held_push things [] [] t h are is = (is, tt)
held_push things (x ∷ ts) (y ∷ hs) t h are is = (are.0, held_push things ts hs t h are.1 is)
held_push things [] (y ∷ hs) t h are is = absurd are
held_push things (x ∷ ts) [] t h are is = absurd are

pub held_count : (things : Things) (ts : List HeldTicket) (hs : List HeldAppend) → AreHeld things ts hs → length ts ≡ length hs
held_count things [] [] are = refl
held_count things (t ∷ ts) (h ∷ hs) are = ap suc (held_count things ts hs are.1)
held_count things [] (h ∷ hs) are = absurd are
held_count things (t ∷ ts) [] are = absurd are

abbrev pub SameTicket : Things → Option HeldTicket → Option HeldAppend → Type 0
SameTicket things None None = Unit {0}
SameTicket things (Some t) (Some h) = IsHeld things t h
SameTicket things None (Some h) = ⊥
SameTicket things (Some t) None = ⊥

pub ticket_found : (things : Things) (ts : List HeldTicket) (hs : List HeldAppend) (number : ℕ) → AreHeld things ts hs → SameTicket things (ticket_at ts number) (held_in hs number)
ticket_found things [] [] number are = tt
ticket_found things (t ∷ ts) (h ∷ hs) number are =
    subst (λ (n : ℕ). SameTicket things (if t.number == number then Some t else ticket_at ts number) (if n == number then Some h else held_in hs number)) (sym are.0.ticket) (first (ticket_found things ts hs number are.1) (t.number == number))
  where
    first : SameTicket things (ticket_at ts number) (held_in hs number) → (c : Bool) → SameTicket things (if c then Some t else ticket_at ts number) (if c then Some h else held_in hs number)
    first later true = are.0
    first later false = later
ticket_found things [] (h ∷ hs) number are = absurd are
ticket_found things (t ∷ ts) [] number are = absurd are

pub held_without : (things : Things) (ts : List HeldTicket) (hs : List HeldAppend) (number : ℕ) → AreHeld things ts hs → AreHeld things (without_ticket ts number) (without_held hs number)
held_without things [] [] number are = tt
held_without things (t ∷ ts) (h ∷ hs) number are =
    subst (λ (n : ℕ). AreHeld things (if t.number == number then ts else t ∷ without_ticket ts number) (if n == number then hs else h ∷ without_held hs number)) (sym are.0.ticket) (first (held_without things ts hs number are.1) (t.number == number))
  where
    first : AreHeld things (without_ticket ts number) (without_held hs number) → (c : Bool) → AreHeld things (if c then ts else t ∷ without_ticket ts number) (if c then hs else h ∷ without_held hs number)
    first later true = are.1
    first later false = (are.0, later)
held_without things [] (h ∷ hs) number are = absurd are
held_without things (t ∷ ts) [] number are = absurd are

-- ---- all of it

-- the store of what a session has seen
abbrev pub store_now : Session → Store
store_now s = store_of s.fixed.limits s.seen

-- what a session of files has seen, with what its paths are and the appends that it holds, as a map
abbrev pub map_of : Files → Things → List HeldAppend → PathMap
map_of f things held = record {
  fixed = f.store.fixed;
  providers = f.providers;
  caller = f.store.caller;
  things = things;
  blobs = length (store_now f.store).blobs;
  held = held;
  next = f.store.next;
}

-- these are its paths, and the appends that it holds
pub record Stands (f : Files) (things : Things) (held : List HeldAppend) : Type 0 where
  pub limit : f.store.limit ≡ max_update
  pub names : f.names ≡ names_of f.by things
  pub once : Once (names_of f.by things)
  pub files : AreFiles (store_now f.store) things
  pub tickets : AreHeld things f.store.tickets held

-- behind one path more
pub pushed : (f : Files) (things : Things) (held : List HeldAppend) → Stands f things held → (path : List ℕ) (thing : Thing) → AreFiles (store_now f.store) (things ++ (path, thing) ∷ [])
    → Once (names_of f.by things ++ (f.by, record { path = path; named = named_of thing }) ∷ [])
    → Stands (with_names f (f.names ++ (f.by, record { path = path; named = named_of thing }) ∷ [])) (things ++ (path, thing) ∷ []) held
pushed f things held st path thing files once = record {
  limit = st.limit;
  names = ap (λ (l : NameLog). l ++ (f.by, record { path = path; named = named_of thing }) ∷ []) st.names ∙ sym (push_names f.by things path thing);
  once = subst Once (sym (push_names f.by things path thing)) once;
  files = files;
  tickets = held_kept things (things ++ (path, thing) ∷ []) (pushes_keep things ((path, thing) ∷ [])) f.store.tickets held st.tickets;
}

-- ---- a session of files whose map is this

-- The next session of files has a map too, of which this is said.
pub record Stepped (f' : Files) (Says : PathMap → Type 0) : Type 0 where
  pub things : Things
  pub held : List HeldAppend
  pub stands : Stands f' things held
  pub says : Says (map_of f' things held)

pub also : (f' : Files) (P Q : PathMap → Type 0) → ((m : PathMap) → P m → Q m) → Stepped f' P → Stepped f' Q
also f' P Q goes s = record { things = s.things; held = s.held; stands = s.stands; says = goes (map_of f' s.things s.held) s.says }

-- the session of the store with other events, tickets and next number
abbrev pub seeing : Session → List Event → List HeldTicket → ℕ → Session
seeing s seen tickets next = record { fixed = s.fixed; caller = s.caller; seen = seen; tickets = tickets; next = next; limit = s.limit }

-- the map with as many blobs
abbrev pub counting : PathMap → ℕ → PathMap
counting m blobs = record m { blobs = blobs }
