-- What a session of files answers where nobody else is there is what a map of paths answers.
use Rattle.std.proofs.Common.{◌≡◌, ◌⊎◌, inl, inr, ℕ, ◌+◌, ◌≤◌, ◌<◌, Bool, true, false, List, [], ◌∷◌, ◌++◌, length, Option, Some, None, Result, Ok, Err, refl, sym, ap, subst, ◌∙◌, append-nil, length-append, arith}
use Rattle.std.specs.Prelude.{◌≢◌, ◌-◌, ◌==◌, nat_lt, if◌then◌else◌, Contains}
use Rattle.std.proofs.lemmas.Bool.{false≢true, eq-eqb}
use Rattle.std.proofs.lemmas.Bool.Decides.{nat_tests}
use Rattle.std.proofs.lemmas.Option.{none-some, same_Some}
use Rattle.items.specs.Rounds.{Rounds}
use Rattle.range_log.specs.Updates.{extents}
use Rattle.range_log.specs.Rows.{folds_of}
use Rattle.blob_model.specs.Content.{Update, size_of}
use Rattle.blob_model.specs.Limits.{Bounds}
use Rattle.blob_model.specs.Store.{Store, Blob, empty_store, blob_at, with_blob, and_blob, and_update, assigned, published, held, size_now, size_with, is_finished, finish}
use Rattle.blob_model.specs.Answer.{Answered, answer, refuse, first_refusal, unless_refused, in_blob, too_many_blobs, not_published, not_numbered, pending, already, range_past_size, offset_past_size, blob_too_big, too_many_versions, too_many_open, repair_refusal, bytes_of}
use Rattle.blob_model.specs.History.{store_from, store_of, is_refused, finishes}
use Rattle.blob_model.specs.declared.call.Place.TheVariants.{Append}
use Rattle.blob_model.specs.declared.call.Call.{Call}
use Rattle.blob_model.specs.declared.call.Call.TheVariants as Calls
use Rattle.blob_model.specs.declared.call.Event.{Event}
use Rattle.blob_model.specs.declared.call.Event.TheVariants as Events
use Rattle.blob_model.specs.declared.call.Outcome.{Outcome}
use Rattle.blob_model.specs.declared.call.Outcome.TheVariants as Outcomes
use Rattle.blob_model.specs.declared.call.Refusal.{Refusal}
use Rattle.blob_model.specs.declared.call.Refusal.TheVariants as Refusals
use Rattle.version_manager.proofs.Stores.{in_blob_here, store_limits}
use Rattle.blob_model.proofs.Stays.{store_from-append}
use Rattle.request_form.specs.Session.{Session, HeldTicket, IsNobody, sees, holds, drops, ticket_at, without_ticket, store_at, outcome_at}
use Rattle.request_form.specs.Turns.{Tickets, Turn, with_tickets, and_made, AfterGap}
use Rattle.request_form.specs.Answers.{Unless, AddTurn, ReadTurn, UnnumberedTurn, WholeTurn, FinishTurn, UpdateAnswer, WholeAnswer, FinishAnswer, update_fault, read_fault, folds_in, max_update, max_tickets}
use Rattle.request_form.specs.Replies.{fault_of, reply_of}
use Rattle.request_form.specs.declared.form.Request.TheVariants as Requests
use Rattle.request_form.specs.declared.form.Reply.{Reply}
use Rattle.request_form.specs.declared.form.Reply.TheVariants as Replies
use Rattle.request_form.specs.declared.form.Fault.{Fault}
use Rattle.request_form.specs.declared.form.Fault.TheVariants as Faults
use Rattle.file_names.specs.Tree.{NameLog, Enters, enter_fault}
use Rattle.file_names.specs.Tree as Tree
use Rattle.file_names.specs.declared.tree.Named.{Named}
use Rattle.file_names.specs.declared.tree.Named.TheVariants as Nameds
use Rattle.file_names.specs.declared.tree.Stat.{Stat}
use Rattle.file_names.specs.declared.tree.EnterFault.{EnterFault}
use Rattle.file_names.specs.declared.tree.EnterFault.TheVariants as EnterFaults
use Rattle.file_names.specs.declared.tree.FindFault.{FindFault}
use Rattle.file_names.specs.declared.form.FileLine.{FileLine}
use Rattle.file_names.specs.declared.form.FileLine.TheVariants as Lines
use Rattle.file_names.specs.declared.form.FileReply.{FileReply}
use Rattle.file_names.specs.declared.form.FileReply.TheVariants as Says
use Rattle.file_names.specs.declared.form.FileHeard.{FileHeard}
use Rattle.file_names.specs.declared.form.FileHeard.TheVariants.{Asked, Wrong}
use Rattle.file_names.specs.Lines.{IsWellHeard, AllWellHeard}
use Rattle.file_layer.specs.Files.{Files, nobody, with_store, with_names, LooksAtNames, EntersNames, AsksOf, OnBlob, OnFile, MkdirAnswer, MakesFile, OnFree, OnRecent, OnStat, WhereAnswer, TellsWhere, FileAnswers, FileItemReply, file_reply, recent_reply, store_fault, enter_refused, entered_reply, list_reply}
use Rattle.file_layer.specs.PathMap.{Thing, HeldAppend, PathMap, thing_at, put_in, held_in, without_held, and_thing, and_held, puts, new_file, new_fault, bytes_fault, append_refusal, read_refusal, folds_at, appended, SaysFault, UnlessFault, FolderSays, FileSays, MakeSays, AppendSays, ReadSays, WhereSays, FinishSays, HeldSays, TicketSays, AtFile, MapAnswers, MapItemReply}
use Rattle.file_layer.specs.PathMap as Maps
use Rattle.file_layer.proofs.PathMaps.{Things, names_of, Keeps, found, looked, blob_is, fault_is, stat_is, list_is, put_names, in_things, puts_keep}
use Rattle.file_layer.proofs.StoreTells.{goes, stops, not_past, offset_first, size_sum}
use Rattle.file_layer.proofs.Standing.{Stepped, also, seeing, counting, Changes, with_changes, then_changes, finish_changes, Once, AreFiles, file_there, files_put, files_push, files_more, more_last, once_folder, once_file, IsHeld, AreHeld, SameTicket, held_kept, held_push, held_count, held_without, ticket_found, store_now, map_of, Stands, pushed}

module _ (f : Files) (things : Things) (holds' : List HeldAppend) (st : Stands f things holds') where
  abbrev m : PathMap
  m = map_of f things holds'

  abbrev s : Session
  s = f.store

  -- the store as the session has seen it
  abbrev now : Store
  now = store_now s

  unchanged : (f' : Files) (Says : PathMap → Type 0) → f' ≡ f → Says m → Stepped f' Says
  unchanged f' Says e says = subst (λ (g : Files). Stepped g Says) (sym e) (record { things = things; held = holds'; stands = st; says = says })

  same_seen : (others : List Event) → others ≡ [] → s.seen ++ others ≡ s.seen
  same_seen others none = ap (λ (l : List Event). s.seen ++ l) none ∙ append-nil s.seen

  -- a session that has seen no more
  still : (s' : Session) (others : List Event) → others ≡ [] → s' ≡ sees s others → s' ≡ s
  still s' others none is = is ∙ ap (λ (l : List Event). seeing s l s.tickets s.next) (same_seen others none)

  still_files : (f' : Files) (s' : Session) (others : List Event) → f' ≡ with_store f s' → others ≡ [] → s' ≡ sees s others → f' ≡ f
  still_files f' s' others is none saw = is ∙ ap (λ (x : Session). with_store f x) (still s' others none saw)

  still_names : (f' : Files) (others : NameLog) → others ≡ [] → f' ≡ with_names f (f.names ++ others) → f' ≡ f
  still_names f' others none is = is ∙ ap (λ (l : NameLog). with_names f l) (ap (λ (l : NameLog). f.names ++ l) none ∙ append-nil f.names)

  looks_same : (seen : Files) → LooksAtNames nobody f seen → seen ≡ f
  looks_same seen l = still_names seen l.others l.is_gap l.is

  -- what the store answers
  outcome : (others : List Event) (call : Call) (x : Outcome) → others ≡ [] → outcome_at s others call ≡ x → (answer now s.caller call).1 ≡ x
  outcome others call x none e = ap (λ (l : List Event). (answer (store_of s.fixed.limits l) s.caller call).1) (sym (same_seen others none)) ∙ e

  -- the store once these events came
  after : (es : List Event) → store_of s.fixed.limits (s.seen ++ es) ≡ store_from now es
  after es = store_from-append (empty_store s.fixed.limits) s.seen es

  limits : now.limits ≡ s.fixed.limits
  limits = store_limits s.fixed.limits s.seen

  names_are : f.names ≡ names_of f.by things
  names_are = st.names

  -- ---- a file

  on_file : (path : List ℕ) (o : Option Thing) → thing_at things path ≡ o → (Ask : ℕ → FileReply → Files → Type 0) (Asks : Blob → FileReply → PathMap → Type 0) (reply : FileReply) (f' : Files)
      → OnBlob path f Ask (found o) reply f'
      → ((blob : ℕ) (b : Blob) → thing_at things path ≡ Some (Thing.file blob b) → Ask blob reply f' → Stepped f' (λ m'. Asks b reply m')) → Stepped f' (λ m'. AtFile m path Asks o reply m')
  on_file path None e Ask Asks reply f' h step = unchanged f' (λ m'. AtFile m path Asks None reply m') h.1 (h.0, refl)
  on_file path (Some Thing.folder) e Ask Asks reply f' h step = unchanged f' (λ m'. AtFile m path Asks (Some Thing.folder) reply m') h.1 (h.0, refl)
  on_file path (Some (Thing.file blob b)) e Ask Asks reply f' h step = step blob b e h

  file_step : (path : List ℕ) (Ask : Files → ℕ → FileReply → Files → Type 0) (Asks : Blob → FileReply → PathMap → Type 0) (reply : FileReply) (f' : Files) → OnFile nobody f path Ask reply f'
      → ((blob : ℕ) (b : Blob) → thing_at things path ≡ Some (Thing.file blob b) → Ask f blob reply f' → Stepped f' (λ m'. Asks b reply m')) → Stepped f' (λ m'. AtFile m path Asks (thing_at things path) reply m')
  file_step path Ask Asks reply f' h step =
      let at : OnBlob path f (Ask f) (Tree.blob_at f.names path) reply f' = subst (λ (g : Files). OnBlob path g (Ask g) (Tree.blob_at g.names path) reply f') (looks_same h.seen h.looks) h.goes_on in
      let is : Tree.blob_at f.names path ≡ found (thing_at things path) = ap (λ (l : NameLog). Tree.blob_at l path) names_are ∙ blob_is f.by things path in
      on_file path (thing_at things path) refl (Ask f) Asks reply f' (subst (λ (r : Result ℕ FindFault). OnBlob path f (Ask f) r reply f') is at) step

  -- the blob of a file
  module _ (path : List ℕ) (blob : ℕ) (b : Blob) (e : thing_at things path ≡ Some (Thing.file blob b)) where
    there : blob_at now blob ≡ Some b
    there = file_there now things path blob b st.files (in_things things path blob b e)

    at_b : (g : Blob → Answered) → in_blob now blob g ≡ g b
    at_b g = in_blob_here now blob b g there

    -- the file changed as its blob did
    stands_put : (b' : Blob) (seen : List Event) (tickets : List HeldTicket) (next : ℕ) (hs : List HeldAppend) → Changes now blob b' (store_of s.fixed.limits seen) → AreHeld (put_in things path b') tickets hs
        → Stands (with_store f (seeing s seen tickets next)) (put_in things path b') hs
    stands_put b' seen tickets next hs c held = record {
      limit = st.limit;
      names = names_are ∙ sym (put_names f.by things path b');
      once = subst Once (sym (put_names f.by things path b')) st.once;
      files = files_put f.by now (store_of s.fixed.limits seen) blob b' c things path b (in_things things path blob b e) st.once st.files;
      tickets = held;
    }

    put_step : (b' : Blob) (seen : List Event) (tickets : List HeldTicket) (next : ℕ) (hs : List HeldAppend) (f' : Files) (Says : PathMap → Type 0) → f' ≡ with_store f (seeing s seen tickets next)
        → Changes now blob b' (store_of s.fixed.limits seen) → AreHeld (put_in things path b') tickets hs
        → Says (record { fixed = s.fixed; providers = f.providers; caller = s.caller; things = put_in things path b'; blobs = length now.blobs; held = hs; next = next }) → Stepped f' Says
    put_step b' seen tickets next hs f' Says is c held says =
        subst (λ (g : Files). Stepped g Says) (sym is) (record {
          things = put_in things path b';
          held = hs;
          stands = stands_put b' seen tickets next hs c held;
          says = subst (λ (n : ℕ). Says (record { fixed = s.fixed; providers = f.providers; caller = s.caller; things = put_in things path b'; blobs = n; held = hs; next = next })) (sym c.count) says;
        })

    -- ---- reads

    abbrev ReadAsked : ℕ → ℕ → ℕ → Answered
    ReadAsked version offset count = unless_refused now (not_published b version ∷ range_past_size b version offset count ∷ []) (now, Outcomes.Content (bytes_of b version offset count))

    read_is : (version offset count : ℕ) → answer now s.caller (Calls.Read blob version offset count) ≡ ReadAsked version offset count
    read_is version offset count = at_b (λ x. unless_refused now (not_published x version ∷ range_past_size x version offset count ∷ []) (now, Outcomes.Content (bytes_of x version offset count)))

    content_is : (bytes more : List ℕ) → Outcomes.Content bytes ≡ Outcomes.Content more → bytes ≡ more
    content_is bytes more e = cc

    read_goes : (version offset count : ℕ) (bytes : List ℕ) → (answer now s.caller (Calls.Read blob version offset count)).1 ≡ Outcomes.Content bytes
        → (read_refusal b version offset count ≡ None) × (bytes ≡ bytes_of b version offset count)
    read_goes version offset count bytes h =
        let g = goes now (read_refusal b version offset count) (now, Outcomes.Content (bytes_of b version offset count)) (Outcomes.Content bytes) (ap (λ (a : Answered). a.1) (sym (read_is version offset count)) ∙ h) refl in
        (g.0, sym (content_is _ _ g.1))

    read_stops : (version offset count : ℕ) (r : Refusal) → (answer now s.caller (Calls.Read blob version offset count)).1 ≡ Outcomes.Refused r → read_refusal b version offset count ≡ Some r
    read_stops version offset count r h =
        stops now (read_refusal b version offset count) (now, Outcomes.Content (bytes_of b version offset count)) r (ap (λ (a : Answered). a.1) (sym (read_is version offset count)) ∙ h) refl

    -- what is said of what was told
    said_as : (told : Reply) (t : Reply) (reply x : FileReply) → told ≡ t → file_reply told ≡ Some reply → file_reply t ≡ Some x → reply ≡ x
    said_as told t reply x e says is = same_Some reply x (sym says ∙ ap file_reply e ∙ is)

    read_turn : (version offset count : ℕ) (told : Reply) (s' : Session) (reply : FileReply) (others : List Event) → others ≡ [] → (turn : Turn) → ReadTurn s blob version offset count others turn → told ≡ turn.said
        → s' ≡ with_tickets turn.tickets (sees s (and_made others turn.made)) → file_reply told ≡ Some reply → ReadSays m b version offset count reply × (s' ≡ s)
    read_turn version offset count told s' reply others none _ (ReadTurn.content bytes e) said seen says =
        let g = read_goes version offset count bytes (outcome others (Calls.Read blob version offset count) _ none e) in
        (ReadSays.given g.0 (said_as told (Replies.Content bytes) reply (Says.Content bytes) said says refl ∙ ap (λ (l : List ℕ). Says.Content l) g.1), still s' others none seen)
    read_turn version offset count told s' reply others none _ (ReadTurn.refused refusal e) said seen says =
        let g = read_stops version offset count refusal (outcome others (Calls.Read blob version offset count) _ none e) in
        (ReadSays.refused refusal g (said_as told (Replies.Refused (fault_of refusal)) reply (store_fault (fault_of refusal)) said says refl), still s' others none seen)
    read_turn version offset count told s' reply others none _ ReadTurn.out_of_memory said seen says =
        (ReadSays.out_of_memory (said_as told (Replies.Refused Faults.NoMemory) reply (store_fault Faults.NoMemory) said says refl), still s' others none seen)
    read_turn version offset count told s' reply others none _ (ReadTurn.not_read bytes e some page meets) said seen says =
        let g = read_goes version offset count bytes (outcome others (Calls.Read blob version offset count) _ none e) in (
          ReadSays.not_read g.0 (subst (λ (l : List ℕ). 0 < length l) g.1 some) page meets.begins meets.ends (said_as told (Replies.Refused (Faults.PageFault page)) reply (store_fault (Faults.PageFault page)) said says refl),
          still s' others none seen,
        )

    read_unless : (o : Option Fault) (version offset count : ℕ) (told : Reply) (s' : Session) (reply : FileReply) (f' : Files) → Unless o s told s' (AfterGap IsNobody s (ReadTurn s blob version offset count) told s') → file_reply told ≡ Some reply
        → f' ≡ with_store f s' → Stepped f' (λ m'. UnlessFault o m reply m' (ReadSays m b version offset count reply × (m' ≡ m)))
    read_unless None version offset count told s' reply f' h says is =
        let r = read_turn version offset count told s' reply h.others h.is_gap h.turn h.may h.said h.seen says in
        unchanged f' (λ m'. ReadSays m b version offset count reply × (m' ≡ m)) (is ∙ ap (λ (x : Session). with_store f x) r.1) (r.0, refl)
    read_unless (Some fault) version offset count told s' reply f' h says is =
        unchanged f' (λ m'. SaysFault m fault reply m') (is ∙ ap (λ (x : Session). with_store f x) h.1) (said_as told (Replies.Refused fault) reply (store_fault fault) h.0 says refl, refl)

    read_step : (version offset count : ℕ) (reply : FileReply) (f' : Files) → AsksOf nobody f (Requests.Read blob version offset count) reply f'
        → Stepped f' (λ m'. UnlessFault (read_fault count) m reply m' (ReadSays m b version offset count reply × (m' ≡ m)))
    read_step version offset count reply f' h = read_unless (read_fault count) version offset count h.told h.asks.after reply f' h.asks.answers h.says h.asks.is

    -- ---- where a range lies

    places_say : (version offset count : ℕ) (reply : FileReply) (o : Option Refusal) → read_refusal b version offset count ≡ o
        → TellsWhere f offset count (let a : Answered = elim o [ Some r ↦ refuse now r | None ↦ (now, Outcomes.Content (bytes_of b version offset count)) ] in a).1 reply → WhereSays m b version offset count reply
    places_say version offset count reply None is h = WhereSays.places is h.0 h.1 h.2
    places_say version offset count reply (Some r) is h = WhereSays.refused r is h

    where_step : (version offset count : ℕ) (reply : FileReply) (f' : Files) → WhereAnswer nobody f blob version offset count reply f'
        → Stepped f' (λ m'. UnlessFault (read_fault count) m reply m' (WhereSays m b version offset count reply × (m' ≡ m)))
    where_step version offset count reply f' (WhereAnswer.too_long fault long says is) =
        subst (λ (o : Option Fault). Stepped f' (λ m'. UnlessFault o m reply m' (WhereSays m b version offset count reply × (m' ≡ m)))) (sym long) (unchanged f' (λ m'. SaysFault m fault reply m') is (says, refl))
    where_step version offset count reply f' (WhereAnswer.told others none short is tells) =
        let told : TellsWhere f offset count (ReadAsked version offset count).1 reply =
        subst (λ (x : Outcome). TellsWhere f offset count x reply) (sym (outcome others (Calls.Read blob version offset count) _ none refl) ∙ ap (λ (a : Answered). a.1) (read_is version offset count)) tells in
        subst (λ (o : Option Fault). Stepped f' (λ m'. UnlessFault o m reply m' (WhereSays m b version offset count reply × (m' ≡ m)))) (sym short)
        (unchanged f' (λ m'. WhereSays m b version offset count reply × (m' ≡ m)) (still_files f' (sees s others) others is none refl)
        (places_say version offset count reply (read_refusal b version offset count) refl told, refl))
    where_step version offset count reply f' (WhereAnswer.no_memory others none short is says) =
        subst (λ (o : Option Fault). Stepped f' (λ m'. UnlessFault o m reply m' (WhereSays m b version offset count reply × (m' ≡ m)))) (sym short)
        (unchanged f' (λ m'. WhereSays m b version offset count reply × (m' ≡ m)) (still_files f' (sees s others) others is none refl) (WhereSays.out_of_memory says, refl))
    where_step version offset count reply f' (WhereAnswer.unsaid others none short is says) =
        subst (λ (o : Option Fault). Stepped f' (λ m'. UnlessFault o m reply m' (WhereSays m b version offset count reply × (m' ≡ m)))) (sym short)
        (unchanged f' (λ m'. WhereSays m b version offset count reply × (m' ≡ m)) (still_files f' (sees s others) others is none refl) (WhereSays.unsaid says, refl))

    -- ---- looks at the last version

    recent_is : answer now s.caller (Calls.Recent blob) ≡ (now, Outcomes.Recent (published b) (size_of b.updates (published b)))
    recent_is = at_b (λ x. (now, Outcomes.Recent (published x) (size_of x.updates (published x))))

    recent_step : (reply : FileReply) (f' : Files) → OnRecent nobody f blob reply f' → Stepped f' (λ m'. (reply ≡ Says.FileIs blob (published b) (size_of b.updates (published b))) × (m' ≡ m))
    recent_step reply f' (told, h, says) =
        let a = h.answers in
        let is : told ≡ Replies.RecentIs (published b) (size_of b.updates (published b)) =
        a.said ∙ ap reply_of (sym (outcome a.others (Calls.Recent blob) _ a.is_gap refl)) ∙ ap (λ (x : Answered). reply_of x.1) recent_is in
        unchanged f' (λ m'. (reply ≡ Says.FileIs blob (published b) (size_of b.updates (published b))) × (m' ≡ m)) (still_files f' h.after a.others h.is a.is_gap a.seen)
        (same_Some reply (Says.FileIs blob (published b) (size_of b.updates (published b))) (sym says ∙ ap (λ (t : Reply). recent_reply blob t) is), refl)

    -- ---- appends

    abbrev u : List ℕ → Update
    u bytes = record { caller = s.caller; place = Append; bytes = bytes }

    abbrev v : ℕ
    v = assigned b + 1

    abbrev numbered : List ℕ → Answered
    numbered bytes = (with_blob now blob (and_update b (u bytes)), Outcomes.Assigned v (size_now b) (size_with b Append bytes))

    abbrev assign_tests : List ℕ → Option Refusal
    assign_tests bytes = first_refusal (offset_past_size b Append ∷ blob_too_big now b Append bytes ∷ too_many_versions now b ∷ too_many_open now b ∷ [])

    assign_is : (bytes : List ℕ) → answer now s.caller (Calls.Assign blob Append bytes)
        ≡ unless_refused now (offset_past_size b Append ∷ blob_too_big now b Append bytes ∷ too_many_versions now b ∷ too_many_open now b ∷ []) (numbered bytes)
    assign_is bytes = at_b (λ x. unless_refused now (offset_past_size x Append ∷ blob_too_big now x Append bytes ∷ too_many_versions now x ∷ too_many_open now x ∷ [])
        (with_blob now blob (and_update x (u bytes)), Outcomes.Assigned (assigned x + 1) (size_now x) (size_with x Append bytes)))

    -- an append's offset is never past the size
    refusal_same : (bytes : List ℕ) → assign_tests bytes ≡ append_refusal m b bytes
    refusal_same bytes =
        offset_first (nat_lt (size_now b) (size_now b)) (Refusals.OffsetPastSize (size_now b) (size_now b)) (blob_too_big now b Append bytes ∷ too_many_versions now b ∷ too_many_open now b ∷ []) (not_past (size_now b))
        ∙ ap (λ (l : Bounds). first_refusal (blob_too_big (empty_store l) b Append bytes ∷ too_many_versions (empty_store l) b ∷ too_many_open (empty_store l) b ∷ [])) limits

    assign_stops : (bytes : List ℕ) (r : Refusal) → (answer now s.caller (Calls.Assign blob Append bytes)).1 ≡ Outcomes.Refused r → append_refusal m b bytes ≡ Some r
    assign_stops bytes r h = sym (refusal_same bytes) ∙ stops now (assign_tests bytes) (numbered bytes) r (ap (λ (a : Answered). a.1) (sym (assign_is bytes)) ∙ h) refl

    -- the update was numbered
    pub record Goes (bytes : List ℕ) (version at size : ℕ) : Type 0 where
      pub free : append_refusal m b bytes ≡ None
      pub number : version ≡ v
      pub offset : at ≡ size_now b
      pub end : size ≡ size_now b + length bytes
      pub stored : (answer now s.caller (Calls.Assign blob Append bytes)).0 ≡ with_blob now blob (and_update b (u bytes))

    assigned_is : (v' a' z' w b' y : ℕ) → Outcomes.Assigned v' a' z' ≡ Outcomes.Assigned w b' y → (w ≡ v') × (b' ≡ a') × (y ≡ z')
    assigned_is v' a' z' w b' y e = (cc, cc, cc)

    assign_goes : (bytes : List ℕ) (version at size : ℕ) → (answer now s.caller (Calls.Assign blob Append bytes)).1 ≡ Outcomes.Assigned version at size → Goes bytes version at size
    assign_goes bytes version at size h =
        let g = goes now (assign_tests bytes) (numbered bytes) (Outcomes.Assigned version at size) (ap (λ (a : Answered). a.1) (sym (assign_is bytes)) ∙ h) refl in
        let is = assigned_is _ _ _ _ _ _ g.1 in
        record {
          free = sym (refusal_same bytes) ∙ g.0;
          number = is.0;
          offset = is.1;
          end = is.2 ∙ size_sum (size_now b) (length bytes);
          stored = ap (λ (a : Answered). a.0) (assign_is bytes ∙ ap (λ (o : Option Refusal). let a : Answered = elim o [ Some r ↦ refuse now r | None ↦ numbered bytes ] in a) g.0);
        }

    abbrev number_event : List ℕ → Event
    number_event bytes = Events.Assign s.caller blob Append bytes

    -- the store behind the numbering
    numbered_changes : (bytes : List ℕ) (version at size : ℕ) → Goes bytes version at size → Changes now blob (and_update b (u bytes)) (store_of s.fixed.limits (s.seen ++ number_event bytes ∷ []))
    numbered_changes bytes version at size g =
        subst (λ (t : Store). Changes now blob (and_update b (u bytes)) t) (sym (after (number_event bytes ∷ []) ∙ g.stored)) (with_changes now blob b (and_update b (u bytes)) there)

    -- and behind its finish
    finished_changes : (bytes : List ℕ) (version at size : ℕ) → Goes bytes version at size
        → Changes now blob (finish (and_update b (u bytes)) v) (store_of s.fixed.limits (s.seen ++ number_event bytes ∷ Events.Finish s.caller blob version ∷ []))
    finished_changes bytes version at size g =
        let first = with_changes now blob b (and_update b (u bytes)) there in
        let second = finish_changes (with_blob now blob (and_update b (u bytes))) s.caller blob v (and_update b (u bytes)) first.here (omega arith) in
        let both = then_changes now _ _ blob _ _ first second in
        let is : store_of s.fixed.limits (s.seen ++ number_event bytes ∷ Events.Finish s.caller blob version ∷ []) ≡ (answer (with_blob now blob (and_update b (u bytes))) s.caller (Calls.Finish blob v)).0 =
        after (number_event bytes ∷ Events.Finish s.caller blob version ∷ [])
        ∙ ap (λ (n : ℕ). (answer (answer now s.caller (Calls.Assign blob Append bytes)).0 s.caller (Calls.Finish blob n)).0) g.number
        ∙ ap (λ (t : Store). (answer t s.caller (Calls.Finish blob v)).0) g.stored in
        subst (λ (t : Store). Changes now blob (finish (and_update b (u bytes)) v) t) (sym is) both

    -- what the session has seen then
    abbrev finish_event : ℕ → Event
    finish_event version = Events.Finish s.caller blob version

    seen_numbered : (bytes : List ℕ) (others later : List Event) → others ≡ [] → later ≡ [] → others ++ number_event bytes ∷ later ≡ number_event bytes ∷ []
    seen_numbered bytes others later none none_later = ap (λ (l : List Event). l ++ number_event bytes ∷ later) none ∙ ap (λ (l : List Event). number_event bytes ∷ l) none_later

    seen_finished : (bytes : List ℕ) (version : ℕ) (others later : List Event) → others ≡ [] → later ≡ []
        → others ++ number_event bytes ∷ (later ++ finish_event version ∷ []) ≡ number_event bytes ∷ finish_event version ∷ []
    seen_finished bytes version others later none none_later =
        ap (λ (l : List Event). l ++ number_event bytes ∷ (later ++ finish_event version ∷ [])) none
        ∙ ap (λ (l : List Event). number_event bytes ∷ (l ++ finish_event version ∷ [])) none_later

    abbrev at_end : ℕ → List ℕ → FileReply
    at_end version bytes = Says.Appended version (size_now b) (size_now b + length bytes)

    appended_reply : (bytes : List ℕ) (version at size : ℕ) → Goes bytes version at size → Says.Appended version at size ≡ Says.Appended v (size_now b) (size_now b + length bytes)
    appended_reply bytes version at size g =
        ap (λ (n : ℕ). Says.Appended n at size) g.number ∙ ap (λ (n : ℕ). Says.Appended v n size) g.offset ∙ ap (λ (n : ℕ). Says.Appended v (size_now b) n) g.end

    started_reply : (bytes : List ℕ) (ticket version at size : ℕ) → Goes bytes version at size → Says.Started ticket version at size ≡ Says.Started ticket v (size_now b) (size_now b + length bytes)
    started_reply bytes ticket version at size g =
        ap (λ (n : ℕ). Says.Started ticket n at size) g.number ∙ ap (λ (n : ℕ). Says.Started ticket v n size) g.offset ∙ ap (λ (n : ℕ). Says.Started ticket v (size_now b) n) g.end

    abbrev more_seen : List ℕ → Session
    more_seen bytes = seeing s (s.seen ++ number_event bytes ∷ []) (s.tickets ++ record { number = s.next; blob = blob; version = v } ∷ []) (s.next + 1)

    -- the append is held under the next ticket
    held_step : (bytes : List ℕ) (version at size : ℕ) (others later : List Event) (s' : Session) (f' : Files) (Says : PathMap → Type 0) → Goes bytes version at size → others ≡ [] → later ≡ []
        → s' ≡ holds (sees s (others ++ number_event bytes ∷ later)) blob version → f' ≡ with_store f s' → Says (and_held (puts m path (appended m b bytes)) path v) → Stepped f' Says
    held_step bytes version at size others later s' f' Says g none none_later saw is says =
        let b' = and_update b (u bytes) in
        let next : s' ≡ more_seen bytes =
        saw ∙ ap (λ (l : List Event). holds (sees s l) blob version) (seen_numbered bytes others later none none_later) ∙ ap (λ (n : ℕ). holds (sees s (number_event bytes ∷ [])) blob n) g.number in
        let k = puts_keep things path b' path blob b e in
        let held : AreHeld (put_in things path b') (s.tickets ++ record { number = s.next; blob = blob; version = v } ∷ []) (holds' ++ record { ticket = s.next; path = path; version = v } ∷ []) =
        held_push (put_in things path b') s.tickets holds' (record { number = s.next; blob = blob; version = v }) (record { ticket = s.next; path = path; version = v })
        (held_kept things (put_in things path b') (puts_keep things path b') s.tickets holds' st.tickets)
        (record { ticket = refl; version = refl; some = omega arith; content = k.0; there = k.1 }) in
        put_step b' (s.seen ++ number_event bytes ∷ []) (s.tickets ++ record { number = s.next; blob = blob; version = v } ∷ []) (s.next + 1) (holds' ++ record { ticket = s.next; path = path; version = v } ∷ []) f' Says
        (is ∙ ap (λ (x : Session). with_store f x) next) (numbered_changes bytes version at size g) held says

    folds_here : (bytes : List ℕ) (version at size : ℕ) (others later : List Event) → Goes bytes version at size → others ≡ [] → later ≡ []
        → folds_in s.fixed.page (store_at s (others ++ number_event bytes ∷ later)) blob version ≡ folds_at m (appended m b bytes) v
    folds_here bytes version at size others later g none none_later =
        ap (λ (l : List Event). folds_in s.fixed.page (store_of s.fixed.limits (s.seen ++ l)) blob version) (seen_numbered bytes others later none none_later)
        ∙ ap (λ (o : Option Blob). let l : List ℕ = elim o [ None ↦ [] | Some x ↦ folds_of s.fixed.page (extents x.updates) version ] in l) (numbered_changes bytes version at size g).here
        ∙ ap (λ (n : ℕ). folds_of s.fixed.page (extents (and_update b (u bytes)).updates) n) g.number

    -- it isn't numbered
    append_first : (bytes : List ℕ) (told : Reply) (s' : Session) (reply : FileReply) (f' : Files) (others : List Event) → others ≡ [] → (turn : Turn) → UnnumberedTurn s blob Append bytes others turn → told ≡ turn.said
        → s' ≡ with_tickets turn.tickets (sees s (and_made others turn.made)) → file_reply told ≡ Some reply → f' ≡ with_store f s' → Stepped f' (λ m'. AppendSays m path b bytes reply m')
    append_first bytes told s' reply f' others none _ (UnnumberedTurn.refused refusal e) said seen says is =
        let stop = assign_stops bytes refusal (outcome others (Calls.Assign blob Append bytes) _ none e) in
        unchanged f' (λ m'. AppendSays m path b bytes reply m') (still_files f' s' others is none seen)
        (AppendSays.refused refusal stop (said_as told (Replies.Refused (fault_of refusal)) reply (store_fault (fault_of refusal)) said says refl, refl))
    append_first bytes told s' reply f' others none _ UnnumberedTurn.out_of_memory said seen says is =
        unchanged f' (λ m'. AppendSays m path b bytes reply m') (still_files f' s' others is none seen)
        (AppendSays.out_of_memory (said_as told (Replies.Refused Faults.NoMemory) reply (store_fault Faults.NoMemory) said says refl, refl))
    append_first bytes told s' reply f' others none _ (UnnumberedTurn.not_stored page is_page stored) said seen says is =
        unchanged f' (λ m'. AppendSays m path b bytes reply m') (still_files f' s' others is none seen)
        (AppendSays.not_stored page is_page (said_as told (Replies.Refused (Faults.PageFault page)) reply (store_fault (Faults.PageFault page)) said says refl, refl))

    -- it is numbered, and then comes another turn
    module _ (bytes : List ℕ) (version at size : ℕ) (others later : List Event) (none : others ≡ []) (none_later : later ≡ []) (g : Goes bytes version at size) where
      append_then : (told : Reply) (s' : Session) (reply : FileReply) (f' : Files) (turn : Turn) → WholeTurn s blob Append version at size (others ++ number_event bytes ∷ later) later turn → told ≡ turn.said
          → s' ≡ with_tickets turn.tickets (sees s (others ++ number_event bytes ∷ and_made later turn.made)) → file_reply told ≡ Some reply → f' ≡ with_store f s' → Stepped f' (λ m'. AppendSays m path b bytes reply m')
      append_then told s' reply f' _ (WholeTurn.finished open_ ready) said seen says is =
          let next : s' ≡ sees s (number_event bytes ∷ finish_event version ∷ []) = seen ∙ ap (λ (l : List Event). sees s l) (seen_finished bytes version others later none none_later) in
          put_step (finish (and_update b (u bytes)) v) (s.seen ++ number_event bytes ∷ finish_event version ∷ []) s.tickets s.next holds' f' (λ m'. AppendSays m path b bytes reply m')
          (is ∙ ap (λ (x : Session). with_store f x) next) (finished_changes bytes version at size g)
          (held_kept things (put_in things path (finish (and_update b (u bytes)) v)) (puts_keep things path (finish (and_update b (u bytes)) v)) s.tickets holds' st.tickets)
          (AppendSays.done g.free (said_as told (Replies.Appended version at size) reply (Says.Appended version at size) said says refl ∙ appended_reply bytes version at size g) refl)
      append_then told s' reply f' _ (WholeTurn.found finished) said seen says is =
          absurd (false≢true (sym (ap (λ (l : List Event). finishes blob version l) none_later) ∙ finished))
      append_then told s' reply f' _ (WholeTurn.held_back open_ folds) said seen says is =
          held_step bytes version at size others later s' f' (λ m'. AppendSays m path b bytes reply m') g none none_later seen is
          (AppendSays.held_back g.free (λ no. folds (folds_here bytes version at size others later g none none_later ∙ no))
          (said_as told (Replies.AppendStarted s.next version at size) reply (Says.Started s.next version at size) said says refl ∙ started_reply bytes s.next version at size g) refl)
      append_then told s' reply f' _ WholeTurn.out_of_memory said seen says is =
          held_step bytes version at size others later s' f' (λ m'. AppendSays m path b bytes reply m') g none none_later seen is
          (AppendSays.kept g.free (said_as told (Replies.Refused (Faults.NoMemoryTicket s.next)) reply (store_fault (Faults.NoMemoryTicket s.next)) said says refl) refl)

    append_does : (bytes : List ℕ) (told : Reply) (s' : Session) (reply : FileReply) (f' : Files) → WholeAnswer IsNobody s blob Append bytes told s'
        → file_reply told ≡ Some reply → f' ≡ with_store f s' → Stepped f' (λ m'. AppendSays m path b bytes reply m')
    append_does bytes told s' reply f' (UpdateAnswer.once a) says is = append_first bytes told s' reply f' a.others a.is_gap a.turn a.may a.said a.seen says is
    append_does bytes told s' reply f' (UpdateAnswer.twice a) says is =
        append_then bytes a.version a.at a.size a.others a.later a.is_gap a.is_gap_later (assign_goes bytes a.version a.at a.size (outcome a.others (Calls.Assign blob Append bytes) _ a.is_gap a.numbered))
        told s' reply f' a.turn a.may a.said a.seen says is

    append_unless : (o : Option Fault) (bytes : List ℕ) (told : Reply) (s' : Session) (reply : FileReply) (f' : Files)
        → Unless o s told s' (WholeAnswer IsNobody s blob Append bytes told s')
        → file_reply told ≡ Some reply → f' ≡ with_store f s' → Stepped f' (λ m'. UnlessFault o m reply m' (AppendSays m path b bytes reply m'))
    append_unless None bytes told s' reply f' h says is = append_does bytes told s' reply f' h says is
    append_unless (Some fault) bytes told s' reply f' h says is =
        unchanged f' (λ m'. SaysFault m fault reply m') (is ∙ ap (λ (x : Session). with_store f x) h.1) (said_as told (Replies.Refused fault) reply (store_fault fault) h.0 says refl, refl)

    append_step : (bytes : List ℕ) (reply : FileReply) (f' : Files) → AsksOf nobody f (Requests.Append blob bytes) reply f'
        → Stepped f' (λ m'. UnlessFault (bytes_fault m bytes) m reply m' (AppendSays m path b bytes reply m'))
    append_step bytes reply f' h =
        let same : update_fault s bytes ≡ bytes_fault m bytes =
        ap (λ (n : ℕ). if length bytes == 0 then Some Faults.EmptyUpdate
        else (if nat_lt n (length bytes) then Some (Faults.UpdateTooLong (length bytes))
        else (if length s.tickets == max_tickets then Some Faults.TooManyTickets else None))) st.limit
        ∙ ap (λ (n : ℕ). if length bytes == 0 then Some Faults.EmptyUpdate
        else (if nat_lt max_update (length bytes) then Some (Faults.UpdateTooLong (length bytes))
        else (if n == max_tickets then Some Faults.TooManyTickets else None))) (held_count things s.tickets holds' st.tickets) in
        subst (λ (o : Option Fault). Stepped f' (λ m'. UnlessFault o m reply m' (AppendSays m path b bytes reply m'))) same
        (append_unless (update_fault s bytes) bytes h.told h.asks.after reply f' h.asks.answers h.says h.asks.is)

    -- ---- finishes

    finish_is : (version : ℕ) → answer now s.caller (Calls.Finish blob version)
        ≡ unless_refused now (already b version ∷ []) (with_blob now blob (finish b version), Outcomes.Published (published (finish b version)))
    finish_is version = at_b (λ x. unless_refused now (already x version ∷ []) (with_blob now blob (finish x version), Outcomes.Published (published (finish x version))))

    unmarked : (c : Bool) (r : Refusal) → (if c then Some r else None) ≡ None → c ≡ false
    unmarked true r e = absurd (none-some r (sym e))
    unmarked false r e = refl

    published_is : (n k : ℕ) → Outcomes.Published n ≡ Outcomes.Published k → k ≡ n
    published_is n k e = cc

    finish_goes : (version : ℕ) (x : Outcome) → (answer now s.caller (Calls.Finish blob version)).1 ≡ x → is_refused x ≡ false → (is_finished b version ≡ false) × (Outcomes.Published (published (finish b version)) ≡ x)
    finish_goes version x h ok =
        let g = goes now (first_refusal (already b version ∷ [])) (with_blob now blob (finish b version), Outcomes.Published (published (finish b version))) x (ap (λ (a : Answered). a.1) (sym (finish_is version)) ∙ h) ok in
        (unmarked (is_finished b version) (Refusals.Already version) g.0, g.1)

    folds_there : (version : ℕ) (others : List Event) → others ≡ [] → folds_in s.fixed.page (store_at s others) blob version ≡ folds_at m b version
    folds_there version others none =
        ap (λ (l : List Event). folds_in s.fixed.page (store_of s.fixed.limits l) blob version) (same_seen others none)
        ∙ ap (λ (o : Option Blob). let l : List ℕ = elim o [ None ↦ [] | Some x ↦ folds_of s.fixed.page (extents x.updates) version ] in l) there

    -- the version before it waits, or is published
    sync_is : (version : ℕ) → answer now s.caller (Calls.Sync blob version) ≡ unless_refused now (not_numbered b version ∷ pending b version ∷ []) (now, Outcomes.Synced version)
    sync_is version = at_b (λ x. unless_refused now (not_numbered x version ∷ pending x version ∷ []) (now, Outcomes.Synced version))

    pending_is : (c d : Bool) (n p h k : ℕ) → (if c then Some (Refusals.NotPublished n p) else (if d then Some (Refusals.Pending n h) else None)) ≡ Some (Refusals.Pending n k) → (d ≡ true) × (k ≡ h)
    pending_is true d n p h k e = absurd (let ok : ⊥ = cc in ok)
    pending_is false true n p h k e = (refl, cc)
    pending_is false false n p h k e = absurd (none-some (Refusals.Pending n k) e)

    ready_is : (c d : Bool) (r q : Refusal) → (if c then Some r else (if d then Some q else None)) ≡ None → d ≡ false
    ready_is true d r q e = absurd (none-some r (sym e))
    ready_is false d r q e = unmarked d q e

    already_is : (c d : Bool) (n p k : ℕ) → (if c then Some (Refusals.NotPublished n p) else (if d then Some (Refusals.Already n) else None)) ≡ Some (Refusals.Already k) → d ≡ true
    already_is true d n p k e = absurd (let ok : ⊥ = cc in ok)
    already_is false true n p k e = refl
    already_is false false n p k e = absurd (none-some (Refusals.Already k) e)

    -- why nobody may finish it
    repair_is : (version : ℕ) → repair_refusal now blob version ≡ first_refusal (not_numbered b version ∷ already b version ∷ [])
    repair_is version =
        ap (λ (o : Option Blob). let r : Option Refusal = elim o [ None ↦ Some (Refusals.NoBlob blob) | Some x ↦ first_refusal (not_numbered x version ∷ already x version ∷ []) ] in r) there

    waits_then : (version k : ℕ) → (answer now s.caller (Calls.Sync blob version)).1 ≡ Outcomes.Refused (Refusals.Pending version k) → (published b < version) × (k ≡ held b)
    waits_then version k h =
        let stop = stops now (first_refusal (not_numbered b version ∷ pending b version ∷ [])) (now, Outcomes.Synced version) (Refusals.Pending version k) (ap (λ (a : Answered). a.1) (sym (sync_is version)) ∙ h) refl in
        let p = pending_is (nat_lt (assigned b) version) (nat_lt (published b) version) version (published b) (held b) k stop in
        (grind (arith, nat_tests, p.0), p.1)

    ready_then : (version : ℕ) → (answer now s.caller (Calls.Sync blob version)).1 ≡ Outcomes.Synced version → version ≤ published b
    ready_then version h =
        let g = goes now (first_refusal (not_numbered b version ∷ pending b version ∷ [])) (now, Outcomes.Synced version) (Outcomes.Synced version) (ap (λ (a : Answered). a.1) (sym (sync_is version)) ∙ h) refl in
        let p = ready_is (nat_lt (assigned b) version) (nat_lt (published b) version) _ _ g.0 in
        grind (arith, nat_tests, p)

    module _ (t : HeldTicket) (same : t.blob ≡ blob) (some : 1 ≤ t.version) where
      -- the append as the session's ticket has it
      abbrev h0 : HeldAppend
      h0 = record { ticket = t.number; path = path; version = t.version }

      on_blob : (others : List Event) (x : Outcome) → others ≡ [] → outcome_at s others (Calls.Finish t.blob t.version) ≡ x → (answer now s.caller (Calls.Finish blob t.version)).1 ≡ x
      on_blob others x none h = ap (λ (n : ℕ). (answer now s.caller (Calls.Finish n t.version)).1) (sym same) ∙ outcome others (Calls.Finish t.blob t.version) x none h

      sync_on : (others : List Event) (version : ℕ) (x : Outcome) → others ≡ [] → outcome_at s others (Calls.Sync t.blob version) ≡ x → (answer now s.caller (Calls.Sync blob version)).1 ≡ x
      sync_on others version x none h = ap (λ (n : ℕ). (answer now s.caller (Calls.Sync n version)).1) (sym same) ∙ outcome others (Calls.Sync t.blob version) x none h

      repair_on : (others : List Event) (o : Option Refusal) → others ≡ [] → repair_refusal (store_at s others) t.blob t.version ≡ o → repair_refusal now blob t.version ≡ o
      repair_on others o none h =
          ap (λ (n : ℕ). repair_refusal now n t.version) (sym same) ∙ ap (λ (l : List Event). repair_refusal (store_of s.fixed.limits l) t.blob t.version) (sym (same_seen others none)) ∙ h

      unfinished : (others : List Event) → others ≡ [] → repair_refusal (store_at s others) t.blob t.version ≡ None → is_finished b t.version ≡ false
      unfinished others none h = ready_is (nat_lt (assigned b) t.version) (is_finished b t.version) _ _ (sym (repair_is t.version) ∙ repair_on others None none h)

      folds_on : (others : List Event) → others ≡ [] → folds_in s.fixed.page (store_at s others) t.blob t.version ≡ folds_at m b t.version
      folds_on others none = ap (λ (n : ℕ). folds_in s.fixed.page (store_at s others) n t.version) same ∙ folds_there t.version others none

      -- the ticket is given up
      dropped_held : (new : Things) → Keeps things new → AreHeld new (without_ticket s.tickets t.number) (without_held holds' t.number)
      dropped_held new keeps = held_without new s.tickets holds' t.number (held_kept things new keeps s.tickets holds' st.tickets)

      report_turn : (told : Reply) (s' : Session) (reply : FileReply) (f' : Files) (others : List Event) → others ≡ [] → (turn : Turn)
          → FinishTurn s t.blob t.version (λ published. Replies.Finished published) (Tickets.drop t.number) Tickets.stay others turn → told ≡ turn.said
          → s' ≡ with_tickets turn.tickets (sees s (and_made others turn.made)) → file_reply told ≡ Some reply → f' ≡ with_store f s' → Stepped f' (λ m'. FinishSays m h0 b reply m')
      report_turn told s' reply f' others none _ (FinishTurn.finished published open_ ready e) said saw says is =
          let w = t.version in
          let done = finish_goes w (Outcomes.Published published) (on_blob others _ none e) refl in
          let b' = finish b w in
          let seen : List Event = s.seen ++ finish_event w ∷ [] in
          let next : s' ≡ seeing s seen (without_ticket s.tickets t.number) s.next =
          saw
          ∙ ap (λ (l : List Event). drops (sees s (l ++ Events.Finish s.caller t.blob w ∷ [])) t.number) none
          ∙ ap (λ (n : ℕ). drops (sees s (Events.Finish s.caller n w ∷ [])) t.number) same in
          let changes : Changes now blob b' (store_of s.fixed.limits seen) =
          subst (λ (x : Store). Changes now blob b' x) (sym (after (finish_event w ∷ []))) (finish_changes now s.caller blob w b there some) in
          put_step b' seen (without_ticket s.tickets t.number) s.next (without_held holds' t.number) f' (λ m'. FinishSays m h0 b reply m') (is ∙ ap (λ (x : Session). with_store f x) next) changes
          (dropped_held (put_in things path b') (puts_keep things path b'))
          (FinishSays.done done.0
          (said_as told (Replies.Finished published) reply (Says.Finished published) said says refl ∙ ap (λ (n : ℕ). Says.Finished n) (published_is _ _ done.1)) refl)
      report_turn told s' reply f' others none _ (FinishTurn.found e) said saw says is =
          let next : s' ≡ seeing s s.seen (without_ticket s.tickets t.number) s.next = saw ∙ ap (λ (l : List Event). seeing s l (without_ticket s.tickets t.number) s.next) (same_seen others none) in
          let found_it = already_is (nat_lt (assigned b) t.version) (is_finished b t.version) t.version (published b) t.version (sym (repair_is t.version) ∙ repair_on others _ none e) in
          let stands : Stands (with_store f (seeing s s.seen (without_ticket s.tickets t.number) s.next)) things (without_held holds' t.number) =
          record { limit = st.limit; names = st.names; once = st.once; files = st.files; tickets = held_without things s.tickets holds' t.number st.tickets } in
          subst (λ (x : Files). Stepped x (λ m'. FinishSays m h0 b reply m')) (sym (is ∙ ap (λ (x : Session). with_store f x) next)) (record {
            things = things;
            held = without_held holds' t.number;
            stands = stands;
            says = FinishSays.found_finished found_it (said_as told (Replies.Refused (Faults.Already t.version)) reply (store_fault (Faults.Already t.version)) said says refl) refl;
          })
      report_turn told s' reply f' others none _ (FinishTurn.waits held' open_ folds e) said saw says is =
          let w = waits_then (t.version - 1) held' (sync_on others (t.version - 1) _ none e) in
          unchanged f' (λ m'. FinishSays m h0 b reply m') (still_files f' s' others is none saw)
          (FinishSays.waits (unfinished others none open_) (λ no. folds (folds_on others none ∙ no)) w.0 (
            said_as told (Replies.Refused (Faults.Pending (t.version - 1) held')) reply (store_fault (Faults.Pending (t.version - 1) held')) said says refl
                ∙ ap (λ (n : ℕ). store_fault (Faults.Pending (t.version - 1) n)) w.1,
            refl,
          ))
      report_turn told s' reply f' others none _ (FinishTurn.not_folded page open_ fold ready) said saw says is =
          unchanged f' (λ m'. FinishSays m h0 b reply m') (still_files f' s' others is none saw)
          (FinishSays.not_folded (unfinished others none open_) page (subst (λ (l : List ℕ). Contains l page) (folds_on others none) fold) (ready_then (t.version - 1) (sync_on others (t.version - 1) _ none ready))
          (said_as told (Replies.Refused (Faults.PageFault page)) reply (store_fault (Faults.PageFault page)) said says refl, refl))
      report_turn told s' reply f' others none _ FinishTurn.out_of_memory said saw says is =
          unchanged f' (λ m'. FinishSays m h0 b reply m') (still_files f' s' others is none saw)
          (FinishSays.out_of_memory (said_as told (Replies.Refused Faults.NoMemory) reply (store_fault Faults.NoMemory) said says refl, refl))

  -- ---- a finish of a ticket

  append_is : (t : HeldTicket) (h : HeldAppend) → IsHeld things t h → record { ticket = t.number; path = h.path; version = t.version } ≡ h
  append_is t h is =
      ap (λ (n : ℕ). let x : HeldAppend = record { ticket = n; path = h.path; version = t.version } in x) (sym is.ticket)
      ∙ ap (λ (n : ℕ). let x : HeldAppend = record { ticket = h.ticket; path = h.path; version = n } in x) (sym is.version)

  held_says : (h : HeldAppend) (o : Option Thing) (blob : ℕ) (b : Blob) (reply : FileReply) (m' : PathMap) → o ≡ Some (Thing.file blob b) → FinishSays m h b reply m' → HeldSays m h o reply m'
  held_says h o blob b reply m' e says = subst (λ (o : Option Thing). HeldSays m h o reply m') (sym e) says

  ticket_step : (number : ℕ) (o : Option HeldTicket) (p : Option HeldAppend) → SameTicket things o p → (told : Reply) (s' : Session) (reply : FileReply) (f' : Files) → FinishAnswer IsNobody s number o told s'
      → file_reply told ≡ Some reply → f' ≡ with_store f s' → Stepped f' (λ m'. TicketSays m number p reply m')
  ticket_step number None None is told s' reply f' h says next =
      unchanged f' (λ m'. SaysFault m (Faults.NoTicket number) reply m') (next ∙ ap (λ (x : Session). with_store f x) h.1)
      (same_Some reply (store_fault (Faults.NoTicket number)) (sym says ∙ ap file_reply h.0), refl)
  ticket_step number (Some t) (Some h) is told s' reply f' answer says next =
      let step = report_turn h.path t.blob is.content is.there t refl is.some told s' reply f' answer.others answer.is_gap answer.turn answer.may answer.said answer.seen says next in
      subst (λ (x : HeldAppend). Stepped f' (λ m'. HeldSays m x (thing_at things x.path) reply m')) (append_is t h is)
      (also f' (λ m'. FinishSays m (record { ticket = t.number; path = h.path; version = t.version }) is.content reply m')
      (λ m'. HeldSays m (record { ticket = t.number; path = h.path; version = t.version }) (thing_at things h.path) reply m') (λ m' said. held_says (record { ticket = t.number; path = h.path; version = t.version }) (thing_at things h.path) t.blob is.content reply m' is.there said) step)
  ticket_step number None (Some h) is told s' reply f' answer says next = absurd is
  ticket_step number (Some t) None is told s' reply f' answer says next = absurd is

  finish_step : (number : ℕ) (reply : FileReply) (f' : Files) → AsksOf nobody f (Requests.Finish number) reply f' → Stepped f' (λ m'. TicketSays m number (held_in holds' number) reply m')
  finish_step number reply f' h =
      ticket_step number (ticket_at s.tickets number) (held_in holds' number) (ticket_found things s.tickets holds' number st.tickets) h.told h.asks.after reply f' h.asks.answers h.says h.asks.is

  -- ---- looks at the names

  stat_at_path : (path : List ℕ) (o : Option Thing) → thing_at things path ≡ o → (reply : FileReply) (f' : Files) → OnStat nobody path f (looked f.by m path o) reply f'
      → Stepped f' (λ m'. (reply ≡ Maps.stat_reply m path o) × (m' ≡ m))
  stat_at_path path None e reply f' h = unchanged f' (λ m'. (reply ≡ Maps.stat_reply m path None) × (m' ≡ m)) h.1 (h.0, refl)
  stat_at_path path (Some Thing.folder) e reply f' h = unchanged f' (λ m'. (reply ≡ Maps.stat_reply m path (Some Thing.folder)) × (m' ≡ m)) h.1 (h.0, refl)
  stat_at_path path (Some (Thing.file blob b)) e reply f' h = recent_step path blob b e reply f' h

  stat_step : (path : List ℕ) (reply : FileReply) (f' : Files) → FileAnswers nobody f (Lines.Stat path) reply f' → Stepped f' (λ m'. MapAnswers m (Lines.Stat path) reply m')
  stat_step path reply f' h =
      let at : OnStat nobody path f (Tree.stat_at f.names path) reply f' = subst (λ (g : Files). OnStat nobody path g (Tree.stat_at g.names path) reply f') (looks_same h.seen h.looks) h.goes_on in
      let is : Tree.stat_at f.names path ≡ looked f.by m path (thing_at things path) = ap (λ (l : NameLog). Tree.stat_at l path) names_are ∙ stat_is f.by m path in
      stat_at_path path (thing_at things path) refl reply f' (subst (λ (o : Option Stat). OnStat nobody path f o reply f') is at)

  list_step : (path : List ℕ) (reply : FileReply) (f' : Files) → FileAnswers nobody f (Lines.List path) reply f' → Stepped f' (λ m'. MapAnswers m (Lines.List path) reply m')
  list_step path reply f' h =
      let same = looks_same f' h.looks in
      let lists : Tree.Lists (names_of f.by things) path h.said = subst (λ (l : NameLog). Tree.Lists l path h.said) (ap (λ (g : Files). g.names) same ∙ names_are) h.lists in
      unchanged f' (λ m'. MapAnswers m (Lines.List path) reply m') same (told (list_is f.by m path h.said lists))
    where
      told : Maps.ListSays m path (thing_at things path) (list_reply path h.said) ⊎ (list_reply path h.said ≡ Says.Unsaid) → MapAnswers m (Lines.List path) reply m
      told (inl says) = inl (subst (λ (r : FileReply). Maps.ListSays m path (thing_at things path) r) (sym h.is) says, refl)
      told (inr starved) = inr (h.is ∙ starved, refl)

  -- ---- a path more

  abbrev entry : List ℕ → Named → NameLog
  entry path named = (f.by, record { path = path; named = named }) ∷ []

  fault_here : (others : NameLog) (path : List ℕ) → others ≡ [] → enter_fault (f.names ++ others) path ≡ new_fault m path
  fault_here others path none =
      ap (λ (l : NameLog). enter_fault l path) (ap (λ (l : NameLog). f.names ++ l) none ∙ append-nil f.names ∙ names_are) ∙ fault_is f.by m path

  -- the names behind an entry that was made
  entered : (others after' : NameLog) (path : List ℕ) (named : Named) → others ≡ [] → after' ≡ (f.names ++ others) ++ entry path named → after' ≡ f.names ++ entry path named
  entered others after' path named none is = is ∙ ap (λ (l : NameLog). l ++ entry path named) (ap (λ (l : NameLog). f.names ++ l) none ∙ append-nil f.names)

  -- and where none was
  unentered : (others after' : NameLog) (f' : Files) → others ≡ [] → after' ≡ f.names ++ others → f' ≡ with_names f after' → f' ≡ f
  unentered others after' f' none is next = still_names f' others none (next ∙ ap (λ (l : NameLog). with_names f l) is)

  folder_fault : (path : List ℕ) (fault : EnterFault) (reply : FileReply) (f' : Files) → new_fault m path ≡ Some fault → reply ≡ enter_refused path fault → f' ≡ f
      → Stepped f' (λ m'. MapAnswers m (Lines.Mkdir path) reply m')
  folder_fault path fault reply f' is says same =
      unchanged f' (λ m'. MapAnswers m (Lines.Mkdir path) reply m') same (inl (subst (λ (o : Option EnterFault). FolderSays m path o reply m) (sym is) (says, refl)))

  mkdir_enters : (path : List ℕ) (said : Result (Unit {0}) EnterFault) (others after' : NameLog) (reply : FileReply) (f' : Files) → others ≡ [] → Enters (f.names ++ others) f.by path Nameds.Folder said after'
      → f' ≡ with_names f after' → reply ≡ entered_reply (Says.Folder path) path said → Stepped f' (λ m'. MapAnswers m (Lines.Mkdir path) reply m')
  mkdir_enters path (Ok done) others after' reply f' none enters is says =
      let free : new_fault m path ≡ None = sym (fault_here others path none) ∙ enters.0 in
      let next : f' ≡ with_names f (f.names ++ entry path Nameds.Folder) = is ∙ ap (λ (l : NameLog). with_names f l) (entered others after' path Nameds.Folder none enters.1) in
      let m' : PathMap = and_thing m path Thing.folder in
      subst (λ (g : Files). Stepped g (λ m'. MapAnswers m (Lines.Mkdir path) reply m')) (sym next) (record {
        things = things ++ (path, Thing.folder) ∷ [];
        held = holds';
        stands = pushed f things holds' st path Thing.folder (files_push now things path Thing.folder st.files tt) (once_folder f.by things path st.once);
        says = inl (subst (λ (o : Option EnterFault). FolderSays m path o reply m') (sym free) (says, refl));
      })
  mkdir_enters path (Err EnterFaults.NoMemory) others after' reply f' none enters is says =
      unchanged f' (λ m'. MapAnswers m (Lines.Mkdir path) reply m') (unentered others after' f' none enters is) (inr (says, refl))
  mkdir_enters path (Err EnterFaults.NoParent) others after' reply f' none enters is says =
      folder_fault path EnterFaults.NoParent reply f' (sym (fault_here others path none) ∙ enters.0) says (unentered others after' f' none enters.1 is)
  mkdir_enters path (Err EnterFaults.ParentNotFolder) others after' reply f' none enters is says =
      folder_fault path EnterFaults.ParentNotFolder reply f' (sym (fault_here others path none) ∙ enters.0) says (unentered others after' f' none enters.1 is)
  mkdir_enters path (Err EnterFaults.Exists) others after' reply f' none enters is says =
      folder_fault path EnterFaults.Exists reply f' (sym (fault_here others path none) ∙ enters.0) says (unentered others after' f' none enters.1 is)
  mkdir_enters path (Err EnterFaults.TooManyNames) others after' reply f' none enters is says =
      folder_fault path EnterFaults.TooManyNames reply f' (sym (fault_here others path none) ∙ enters.0) says (unentered others after' f' none enters.1 is)

  mkdir_step : (path : List ℕ) (reply : FileReply) (f' : Files) → MkdirAnswer nobody f path reply f' → Stepped f' (λ m'. MapAnswers m (Lines.Mkdir path) reply m')
  mkdir_step path reply f' h = mkdir_enters path h.said h.enters.others h.enters.after reply f' h.enters.is_gap h.enters.enters h.enters.is h.is

  -- ---- a blob more

  abbrev empty : Blob
  empty = record { updates = []; finished = [] }

  blob_is_next : (n k : ℕ) → Outcomes.Blob n ≡ Outcomes.Blob k → k ≡ n
  blob_is_next n k e = cc

  not_full : (c : Bool) (r : Refusal) → (if c then Some r else None) ≡ None → c ≡ false
  not_full true r e = absurd (none-some r (sym e))
  not_full false r e = refl

  is_full : (c : Bool) (r q : Refusal) → (if c then Some r else None) ≡ Some q → (c ≡ true) × (q ≡ r)
  is_full true r q e = (refl, sym (same_Some r q e))
  is_full false r q e = absurd (none-some q e)

  most : now.limits.max_blobs ≡ m.fixed.limits.max_blobs
  most = ap (λ (l : Bounds). l.max_blobs) limits

  -- a blob was created
  record Made (blob : ℕ) : Type 0 where
    room : m.blobs ≢ m.fixed.limits.max_blobs
    next : blob ≡ m.blobs + 1
    store : store_of s.fixed.limits (s.seen ++ Events.Create s.caller ∷ []) ≡ and_blob now empty

  created : (blob : ℕ) → (answer now s.caller Calls.Create).1 ≡ Outcomes.Blob blob → Made blob
  created blob h =
      let g = goes now (first_refusal (too_many_blobs now ∷ [])) (and_blob now empty, Outcomes.Blob (length now.blobs + 1)) (Outcomes.Blob blob) h refl in
      let less = not_full (length now.blobs == now.limits.max_blobs) (Refusals.TooManyBlobs now.limits.max_blobs) g.0 in
      record {
        room = λ same. false≢true (sym less ∙ eq-eqb (length now.blobs) now.limits.max_blobs (same ∙ sym most));
        next = blob_is_next _ _ g.1;
        store = after (Events.Create s.caller ∷ []) ∙ ap (λ (o : Option Refusal). let a : Answered = elim o [ Some r ↦ refuse now r | None ↦ (and_blob now empty, Outcomes.Blob (length now.blobs + 1)) ] in a.0) g.0;
      }

  create_stops : (r : Refusal) → (answer now s.caller Calls.Create).1 ≡ Outcomes.Refused r → (m.blobs ≡ m.fixed.limits.max_blobs) × (r ≡ Refusals.TooManyBlobs m.fixed.limits.max_blobs)
  create_stops r h =
      let stop = stops now (first_refusal (too_many_blobs now ∷ [])) (and_blob now empty, Outcomes.Blob (length now.blobs + 1)) r h refl in
      let full = is_full (length now.blobs == now.limits.max_blobs) (Refusals.TooManyBlobs now.limits.max_blobs) r stop in
      (grind (arith, nat_tests, full.0, most), full.1 ∙ ap (λ (n : ℕ). Refusals.TooManyBlobs n) most)

  -- the session then
  abbrev grown : Files
  grown = with_store f (seeing s (s.seen ++ Events.Create s.caller ∷ []) s.tickets s.next)

  module _ (blob : ℕ) (made : Made blob) where
    grown_store : store_now grown.store ≡ and_blob now empty
    grown_store = made.store

    grown_count : length (store_now grown.store).blobs ≡ m.blobs + 1
    grown_count = ap (λ (t : Store). length t.blobs) grown_store ∙ length-append now.blobs (empty ∷ [])

    grown_stands : Stands grown things holds'
    grown_stands = record { limit = st.limit; names = st.names; once = st.once; files = subst (λ (t : Store). AreFiles t things) (sym grown_store) (files_more now empty things st.files); tickets = st.tickets }

    abbrev n : ℕ
    n = m.blobs + 1

    file_stands : (path : List ℕ) → Stands (with_names grown (f.names ++ entry path (Nameds.File n))) (things ++ (path, new_file n) ∷ []) holds'
    file_stands path =
        let files : AreFiles (and_blob now empty) (things ++ (path, new_file n) ∷ []) = files_push (and_blob now empty) things path (new_file n) (files_more now empty things st.files) (more_last now empty) in
        pushed grown things holds' grown_stands path (new_file n) (subst (λ (t : Store). AreFiles t (things ++ (path, new_file n) ∷ [])) (sym grown_store) files) (once_file f.by now things path st.files st.once)

    none_refused : {A : Type 0} (path : List ℕ) (fault : EnterFault) (others : NameLog) → new_fault m path ≡ None → others ≡ [] → enter_fault (f.names ++ others) path ≡ Some fault → A
    none_refused path fault others free none e = absurd (none-some fault (sym free ∙ sym (fault_here others path none) ∙ e))

    make_enters : (path : List ℕ) → new_fault m path ≡ None → (said : Result (Unit {0}) EnterFault) (others after' : NameLog) (reply : FileReply) (f' : Files) → others ≡ []
        → Enters (f.names ++ others) f.by path (Nameds.File blob) said after' → f' ≡ with_names grown after' → reply ≡ entered_reply (Says.File path blob) path said → Stepped f' (λ m'. FileSays m path reply m')
    make_enters path free (Ok done) others after' reply f' none enters is says =
        let log : after' ≡ f.names ++ entry path (Nameds.File n) = entered others after' path (Nameds.File blob) none enters.1 ∙ ap (λ (k : ℕ). f.names ++ entry path (Nameds.File k)) made.next in
        subst (λ (g : Files). Stepped g (λ m'. FileSays m path reply m')) (sym (is ∙ ap (λ (l : NameLog). with_names grown l) log)) (record {
          things = things ++ (path, new_file n) ∷ [];
          held = holds';
          stands = file_stands path;
          says = FileSays.made made.room (says ∙ ap (λ (k : ℕ). Says.File path k) made.next) (ap (λ (k : ℕ). counting (and_thing m path (new_file n)) k) grown_count);
        })
    make_enters path free (Err EnterFaults.NoMemory) others after' reply f' none enters is says =
        let log : after' ≡ f.names = enters ∙ ap (λ (l : NameLog). f.names ++ l) none ∙ append-nil f.names in
        subst (λ (g : Files). Stepped g (λ m'. FileSays m path reply m')) (sym (is ∙ ap (λ (l : NameLog). with_names grown l) log)) (record {
          things = things;
          held = holds';
          stands = grown_stands;
          says = FileSays.unnamed made.room (says, ap (λ (k : ℕ). counting m k) grown_count);
        })
    make_enters path free (Err EnterFaults.NoParent) others after' reply f' none enters is says = none_refused path EnterFaults.NoParent others free none enters.0
    make_enters path free (Err EnterFaults.ParentNotFolder) others after' reply f' none enters is says = none_refused path EnterFaults.ParentNotFolder others free none enters.0
    make_enters path free (Err EnterFaults.Exists) others after' reply f' none enters is says = none_refused path EnterFaults.Exists others free none enters.0
    make_enters path free (Err EnterFaults.TooManyNames) others after' reply f' none enters is says = none_refused path EnterFaults.TooManyNames others free none enters.0

  fault_reply : (fault : Fault) (reply : FileReply) (other : Fault) → reply ≡ store_fault fault → Replies.Refused fault ≡ Replies.Refused other → reply ≡ store_fault other
  fault_reply fault reply other says e = says ∙ ap store_fault (let same : fault ≡ other = cc in same)

  no_creation : (fault : Fault) (blob : ℕ) → Replies.Refused fault ≡ Replies.Created blob → ⊥
  no_creation fault blob e = cc

  created_is : (blob other : ℕ) → Replies.Created blob ≡ Replies.Created other → other ≡ blob
  created_is blob other e = cc

  no_file : (path : List ℕ) (fault : Fault) (reply : FileReply) (s' : Session) (f' : Files) (others : List Event) → others ≡ [] → (turn : Turn) → AddTurn s Calls.Create others turn → Replies.Refused fault ≡ turn.said
      → s' ≡ with_tickets turn.tickets (sees s (and_made others turn.made)) → f' ≡ with_store f s' → reply ≡ store_fault fault → Stepped f' (λ m'. FileSays m path reply m')
  no_file path fault reply s' f' others none _ (AddTurn.added blob e) said seen is says = absurd (no_creation fault blob said)
  no_file path fault reply s' f' others none _ (AddTurn.refused refusal e) said seen is says =
      let stop = create_stops refusal (outcome others Calls.Create _ none e) in
      unchanged f' (λ m'. FileSays m path reply m') (still_files f' s' others is none seen)
      (FileSays.refused stop.0 (fault_reply fault reply (fault_of refusal) says said ∙ ap (λ (r : Refusal). store_fault (fault_of r)) stop.1, refl))
  no_file path fault reply s' f' others none _ AddTurn.out_of_memory said seen is says =
      unchanged f' (λ m'. FileSays m path reply m') (still_files f' s' others is none seen) (FileSays.out_of_memory (fault_reply fault reply Faults.NoMemory says said, refl))

  new_blob : (path : List ℕ) → new_fault m path ≡ None → (mid : Files) (blob : ℕ) (said : Result (Unit {0}) EnterFault) (s' : Session) (reply : FileReply) (f' : Files) (others : List Event) → others ≡ [] → (turn : Turn)
      → AddTurn s Calls.Create others turn → Replies.Created blob ≡ turn.said → s' ≡ with_tickets turn.tickets (sees s (and_made others turn.made))
      → mid ≡ with_store f s' → EntersNames nobody mid path (Nameds.File blob) said f' → reply ≡ entered_reply (Says.File path blob) path said → Stepped f' (λ m'. FileSays m path reply m')
  new_blob path free mid blob said s' reply f' others none _ (AddTurn.added added e) told seen is enters says =
      let next : mid ≡ grown = is ∙ ap (λ (x : Session). with_store f x) (seen ∙ ap (λ (l : List Event). sees s (l ++ Events.Create s.caller ∷ [])) none) in
      let here : EntersNames nobody grown path (Nameds.File blob) said f' = subst (λ (g : Files). EntersNames nobody g path (Nameds.File blob) said f') next enters in
      let made : Made blob = subst Made (created_is blob added told) (created added (outcome others Calls.Create _ none e)) in
      make_enters blob made path free said here.others here.after reply f' here.is_gap here.enters here.is says
  new_blob path free mid blob said s' reply f' others none _ (AddTurn.refused refusal e) told seen is enters says = absurd (no_creation (fault_of refusal) blob (sym told))
  new_blob path free mid blob said s' reply f' others none _ AddTurn.out_of_memory told seen is enters says = absurd (no_creation Faults.NoMemory blob (sym told))

  make_free : (path : List ℕ) → new_fault m path ≡ None → (reply : FileReply) (f' : Files) → MakesFile nobody f path reply f' → Stepped f' (λ m'. FileSays m path reply m')
  make_free path free reply f' (MakesFile.not_created fault asks says) =
      let a = asks.answers in
      no_file path fault reply asks.after f' a.others a.is_gap a.turn a.may a.said a.seen asks.is says
  make_free path free reply f' (MakesFile.created mid blob said asks enters says) =
      let a = asks.answers in
      new_blob path free mid blob said asks.after reply f' a.others a.is_gap a.turn a.may a.said a.seen asks.is enters says

  make_at : (path : List ℕ) (o : Option EnterFault) → new_fault m path ≡ o → (reply : FileReply) (f' : Files) → OnFree nobody path f o reply f' → Stepped f' (λ m'. MakeSays m path o reply m')
  make_at path None e reply f' h = make_free path e reply f' h
  make_at path (Some fault) e reply f' h = unchanged f' (λ m'. MakeSays m path (Some fault) reply m') h.1 (h.0, refl)

  make_step : (path : List ℕ) (reply : FileReply) (f' : Files) → FileAnswers nobody f (Lines.Make path) reply f' → Stepped f' (λ m'. MakeSays m path (new_fault m path) reply m')
  make_step path reply f' h =
      let at : OnFree nobody path f (enter_fault f.names path) reply f' = subst (λ (g : Files). OnFree nobody path g (enter_fault g.names path) reply f') (looks_same h.seen h.looks) h.goes_on in
      let is : enter_fault f.names path ≡ new_fault m path = ap (λ (l : NameLog). enter_fault l path) names_are ∙ fault_is f.by m path in
      make_at path (new_fault m path) refl reply f' (subst (λ (o : Option EnterFault). OnFree nobody path f o reply f') is at)

  -- ---- all lines

  pub line_step : (line : FileLine) (reply : FileReply) (f' : Files) → FileAnswers nobody f line reply f' → Stepped f' (λ m'. MapAnswers m line reply m')
  line_step (Lines.Mkdir path) reply f' h = mkdir_step path reply f' h
  line_step (Lines.Make path) reply f' h = make_step path reply f' h
  line_step (Lines.Append path bytes) reply f' h = file_step path _ (λ b reply m'. UnlessFault (bytes_fault m bytes) m reply m' (AppendSays m path b bytes reply m')) reply f' h (λ blob b e asks. append_step path blob b e bytes reply f' asks)
  line_step (Lines.Read path version offset count) reply f' h =
      file_step path _ (λ b reply m'. UnlessFault (read_fault count) m reply m' (ReadSays m b version offset count reply × (m' ≡ m))) reply f' h (λ blob b e asks. read_step path blob b e version offset count reply f' asks)
  line_step (Lines.Stat path) reply f' h = stat_step path reply f' h
  line_step (Lines.List path) reply f' h = list_step path reply f' h
  line_step (Lines.Where path version offset count) reply f' h =
      file_step path _ (λ b reply m'. UnlessFault (read_fault count) m reply m' (WhereSays m b version offset count reply × (m' ≡ m))) reply f' h (λ blob b e asks. where_step path blob b e version offset count reply f' asks)
  line_step (Lines.Finish ticket) reply f' h = finish_step ticket reply f' h
  line_step Lines.Quit reply f' h = unchanged f' (λ m'. MapAnswers m Lines.Quit reply m') h.1 (h.0, refl)

  pub item_step : (item : FileHeard) → IsWellHeard item → (reply : FileReply) (f' : Files) → FileItemReply nobody f item reply f' → Stepped f' (λ m'. MapItemReply m item reply m')
  item_step (Asked line) well reply f' h = line_step line reply f' h
  item_step (Wrong fault) well reply f' h = unchanged f' (λ m'. MapItemReply m (Wrong fault) reply m') h.1 (well, (h.0 ∙ ap store_fault well, refl))

pub rounds_mapped : (f : Files) (things : Things) (held : List HeldAppend) → Stands f things held → (items : List FileHeard) → AllWellHeard items → (replies : List FileReply) (f' : Files)
    → Rounds (FileItemReply nobody) f items replies f' → (last : PathMap) × Rounds MapItemReply (map_of f things held) items replies last
rounds_mapped f things held st [] well [] f' run = (map_of f things held, refl)
rounds_mapped f things held st [] well (reply ∷ replies) f' run = absurd run
rounds_mapped f things held st (item ∷ items) well [] f' run = absurd run
rounds_mapped f things held st (item ∷ items) well (reply ∷ replies) f' (mid, first, run) =
    let step = item_step f things held st item well.0 reply mid first in
    let rest = rounds_mapped mid step.things step.held step.stands items well.1 replies f' run in
    (rest.0, (map_of mid step.things step.held, step.says, rest.1))
