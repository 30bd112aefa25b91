-- Where nobody else is there, each history that a session has seen is one of a desk.
use Rattle.std.proofs.Common.{◌≡◌, ◌≢◌, ℕ, ◌+◌, ◌-◌, ◌*◌, ◌^◌, ◌<◌, ◌≤◌, ◌==◌, nat_lt, Bool, true, false, if◌then◌else◌, ◌&&◌, List, [], ◌∷◌, ◌++◌, length, set, zero, suc, refl, sym, ◌∙◌, ap, subst, length-append, append_assoc, append-nil, arith}
use Rattle.std.specs.Prelude.{Option, Some, None, slice_get}
use Rattle.std.proofs.lemmas.Option.{none-some}
use Rattle.std.proofs.lemmas.Bool.{false≢true}
use Rattle.std.proofs.lemmas.Bool.Decides.{nat_tests}
use Rattle.blob_model.specs.Limits.{Bounds}
use Rattle.blob_model.specs.Content.{Update, offset_of}
use Rattle.blob_model.specs.Store.{Store, Blob, assigned, published, held, size_now, size_with, is_finished, finish, blob_at, and_update, with_blob}
use Rattle.blob_model.specs.Answer.{Test, Answered, answer, refuse, in_blob, first_refusal, unless_refused, offset_past_size, blob_too_big, too_many_versions, too_many_open, not_numbered, pending, already}
use Rattle.blob_model.specs.History.{caller_of, call_of, store_from, store_of, is_refused, IsAccepted, IsNumbered, IsLegalFrom, IsLegal, finishes}
use Rattle.blob_model.specs.Laws.{OldVersionsStay}
use Rattle.blob_model.specs.declared.call.Place.{Place}
use Rattle.blob_model.specs.declared.call.Place.TheVariants.{WriteAt, Append}
use Rattle.blob_model.specs.declared.call.Call.{Call}
use Rattle.blob_model.specs.declared.call.Call.TheVariants as Calls
use Rattle.blob_model.specs.declared.call.Event.{Event}
use Rattle.blob_model.specs.declared.call.Event.TheVariants as Events
use Rattle.blob_model.specs.declared.call.Outcome.TheVariants as Outcomes
use Rattle.blob_model.specs.declared.call.Refusal.{Refusal}
use Rattle.blob_model.specs.declared.call.Refusal.TheVariants as Refusals
use Rattle.range_log.specs.Rows.{folds_of}
use Rattle.range_log.specs.Updates.{extents}
use Rattle.version_manager.specs.Desks.{updates_or_none, published_or_none}
use Rattle.version_manager.specs.Folds.{IsInOrder, AreInOrder}
use Rattle.version_manager.specs.Log.{IsHistory}
use Rattle.version_manager.proofs.Orders.{IsEventInOrder, order_more, none_in_order}
use Rattle.version_manager.proofs.Stores.{legal-append, in_blob_here, in_blob_none}
use Rattle.request_form.specs.Session.{Fixed, Session, HeldTicket, IsNobody, store_at, sees, holds, ticket_at, without_ticket, drops, without_version, lets_go, takes_up_to}
use Rattle.request_form.specs.Turns.{Tickets, Turn, with_tickets, and_made}
use Rattle.request_form.specs.Answers.{AddTurn, ReadTurn, ReadManyTurn, FinishTurn, RepairTurn, UnnumberedTurn, StartTurn, StartedTurn, WholeTurn, UpdateAnswer, StartAnswer, WholeAnswer, FinishAnswer, LookAnswer, Unless, Folds, IsReady, update_fault, read_fault, ranges_fault, Answers}
use Rattle.request_form.specs.HangUp.{AllNumbered}
use Rattle.request_form.specs.Transcript.{ItemReply, Run, Transcript, first_session, until_quit, is_last}
use Rattle.request_form.specs.declared.form.Request.{Request}
use Rattle.request_form.specs.declared.form.Request.TheVariants as Requests
use Rattle.request_form.specs.declared.form.Reply.{Reply}
use Rattle.request_form.specs.declared.form.Fault.{Fault}
use Rattle.request_form.specs.declared.form.Heard.{Heard}
use Rattle.request_form.specs.declared.form.Heard.TheVariants.{Asked, Wrong}
use Rattle.blob_model.proofs.Marks.{AllEven, no_blobs, even_is, even_at, event_even}
use Rattle.blob_model.proofs.Stays.{store_from-append}
use Rattle.workload_law.proofs.Later.{last_mark}

-- ---- an update that was numbered

none_of_one : (s : Store) (a : Test) (done : Answered) → a.refuses ≡ false → unless_refused s (a ∷ []) done ≡ done
none_of_one s a done p = rw p refl

record IsNumbering (s : Store) (caller blob : ℕ) (place : Place) (bytes : List ℕ) (version : ℕ) : Type 0 where
  b : Blob
  here : blob_at s blob ≡ Some b
  next : version ≡ length b.updates + 1
  store : (answer s caller (Calls.Assign blob place bytes)).0 ≡ with_blob s blob (and_update b (record { caller = caller; place = place; bytes = bytes }))

assigning : Store → ℕ → ℕ → Place → List ℕ → Blob → Answered
assigning s caller blob place bytes b =
    unless_refused s
    (offset_past_size b place ∷ blob_too_big s b place bytes ∷ too_many_versions s b ∷ too_many_open s b ∷ []) (
      with_blob s blob (and_update b (record { caller = caller; place = place; bytes = bytes })),
      Outcomes.Assigned (assigned b + 1) (offset_of place (size_now b)) (size_with b place bytes),
    )

numbering_there : (s : Store) (caller blob : ℕ) (place : Place) (bytes : List ℕ) (version at size : ℕ) (b : Blob) → blob_at s blob ≡ Some b →
    (f : Option Refusal) → answer s caller (Calls.Assign blob place bytes) ≡ (elim f [
      | Some r ↦ refuse s r
      | None ↦ (
        with_blob s blob (and_update b (record { caller = caller; place = place; bytes = bytes })),
        Outcomes.Assigned (assigned b + 1) (offset_of place (size_now b)) (size_with b place bytes),
      )
    ]) → (answer s caller (Calls.Assign blob place bytes)).1 ≡ Outcomes.Assigned version at size → IsNumbering s caller blob place bytes version
numbering_there s caller blob place bytes version at size b here (Some r) e h =
    let no : Outcomes.Refused r ≡ Outcomes.Assigned version at size = sym (ap (λ (a : Answered). a.1) e) ∙ h in cc
numbering_there s caller blob place bytes version at size b here None e h =
    let same : Outcomes.Assigned (assigned b + 1) (offset_of place (size_now b)) (size_with b place bytes) ≡ Outcomes.Assigned version at size = sym (ap (λ (a : Answered). a.1) e) ∙ h in
    let n : version ≡ length b.updates + 1 = cc in
    record { b = b; here = here; next = n; store = ap (λ (a : Answered). a.0) e }

numbering_at : (s : Store) (caller blob : ℕ) (place : Place) (bytes : List ℕ) (version at size : ℕ) (o : Option Blob) → blob_at s blob ≡ o →
    (answer s caller (Calls.Assign blob place bytes)).1 ≡ Outcomes.Assigned version at size → IsNumbering s caller blob place bytes version
unfolding assigning
numbering_at s caller blob place bytes version at size None e h =
    let no : Outcomes.Refused (Refusals.NoBlob blob) ≡ Outcomes.Assigned version at size = sym (ap (λ (a : Answered). a.1) (in_blob_none s blob (assigning s caller blob place bytes) e)) ∙ h in cc
numbering_at s caller blob place bytes version at size (Some b) e h =
    numbering_there s caller blob place bytes version at size b e (first_refusal (offset_past_size b place ∷ blob_too_big s b place bytes ∷ too_many_versions s b ∷ too_many_open s b ∷ []))
    (in_blob_here s blob b (assigning s caller blob place bytes) e) h

get-set_same : (xs : List Blob) (i : ℕ) (x y : Blob) → slice_get xs i ≡ Some x → slice_get (set xs i y) i ≡ Some y
get-set_same [] i x y h = absurd (none-some x h)
get-set_same (a ∷ xs) zero x y h = refl
get-set_same (a ∷ xs) (suc i) x y h = get-set_same xs i x y h

same_under : (b : Bool) (p q : Option Blob) (x y : Blob) → (if b then None else p) ≡ Some x → (p ≡ Some x → q ≡ Some y) → (if b then None else q) ≡ Some y
same_under true p q x y h f = absurd (none-some x h)
same_under false p q x y h f = f h

-- another blob under an id is the one there
blob_there : (s : Store) (blob : ℕ) (x y : Blob) → blob_at s blob ≡ Some x → blob_at (with_blob s blob y) blob ≡ Some y
blob_there s blob x y h = same_under (blob == 0) (slice_get s.blobs (blob - 1)) (slice_get (set s.blobs (blob - 1) y) (blob - 1)) x y h (λ e. get-set_same s.blobs (blob - 1) x y e)

finishing : Store → ℕ → ℕ → Blob → Answered
finishing s blob version b = unless_refused s (already b version ∷ []) (with_blob s blob (finish b version), Outcomes.Published (published (finish b version)))

-- a version that was just numbered is numbered, and can be finished
record IsLatest (s : Store) (caller blob version : ℕ) : Type 0 where
  numbered : IsNumbered (blob_at s blob) version
  accepted : is_refused (answer s caller (Calls.Finish blob version)).1 ≡ false

latest_next : (s : Store) (caller blob : ℕ) (b : Blob) (u : Update) → AllEven s.blobs → blob_at s blob ≡ Some b → IsLatest (with_blob s blob (and_update b u)) caller blob (length b.updates + 1)
unfolding finishing
latest_next s caller blob b u h here =
    let v : ℕ = length b.updates + 1 in
    let b1 : Blob = and_update b u in
    let s1 : Store = with_blob s blob b1 in
    let even : length b.finished ≡ length b.updates = even_is b (even_at s blob b h here) in
    let there : blob_at s1 blob ≡ Some b1 = blob_there s blob b b1 here in
    let some : (length b.updates + 1 == 0) ≡ false = grind (arith, nat_tests) in
    let at : length b.updates + 1 - 1 ≡ length b.finished = omega (arith, even) in
    let open_yet : is_finished b1 (length b.updates + 1) ≡ false = rw some (rw at (last_mark b.finished)) in
    let e : answer s1 caller (Calls.Finish blob v) ≡ (with_blob s1 blob (finish b1 v), Outcomes.Published (published (finish b1 v))) =
    in_blob_here s1 blob b1 (finishing s1 blob v) there ∙ none_of_one s1 (already b1 v) _ open_yet in
    let P : Option Blob → Type 0 = λ o. IsNumbered o v in
    let numbered : IsNumbered (Some b1) v = (omega arith, omega (arith, length-append b.updates (u ∷ []))) in
    record { numbered = subst P (sym there) numbered; accepted = ap (λ (a : Answered). is_refused a.1) e }

-- ---- histories

pub record IsSound (p : ℕ) (limits : Bounds) (history : List Event) : Type 0 where
  pub legal : IsLegal limits history
  pub in_order : AreInOrder p limits history
  even : AllEven (store_of limits history).blobs

sound_more : (p : ℕ) (limits : Bounds) (history : List Event) (e : Event) → IsSound p limits history → IsAccepted (store_of limits history) e → IsEventInOrder p (store_of limits history) e
    → IsSound p limits (history ++ e ∷ [])
sound_more p limits history e sound accepted ordered =
    let P : Store → Type 0 = λ s. AllEven s.blobs in
    record {
      legal = legal-append _ history (e ∷ []) sound.legal (accepted, tt);
      in_order = order_more p limits history (history ++ e ∷ []) e refl sound.in_order ordered;
      even = subst P (sym (store_from-append _ history (e ∷ []))) (event_even (store_of limits history) e sound.even);
    }

sound_none : (p : ℕ) (limits : Bounds) (history others : List Event) → others ≡ [] → IsSound p limits history → IsSound p limits (history ++ others)
sound_none p limits history others e sound = let P : List Event → Type 0 = λ es. IsSound p limits es in subst P (sym (ap (λ (es : List Event). history ++ es) e ∙ append-nil history)) sound

sound_as : (p : ℕ) (limits : Bounds) (xs ys : List Event) → xs ≡ ys → IsSound p limits xs → IsSound p limits ys
sound_as p limits xs ys e sound = let P : List Event → Type 0 = λ es. IsSound p limits es in subst P e sound

-- after what others did, which is nothing, one event more
sound_event : (p : ℕ) (limits : Bounds) (history others : List Event) (e : Event) → others ≡ [] → IsSound p limits history → IsAccepted (store_of limits (history ++ others)) e
    → IsEventInOrder p (store_of limits (history ++ others)) e → IsSound p limits (history ++ (others ++ e ∷ []))
sound_event p limits history others e alone sound accepted ordered =
    sound_as p limits _ _ (append_assoc history others (e ∷ [])) (sound_more p limits (history ++ others) e (sound_none p limits history others alone sound) accepted ordered)

-- ---- how many events there are

none_more : (others : List Event) → others ≡ [] → length others ≤ 2
none_more others alone = omega (arith, ap (λ (l : List Event). length l) alone)

one_more : (others : List Event) (e : Event) → others ≡ [] → length (others ++ e ∷ []) ≤ 2
one_more others e alone = omega (arith, length-append others (e ∷ []), ap (λ (l : List Event). length l) alone)

two_more : (others later : List Event) (e f : Event) → others ≡ [] → later ≡ [] → length (others ++ e ∷ (later ++ f ∷ [])) ≤ 2
two_more others later e f alone alone_later =
    omega (arith, length-append others (e ∷ (later ++ f ∷ [])), length-append later (f ∷ []), ap (λ (l : List Event). length l) alone, ap (λ (l : List Event). length l) alone_later)

held_more : (others later : List Event) (e : Event) → others ≡ [] → later ≡ [] → length (others ++ e ∷ later) ≤ 2
held_more others later e alone alone_later =
    omega (arith, length-append others (e ∷ later), ap (λ (l : List Event). length l) alone, ap (λ (l : List Event). length l) alone_later)

-- ---- tickets

numbered_push : (s : Store) (ts : List HeldTicket) (t : HeldTicket) → AllNumbered s ts → IsNumbered (blob_at s t.blob) t.version → AllNumbered s (ts ++ t ∷ [])
numbered_push s [] t h k = (k, tt)
numbered_push s (x ∷ ts) t h k = (h.0, numbered_push s ts t h.1 k)

without_if : (s : Store) (b : Bool) (t : HeldTicket) (ts ts' : List HeldTicket) → IsNumbered (blob_at s t.blob) t.version → AllNumbered s ts → AllNumbered s ts' → AllNumbered s (if b then ts else t ∷ ts')
without_if s true t ts ts' h k l = k
without_if s false t ts ts' h k l = (h, l)

numbered_without : (s : Store) (ts : List HeldTicket) (number : ℕ) → AllNumbered s ts → AllNumbered s (without_ticket ts number)
numbered_without s [] number h = tt
numbered_without s (t ∷ ts) number h = without_if s (t.number == number) t ts (without_ticket ts number) h.0 h.1 (numbered_without s ts number h.1)

numbered_without_version : (s : Store) (ts : List HeldTicket) (blob version : ℕ) → AllNumbered s ts → AllNumbered s (without_version ts blob version)
numbered_without_version s [] blob version h = tt
numbered_without_version s (t ∷ ts) blob version h =
    without_if s (t.blob == blob && t.version == version) t ts (without_version ts blob version) h.0 h.1 (numbered_without_version s ts blob version h.1)

-- a version that may be repaired was numbered
unrefused : (b : Blob) (version : ℕ) (t u : Bool) → nat_lt (assigned b) version ≡ t → is_finished b version ≡ u
    → (if t then Some (Refusals.NotPublished version (published b)) else (if u then Some (Refusals.Already version) else None)) ≡ None → IsNumbered (Some b) version
unrefused b version true u e f h = absurd (none-some _ (sym h))
unrefused b version false true e f h = absurd (none-some _ (sym h))
unrefused b zero false false e f h = let no : true ≡ false = f in absurd (false≢true (sym no))
unrefused b (suc n) false false e f h = (omega arith, grind (arith, nat_tests))

repairable : (o : Option Blob) (blob version : ℕ)
    → (let r : Option Refusal = elim o [ None ↦ Some (Refusals.NoBlob blob) | Some b ↦ first_refusal (not_numbered b version ∷ already b version ∷ []) ] in r) ≡ None → IsNumbered o version
repairable None blob version h = absurd (none-some _ (sym h))
repairable (Some b) blob version h = unrefused b version (nat_lt (assigned b) version) (is_finished b version) refl refl h

some_numbered : (o : Option Blob) (version : ℕ) → IsNumbered o version → (b : Blob) × (o ≡ Some b)
some_numbered None version h = absurd h
some_numbered (Some b) version h = (b, refl)

-- ---- sessions

-- what a session has seen is legal and in order, and the versions that it holds were numbered there
pub record IsGood (s : Session) : Type 0 where
  sound : IsSound s.fixed.page s.fixed.limits s.seen
  held : AllNumbered (store_of s.fixed.limits s.seen) s.tickets

-- from one session to a good one with the same bounds, which has seen at most two events more
record GoesWell (s s' : Session) : Type 0 where
  fixed : s'.fixed ≡ s.fixed
  good : IsGood s'
  few : length s'.seen ≤ length s.seen + 2

goes_to : (s s' t : Session) → s' ≡ t → t.fixed ≡ s.fixed → IsGood t → (more : List Event) → t.seen ≡ s.seen ++ more → length more ≤ 2 → GoesWell s s'
goes_to s s' t e fixed good more seen few =
    let P : Session → Type 0 = λ x. GoesWell s x in
    let made : GoesWell s t = record { fixed = fixed; good = good; few = omega (arith, ap (λ (l : List Event). length l) seen, length-append s.seen more, few) } in
    subst P (sym e) made

-- ---- updates that store pages anew

-- a version up to which all is said to be published is published
up_to : (s : Store) (b : Blob) (version : ℕ) (low early : Bool) → nat_lt (published b) version ≡ early
    → (let a : Answered = elim (if low then Some (Refusals.NotPublished version (published b)) else (if early then Some (Refusals.Pending version (held b)) else None)) [
      | Some r ↦ refuse s r
      | None ↦ (s, Outcomes.Synced version)
    ] in a).1 ≡ Outcomes.Synced version → version ≤ published b
up_to s b version true early e h = absurd (let no : Outcomes.Refused (Refusals.NotPublished version (published b)) ≡ Outcomes.Synced version = h in cc)
up_to s b version false true e h = absurd (let no : Outcomes.Refused (Refusals.Pending version (held b)) ≡ Outcomes.Synced version = h in cc)
up_to s b version false false e h = grind (arith, nat_tests)

synced : (s : Store) (caller blob version : ℕ) (b : Blob) → blob_at s blob ≡ Some b → (answer s caller (Calls.Sync blob version)).1 ≡ Outcomes.Synced version → version ≤ published b
synced s caller blob version b here e =
    let is = in_blob_here s blob b (λ x. unless_refused s (not_numbered x version ∷ pending x version ∷ []) (s, Outcomes.Synced version)) here in
    up_to s b version (nat_lt (assigned b) version) (nat_lt (published b) version) refl (sym (ap (λ (a : Answered). a.1) is) ∙ e)

-- a finish that is answered so comes in order
in_order_then : (s : Session) (front : List Event) (blob version : ℕ) → IsNumbered (blob_at (store_at s front) blob) version → (Folds s front blob version → IsReady s front blob version)
    → IsInOrder s.fixed.page (store_at s front) blob version
in_order_then s front blob version numbered ready = λ folds.
    let was = some_numbered (blob_at (store_at s front) blob) version numbered in
    let of_blob : folds_of s.fixed.page (extents was.0.updates) version ≢ [] = subst (λ (o : Option Blob). folds_of s.fixed.page (extents (updates_or_none o)) version ≢ []) was.1 folds in
    let anew : Folds s front blob version =
    subst (λ (o : Option Blob). (let l : List ℕ = elim o [ None ↦ [] | Some b ↦ folds_of s.fixed.page (extents b.updates) version ] in l) ≢ []) (sym was.1) of_blob
    in
    let before = synced (store_at s front) s.caller blob (version - 1) was.0 was.1 (ready anew) in
    subst (λ (o : Option Blob). version ≤ published_or_none o + 1) (sym was.1) (omega (arith, before))

-- an update that the session doesn't refuse has a byte
some_bytes : (s : Session) (bytes : List ℕ) → update_fault s bytes ≡ None → 1 ≤ length bytes
some_bytes s [] h = absurd (none-some _ (sym h))
some_bytes s (b ∷ bytes) h = omega arith

first_good : (fixed : Fixed) → IsGood (first_session fixed 1)
first_good fixed = record { sound = record { legal = tt; in_order = none_in_order fixed.page fixed.limits; even = no_blobs }; held = tt }

-- one item more at the front, and an end sooner
item_few : (item : Heard) (xs ys : List Heard) → length xs ≤ length ys → length (item ∷ xs) ≤ length (item ∷ ys)
item_few item xs ys few = omega (arith, few)

sooner_few : (b : Bool) (xs ys : List Heard) → length xs ≤ length ys → length (if b then [] else xs) ≤ length ys
sooner_few true xs ys few = omega arith
sooner_few false xs ys few = few

until_few : (items : List Heard) → length (until_quit items) ≤ length items
until_few [] = omega arith
until_few (item ∷ items) = item_few item (if is_last item then [] else until_quit items) items (sooner_few (is_last item) (until_quit items) items (until_few items))

-- what a run has seen in the end is legal and in order, and of each item it has seen two events more at most
pub record RunsWell (s last : Session) (items : List Heard) : Type 0 where
  pub sound : IsSound s.fixed.page s.fixed.limits last.seen
  pub few : length last.seen ≤ length s.seen + 2 * length items

module _ (stay : OldVersionsStay) where
  -- what was numbered stays numbered
  numbered_stays : (limits : Bounds) (history more : List Event) (blob version : ℕ) → IsLegal limits (history ++ more) → IsNumbered (blob_at (store_of limits history) blob) version →
      IsNumbered (blob_at (store_of limits (history ++ more)) blob) version
  numbered_stays limits history more blob version legal h =
      let was = some_numbered (blob_at (store_of limits history) blob) version h in
      let there = stay limits history more blob was.0 was.1 in
      let P : Option Blob → Type 0 = λ o. IsNumbered o version in
      let before : IsNumbered (Some was.0) version = subst P was.1 h in
      let now : IsNumbered (Some there.0) version = (before.0, omega (arith, before.1, ap (λ (us : List Update). length us) there.2.updates, length-append was.0.updates there.2.later)) in
      subst P (sym there.1) now

  all_stay : (limits : Bounds) (history more : List Event) → IsLegal limits (history ++ more) → (ts : List HeldTicket) → AllNumbered (store_of limits history) ts → AllNumbered (store_of limits (history ++ more)) ts
  all_stay limits history more legal [] h = tt
  all_stay limits history more legal (t ∷ ts) h = (numbered_stays limits history more t.blob t.version legal h.0, all_stay limits history more legal ts h.1)

  module _ (s : Session) (good : IsGood s) where
    sees_good : (more : List Event) → IsSound s.fixed.page s.fixed.limits (s.seen ++ more) → IsGood (sees s more)
    sees_good more sound = record { sound = sound; held = all_stay s.fixed.limits s.seen more sound.legal s.tickets good.held }

    sees_well : (s' : Session) (more : List Event) → length more ≤ 2 → IsSound s.fixed.page s.fixed.limits (s.seen ++ more) → s' ≡ sees s more → GoesWell s s'
    sees_well s' more few sound e = goes_to s s' (sees s more) e refl (sees_good more sound) more refl few

    none_well : (s' : Session) (others : List Event) → others ≡ [] → s' ≡ sees s others → GoesWell s s'
    none_well s' others alone e = sees_well s' others (none_more others alone) (sound_none s.fixed.page s.fixed.limits s.seen others alone good.sound) e

    same_well : (s' : Session) → s' ≡ s → GoesWell s s'
    same_well s' e = goes_to s s' s e refl good [] (sym (append-nil s.seen)) (omega arith)

    create_well : (s' : Session) (others : List Event) → others ≡ [] → (turn : Turn) → AddTurn s Calls.Create others turn → s' ≡ with_tickets turn.tickets (sees s (and_made others turn.made)) → GoesWell s s'
    create_well s' others alone _ (AddTurn.added blob e) seen =
        sees_well s' _ (one_more others _ alone) (sound_event s.fixed.page s.fixed.limits s.seen others (Events.Create s.caller) alone good.sound (record { may = tt; accepted = ap is_refused e }) tt) seen
    create_well s' others alone _ (AddTurn.refused refusal e) seen = none_well s' others alone seen
    create_well s' others alone _ AddTurn.out_of_memory seen = none_well s' others alone seen

    branch_well : (s' : Session) (blob version : ℕ) (others : List Event) → others ≡ [] → (turn : Turn) → AddTurn s (Calls.Branch blob version) others turn
        → s' ≡ with_tickets turn.tickets (sees s (and_made others turn.made)) → GoesWell s s'
    branch_well s' blob version others alone _ (AddTurn.added branch e) seen =
        sees_well s' _ (one_more others _ alone) (sound_event s.fixed.page s.fixed.limits s.seen others (Events.Branch s.caller blob version) alone good.sound (record { may = tt; accepted = ap is_refused e }) tt) seen
    branch_well s' blob version others alone _ (AddTurn.refused refusal e) seen = none_well s' others alone seen
    branch_well s' blob version others alone _ AddTurn.out_of_memory seen = none_well s' others alone seen

    -- what the session has seen once it numbered an update, after what others did and before it
    module _ (blob : ℕ) (place : Place) (bytes : List ℕ) (others later : List Event) (alone : others ≡ []) (alone_later : later ≡ []) (version at size : ℕ)
        (numbered : (answer (store_of s.fixed.limits (s.seen ++ others)) s.caller (Calls.Assign blob place bytes)).1 ≡ Outcomes.Assigned version at size)
        (some : 1 ≤ length bytes) where
      abbrev assigns : Event
      assigns = Events.Assign s.caller blob place bytes

      before : IsSound s.fixed.page s.fixed.limits (s.seen ++ others)
      before = sound_none s.fixed.page s.fixed.limits s.seen others alone good.sound

      is_numbering : IsNumbering (store_of s.fixed.limits (s.seen ++ others)) s.caller blob place bytes version
      is_numbering = numbering_at _ s.caller blob place bytes version at size (blob_at (store_of s.fixed.limits (s.seen ++ others)) blob) refl numbered

      assigned_sound : IsSound s.fixed.page s.fixed.limits ((s.seen ++ others) ++ assigns ∷ [])
      assigned_sound = sound_more s.fixed.page s.fixed.limits (s.seen ++ others) assigns before (record { may = some; accepted = ap is_refused numbered }) tt

      assigned_store : store_of s.fixed.limits ((s.seen ++ others) ++ assigns ∷ []) ≡ with_blob (store_of s.fixed.limits (s.seen ++ others)) blob (and_update is_numbering.b (record { caller = s.caller; place = place; bytes = bytes }))
      assigned_store = store_from-append _ (s.seen ++ others) (assigns ∷ []) ∙ is_numbering.store

      latest : IsLatest (store_of s.fixed.limits ((s.seen ++ others) ++ assigns ∷ [])) s.caller blob version
      latest =
          let made = latest_next (store_of s.fixed.limits (s.seen ++ others)) s.caller blob is_numbering.b (record { caller = s.caller; place = place; bytes = bytes }) before.even is_numbering.here in
          let P : ℕ → Type 0 = λ n. IsLatest (with_blob (store_of s.fixed.limits (s.seen ++ others)) blob (and_update is_numbering.b (record { caller = s.caller; place = place; bytes = bytes }))) s.caller blob n in
          let Q : Store → Type 0 = λ x. IsLatest x s.caller blob version in
          subst Q (sym assigned_store) (subst P (sym is_numbering.next) made)

      -- where it is finished at once
      abbrev FinishesInOrder : Type 0
      FinishesInOrder = Folds s (others ++ assigns ∷ later) blob version → IsReady s (others ++ assigns ∷ later) blob version

      finish_in_order : FinishesInOrder → IsInOrder s.fixed.page (store_of s.fixed.limits ((s.seen ++ others) ++ assigns ∷ [])) blob version
      finish_in_order ready =
          let R : List Event → Type 0 = λ es. Folds s (others ++ assigns ∷ es) blob version → IsReady s (others ++ assigns ∷ es) blob version in
          let same : (s.seen ++ others) ++ assigns ∷ [] ≡ s.seen ++ (others ++ assigns ∷ []) = append_assoc s.seen others (assigns ∷ []) in
          let N : List Event → Type 0 = λ es. IsNumbered (blob_at (store_of s.fixed.limits es) blob) version in
          let O : List Event → Type 0 = λ es. IsInOrder s.fixed.page (store_of s.fixed.limits es) blob version in
          subst O (sym same) (in_order_then s (others ++ assigns ∷ []) blob version (subst N same latest.numbered) (subst R alone_later ready))

      finished_sound : FinishesInOrder → IsSound s.fixed.page s.fixed.limits (((s.seen ++ others) ++ assigns ∷ []) ++ Events.Finish s.caller blob version ∷ [])
      finished_sound ready =
          sound_more s.fixed.page s.fixed.limits _ (Events.Finish s.caller blob version) assigned_sound (record { may = latest.numbered; accepted = latest.accepted }) (finish_in_order ready)

      -- as the cases of an answer write it
      updated_sound : FinishesInOrder → IsSound s.fixed.page s.fixed.limits (s.seen ++ (others ++ assigns ∷ (later ++ Events.Finish s.caller blob version ∷ [])))
      updated_sound ready =
          let P : List Event → Type 0 = λ es. IsSound s.fixed.page s.fixed.limits (s.seen ++ (others ++ assigns ∷ (es ++ Events.Finish s.caller blob version ∷ []))) in
          subst P (sym alone_later) (sound_as s.fixed.page s.fixed.limits _ _ (append_assoc (s.seen ++ others) (assigns ∷ []) (Events.Finish s.caller blob version ∷ []) ∙ append_assoc s.seen others _) (finished_sound ready))

      -- the version is held
      kept_good : IsGood (holds (sees s (others ++ assigns ∷ later)) blob version)
      kept_good =
          let P : List Event → Type 0 = λ es. IsGood (holds (sees s (others ++ assigns ∷ es)) blob version) in
          let seen : (s.seen ++ others) ++ assigns ∷ [] ≡ s.seen ++ (others ++ assigns ∷ []) = append_assoc s.seen others (assigns ∷ []) in
          let sound : IsSound s.fixed.page s.fixed.limits (s.seen ++ (others ++ assigns ∷ [])) = sound_as s.fixed.page s.fixed.limits _ _ seen assigned_sound in
          let Q : List Event → Type 0 = λ es. IsNumbered (blob_at (store_of s.fixed.limits es) blob) version in
          let made : P [] = record {
            sound = sound;
            held = numbered_push (store_of s.fixed.limits (s.seen ++ (others ++ assigns ∷ []))) s.tickets (record { number = s.next; blob = blob; version = version }) (sees_good (others ++ assigns ∷ []) sound).held (subst Q seen latest.numbered);
          } in
          subst P (sym alone_later) made

      kept_well : (s' : Session) → s' ≡ holds (sees s (others ++ assigns ∷ later)) blob version → GoesWell s s'
      kept_well s' seen = goes_to s s' _ seen refl kept_good (others ++ assigns ∷ later) refl (held_more others later assigns alone alone_later)

      -- the turn after the numbering
      whole_then : (s' : Session) (turn : Turn) → WholeTurn s blob place version at size (others ++ assigns ∷ later) later turn
          → s' ≡ with_tickets turn.tickets (sees s (others ++ assigns ∷ and_made later turn.made)) → GoesWell s s'
      whole_then s' _ (WholeTurn.finished open_ ready) seen =
          sees_well s' _ (two_more others later assigns (Events.Finish s.caller blob version) alone alone_later) (updated_sound ready) seen
      whole_then s' _ (WholeTurn.found finished) seen = absurd (false≢true (sym (ap (λ (es : List Event). finishes blob version es) alone_later) ∙ finished))
      whole_then s' _ (WholeTurn.held_back open_ folds) seen = kept_well s' seen
      whole_then s' _ WholeTurn.out_of_memory seen = kept_well s' seen

      started_then : (s' : Session) (turn : Turn) → StartedTurn s blob version at size (others ++ assigns ∷ later) later turn
          → s' ≡ with_tickets turn.tickets (sees s (others ++ assigns ∷ and_made later turn.made)) → GoesWell s s'
      started_then s' _ StartedTurn.out_of_memory seen = kept_well s' seen

    unnumbered_well : (s' : Session) (blob : ℕ) (place : Place) (bytes : List ℕ) (others : List Event) → others ≡ [] → (turn : Turn) → UnnumberedTurn s blob place bytes others turn
        → s' ≡ with_tickets turn.tickets (sees s (and_made others turn.made)) → GoesWell s s'
    unnumbered_well s' blob place bytes others alone _ (UnnumberedTurn.refused refusal e) seen = none_well s' others alone seen
    unnumbered_well s' blob place bytes others alone _ UnnumberedTurn.out_of_memory seen = none_well s' others alone seen
    unnumbered_well s' blob place bytes others alone _ (UnnumberedTurn.not_stored page is_page stored) seen = none_well s' others alone seen

    starting_well : (s' : Session) (blob : ℕ) (place : Place) (bytes : List ℕ) → 1 ≤ length bytes → (others : List Event) → others ≡ [] → (turn : Turn) → StartTurn s blob place bytes others turn
        → s' ≡ with_tickets turn.tickets (sees s (and_made others turn.made)) → GoesWell s s'
    starting_well s' blob place bytes some others alone _ (StartTurn.started version at size e) seen =
        kept_well blob place bytes others [] alone refl version at size e some s' seen
    starting_well s' blob place bytes some others alone turn (StartTurn.unnumbered _ may) seen = unnumbered_well s' blob place bytes others alone turn may seen

    whole_well : (s' : Session) (blob : ℕ) (place : Place) (bytes : List ℕ) (reply : Reply) → 1 ≤ length bytes → WholeAnswer IsNobody s blob place bytes reply s' → GoesWell s s'
    whole_well s' blob place bytes reply some (UpdateAnswer.once a) = unnumbered_well s' blob place bytes a.others a.is_gap a.turn a.may a.seen
    whole_well s' blob place bytes reply some (UpdateAnswer.twice a) =
        whole_then blob place bytes a.others a.later a.is_gap a.is_gap_later a.version a.at a.size a.numbered some s' a.turn a.may a.seen

    start_well : (s' : Session) (blob : ℕ) (place : Place) (bytes : List ℕ) (reply : Reply) → 1 ≤ length bytes → StartAnswer IsNobody s blob place bytes reply s' → GoesWell s s'
    start_well s' blob place bytes reply some (UpdateAnswer.once a) = starting_well s' blob place bytes some a.others a.is_gap a.turn a.may a.seen
    start_well s' blob place bytes reply some (UpdateAnswer.twice a) =
        started_then blob place bytes a.others a.later a.is_gap a.is_gap_later a.version a.at a.size a.numbered some s' a.turn a.may a.seen

    read_well : (s' : Session) (blob version offset count : ℕ) (others : List Event) → others ≡ [] → (turn : Turn) → ReadTurn s blob version offset count others turn
        → s' ≡ with_tickets turn.tickets (sees s (and_made others turn.made)) → GoesWell s s'
    read_well s' blob version offset count others alone _ (ReadTurn.content bytes e) seen = none_well s' others alone seen
    read_well s' blob version offset count others alone _ (ReadTurn.refused refusal e) seen = none_well s' others alone seen
    read_well s' blob version offset count others alone _ ReadTurn.out_of_memory seen = none_well s' others alone seen
    read_well s' blob version offset count others alone _ (ReadTurn.not_read bytes e some page meets) seen = none_well s' others alone seen

    look_well : (s' : Session) (call : Call) (reply : Reply) → LookAnswer IsNobody s call reply s' → GoesWell s s'
    look_well s' call reply a = none_well s' a.others a.is_gap a.seen

    drops_well : (s' : Session) (more : List Event) (number : ℕ) → length more ≤ 2 → IsSound s.fixed.page s.fixed.limits (s.seen ++ more) → s' ≡ drops (sees s more) number → GoesWell s s'
    drops_well s' more number few sound e =
        goes_to s s' (drops (sees s more) number) e refl
        (record { sound = sound; held = numbered_without (store_of s.fixed.limits (s.seen ++ more)) s.tickets number (sees_good more sound).held }) more refl few

    lets_go_well : (s' : Session) (more : List Event) (blob version : ℕ) → length more ≤ 2 → IsSound s.fixed.page s.fixed.limits (s.seen ++ more) → s' ≡ lets_go (sees s more) blob version
        → GoesWell s s'
    lets_go_well s' more blob version few sound e =
        goes_to s s' (lets_go (sees s more) blob version) e refl
        (record { sound = sound; held = numbered_without_version (store_of s.fixed.limits (s.seen ++ more)) s.tickets blob version (sees_good more sound).held }) more refl few

    -- a finish, after which the tickets are these where the update is finished by then
    finishing_well : (s' : Session) (blob version : ℕ) (says : ℕ → Reply) (settled : Tickets)
        → ((more : List Event) → length more ≤ 2 → IsSound s.fixed.page s.fixed.limits (s.seen ++ more) → s' ≡ with_tickets settled (sees s more) → GoesWell s s')
        → (others : List Event) → others ≡ [] → (turn : Turn) → FinishTurn s blob version says settled Tickets.stay others turn
        → s' ≡ with_tickets turn.tickets (sees s (and_made others turn.made)) → GoesWell s s'
    finishing_well s' blob version says settled goes others alone _ (FinishTurn.finished published unfinished ready e) seen =
        let may = repairable (blob_at (store_of s.fixed.limits (s.seen ++ others)) blob) blob version unfinished in
        goes _ (one_more others _ alone)
        (sound_event s.fixed.page s.fixed.limits s.seen others (Events.Finish s.caller blob version) alone good.sound (record { may = may; accepted = ap is_refused e })
        (in_order_then s others blob version may ready)) seen
    finishing_well s' blob version says settled goes others alone _ (FinishTurn.found e) seen = goes others (none_more others alone) (sound_none s.fixed.page s.fixed.limits s.seen others alone good.sound) seen
    finishing_well s' blob version says settled goes others alone _ (FinishTurn.waits held unfinished folds e) seen = none_well s' others alone seen
    finishing_well s' blob version says settled goes others alone _ (FinishTurn.not_folded page unfinished fold ready) seen = none_well s' others alone seen
    finishing_well s' blob version says settled goes others alone _ FinishTurn.out_of_memory seen = none_well s' others alone seen

    repair_well : (s' : Session) (blob version : ℕ) (others : List Event) → others ≡ [] → (turn : Turn) → RepairTurn s blob version others turn
        → s' ≡ with_tickets turn.tickets (sees s (and_made others turn.made)) → GoesWell s s'
    repair_well s' blob version others alone turn (RepairTurn.finish _ may) seen =
        finishing_well s' blob version _ (Tickets.let_go blob version) (λ more few sound e. lets_go_well s' more blob version few sound e) others alone turn may seen
    repair_well s' blob version others alone _ (RepairTurn.refused refusal e other) seen = none_well s' others alone seen

    many_well : (s' : Session) (blob version : ℕ) (ranges : List (ℕ × ℕ)) (others : List Event) → others ≡ [] → (turn : Turn) → ReadManyTurn s blob version ranges others turn
        → s' ≡ with_tickets turn.tickets (sees s (and_made others turn.made)) → GoesWell s s'
    many_well s' blob version ranges others alone _ (ReadManyTurn.contents bytes e) seen = none_well s' others alone seen
    many_well s' blob version ranges others alone _ (ReadManyTurn.refused earlier later range bytes split first refusal e) seen = none_well s' others alone seen
    many_well s' blob version ranges others alone _ ReadManyTurn.out_of_memory seen = none_well s' others alone seen
    many_well s' blob version ranges others alone _ (ReadManyTurn.not_read bytes e range there some page meets) seen = none_well s' others alone seen

    hello_well : (s' : Session) (limit : ℕ) → s' ≡ takes_up_to s limit → GoesWell s s'
    hello_well s' limit e = goes_to s s' (takes_up_to s limit) e refl (record { sound = good.sound; held = good.held }) [] (sym (append-nil s.seen)) (omega arith)

    finish_well : (s' : Session) (number : ℕ) (o : Option HeldTicket) (reply : Reply) → FinishAnswer IsNobody s number o reply s' → GoesWell s s'
    finish_well s' number None reply a = same_well s' a.1
    finish_well s' number (Some t) reply a =
        finishing_well s' t.blob t.version _ (Tickets.drop t.number) (λ more few sound e. drops_well s' more t.number few sound e) a.others a.is_gap a.turn a.may a.seen

    unless_well : (s' : Session) (reply : Reply) (A : Type 0) (fault fault' : Option Fault) → fault' ≡ fault → (fault' ≡ None → A → GoesWell s s') → Unless fault s reply s' A → GoesWell s s'
    unless_well s' reply A None fault' e f h = f e h
    unless_well s' reply A (Some fault) fault' e f h = same_well s' h.1

    request_well : (s' : Session) (request : Request) (reply : Reply) → Answers IsNobody s request reply s' → GoesWell s s'
    request_well s' Requests.Create reply a = create_well s' a.others a.is_gap a.turn a.may a.seen
    request_well s' (Requests.Append blob bytes) reply a =
        unless_well s' reply _ (update_fault s bytes) (update_fault s bytes) refl (λ free h. whole_well s' blob Append bytes reply (some_bytes s bytes free) h) a
    request_well s' (Requests.Write blob offset bytes) reply a =
        unless_well s' reply _ (update_fault s bytes) (update_fault s bytes) refl (λ free h. whole_well s' blob (WriteAt offset) bytes reply (some_bytes s bytes free) h) a
    request_well s' (Requests.StartAppend blob bytes) reply a =
        unless_well s' reply _ (update_fault s bytes) (update_fault s bytes) refl (λ free h. start_well s' blob Append bytes reply (some_bytes s bytes free) h) a
    request_well s' (Requests.StartWrite blob offset bytes) reply a =
        unless_well s' reply _ (update_fault s bytes) (update_fault s bytes) refl (λ free h. start_well s' blob (WriteAt offset) bytes reply (some_bytes s bytes free) h) a
    request_well s' (Requests.Finish number) reply a = finish_well s' number (ticket_at s.tickets number) reply a
    request_well s' (Requests.Read blob version offset count) reply a =
        unless_well s' reply _ (read_fault count) (read_fault count) refl (λ free h. read_well s' blob version offset count h.others h.is_gap h.turn h.may h.seen) a
    request_well s' (Requests.Recent blob) reply a = look_well s' (Calls.Recent blob) reply a
    request_well s' (Requests.Size blob version) reply a = look_well s' (Calls.Size blob version) reply a
    request_well s' (Requests.Sync blob version) reply a = look_well s' (Calls.Sync blob version) reply a
    request_well s' (Requests.Status blob) reply a = look_well s' (Calls.Status blob) reply a
    request_well s' (Requests.Branch blob version) reply a = branch_well s' blob version a.others a.is_gap a.turn a.may a.seen
    request_well s' (Requests.Hello version) reply a = hello_well s' _ a.1
    request_well s' (Requests.ReadMany blob version ranges) reply a =
        unless_well s' reply _ (ranges_fault 0 ranges) (ranges_fault 0 ranges) refl (λ free h. many_well s' blob version ranges h.others h.is_gap h.turn h.may h.seen) a
    request_well s' (Requests.Repair blob version) reply a = repair_well s' blob version a.others a.is_gap a.turn a.may a.seen
    request_well s' Requests.Quit reply a = same_well s' a.1

    item_well : (s' : Session) (item : Heard) (reply : Reply) → ItemReply IsNobody s item reply s' → GoesWell s s'
    item_well s' (Asked request) reply a = request_well s' request reply a
    item_well s' (Wrong fault) reply a = same_well s' a.1

  pub run_well : (s last : Session) (items : List Heard) (replies : List Reply) → IsGood s → Run IsNobody s items replies last → RunsWell s last items
  run_well s last [] [] good run =
      let P : Session → Type 0 = λ t. RunsWell s t [] in
      let made : P s = record { sound = good.sound; few = omega arith } in
      subst P (sym run) made
  run_well s last [] (reply ∷ replies) good run = absurd run
  run_well s last (item ∷ items) [] good run = absurd run
  run_well s last (item ∷ items) (reply ∷ replies) good run =
      let well = item_well s good run.0 item reply run.1 in
      let rest = run_well run.0 last items replies well.good run.2 in
      let Q : Fixed → Type 0 = λ f. IsSound f.page f.limits last.seen in
      record { sound = subst Q well.fixed rest.sound; few = omega (arith, well.few, rest.few) }

  -- the history of a transcript alone
  pub alone_well : (fixed : Fixed) (heard : List Heard) (replies : List Reply) (last : Session) → Transcript IsNobody (first_session fixed 1) heard replies last
      → RunsWell (first_session fixed 1) last (until_quit heard)
  alone_well fixed heard replies last run = run_well (first_session fixed 1) last (until_quit heard) replies (first_good fixed) run

  -- it is one of a desk
  pub history_alone : (fixed : Fixed) (heard : List Heard) (replies : List Reply) (last : Session) → Transcript IsNobody (first_session fixed 1) heard replies last → length heard < 2 ^ 37
      → IsHistory fixed.page fixed.limits last.seen
  history_alone fixed heard replies last run short =
      let well = alone_well fixed heard replies last run in
      record { legal = well.sound.legal; in_order = well.sound.in_order; short = omega (arith, well.few, until_few heard, short) }
