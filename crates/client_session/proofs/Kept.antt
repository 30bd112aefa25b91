-- Snapshots that a session keeps: they stay good as its history goes on, and so are those of the versions below.
use Rattle.std.proofs.Common.{◌≡◌, refl, sym, ◌∙◌, ap, subst, ℕ, zero, suc, ◌-◌, ◌<◌, ◌≤◌, ◌==◌, Bool, true, false, List, [], ◌∷◌, ◌++◌, length, set, take, append-nil, Option, Some, None, Result, Ok, Err, arith, inl, inr, length-append, length-take, length-take-le}
use Rattle.std.specs.Prelude.{All, slice_get, if◌then◌else◌}
use Rattle.std.proofs.Math.ListN.{length-set}
use Rattle.std.proofs.lemmas.List.{map-append, take-take, take-append-le}
use Rattle.std.proofs.lemmas.List.Elements.{All-weaker, All-take}
use Rattle.std.proofs.lemmas.Option.{slice_get_within}
use Rattle.tree_geom.proofs.Spans.{page_pos}
use Rattle.blob_model.specs.Content.{Update, content_from}
use Rattle.blob_model.specs.Store.{Store, Blob, blob_at, empty_store}
use Rattle.blob_model.specs.Answer.{Answered, answer, refuse}
use Rattle.blob_model.specs.History.{store_of, store_from, caller_of, call_of}
use Rattle.blob_model.specs.declared.call.Call.TheVariants as Calls
use Rattle.blob_model.specs.declared.call.Event.{Event}
use Rattle.blob_model.specs.declared.call.Outcome.TheVariants as Outcomes
use Rattle.blob_model.specs.declared.call.Event.TheVariants as Events
use Rattle.blob_model.specs.declared.call.Refusal.{Refusal}
use Rattle.blob_model.specs.declared.call.Refusal.TheVariants as Refusals
use Rattle.blob_model.proofs.Stays.{store_kept, store_from-append}
use Rattle.branching.specs.Parents.{origin_of}
use Rattle.branching.specs.declared.Parent.{Parent}
use Rattle.range_log.specs.Updates.{extents}
use Rattle.range_log.proofs.Bytes.{length-extents}
use Rattle.range_log.proofs.Growth.{extents_grow}
use Rattle.page_store.specs.House.{House}
use Rattle.page_store.specs.Stored.{LieAmong}
use Rattle.boxcar.specs.Table.{Shelves}
use Rattle.node_store.specs.House.{IsIn}
use Rattle.node_store.specs.UpdateRows.{UpdateRow, stored_of}
use Rattle.snapshot.specs.Versions.{Version, IsVersion, IsRowOf, IsVersionIn, updates, older_version}
use Rattle.snapshot.specs.Laws.{TellUpdates, RowsTell}
use Rattle.snapshot.proofs.Lists.{length-updates, row_at_taken}
use Rattle.turn_lock.specs.History.{Begins}
use Rattle.turn_lock.proofs.Histories.{begins_both}
use Rattle.version_manager.specs.Desks.{updates_in, updates_or_none}
use Rattle.version_manager.specs.Log.{IsSnapshotOf, desk_at, events, outcome_in}
use Rattle.version_manager.specs.Origins.{LieUnderOrigins, parents_after, parents_from, parents_of, origin_in}
use Rattle.version_manager.specs.Stays.{same_update}
use Rattle.version_manager.proofs.Origins.{from_append, origin_from}
use Rattle.version_manager.specs.declared.journal.DeskFixed.{DeskFixed}
use Rattle.version_manager.specs.declared.fault.OpenFault.{OpenFault}
use Rattle.request_form.specs.PublishedReads.{IsPublishedIn}
use Rattle.request_form.specs.Replies.{page_faults}
use Rattle.request_form.specs.declared.form.Fault.{Fault}
use Rattle.client_session.specs.Kept.{KeptVersion, IsKept, IsViewAmong, KeptAfter, Found, Coming, has_opened}
use Rattle.client_session.specs.Opening.{Opening}
use Rattle.client_session.specs.Sessions.{SessionState, StoreState}
use Rattle.client_session.proofs.Holding.{at_index}
use Rattle.client_session.proofs.Ranges.{published_there, size_there}

-- ---- as the history goes on
kept_longer : (f : DeskFixed) (log log' : List (ℕ × Event)) → Begins log log' → (v : Version) → IsKept f log v → IsKept f log' v
kept_longer f log log' begins v k = record { front = k.front; begins = begins_both k.front log log' k.begins begins; snapshot = k.snapshot; published = k.published }

pub kept_stay : (f : DeskFixed) (log log' : List (ℕ × Event)) (vs : List Version) → Begins log log' → All (IsKept f log) vs → All (IsKept f log') vs
kept_stay f log log' vs begins each = All-weaker (IsKept f log) (IsKept f log') (kept_longer f log log' begins) vs each

-- one that was opened just now
pub opened_kept : {D : Type 0} (s s' : SessionState D) (blob version : ℕ) (v : Version) → Opening s blob version (Ok v) s' → IsKept s'.store.fixed s'.log v
opened_kept {D = D} s s' blob version v o =
    let f = s.store.fixed in
    let snap : IsSnapshotOf f s'.log blob version v = o.snapshot in
    let own : IsSnapshotOf f s'.log v.blob (length v.rows) v =
    subst (λ (b : ℕ). IsSnapshotOf f s'.log b (length v.rows) v) (sym snap.blob_is) (subst (λ (n : ℕ). IsSnapshotOf f s'.log blob n v) (sym snap.rows) snap) in
    let there : IsPublishedIn (store_of f.limits (events s'.log)) blob version = published_there f s'.log s.caller blob version _ o.done in
    subst (λ (st : StoreState). IsKept st.fixed s'.log v) (sym (ap (λ (x : SessionState D). x.store) o.same))
    (record {
      front = s'.log;
      begins = ([], sym (append-nil s'.log));
      snapshot = own;
      published = subst (λ (b : ℕ). IsPublishedIn (store_of f.limits (events s'.log)) b (length v.rows)) (sym snap.blob_is)
          (subst (λ (n : ℕ). IsPublishedIn (store_of f.limits (events s'.log)) blob n) (sym snap.rows) there);
    })

-- ---- after a read
-- one that came to its version, and one that did not
pub kept_came : {D : Type 0} (s1 s' : SessionState D) (before : List KeptVersion) (blob version : ℕ) (said : Result (List ℕ) Fault) → s' ≡ record s1 { doors = s'.doors }
    → has_opened s1.opened blob version ≡ true → KeptAfter said blob version before s'.opened
kept_came {D = D} s1 s' before blob version said stays has =
    let now : has_opened s'.opened blob version ≡ true = ap (λ (x : SessionState D). has_opened x.opened blob version) stays ∙ has in
    record { there = λ came. now; or_before = inl now }

pub kept_before : (fault : Fault) (blob version : ℕ) (before after : List KeptVersion) → page_faults fault ≡ 0 → after ≡ before → KeptAfter (Err fault) blob version before after
kept_before fault blob version before after calm same = record { there = λ came. absurd (omega (arith, calm, came)); or_before = inr same }

-- ---- rows of the versions below
-- an older version's rows are those of the same updates
pub tells_older : RowsTell → (v : Version) (n : ℕ) → 1 ≤ v.page_size → IsVersion v → n ≤ length v.rows → TellUpdates v.page_size (updates v.rows) (take n v.rows)
tells_older tell v n some is le =
    let count : length (take n v.rows) ≡ n = length-take-le n v.rows le in
    tell v.page_size (updates v.rows) (take n v.rows) some is.replayable (record {
      few = omega (arith, count, length-updates v.rows);
      each = λ k from to.
          subst (λ (row : UpdateRow). IsRowOf v.page_size (updates v.rows) k row) (sym (row_at_taken v.rows n k to)) (is.rows k from (omega (arith, count)));
    })

pub older_here : (nodes : List Shelves) (houses : List House) (v : Version) (n : ℕ) → IsVersionIn nodes houses v → IsVersionIn nodes houses (older_version v n)
older_here nodes houses v n here = (All-take (λ (row : UpdateRow). IsIn nodes row.spot) n v.rows here.0, All-take (λ (row : UpdateRow). LieAmong houses (stored_of row)) n v.rows here.1)

-- what rows tell of updates, some of them tell of more updates
tells_more : (p : ℕ) (us later : List Update) (rows : List UpdateRow) (n : ℕ) → n ≤ length rows → TellUpdates p us rows → TellUpdates p (updates rows) (take n rows)
    → TellUpdates p (us ++ later) (take n rows)
tells_more p us later rows n le all some =
    let count : length (take n rows) ≡ n = length-take-le n rows le in
    let told : length (extents (updates rows)) ≡ length rows = length-extents (updates rows) ∙ length-updates rows in
    let few : length rows ≤ length us = omega (arith, told, ap length all.fall, length-take (length rows) (extents us), length-extents us) in
    let (rest, grown) = extents_grow us later in
    record {
      fall =
          some.fall
          ∙ (ap (take (length (take n rows))) all.fall
          ∙ (take-take (length (take n rows)) (length rows) (extents us) (omega (arith, count, le))
          ∙ (sym (take-append-le (length (take n rows)) (extents us) rest (omega (arith, count, le, few, length-extents us)))
          ∙ ap (take (length (take n rows))) (sym grown))));
      bytes = λ k within.
          some.bytes k within ∙ (all.bytes k (omega (arith, within, count, le)) ∙ ap (λ (u : Update). u.bytes) (sym (same_update us later k (omega (arith, within, count, le, few)))));
      leave = λ v within.
          some.leave v within
          ∙ (all.leave v (omega (arith, within, count, le))
          ∙ ap (λ (l : List Update). content_from [] l) (sym (take-append-le v us later (omega (arith, within, count, le, few)))));
      replayable = some.replayable;
      own = some.own;
    }

-- ---- where they lie
blob_within : (xs : List Blob) (none : Bool) (i : ℕ) (b : Blob) → (if none then None else slice_get xs i) ≡ Some b → i < length xs
blob_within xs true i b e = let no : ⊥ = cc in absurd no
blob_within xs false i b e = slice_get_within xs i b e

few_unless : (s : Store) (o : Option Refusal) (done : Answered) (n : ℕ) → length s.blobs ≤ n → length done.0.blobs ≤ n
    → length (let a : Answered = elim o [ Some r ↦ refuse s r | None ↦ done ] in a).0.blobs ≤ n
few_unless s (Some r) done n few more = few
few_unless s None done n few more = more

few_in_blob : (s : Store) (other : ℕ) (o : Option Blob) (f : Blob → Answered) (n : ℕ) → length s.blobs ≤ n → ((b : Blob) → length (f b).0.blobs ≤ n)
    → length (let a : Answered = elim o [ None ↦ refuse s (Refusals.NoBlob other) | Some b ↦ f b ] in a).0.blobs ≤ n
few_in_blob s other None f n few more = few
few_in_blob s other (Some b) f n few more = more b

more_few : (blobs : List Blob) (b : Blob) (n : ℕ) → length blobs ≤ n → length (blobs ++ b ∷ []) ≤ suc n
more_few blobs b n few = omega (arith, few, length-append blobs (b ∷ []))

as_few : (blobs : List Blob) (at : ℕ) (b : Blob) (n : ℕ) → length blobs ≤ n → length (set blobs at b) ≤ n
as_few blobs at b n few = omega (arith, few, length-set blobs at b)

-- each blob of a store has a parent, or none, in the list of parents
few_after : (s : Store) (parents : List (Option Parent)) (e : Event) → length s.blobs ≤ length parents → length (answer s (caller_of e) (call_of e)).0.blobs ≤ length (parents_after parents e)
few_after s parents (Events.Create caller) few = few_unless s _ _ (suc (length parents)) (omega (arith, few)) (more_few s.blobs _ (length parents) few)
few_after s parents (Events.Assign caller blob place bytes) few =
    few_in_blob s blob (blob_at s blob) _ (length parents) few (λ b. few_unless s _ _ (length parents) few (as_few s.blobs (blob - 1) _ (length parents) few))
few_after s parents (Events.Finish caller blob version) few =
    few_in_blob s blob (blob_at s blob) _ (length parents) few (λ b. few_unless s _ _ (length parents) few (as_few s.blobs (blob - 1) _ (length parents) few))
few_after s parents (Events.Branch caller blob version) few =
    few_in_blob s blob (blob_at s blob) _ (suc (length parents)) (omega (arith, few)) (λ b. few_unless s _ _ (suc (length parents)) (omega (arith, few)) (more_few s.blobs _ (length parents) few))

few_from : (s : Store) (parents : List (Option Parent)) (es : List Event) → length s.blobs ≤ length parents → length (store_from s es).blobs ≤ length (parents_from parents es)
few_from s parents [] few = few
few_from s parents (e ∷ es) few = few_from (answer s (caller_of e) (call_of e)).0 (parents_after parents e) es (few_after s parents e few)

-- a blob that is there keeps the origins of its versions
origin_stays : (f : DeskFixed) (log more : List (ℕ × Event)) (blob version : ℕ) (b : Blob) → blob_at (store_of f.limits (events log)) blob ≡ Some b
    → origin_in (events (log ++ more)) blob version ≡ origin_in (events log) blob version
origin_stays f log more blob version b is =
    let s : Store = store_of f.limits (events log) in
    let within : blob - 1 < length s.blobs = blob_within s.blobs (blob == 0) (blob - 1) b is in
    let few : length s.blobs ≤ length (parents_of (events log)) = few_from (empty_store f.limits) [] (events log) (omega arith) in
    ap (λ (l : List Event). origin_in l blob version) (map-append (λ (x : ℕ × Event). x.1) log more)
    ∙ (ap (λ (l : List (Option Parent)). origin_of l blob version) (from_append [] (events log) (events more))
    ∙ origin_from (parents_of (events log)) (events more) blob version (omega (arith, within, few)))

get_taken : (rows : List UpdateRow) (n j : ℕ) (row : UpdateRow) → slice_get (take n rows) j ≡ Some row → slice_get rows j ≡ Some row
get_taken rows zero j row e = let no : ⊥ = cc in absurd no
get_taken [] (suc n) j row e = e
get_taken (x ∷ xs) (suc n) zero row e = e
get_taken (x ∷ xs) (suc n) (suc j) row e = get_taken xs n j row e

-- ---- a version that is kept, or one below it, is found in the history
found_kept : {D : Type 0} → RowsTell → (s : SessionState D) (v : Version) (n : ℕ) → IsVersion v → IsKept s.store.fixed s.log v → n ≤ length v.rows → Found s v.blob n (older_version v n) s
found_kept tell s v n is k le =
    let f = s.store.fixed in
    let front = k.front in
    let (more, begins) = k.begins in
    let (b, at, published_then) = k.published in
    let h : Store = store_of f.limits (events front) in
    let (new, there, stay) = store_kept h (events more) v.blob b at in
    let at_log : blob_at (store_of f.limits (events (front ++ more))) v.blob ≡ Some new =
    ap (λ (l : List Event). blob_at (store_of f.limits l) v.blob) (map-append (λ (x : ℕ × Event). x.1) front more)
    ∙ (ap (λ (x : Store). blob_at x v.blob) (store_from-append (empty_store f.limits) (events front) (events more)) ∙ there) in
    let longer : updates_in (desk_at f (front ++ more)) v.blob ≡ updates_in (desk_at f front) v.blob ++ stay.later =
    ap updates_or_none at_log ∙ (stay.updates ∙ ap (λ (o : Option Blob). updates_or_none o ++ stay.later) (sym at)) in
    let some : 1 ≤ v.page_size = page_pos v.page_size is.page_size in
    let older : TellUpdates f.page_size (updates v.rows) (take n v.rows) =
    subst (λ (p : ℕ). TellUpdates p (updates v.rows) (take n v.rows)) k.snapshot.page_size (tells_older tell v n some is le) in
    let tells : TellUpdates f.page_size (updates_in (desk_at f (front ++ more)) v.blob) (take n v.rows) =
    subst (λ (us : List Update). TellUpdates f.page_size us (take n v.rows)) (sym longer)
    (tells_more f.page_size (updates_in (desk_at f front) v.blob) stay.later v.rows n le k.snapshot.tells older) in
    let origins : LieUnderOrigins (events (front ++ more)) v.blob (take n v.rows) =
    λ j row e. k.snapshot.origins j row (get_taken v.rows n j row e) ∙ sym (origin_stays f front more v.blob (suc j) b at) in
    let snap : IsSnapshotOf f (front ++ more) v.blob n (older_version v n) =
    record { blob_is = refl; rows = length-take-le n v.rows le; page_size = k.snapshot.page_size; tells = tells; here = older_here f.nodes f.houses v n k.snapshot.here; origins = origins } in
    record {
      gap = [];
      others = tt;
      log = sym (append-nil s.log);
      same = refl;
      size = _;
      done = size_there f s.log s.caller v.blob n new (ap (λ (l : List (ℕ × Event)). blob_at (store_of f.limits (events l)) v.blob) begins ∙ at_log)
          (omega (arith, le, published_then, stay.published));
      snapshot = subst (λ (l : List (ℕ × Event)). IsSnapshotOf f l v.blob n (older_version v n)) (sym begins) snap;
    }

pub found_by_view : {D : Type 0} → RowsTell → (s : SessionState D) (vs : List Version) (blob version : ℕ) (view : Version) → All (IsKept s.store.fixed s.log) vs → IsViewAmong vs blob version view
    → Found s blob version view s
found_by_view tell s vs blob version view each among =
    let kept : IsKept s.store.fixed s.log among.whole = at_index (IsKept s.store.fixed s.log) vs among.covers.index among.whole among.covers.is each in
    subst (λ (v : Version). Found s blob version v s) (sym among.is)
    (subst (λ (b : ℕ). Found s b version (older_version among.whole version) s) among.covers.blob_is (found_kept tell s among.whole version among.stands kept among.covers.reaches))

-- and so it is once the session has come there
pub found_there : {A D : Type 0} {said : Result A OpenFault} (s s1 : SessionState D) (blob version : ℕ) (v : Version) → Coming s blob version said s1 → Found s1 blob version v s1 → Found s blob version v s1
found_there {D = D} s s1 blob version v o f = record {
  gap = o.gap;
  others = o.others;
  log = o.log;
  same = o.same;
  size = f.size;
  done = subst (λ (x : SessionState D). outcome_in x.store.fixed s1.log x.caller (Calls.Size blob version) ≡ Outcomes.Size f.size) o.same f.done;
  snapshot = subst (λ (x : SessionState D). IsSnapshotOf x.store.fixed s1.log blob version v) o.same f.snapshot;
}
