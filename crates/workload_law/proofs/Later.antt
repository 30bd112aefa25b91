-- An update that was numbered, once more events came: where it lies in its blob, who finished it, and which of its pages can be lost.
use Rattle.std.proofs.Common.{◌≡◌, ℕ, ◌+◌, ◌-◌, ◌*◌, ◌/◌, ◌<◌, ◌≤◌, ◌==◌, ◌||◌, nat_lt, suc, Bool, true, false, if◌then◌else◌, List, [], ◌∷◌, ◌++◌, length, take, drop, get_or, refl, sym, ap, subst, ◌∙◌, arith, append_assoc}
use Rattle.std.specs.Prelude.{Option, Some, None, slice_index_or}
use Rattle.std.specs.List.{All, Contains, filter}
use Rattle.std.proofs.Math.Nat.{div-mul-le_self}
use Rattle.std.proofs.lemmas.Bool.{eq-eqb}
use Rattle.std.proofs.lemmas.Bool.Decides.{nat_tests}
use Rattle.std.proofs.lemmas.List.{length-append, length-drop, length-take, take-append-le, get_or_append_left, get_or-append-add}
use Rattle.std.proofs.lemmas.List.Elements.{All-nil, All-cons, All-filter, All-contains}
use Rattle.blob_model.specs.Content.{Update, put, content_from, offset_of, size_of}
use Rattle.blob_model.specs.Laws.{FinishedByEvents, OldVersionsStay}
use Rattle.blob_model.specs.Limits.{Bounds, greatest}
use Rattle.blob_model.specs.Store.{Store, Blob, blob_at, size_now, and_update, assigned, is_finished, published, empty_store}
use Rattle.blob_model.specs.Answer.{answer, first_refusal, not_numbered, already, repair_refusal}
use Rattle.blob_model.specs.History.{store_of, finishes, is_refused}
use Rattle.blob_model.specs.declared.call.Call.TheVariants as Calls
use Rattle.blob_model.specs.declared.call.Event.{Event}
use Rattle.blob_model.specs.declared.call.Event.TheVariants as Events
use Rattle.blob_model.specs.declared.call.Outcome.TheVariants as Outcomes
use Rattle.blob_model.specs.declared.call.Place.{Place}
use Rattle.blob_model.specs.declared.call.Place.TheVariants.{Append}
use Rattle.blob_model.specs.declared.call.Refusal.{Refusal}
use Rattle.blob_model.specs.declared.call.Refusal.TheVariants as Refusals
use Rattle.range_log.specs.Extents.{Extent, extent_at, touch_of}
use Rattle.range_log.specs.Updates.{extents, update_at, no_update}
use Rattle.range_log.specs.Rows.{folds_by, folds_of, folded_of, edge_pages}
use Rattle.range_log.proofs.Bytes.{extent_is, content_append}
use Rattle.request_form.specs.Answers.{folds_in}
use Rattle.request_form.specs.declared.form.Fault.{Fault}
use Rattle.request_form.proofs.HungUpFinished.{refused_already}
use Rattle.workload_law.specs.Ends.{IsOutside, IsPageOf}
use Rattle.workload_law.proofs.Appends.{put_end}
use Rattle.workload_law.proofs.Blobs.{event_updates}
use Rattle.workload_law.proofs.OneCaller.{IsPlaced, is_placed}
use Rattle.blob_model.proofs.Marks.{marks_fit}
use Rattle.blob_model.proofs.Stays.{some_is, store_from-append}
use Rattle.workload_law.proofs.Loads.{whole_content}

-- a fault of the outside is one still where more pages can be lost
pub outside_as : (P Q : ℕ → Type 0) → ((page : ℕ) → P page → Q page) → (fault : Fault) → IsOutside P fault → IsOutside Q fault
outside_as P Q wider fault (IsOutside.lost page p is) = IsOutside.lost page (wider page p) is
outside_as P Q wider fault (IsOutside.starved is) = IsOutside.starved is
outside_as P Q wider fault (IsOutside.held ticket is) = IsOutside.held ticket is

-- ---- pages that are stored anew
edges_all : (P : ℕ → Type 0) (b : Bool) (first last : ℕ) → P first → P last → All P (if b then first ∷ [] else first ∷ last ∷ [])
edges_all P true first last p q = All-cons P first [] p (All-nil P)
edges_all P false first last p q = All-cons P first (last ∷ []) p (All-cons P last [] q (All-nil P))

page_begins : (p at n : ℕ) → at < n → p * (at / p) < n
page_begins p at n lt = omega (arith, lt, div-mul-le_self at p)

-- they begin before the update ends
fold_begins : (p k : ℕ) (us : List Extent) (page : ℕ) → Contains (folds_of p us k) page → 1 ≤ (extent_at us k).len → p * page < (extent_at us k).at + (extent_at us k).len
unfolding folds_by
fold_begins p k us page there some =
    let x : Extent = extent_at us k in
    let P : ℕ → Type 0 = λ i. p * i < x.at + x.len in
    let edges : List ℕ = edge_pages (touch_of p us k) in
    let all : All P edges =
    edges_all P (x.at / p == (x.at + x.len - 1) / p) (x.at / p) ((x.at + x.len - 1) / p)
    (page_begins p x.at (x.at + x.len) (omega (arith, some))) (page_begins p (x.at + x.len - 1) (x.at + x.len) (omega (arith, some))) in
    All-contains P (filter (λ i. folded_of p us k i) edges) page (All-filter (λ i. folded_of p us k i) P edges all) there

-- ---- where an update falls that has others before and behind it
module _ (us : List Update) (u : Update) (more : List Update) where
  abbrev among : List Update
  among = (us ++ u ∷ []) ++ more

  there : length us < length among
  there = omega (arith, length-append (us ++ u ∷ []) more, length-append us (u ∷ []))

  update_is : update_at among (suc (length us)) ≡ u
  update_is =
      let first : length us < length (us ++ u ∷ []) = omega (arith, length-append us (u ∷ [])) in
      let e : length us + 0 ≡ length us = omega arith in
      get_or_append_left (us ++ u ∷ []) more no_update (length us) first
      ∙ (ap (λ (n : ℕ). get_or (us ++ u ∷ []) n no_update) (sym e) ∙ get_or-append-add us (u ∷ []) 0 no_update)

  size_before : size_of among (length us) ≡ size_of us (length us)
  size_before =
      let first : length us ≤ length (us ++ u ∷ []) = omega (arith, length-append us (u ∷ [])) in
      ap (λ (l : List Update). length (content_from [] l))
      (take-append-le (length us) (us ++ u ∷ []) more first ∙ take-append-le (length us) us (u ∷ []) (omega arith))

  extent_there : extent_at (extents among) (suc (length us)) ≡ record { at = offset_of u.place (size_of us (length us)); len = length u.bytes }
  extent_there =
      extent_is among (length us) there
      ∙ (ap (λ (x : Update). let e : Extent = record { at = offset_of x.place (size_of among (length us)); len = length x.bytes } in e) update_is
      ∙ ap (λ (n : ℕ). let e : Extent = record { at = offset_of u.place n; len = length u.bytes } in e) size_before)

-- ---- a version that was just numbered
pub last_mark : (bs : List Bool) → slice_index_or (bs ++ false ∷ []) (length bs) false ≡ false
last_mark [] = refl
last_mark (b ∷ bs) = last_mark bs

new_unfinished : (b : Blob) (u : Update) (version : ℕ) → length b.finished ≡ assigned b → version ≡ assigned b + 1 → is_finished (and_update b u) version ≡ false
new_unfinished b u version even next =
    let place : version - 1 ≡ length b.finished = omega (arith, even, next) in
    let some : (version == 0) ≡ false = grind (arith, nat_tests) in
    rw some (ap (λ (n : ℕ). slice_index_or (b.finished ++ false ∷ []) n false) place ∙ last_mark b.finished)

record Finished (store : Store) (blob version : ℕ) : Type 0 where
  b : Blob
  at : blob_at store blob ≡ Some b
  mark : is_finished b version ≡ true

found_in : (store : Store) (blob version : ℕ) (o : Option Blob) → blob_at store blob ≡ o
    → (let r : Option Refusal =
    elim o [ None ↦ Some (Refusals.NoBlob blob) | Some b ↦ first_refusal (not_numbered b version ∷ already b version ∷ []) ] in r) ≡ Some (Refusals.Already version)
    → Finished store blob version
found_in store blob version None at e = let never : ⊥ = cc in absurd never
found_in store blob version (Some b) at e = record { b = b; at = at; mark = refused_already (nat_lt (assigned b) version) (is_finished b version) version (published b) e }

-- ---- a numbered update, once more events came
module _ (limits : Bounds) (caller blob : ℕ) (place : Place) (bytes : List ℕ) (version at size : ℕ) (before later : List Event)
    (numbered : (answer (store_of limits before) caller (Calls.Assign blob place bytes)).1 ≡ Outcomes.Assigned version at size) where
  abbrev this : Event
  this = Events.Assign caller blob place bytes

  abbrev update : Update
  update = record { caller = caller; place = place; bytes = bytes }

  pub its_place : IsPlaced (store_of limits before) blob place version at
  its_place = is_placed (store_of limits before) caller blob place bytes version at size numbered

  blob_then : blob_at (store_of limits (before ++ this ∷ [])) blob ≡ Some (and_update its_place.here update)
  blob_then =
      ap (λ (s : Store). blob_at s blob) (store_from-append (empty_store limits) before (this ∷ []))
      ∙ (event_updates (store_of limits before) this blob its_place.here its_place.there (ap is_refused numbered)
      ∙ ap (λ (t : Bool). Some (if t then and_update its_place.here update else its_place.here)) (eq-eqb blob blob refl))

  joined : (before ++ this ∷ []) ++ later ≡ before ++ this ∷ later
  joined = append_assoc before (this ∷ []) later

  -- found finished, so finished by an event
  pub already_by_events : FinishedByEvents → repair_refusal (store_of limits (before ++ this ∷ later)) blob version ≡ Some (Refusals.Already version) → finishes blob version later ≡ true
  already_by_events by_events refused =
      let now : Blob = and_update its_place.here update in
      let whole : List Event = before ++ this ∷ later in
      let found : Finished (store_of limits whole) blob version = found_in (store_of limits whole) blob version (blob_at (store_of limits whole) blob) refl refused in
      let there : blob_at (store_of limits ((before ++ this ∷ []) ++ later)) blob ≡ Some found.b = ap (λ (h : List Event). blob_at (store_of limits h) blob) joined ∙ found.at in
      let few : version ≤ assigned now = omega (arith, its_place.next, length-append its_place.here.updates (update ∷ [])) in
      let mark : is_finished found.b version ≡ (is_finished now version || finishes blob version later) = by_events limits (before ++ this ∷ []) later blob version now found.b blob_then there few in
      let was : is_finished now version ≡ false = new_unfinished its_place.here update version (marks_fit limits before blob its_place.here its_place.there) its_place.next in
      sym (ap (λ (t : Bool). t || finishes blob version later) was) ∙ (sym mark ∙ found.mark)

  -- the blob's updates then
  pub record IsAmong (now : Blob) : Type 0 where
    pub there : blob_at (store_of limits (before ++ this ∷ later)) blob ≡ Some now
    pub more : List Update
    pub updates : now.updates ≡ (its_place.here.updates ++ update ∷ []) ++ more

  pub then_among : OldVersionsStay → (now : Blob) × IsAmong now
  then_among stay =
      let found = stay limits (before ++ this ∷ []) later blob (and_update its_place.here update) blob_then in
      (found.0, record { there = ap (λ (h : List Event). blob_at (store_of limits h) blob) (sym joined) ∙ found.1; more = found.2.later; updates = found.2.updates })

  -- a page that it stores anew begins before it ends
  pub fold_within : OldVersionsStay → (p page : ℕ) → Contains (folds_in p (store_of limits (before ++ this ∷ later)) blob version) page → 1 ≤ length bytes → p * page < at + length bytes
  fold_within stay p page fold some =
      let (now, among_now) = then_among stay in
      let us : List Update = its_place.here.updates in
      let all : List Update = (us ++ update ∷ []) ++ among_now.more in
      let in_blob : Contains (folds_of p (extents now.updates) version) page =
      subst (λ (o : Option Blob). Contains (let l : List ℕ = elim o [ None ↦ [] | Some b ↦ folds_of p (extents b.updates) version ] in l) page) among_now.there fold in
      let next : version ≡ suc (length us) = omega (arith, its_place.next) in
      let there_is : Contains (folds_of p (extents all) (suc (length us))) page =
      subst (λ (v : ℕ). Contains (folds_of p (extents all) v) page) next
      (subst (λ (l : List Update). Contains (folds_of p (extents l) version) page) among_now.updates in_blob) in
      let x : extent_at (extents all) (suc (length us)) ≡ record { at = offset_of place (size_of us (length us)); len = length bytes } = extent_there us update among_now.more in
      let from : (extent_at (extents all) (suc (length us))).at ≡ at = ap (λ (e : Extent). e.at) x ∙ sym its_place.placed in
      let long : (extent_at (extents all) (suc (length us))).len ≡ length bytes = ap (λ (e : Extent). e.len) x in
      let begins = fold_begins p (suc (length us)) (extents all) page there_is (omega (arith, long, some)) in
      omega (arith, begins, from, long)

-- ---- sizes
put_grows : (c : List ℕ) (at : ℕ) (b : List ℕ) → length c ≤ length (put c at b)
put_grows c at b =
    let front = length-take at c in
    let back = length-drop (at + length b) c in
    let one = length-append (take at c) b in
    let two = length-append (take at c ++ b) (drop (at + length b) c) in
    omega (arith, front, back, one, two)

content_grows : (c : List ℕ) (us : List Update) → length c ≤ length (content_from c us)
content_grows c [] = omega arith
content_grows c (u ∷ us) = let next : List ℕ = put c (offset_of u.place (length c)) u.bytes in omega (arith, put_grows c (offset_of u.place (length c)) u.bytes, content_grows next us)

-- a blob is at least as long as its first updates left it
pub size_grows : (us more : List Update) → length (content_from [] us) ≤ size_of (us ++ more) (length (us ++ more))
size_grows us more =
    let whole : size_of (us ++ more) (length (us ++ more)) ≡ length (content_from (content_from [] us) more) =
    ap (λ (l : List ℕ). length l) (whole_content (us ++ more)) ∙ ap (λ (l : List ℕ). length l) (content_append [] us more) in
    omega (arith, whole, content_grows (content_from [] us) more)

-- what an append that was numbered makes of its blob is there once more events came
append_ends : OldVersionsStay → (limits : Bounds) (caller blob : ℕ) (bytes : List ℕ) (version at size : ℕ) (before later : List Event)
    → (answer (store_of limits before) caller (Calls.Assign blob Append bytes)).1 ≡ Outcomes.Assigned version at size
    → (now : Blob) × (blob_at (store_of limits (before ++ Events.Assign caller blob Append bytes ∷ later)) blob ≡ Some now) × (at + length bytes ≤ size_now now)
append_ends stay limits caller blob bytes version at size before later numbered =
    let placed = its_place limits caller blob Append bytes version at size before later numbered in
    let (now, among_now) = then_among limits caller blob Append bytes version at size before later numbered stay in
    let us : List Update = placed.here.updates in
    let u : Update = record { caller = caller; place = Append; bytes = bytes } in
    let c : List ℕ = content_from [] us in
    let first : at ≡ length c = placed.placed ∙ ap (λ (l : List ℕ). length l) (whole_content us) in
    let ends : length (content_from [] (us ++ u ∷ [])) ≡ length c + length bytes =
    ap (λ (l : List ℕ). length l) (content_append [] us (u ∷ []) ∙ put_end c bytes) ∙ length-append c bytes in
    let whole : size_now now ≡ size_of ((us ++ u ∷ []) ++ among_now.more) (length ((us ++ u ∷ []) ++ among_now.more)) = ap (λ (l : List Update). size_of l (length l)) among_now.updates in
    (now, among_now.there, omega (arith, size_grows (us ++ u ∷ []) among_now.more, whole, ends, first))

-- a page that an append can lose begins within what its blob comes to
pub append_page : OldVersionsStay → (caller blob : ℕ) (bytes : List ℕ) (history first seen more : List Event) (p page n : ℕ) (b : Blob) → history ≡ seen ++ more
    → blob_at (store_of greatest history) blob ≡ Some b → size_now b ≤ n → 1 ≤ length bytes → length bytes ≤ n → IsPageOf greatest p caller blob Append bytes first seen page → p * page < n
append_page stay caller blob bytes history first seen more p page n b goes there few some fit (IsPageOf.of_bytes lt) = omega (arith, lt, fit)
append_page stay caller blob bytes history first seen more p page n b goes there few some fit (IsPageOf.of_blob before rest version at size split mine numbered within) =
    let this : Event = Events.Assign caller blob Append bytes in
    let whole : history ≡ before ++ this ∷ (rest ++ more) = goes ∙ (ap (λ (l : List Event). l ++ more) split ∙ append_assoc before (this ∷ rest) more) in
    let ends = append_ends stay greatest caller blob bytes version at size before (rest ++ more) numbered in
    let same : ends.0 ≡ b = some_is (blob_at (store_of greatest history) blob) ends.0 b (ap (λ (h : List Event). blob_at (store_of greatest h) blob) whole ∙ ends.1) there in
    omega (arith, within some, ends.2, ap (λ (x : Blob). size_now x) same, few)
