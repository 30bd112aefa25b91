-- What is known of a load's history once every caller's pass came back.
use Rattle.std.proofs.Common.{◌≡◌, ◌≢◌, ℕ, ◌+◌, ◌*◌, ◌<◌, ◌≤◌, false, List, [], ◌∷◌, ◌++◌, length, take, refl, sym, ap, subst, ◌∙◌, inl, inr, arith, append_assoc}
use Rattle.std.specs.Prelude.{Option, Some, None}
use Rattle.std.specs.List.{Contains}
use Rattle.std.proofs.lemmas.Bool.{cases_eq, true≢false}
use Rattle.std.proofs.lemmas.List.{length-replicate, length-take}
use Rattle.std.proofs.lemmas.Nat.{mul-le}
use Rattle.blob_model.specs.Limits.{greatest}
use Rattle.blob_model.specs.Store.{Store, Blob, blob_at, size_now, and_update, empty_store}
use Rattle.blob_model.specs.Answer.{answer, Answered, refuse, bytes_of, unless_refused, not_published, range_past_size}
use Rattle.blob_model.specs.Laws.{OldVersionsStay}
use Rattle.blob_model.specs.History.{caller_of, call_of, store_of, is_refused, IsLegal, IsAccepted, events_by, AllOther}
use Rattle.blob_model.specs.declared.call.Call.{Call}
use Rattle.blob_model.specs.declared.call.Call.TheVariants as Calls
use Rattle.blob_model.specs.declared.call.Event.{Event}
use Rattle.blob_model.specs.declared.call.Event.TheVariants as Events
use Rattle.blob_model.specs.declared.call.Outcome.{Outcome}
use Rattle.blob_model.specs.declared.call.Outcome.TheVariants as Outcomes
use Rattle.blob_model.specs.declared.call.Place.{Place}
use Rattle.blob_model.specs.declared.call.Place.TheVariants.{WriteAt, Append}
use Rattle.blob_model.specs.declared.call.Refusal.{Refusal}
use Rattle.blob_model.specs.declared.call.Refusal.TheVariants as Refusals
use Rattle.request_form.specs.Replies.{fault_of}
use Rattle.request_form.specs.declared.form.Fault.{Fault}
use Rattle.request_form.proofs.Own.{events_by-append, own_first}
use Rattle.workload_law.specs.declared.plan.LoadPlan.{LoadPlan}
use Rattle.workload_law.specs.Pieces.{record_of, cell_of}
use Rattle.workload_law.specs.Laws.{IsRefusedWhenFull}
use Rattle.workload_law.specs.Load.{all_ops, IsSized, zeros_of, opening, cell_offset, IsLoadPage, IsUnderway}
use Rattle.workload_law.specs.Sessions.{FinishesItsOwn}
use Rattle.workload_law.specs.Ends.{CreateHindered, UpdateHindered, IsOutside, NoPage, IsPageOf}
use Rattle.workload_law.specs.Closing.{SeenAlone, NobodysAreNone, OpeningsAreFirst, OwnsStay, IdleOwnsAll, OpeningHindered, OperationHindered, NothingElseHindersOpenings, NothingElseHinders, ReadsAreShort}
use Rattle.blob_model.proofs.Stays.{some_is}
use Rattle.workload_law.proofs.Blobs.{event_updates, finish_accepted}
use Rattle.workload_law.proofs.CallEnds.{none_after}
use Rattle.workload_law.proofs.Cells.{cell_fits}
use Rattle.workload_law.proofs.Grid.{grid_length, cell_length}
use Rattle.workload_law.proofs.Later.{outside_as, append_page}
use Rattle.workload_law.proofs.Loads.{zeros, empty, made, log_of, log_there, log_size, opening_legal, refused_when_full, beginnings_underway}
use Rattle.workload_law.proofs.OneCaller.{legal_front, is_placed}
use Rattle.workload_law.proofs.OwnEvents.{no_first, none_parts, gap_has_none, among_own, nothing_in, owns_more, nobody_else}
use Rattle.workload_law.proofs.Records.{record_length}

-- ---- whose events there are
pub seen_alone : SeenAlone
seen_alone caller [] none = refl
seen_alone caller (e ∷ es) none =
    elim (cases_eq (caller_of e) caller) [
      | inl own ↦
          own_first caller e es own
          ∙ ap (λ (l : List Event). e ∷ l) (seen_alone caller es (λ other apart. (none_parts other (e ∷ []) es (none other apart)).1))
      | inr apart ↦ absurd (no_first (caller_of e) e es refl (none (caller_of e) apart))
    ]

none_there : (more : List Event) → ((caller : ℕ) → events_by caller more ≡ []) → more ≡ []
none_there [] none = refl
none_there (e ∷ es) none = absurd (no_first (caller_of e) e es refl (none (caller_of e)))

-- no more events of a caller are none
none_more : (caller : ℕ) (seen more : List Event) → events_by caller (seen ++ more) ≡ events_by caller seen → events_by caller more ≡ []
none_more caller seen more same = none_after (events_by caller seen) (events_by caller more) (sym (events_by-append caller seen more) ∙ same)

pub nobodys_are_none : NobodysAreNone
nobodys_are_none history more same = none_there more (λ caller. none_more caller history more (same caller))

-- ---- the opening
pub openings_are_first : OpeningsAreFirst
unfolding made empty
openings_are_first plan version more legal =
    let assign : Event = Events.Assign 1 2 Append (zeros plan) in
    let accepted : IsAccepted made assign = unfold zeros in legal.1.1.0 in
    let finish : IsAccepted (answer made 1 (call_of assign)).0 (Events.Finish 1 2 version) = unfold zeros in legal.1.1.1.0 in
    let there : blob_at (answer made 1 (call_of assign)).0 2 ≡ Some (and_update empty (record { caller = 1; place = Append; bytes = zeros plan })) =
    event_updates made assign 2 empty refl accepted.accepted in
    let within = finish_accepted (answer made 1 (call_of assign)).0 1 2 version (and_update empty (record { caller = 1; place = Append; bytes = zeros plan })) there finish in
    omega (arith, within.1.0, within.1.1)

-- ---- whose finishes there are
pub owns_stay : OwnsStay
owns_stay limits caller seen more same was = owns_more limits caller seen more [] (none_more caller seen more same) tt was

pub idle_owns_all : IdleOwnsAll
idle_owns_all limits caller history none blob version there =
    let finish : Event = Events.Finish caller blob version in
    absurd (nothing_in finish (subst (λ (l : List Event). Contains l finish) none (among_own caller history finish refl there)))

-- ---- nothing else hinders an update
-- where a history goes on from what was seen, everybody finishes only his own, and by then too many waiting updates are all for which the store refuses the update
module _ (history : List Event) (legal : IsLegal greatest history) (owns : (other : ℕ) → FinishesItsOwn greatest history other)
    (p caller blob : ℕ) (place : Place) (bytes : List ℕ) (first seen more : List Event) (goes : history ≡ seen ++ more) (IsPage : ℕ → Type 0)
    (pages : (page : ℕ) → IsPageOf greatest p caller blob place bytes first seen page → IsPage page)
    (full : (others rest : List Event) → AllOther caller others → history ≡ (first ++ others) ++ rest → (refusal : Refusal)
    → (answer (store_of greatest (first ++ others)) caller (Calls.Assign blob place bytes)).1 ≡ Outcomes.Refused refusal → refusal ≡ Refusals.TooManyOpen greatest.max_open) where
  pub update_outside : (fault : Fault) → UpdateHindered greatest p caller blob place bytes first seen fault → IsOutside IsPage fault
  update_outside fault (UpdateHindered.outside out) = outside_as (IsPageOf greatest p caller blob place bytes first seen) IsPage pages fault out
  update_outside fault (UpdateHindered.refused r other) =
      let whole : history ≡ (first ++ r.others) ++ (r.rest ++ more) = goes ∙ (ap (λ (l : List Event). l ++ more) r.split ∙ append_assoc (first ++ r.others) r.rest more) in
      absurd (other greatest.max_open (r.is ∙ ap fault_of (full r.others (r.rest ++ more) r.is_gap whole r.refusal r.refused)))
  update_outside fault (UpdateHindered.finished before between rest version at size split numbered gap found) =
      let this : Event = Events.Assign caller blob place bytes in
      let whole : history ≡ before ++ this ∷ (between ++ (rest ++ more)) =
      goes
      ∙ (ap (λ (l : List Event). l ++ more) split
      ∙ (append_assoc before (this ∷ (between ++ rest)) more ∙ ap (λ (l : List Event). before ++ this ∷ l) (append_assoc between rest more))) in
      absurd (true≢false (sym found ∙ nobody_else greatest history legal owns caller blob version at size place bytes before between (rest ++ more) whole numbered gap))

-- ---- nothing else hinders the opening
accepted_or_refused : (o : Outcome) (refusal : Refusal) → o ≡ Outcomes.Refused refusal → is_refused o ≡ false → ⊥
accepted_or_refused o refusal is accepted = true≢false (ap is_refused (sym is) ∙ accepted)

module _ (plan : LoadPlan) (history : List Event) (sized : IsSized plan) (legal : IsLegal greatest history) (alone : (other : ℕ) → other ≢ 1 → events_by other history ≡ [])
    (own : FinishesItsOwn greatest history 1) where
  all_own : (other : ℕ) → FinishesItsOwn greatest history other
  all_own other =
      elim (cases_eq other 1) [
        | inl one ↦ subst (λ (n : ℕ). FinishesItsOwn greatest history n) (sym one) own
        | inr apart ↦ idle_owns_all greatest other history (alone other apart)
      ]

  -- a beginning is caller 1's own
  front_alone : (front rest : List Event) → history ≡ front ++ rest → events_by 1 front ≡ front
  front_alone front rest whole = seen_alone 1 front (λ other apart. (none_parts other front rest (ap (λ (h : List Event). events_by other h) (sym whole) ∙ alone other apart)).0)

  unrefused : (call : Call) (first done : List Event) → events_by 1 first ≡ done → is_refused (answer (store_of greatest done) 1 call).1 ≡ false
      → (others rest : List Event) → AllOther 1 others → history ≡ (first ++ others) ++ rest → (refusal : Refusal) → (answer (store_of greatest (first ++ others)) 1 call).1 ≡ Outcomes.Refused refusal → ⊥
  unrefused call first done was accepted others rest gap whole refusal refused =
      let front : first ++ others ≡ done = sym (front_alone (first ++ others) rest whole) ∙ (gap_has_none 1 first others gap ∙ was) in
      accepted_or_refused (answer (store_of greatest done) 1 call).1 refusal (ap (λ (h : List Event). (answer (store_of greatest h) 1 call).1) (sym front) ∙ refused) accepted

  create_outside : (p : ℕ) (first seen more done : List Event) (fault : Fault) → history ≡ seen ++ more → events_by 1 first ≡ done → is_refused (answer (store_of greatest done) 1 Calls.Create).1 ≡ false
      → CreateHindered greatest 1 first seen fault → IsOutside (IsLoadPage plan p) fault
  create_outside p first seen more done fault goes was accepted (CreateHindered.outside out) = outside_as NoPage (IsLoadPage plan p) (λ page none. absurd none) fault out
  create_outside p first seen more done fault goes was accepted (CreateHindered.refused r) =
      let whole : history ≡ (first ++ r.others) ++ (r.rest ++ more) = goes ∙ (ap (λ (l : List Event). l ++ more) r.split ∙ append_assoc (first ++ r.others) r.rest more) in
      absurd (unrefused Calls.Create first done was accepted r.others (r.rest ++ more) r.is_gap whole r.refusal r.refused)

  -- caller 1 numbered the zeros after nothing but the two blobs, so they begin the grid
  zeros_page : (p : ℕ) (first seen more : List Event) → history ≡ seen ++ more → events_by 1 first ≡ Events.Create 1 ∷ Events.Create 1 ∷ [] → (page : ℕ)
      → IsPageOf greatest p 1 2 Append (zeros_of plan) first seen page → IsLoadPage plan p page
  zeros_page p first seen more goes was page (IsPageOf.of_bytes lt) = let long : length (zeros_of plan) ≡ 16 * all_ops plan = length-replicate (16 * all_ops plan) 0 in omega (arith, lt, long)
  zeros_page p first seen more goes was page (IsPageOf.of_blob before rest version at size split mine numbered within) =
      let this : Event = Events.Assign 1 2 Append (zeros_of plan) in
      let whole : history ≡ before ++ this ∷ (rest ++ more) = goes ∙ (ap (λ (l : List Event). l ++ more) split ∙ append_assoc before (this ∷ rest) more) in
      let made : before ≡ Events.Create 1 ∷ Events.Create 1 ∷ [] = sym (front_alone before (this ∷ (rest ++ more)) whole) ∙ (mine ∙ was) in
      let placed = is_placed (store_of greatest before) 1 2 Append (zeros_of plan) version at size numbered in
      let new : placed.here ≡ record { updates = []; finished = [] } =
      some_is (blob_at (store_of greatest before) 2) placed.here (record { updates = []; finished = [] }) placed.there (ap (λ (h : List Event). blob_at (store_of greatest h) 2) made) in
      let none : at ≡ 0 = placed.placed ∙ ap (λ (b : Blob). size_now b) new in
      let some : 1 ≤ all_ops plan = mul-le 1 1 plan.workers plan.ops sized.some_workers sized.some_ops in
      let long : length (zeros_of plan) ≡ 16 * all_ops plan = length-replicate (16 * all_ops plan) 0 in
      omega (arith, within (omega (arith, some, long)), none, long)

  zeros_outside : (p : ℕ) (first seen more : List Event) (fault : Fault) → history ≡ seen ++ more → events_by 1 first ≡ Events.Create 1 ∷ Events.Create 1 ∷ []
      → UpdateHindered greatest p 1 2 Append (zeros_of plan) first seen fault → IsOutside (IsLoadPage plan p) fault
  zeros_outside p first seen more fault goes was h =
      update_outside history legal all_own p 1 2 Append (zeros_of plan) first seen more goes (IsLoadPage plan p) (zeros_page p first seen more goes was)
      (λ others rest gap whole refusal refused.
      absurd (unrefused (Calls.Assign 2 Append (zeros_of plan)) first (Events.Create 1 ∷ Events.Create 1 ∷ []) was (opening_legal plan sized).1.1.0.accepted others rest gap whole refusal refused))
      fault h

pub nothing_else_hinders_openings : NothingElseHindersOpenings
nothing_else_hinders_openings plan history sized legal alone own p first seen more fault goes (OpeningHindered.in_log was h) =
    create_outside plan history sized legal alone own p first seen more [] fault goes was refl h
nothing_else_hinders_openings plan history sized legal alone own p first seen more fault goes (OpeningHindered.in_grid was h) =
    create_outside plan history sized legal alone own p first seen more (Events.Create 1 ∷ []) fault goes was refl h
nothing_else_hinders_openings plan history sized legal alone own p first seen more fault goes (OpeningHindered.in_zeros was h) =
    zeros_outside plan history sized legal alone own p first seen more fault goes was h

-- ---- nothing else hinders a worker
module _ (stay : OldVersionsStay) (plan : LoadPlan) (history : List Event) (sized : IsSized plan) (legal : IsLegal greatest history) (under : IsUnderway plan history)
    (owns : (other : ℕ) → FinishesItsOwn greatest history other) (p worker op : ℕ) (from : 1 ≤ worker) (to : worker ≤ plan.workers) (few : op < plan.ops)
    (seen more later : List Event) (goes : history ≡ seen ++ more) where
  all_some : 1 ≤ all_ops plan
  all_some = mul-le 1 1 plan.workers plan.ops sized.some_workers sized.some_ops

  -- a record ends within what the log comes to
  record_page : (page : ℕ) → IsPageOf greatest p (worker + 1) 1 Append (record_of worker op) (opening plan ++ later) seen page → IsLoadPage plan p page
  record_page page lost =
      append_page stay (worker + 1) 1 (record_of worker op) history (opening plan ++ later) seen more p page (16 * all_ops plan) (log_of plan under.later) goes
      (log_there plan history under.later legal under.begins) (log_size plan history sized legal under) (omega (arith, record_length worker op)) (omega (arith, all_some, record_length worker op)) lost

  -- a cell lies within the grid
  cell_page : (page : ℕ) → IsPageOf greatest p (worker + 1) 2 (WriteAt (cell_offset plan worker op)) (cell_of plan.seed worker op) (opening plan ++ later) seen page → IsLoadPage plan p page
  cell_page page (IsPageOf.of_bytes lt) = omega (arith, lt, all_some, cell_length plan.seed worker op)
  cell_page page (IsPageOf.of_blob before rest version at size split mine numbered within) =
      let placed = is_placed (store_of greatest before) (worker + 1) 2 (WriteAt (cell_offset plan worker op)) (cell_of plan.seed worker op) version at size numbered in
      let long = cell_length plan.seed worker op in
      omega (arith, within (omega (arith, long)), placed.placed, long, grid_length plan, cell_fits plan worker op from to few)

  -- too many waiting updates are all for which an operation's updates are refused
  refused_at_front : (others rest : List Event) → history ≡ ((opening plan ++ later) ++ others) ++ rest → IsRefusedWhenFull plan (store_of greatest ((opening plan ++ later) ++ others)) worker op
  refused_at_front others rest whole =
      let front : List Event = (opening plan ++ later) ++ others in
      refused_when_full plan front sized (legal_front (empty_store greatest) front rest (subst (λ (h : List Event). IsLegal greatest h) whole legal))
      (beginnings_underway plan front rest (later ++ others) (subst (λ (h : List Event). IsUnderway plan h) whole under) (append_assoc (opening plan) later others)) worker op from to few

  operation_outside : (fault : Fault) → OperationHindered plan p worker op (opening plan ++ later) seen fault → IsOutside (IsLoadPage plan p) fault
  operation_outside fault (OperationHindered.in_record h) =
      update_outside history legal owns p (worker + 1) 1 Append (record_of worker op) (opening plan ++ later) seen more goes (IsLoadPage plan p) record_page
      (λ others rest gap whole. (refused_at_front others rest whole).log) fault h
  operation_outside fault (OperationHindered.in_cell h) =
      update_outside history legal owns p (worker + 1) 2 (WriteAt (cell_offset plan worker op)) (cell_of plan.seed worker op) (opening plan ++ later) seen more goes (IsLoadPage plan p) cell_page
      (λ others rest gap whole. (refused_at_front others rest whole).grid) fault h

pub nothing_else_hinders : OldVersionsStay → NothingElseHinders
nothing_else_hinders stay plan history sized legal under owns p worker op from to few seen more later fault goes hindered =
    operation_outside stay plan history sized legal under owns p worker op from to few seen more later goes fault hindered

-- ---- reads
content_is : (s : Store) (o : Option Refusal) (bytes content : List ℕ) → (let a : Answered = elim o [ Some r ↦ refuse s r | None ↦ (s, Outcomes.Content content) ] in a).1 ≡ Outcomes.Content bytes → bytes ≡ content
content_is s (Some r) bytes content e = (let no : ⊥ = cc in absurd no)
content_is s None bytes content e = cc

short : (n : ℕ) (xs ys : List ℕ) → ys ≡ take n xs → length ys ≤ n
short n xs ys is = omega (arith, ap length is, length-take n xs)

short_in : (s : Store) (blob version offset count : ℕ) (bytes : List ℕ) (o : Option Blob)
    → (let a : Answered = elim o [
      | None ↦ refuse s (Refusals.NoBlob blob)
      | Some b ↦ unless_refused s (not_published b version ∷ range_past_size b version offset count ∷ []) (s, Outcomes.Content (bytes_of b version offset count))
    ] in a).1 ≡ Outcomes.Content bytes
    → length bytes ≤ count
short_in s blob version offset count bytes None e = (let no : ⊥ = cc in absurd no)
short_in s blob version offset count bytes (Some b) e = short count _ bytes (content_is s _ bytes (bytes_of b version offset count) e)

pub reads_short : ReadsAreShort
reads_short store caller blob version offset count bytes e = short_in store blob version offset count bytes (blob_at store blob) e
