-- What holds of every legal history of a watch.
use Rattle.std.proofs.Common.{◌≡◌, ◌≢◌, ℕ, zero, suc, ◌+◌, ◌-◌, ◌*◌, ◌≤◌, Bool, true, false, List, [], ◌∷◌, ◌++◌, length, take, drop, refl, sym, ap, subst, ◌∙◌, inl, inr, arith, append_assoc, append-nil}
use Rattle.std.specs.Prelude.{Some, nat_lt}
use Rattle.std.specs.List.{flat_map, All, Contains}
use Rattle.std.proofs.lemmas.Bool.{cases_eq}
use Rattle.std.proofs.lemmas.Bool.Decides.{nat_tests}
use Rattle.std.proofs.lemmas.List.{append_cancel_left, length-append, take_all, take_at, drop_at, take-append-le}
use Rattle.std.proofs.lemmas.List.Concat.{flat_map-append}
use Rattle.std.proofs.lemmas.List.Elements.{All-nil, All-push, All-append, All-contains, All-from_recursion}
use Rattle.blob_model.specs.Content.{Update, content, content_from, size_of}
use Rattle.blob_model.specs.Laws.{OldVersionsStay, PublishedAreNumbered}
use Rattle.blob_model.specs.Limits.{greatest}
use Rattle.blob_model.specs.Store.{Store, Blob, blob_at, assigned, published, size_now, empty_store}
use Rattle.blob_model.specs.Answer.{answer, Answered, Test, refuse, unless_refused, not_published, range_past_size, bytes_of}
use Rattle.blob_model.specs.History.{store_of, IsLegal, events_by}
use Rattle.blob_model.specs.declared.call.Call.TheVariants as Calls
use Rattle.blob_model.specs.declared.call.Event.{Event}
use Rattle.blob_model.specs.declared.call.Event.TheVariants as Events
use Rattle.blob_model.specs.declared.call.Outcome.TheVariants as Outcomes
use Rattle.blob_model.specs.declared.call.Place.TheVariants.{Append}
use Rattle.blob_model.specs.declared.call.Refusal.{Refusal}
use Rattle.blob_model.specs.declared.call.Refusal.TheVariants as Refusals
use Rattle.blob_model.proofs.Marks.{event_even, no_blobs, marks_fit}
use Rattle.blob_model.proofs.Stays.{some_is}
use Rattle.request_form.specs.PublishedReads.{read_outcome}
use Rattle.request_form.specs.declared.form.Fault.{Fault}
use Rattle.request_form.proofs.Own.{events_by-append}
use Rattle.workload_law.specs.Numbered.{IsNumberedBy}
use Rattle.workload_law.specs.Sessions.{FinishesItsOwn}
use Rattle.workload_law.specs.Ends.{UpdateHindered, IsOutside, IsPageOf}
use Rattle.workload_law.specs.declared.watch_plan.WatchPlan.{WatchPlan}
use Rattle.workload_law.specs.Watch.{IsSized, piece_of, range_of, operation, IsWatchPage, HasWritten, HasBegun, IsUnderway, HaveCome}
use Rattle.workload_law.specs.WatchLaws.{WatchesAreDone, NothingElseHinders, IsVersionOf, PieceOutcome}
use Rattle.workload_law.proofs.Appends.{Appends, appended, appended_length}
use Rattle.workload_law.proofs.Blobs.{updated_all}
use Rattle.workload_law.proofs.Closing.{seen_alone, update_outside}
use Rattle.workload_law.proofs.Counted.{updates_in, finishers_in, update_in, finisher_in, store_updated, all_updates, all_trues, all_published}
use Rattle.workload_law.proofs.Loads.{limits_stay, only_full, found, passes}
use Rattle.workload_law.proofs.Grid.{cell_length}
use Rattle.workload_law.proofs.Later.{append_page}
use Rattle.workload_law.proofs.Merged.{all_left}
use Rattle.workload_law.proofs.OneCaller.{legal_front, tail_is}
use Rattle.workload_law.proofs.OwnEvents.{none_parts}

-- ---- what callers did one by one, put together
module _ (first history : List Event) (come : HaveCome first history) where
  whole_by : (caller : ℕ) → events_by caller history ≡ events_by caller first ++ events_by caller come.more
  whole_by caller = ap (λ (h : List Event). events_by caller h) come.begins ∙ events_by-append caller first come.more

  none_by : (other : ℕ) → other ≢ 1 → other ≢ 2 → events_by other (first ++ come.more) ≡ []
  none_by other one two = ap (λ (h : List Event). events_by other h) (sym come.begins) ∙ come.none other one two

  none_first : (other : ℕ) → other ≢ 1 → events_by other first ≡ []
  none_first other apart =
      elim (cases_eq other 2) [
        | inl two ↦ subst (λ (c : ℕ). events_by c first ≡ []) (sym two) come.fresh
        | inr not_two ↦ (none_parts other first come.more (none_by other apart not_two)).0
      ]

  pub first_is : first ≡ Events.Create 1 ∷ []
  first_is = sym (seen_alone 1 first none_first) ∙ come.made_first

  none_by_one : events_by 1 come.more ≡ []
  none_by_one =
      append_cancel_left (Events.Create 1 ∷ []) (events_by 1 come.more) []
      (ap (λ (l : List Event). l ++ events_by 1 come.more) (sym come.made_first) ∙ (sym (whole_by 1) ∙ come.made))

  none_more : (other : ℕ) → other ≢ 2 → events_by other come.more ≡ []
  none_more other apart =
      elim (cases_eq other 1) [
        | inl one ↦ subst (λ (c : ℕ). events_by c come.more ≡ []) (sym one) none_by_one
        | inr not_one ↦ (none_parts other first come.more (none_by other not_one apart)).1
      ]

  more_is : come.more ≡ events_by 2 history
  more_is = sym (seen_alone 2 come.more none_more) ∙ sym (whole_by 2 ∙ ap (λ (l : List Event). l ++ events_by 2 come.more) come.fresh)

  pub history_is : history ≡ Events.Create 1 ∷ events_by 2 history
  history_is = come.begins ∙ (ap (λ (l : List Event). l ++ come.more) first_is ∙ ap (λ (l : List Event). Events.Create 1 ∷ l) more_is)

-- ---- the blob
abbrev pub no_updates : Blob
no_updates = record { updates = []; finished = [] }

-- the store once the blob was made
abbrev made : Store
made = (answer (empty_store greatest) 1 Calls.Create).0

abbrev pub blob_after : List Event → Blob
blob_after es = updated_all 1 no_updates es

pub blob_there : (es : List Event) → IsLegal greatest (Events.Create 1 ∷ es) → blob_at (store_of greatest (Events.Create 1 ∷ es)) 1 ≡ Some (blob_after es)
blob_there es legal = store_updated made es 1 no_updates refl legal.1

blob_updates : (es : List Event) → (blob_after es).updates ≡ updates_in 1 es
blob_updates es = all_updates 1 no_updates es

there_now : (plan : WatchPlan) (history : List Event) → IsLegal greatest history → (under : IsUnderway plan history) → blob_at (store_of greatest history) 1 ≡ Some (blob_after under.written)
there_now plan history legal under =
    ap (λ (h : List Event). blob_at (store_of greatest h) 1) under.is ∙ blob_there under.written (subst (λ (h : List Event). IsLegal greatest h) under.is legal)

-- ---- the writer's first updates
abbrev update_of : WatchPlan → ℕ → Update
update_of plan op = record { caller = 2; place = Append; bytes = piece_of plan op }

abbrev firsts : WatchPlan → ℕ → List Update
firsts plan zero = []
firsts plan (suc n) = firsts plan n ++ update_of plan n ∷ []

-- their bytes, joined
abbrev joined : WatchPlan → ℕ → List ℕ
joined plan n = flat_map (λ (u : Update). u.bytes) (firsts plan n)

firsts_count : (plan : WatchPlan) (n : ℕ) → length (firsts plan n) ≡ n
firsts_count plan zero = refl
firsts_count plan (suc n) = omega (arith, length-append (firsts plan n) (update_of plan n ∷ []), firsts_count plan n)

firsts_append : (plan : WatchPlan) (n : ℕ) → All (Appends 16) (firsts plan n)
firsts_append plan zero = All-nil (Appends 16)
firsts_append plan (suc n) = All-push (Appends 16) (firsts plan n) (update_of plan n) (firsts_append plan n) (record { place = refl; sized = cell_length plan.seed 0 n })

firsts_front : (plan : WatchPlan) (k d n : ℕ) → n ≡ k + d → take k (firsts plan n) ≡ firsts plan k
firsts_front plan k zero n is =
    let same : n ≡ k = omega (arith, is) in
    ap (λ (m : ℕ). take k (firsts plan m)) same ∙ take_all k (firsts plan k) (omega (arith, firsts_count plan k))
firsts_front plan k (suc d) zero is = absurd (omega (arith, is))
firsts_front plan k (suc d) (suc n) is =
    let less : n ≡ k + d = omega (arith, is) in
    take-append-le k (firsts plan n) (update_of plan n ∷ []) (omega (arith, firsts_count plan n, less)) ∙ firsts_front plan k d n less

joined_length : (plan : WatchPlan) (n : ℕ) → length (joined plan n) ≡ 16 * n
joined_length plan n = appended_length 16 (firsts plan n) (firsts_append plan n) ∙ ap (λ (k : ℕ). 16 * k) (firsts_count plan n)

-- the bytes of an update lie behind those before it
joined_piece : (plan : WatchPlan) (op : ℕ) → take 16 (drop (16 * op) (joined plan (suc op))) ≡ piece_of plan op
joined_piece plan op =
    let more : joined plan (suc op) ≡ joined plan op ++ (piece_of plan op ++ []) = flat_map-append (λ (u : Update). u.bytes) (firsts plan op) (update_of plan op ∷ []) in
    ap (λ (l : List ℕ). take 16 (drop (16 * op) l)) more
    ∙ (ap (λ (l : List ℕ). take 16 l) (drop_at (joined plan op) (piece_of plan op ++ []) (16 * op) (joined_length plan op))
    ∙ take_at (piece_of plan op) [] 16 (cell_length plan.seed 0 op))

written_firsts : (plan : WatchPlan) (n : ℕ) (es : List Event) → HasWritten plan n es → updates_in 1 es ≡ firsts plan n
written_firsts plan zero es none = ap (λ (l : List Event). updates_in 1 l) none
written_firsts plan (suc n) es (before, (version, (was, is))) =
    ap (λ (l : List Event). updates_in 1 l) is
    ∙ (flat_map-append (update_in 1) before (operation plan n version) ∙ ap (λ (l : List Update). l ++ update_of plan n ∷ []) (written_firsts plan n before was))

-- as many are finished
written_finishers : (plan : WatchPlan) (n : ℕ) (es : List Event) → HasWritten plan n es → length (finishers_in 1 es) ≡ n
written_finishers plan zero es none = ap (λ (l : List Event). length (finishers_in 1 l)) none
written_finishers plan (suc n) es (before, (version, (was, is))) =
    let all : finishers_in 1 (before ++ operation plan n version) ≡ finishers_in 1 before ++ 2 ∷ [] = flat_map-append (finisher_in 1) before (operation plan n version) in
    omega (arith, ap (λ (l : List Event). length (finishers_in 1 l)) is, ap (λ (l : List ℕ). length l) all, length-append (finishers_in 1 before) (2 ∷ []), written_finishers plan n before was)

-- ---- what a beginning of the writer's events makes
module _ (plan : WatchPlan) (es : List Event) (begun : HasBegun plan es) where
  abbrev us : List Update
  us = updates_in 1 es

  abbrev to_come : List Update
  to_come = updates_in 1 begun.0

  all_firsts : us ++ to_come ≡ firsts plan plan.ops
  all_firsts = sym (flat_map-append (update_in 1) es begun.0) ∙ written_firsts plan plan.ops (es ++ begun.0) begun.1

  few : length us ≤ plan.ops
  few = omega (arith, length-append us to_come, ap (λ (l : List Update). length l) all_firsts, firsts_count plan plan.ops)

  content_is : (k : ℕ) → k ≤ length us → content us k ≡ joined plan k
  content_is k le =
      let split : plan.ops ≡ k + (plan.ops - k) = omega (arith, le, few) in
      let front : take k us ≡ firsts plan k =
      sym (take-append-le k us to_come le)
      ∙ (ap (λ (l : List Update). take k l) all_firsts ∙ firsts_front plan k (plan.ops - k) plan.ops split)
      in
      ap (λ (l : List Update). content_from [] l) front ∙ appended 16 [] (firsts plan k) (firsts_append plan k)

  size_is : (k : ℕ) → k ≤ length us → size_of us k ≡ 16 * k
  size_is k le = ap (λ (l : List ℕ). length l) (content_is k le) ∙ joined_length plan k

  blob_count : assigned (blob_after es) ≡ length us
  blob_count = ap (λ (l : List Update). length l) (blob_updates es)

  blob_size : size_now (blob_after es) ≡ 16 * length us
  blob_size = ap (λ (l : List Update). size_of l (length l)) (blob_updates es) ∙ size_is (length us) (omega arith)

pub watch_done : WatchesAreDone
watch_done plan history legal w =
    let es = w.written in
    let legal' : IsLegal greatest (Events.Create 1 ∷ es) = subst (λ (h : List Event). IsLegal greatest h) w.is legal in
    let begun : HasBegun plan es = ([], subst (λ (l : List Event). HasWritten plan plan.ops l) (sym (append-nil es)) w.all) in
    let b : Blob = blob_after es in
    let written : length (updates_in 1 es) ≡ plan.ops = ap (λ (l : List Update). length l) (written_firsts plan plan.ops es w.all) ∙ firsts_count plan plan.ops in
    let count : length b.updates ≡ plan.ops = blob_count plan es begun ∙ written in
    let there = ap (λ (h : List Event). blob_at (store_of greatest h) 1) w.is ∙ blob_there es legal' in
    let trues = all_trues made 1 no_updates es (event_even (empty_store greatest) (Events.Create 1) no_blobs) refl legal'.1 in (
      b,
      (
        there,
        record {
          published = all_published b (marks_fit greatest history 1 b there) (omega (arith, trues, count, written_finishers plan plan.ops es w.all)) ∙ count;
          size = ap (λ (l : List Update). size_of l plan.ops) (blob_updates es) ∙ size_is plan es begun plan.ops (omega (arith, written));
        },
      ),
    )

-- ---- whose finishes there are
-- where it is a finish, it is the writer's
abbrev IsWritersFinish : Event → Type 0
IsWritersFinish (Events.Finish caller blob version) = caller ≡ 2
IsWritersFinish _ = Unit {0}

written_finishes : (plan : WatchPlan) (n : ℕ) (es : List Event) → HasWritten plan n es → All IsWritersFinish es
written_finishes plan zero es none = subst (λ (l : List Event). All IsWritersFinish l) (sym none) (All-nil IsWritersFinish)
written_finishes plan (suc n) es (before, (version, (was, is))) =
    subst (λ (l : List Event). All IsWritersFinish l) (sym is)
    (All-append IsWritersFinish before (operation plan n version) (written_finishes plan n before was) (All-from_recursion IsWritersFinish (operation plan n version) (tt, (refl, tt))))

module _ (plan : WatchPlan) (history : List Event) (sized : IsSized plan) (legal : IsLegal greatest history) (under : IsUnderway plan history) (own : FinishesItsOwn greatest history 2) where
  all_finishes : All IsWritersFinish history
  all_finishes =
      subst (λ (l : List Event). All IsWritersFinish l) (sym under.is)
      (All-append IsWritersFinish (Events.Create 1 ∷ []) under.written (All-from_recursion IsWritersFinish (Events.Create 1 ∷ []) (tt, tt))
      (all_left IsWritersFinish under.written under.begun.0 (written_finishes plan plan.ops (under.written ++ under.begun.0) under.begun.1)))

  each_own : (other : ℕ) → FinishesItsOwn greatest history other
  each_own other blob version there =
      let two : other ≡ 2 = All-contains IsWritersFinish history (Events.Finish other blob version) all_finishes there in
      subst (λ (n : ℕ). IsNumberedBy greatest history n blob version) (sym two) (own blob version (subst (λ (n : ℕ). Contains history (Events.Finish n blob version)) two there))

  -- a beginning of the history in which the blob was made
  module _ (es after : List Event) (whole : history ≡ Events.Create 1 ∷ (es ++ after)) where
    front_legal : IsLegal greatest (Events.Create 1 ∷ es)
    front_legal = legal_front (empty_store greatest) (Events.Create 1 ∷ es) after (subst (λ (h : List Event). IsLegal greatest h) whole legal)

    front_begun : HasBegun plan es
    front_begun =
        let written : under.written ≡ es ++ after = tail_is (Events.Create 1) (Events.Create 1) under.written (es ++ after) (sym under.is ∙ whole) in
        let split : under.written ++ under.begun.0 ≡ es ++ (after ++ under.begun.0) = ap (λ (l : List Event). l ++ under.begun.0) written ∙ append_assoc es after under.begun.0 in
        (after ++ under.begun.0, subst (λ (l : List Event). HasWritten plan plan.ops l) split under.begun.1)

    only_when_full : (op : ℕ) (refusal : Refusal) → (answer (store_of greatest (Events.Create 1 ∷ es)) 2 (Calls.Assign 1 Append (piece_of plan op))).1 ≡ Outcomes.Refused refusal
        → refusal ≡ Refusals.TooManyOpen greatest.max_open
    only_when_full op refusal refused =
        only_full (store_of greatest (Events.Create 1 ∷ es)) 1 (blob_after es) 2 Append (piece_of plan op) (blob_there es front_legal) (limits_stay (empty_store greatest) (Events.Create 1 ∷ es))
        (omega arith)
        (omega (arith, blob_size plan es front_begun, few plan es front_begun, sized.ops, cell_length plan.seed 0 op))
        (omega (arith, blob_count plan es front_begun, few plan es front_begun, sized.ops)) refusal refused

  -- the blob comes to no more bytes than the writer appends
  all_size : size_now (blob_after under.written) ≤ 16 * plan.ops
  all_size = omega (arith, blob_size plan under.written under.begun, few plan under.written under.begun)

  module _ (stay : OldVersionsStay) (p op : ℕ) (seen more later : List Event) (fault : Fault) (goes : history ≡ seen ++ more) where
    -- an update ends within them
    own_page : (page : ℕ) → IsPageOf greatest p 2 1 Append (piece_of plan op) (Events.Create 1 ∷ later) seen page → IsWatchPage plan p page
    own_page page lost =
        let long = cell_length plan.seed 0 op in
        append_page stay 2 1 (piece_of plan op) history (Events.Create 1 ∷ later) seen more p page (16 * plan.ops) (blob_after under.written) goes (there_now plan history legal under) all_size
        (omega (arith, long)) (omega (arith, long, sized.some_ops)) lost

    pub by_outside : UpdateHindered greatest p 2 1 Append (piece_of plan op) (Events.Create 1 ∷ later) seen fault → IsOutside (IsWatchPage plan p) fault
    by_outside h =
        update_outside history legal each_own p 2 1 Append (piece_of plan op) (Events.Create 1 ∷ later) seen more goes (IsWatchPage plan p) own_page
        (λ others rest gap whole refusal refused. only_when_full (later ++ others) rest whole op refusal refused) fault h

pub nothing_else_hinders : OldVersionsStay → NothingElseHinders
nothing_else_hinders stay plan history sized legal under own p op seen more later fault goes hindered =
    by_outside plan history sized legal under own stay p op seen more later fault goes hindered

first_fails : (s : Store) (t u : Test) (done : Answered) → t.refuses ≡ true → unless_refused s (t ∷ u ∷ []) done ≡ refuse s t.refusal
first_fails s t u done first = rw first refl

-- ---- at every moment of a watch
module _ (numbered : PublishedAreNumbered) (plan : WatchPlan) (history : List Event) (legal : IsLegal greatest history) (under : IsUnderway plan history) where
  module _ (b : Blob) (at : blob_at (store_of greatest history) 1 ≡ Some b) where
    updates_are : b.updates ≡ updates_in 1 under.written
    updates_are =
        ap (λ (x : Blob). x.updates) (some_is (blob_at (store_of greatest history) 1) b (blob_after under.written) at (there_now plan history legal under)) ∙ blob_updates under.written

    counted : (version : ℕ) → version ≤ published b → version ≤ length (updates_in 1 under.written)
    counted version out = omega (arith, out, numbered greatest history 1 b at, ap (λ (l : List Update). length l) updates_are)

    pub version_of : (version : ℕ) → version ≤ published b → IsVersionOf plan b version
    version_of version out = record {
      few = omega (arith, counted version out, few plan under.written under.begun);
      size = ap (λ (l : List Update). size_of l version) updates_are ∙ size_is plan under.written under.begun version (counted version out);
    }

    piece_is : (op : ℕ) → op + 1 ≤ published b → bytes_of b (op + 1) (16 * op) 16 ≡ piece_of plan op
    piece_is op out =
        let next : op + 1 ≡ suc op = omega arith in
        ap (λ (l : List Update). take 16 (drop (16 * op) (content l (op + 1)))) updates_are
        ∙ (ap (λ (l : List ℕ). take 16 (drop (16 * op) l)) (content_is plan under.written under.begun (op + 1) (counted (op + 1) out))
        ∙ (ap (λ (n : ℕ). take 16 (drop (16 * op) (joined plan n))) next ∙ joined_piece plan op))

    abbrev done : ℕ → Answered
    done op = (store_of greatest history, Outcomes.Content (bytes_of b (op + 1) (16 * op) 16))

    answered : (op : ℕ)
        → read_outcome (store_of greatest history) (range_of op) ≡ (unless_refused (store_of greatest history) (not_published b (op + 1) ∷ range_past_size b (op + 1) (16 * op) 16 ∷ []) (done op)).1
    answered op =
        let s : Store = store_of greatest history in
        ap (λ (a : Answered). a.1)
        (found s 1 b (λ b. unless_refused s (not_published b (op + 1) ∷ range_past_size b (op + 1) (16 * op) 16 ∷ []) (s, Outcomes.Content (bytes_of b (op + 1) (16 * op) 16))) at)

    piece_told : (op : ℕ) (t : Bool) → nat_lt (published b) (op + 1) ≡ t → PieceOutcome plan op (read_outcome (store_of greatest history) (range_of op))
    piece_told op true is =
        PieceOutcome.unpublished (published b) (grind (arith, nat_tests, is))
        (answered op ∙ ap (λ (a : Answered). a.1) (first_fails (store_of greatest history) (not_published b (op + 1)) (range_past_size b (op + 1) (16 * op) 16) (done op) is))
    piece_told op false is =
        let out : op + 1 ≤ published b = grind (arith, nat_tests, is) in
        let size = (version_of (op + 1) out).size in
        let within : nat_lt (size_of b.updates (op + 1)) (16 * op + 16) ≡ false = grind (arith, nat_tests, size) in
        PieceOutcome.read
        (answered op
        ∙ (ap (λ (a : Answered). a.1) (passes (store_of greatest history) (not_published b (op + 1)) (range_past_size b (op + 1) (16 * op) 16) (done op) is within)
        ∙ ap (λ (l : List ℕ). Outcomes.Content l) (piece_is op out)))

  pub pieces_told : (op : ℕ) → PieceOutcome plan op (read_outcome (store_of greatest history) (range_of op))
  pieces_told op = piece_told (blob_after under.written) (there_now plan history legal under) op (nat_lt (published (blob_after under.written)) (op + 1)) refl
