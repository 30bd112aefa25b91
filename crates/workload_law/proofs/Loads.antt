-- Loads: the log and the grid after the opening and all that came later, what every load comes to and is read back as, and that none is refused for its size.
use Rattle.std.proofs.Common.{◌≡◌, ℕ, ◌*◌, List, [], ◌∷◌, ◌++◌, length, suc, replicate, zero-add, refl, ap, subst, ◌∙◌, ◌+◌, ◌/◌, ◌^◌, ◌<◌, ◌≤◌, eqb, take, drop, map, sum, sym, arith, false, ◌-◌, ◌==◌, zero, Bool, true, if◌then◌else◌, ltb, append_assoc, append-nil}
use Rattle.std.specs.Prelude.{Some, Option, None}
use Rattle.std.specs.List.{range_with_len, filter, flat_map, All, Contains}
use Rattle.std.proofs.lemmas.List.{take_all, length-replicate, append_cancel_left}
use Rattle.std.proofs.lemmas.Bool.{le-ltb, ne_eqb}
use Rattle.std.proofs.lemmas.List.Elements.{filter-append}
use Rattle.std.proofs.lemmas.Nat.{mul-le}
use Rattle.blob_model.specs.Content.{Update, content, content_from, size_of, offset_of}
use Rattle.blob_model.specs.Limits.{greatest, Bounds}
use Rattle.blob_model.specs.Store.{Store, Blob, blob_at, empty_store, assigned, published, size_now, size_with, and_update, with_blob}
use Rattle.blob_model.specs.Answer.{answer, Answered, Test, bytes_of, in_blob, unless_refused, not_published, range_past_size, refuse, offset_past_size, blob_too_big, too_many_versions, too_many_open}
use Rattle.blob_model.specs.History.{store_of, store_from, IsLegal, IsLegalFrom, caller_of, call_of, is_refused, events_by}
use Rattle.blob_model.specs.declared.call.Call.TheVariants as Calls
use Rattle.blob_model.specs.declared.call.Place.TheVariants.{Append, WriteAt}
use Rattle.blob_model.specs.declared.call.Event.{Event}
use Rattle.blob_model.specs.declared.call.Event.TheVariants as Events
use Rattle.workload_law.specs.declared.plan.LoadPlan.{LoadPlan}
use Rattle.workload_law.specs.Load.{all_ops, opening, cell_offset, IsLoad, IsSized, operation, HasDone, IsUnderway}
use Rattle.blob_model.proofs.Marks.{AllEven, event_even, no_blobs, marks_fit}
use Rattle.workload_law.specs.Pieces.{cell_of, pieces, is_by, records_by, records_of, in_order_of, record_of}
use Rattle.workload_law.specs.Summed.{summary_of, summary_told, cells_sum}
use Rattle.workload_law.specs.Laws.{IsDone, IsReadBack, LoadsReadBack, IsRefusedWhenFull, OpeningsGoOn, LoadsAreUnderway, BeginningsAreUnderway, BlobsAreThere, StoppedHaveBegun}
use Rattle.blob_model.specs.declared.call.Outcome.TheVariants as Outcomes
use Rattle.blob_model.specs.declared.call.Refusal.TheVariants as Refusals
use Rattle.workload_law.specs.declared.plan.Summary.{Summary}
use Rattle.blob_model.specs.declared.call.Place.{Place}
use Rattle.blob_model.specs.declared.call.Refusal.{Refusal}
use Rattle.workload_law.proofs.Blobs.{updated_all}
use Rattle.workload_law.proofs.Counted.{updates_in, finishers_in, trues, store_updated, all_updates, all_trues, all_published}
use Rattle.workload_law.proofs.Appends.{Appends, put_end, appended, appended_length, appended_pieces}
use Rattle.workload_law.proofs.Writes.{WritesPart, Covers, writes_length, writes_all}
use Rattle.workload_law.proofs.Merged.{IsMerged, IsBegun, begun_of, begun_all, merged_length, merged_has, begun_length}
use Rattle.workload_law.proofs.Workers.{log_update, cell_update, log_merged, grid_merged, log_finishers, grid_finishers, log_begun, grid_begun}
use Rattle.workload_law.proofs.Grid.{grid_bytes, grid_length, grid_sum, cell_length}
use Rattle.workload_law.proofs.Cells.{window, cell_fits, cell_is, cell_written, has_cell}
use Rattle.workload_law.proofs.Records.{record_length, is_by_worker, by_worker, bytes_of_records, all_in_order}
use Rattle.workload_law.proofs.OwnEvents.{both_empty, none_parts}

unfoldable pub zeros : LoadPlan → List ℕ
zeros plan = replicate (16 * all_ops plan) 0

-- the update that fills the grid
unfoldable pub first_update : LoadPlan → Update
first_update plan = record { caller = 1; place = Append; bytes = zeros plan }

unfoldable pub empty : Blob
empty = record { updates = []; finished = [] }

-- the store of the two creates
unfoldable pub made : Store
made = record { limits = greatest; blobs = empty ∷ empty ∷ [] }

module _ (plan : LoadPlan) (later : List Event) where
  -- the events after the two creates
  unfoldable pub after : List Event
  after = Events.Assign 1 2 Append (zeros plan) ∷ Events.Finish 1 2 1 ∷ later

  unfoldable pub log_of : Blob
  log_of = updated_all 1 empty after

  unfoldable pub grid_of : Blob
  grid_of = updated_all 2 empty after

  pub log_updates : log_of.updates ≡ updates_in 1 later
  unfolding log_of empty after
  log_updates = all_updates 1 empty after

  pub grid_updates : grid_of.updates ≡ first_update plan ∷ updates_in 2 later
  unfolding grid_of empty after first_update
  grid_updates = all_updates 2 empty after

made_even : AllEven made.blobs
unfolding made empty
made_even = event_even (answer (empty_store greatest) 1 Calls.Create).0 (Events.Create 1) (event_even (empty_store greatest) (Events.Create 1) no_blobs)

module _ (plan : LoadPlan) (history later : List Event) (legal : IsLegal greatest history) (begins : history ≡ opening plan ++ later) where
  after_legal : IsLegalFrom made (after plan later)
  unfolding made empty after zeros
  after_legal = (subst (λ (h : List Event). IsLegal greatest h) begins legal).1.1

  pub store_is : store_of greatest history ≡ store_from made (after plan later)
  unfolding made empty after zeros
  store_is = ap (λ (h : List Event). store_of greatest h) begins

  pub log_there : blob_at (store_of greatest history) 1 ≡ Some (log_of plan later)
  unfolding made log_of
  log_there = ap (λ (s : Store). blob_at s 1) store_is ∙ store_updated made (after plan later) 1 empty refl after_legal

  pub grid_there : blob_at (store_of greatest history) 2 ≡ Some (grid_of plan later)
  unfolding made grid_of
  grid_there = ap (λ (s : Store). blob_at s 2) store_is ∙ store_updated made (after plan later) 2 empty refl after_legal

  pub log_trues : trues (log_of plan later).finished ≡ length (finishers_in 1 later)
  unfolding made log_of empty after
  log_trues = all_trues made 1 empty (after plan later) made_even refl after_legal ∙ zero-add (length (finishers_in 1 later))

  pub grid_trues : trues (grid_of plan later).finished ≡ suc (length (finishers_in 2 later))
  unfolding made grid_of empty after
  grid_trues = all_trues made 2 empty (after plan later) made_even refl after_legal ∙ zero-add (suc (length (finishers_in 2 later)))

abbrev pub bytes_of_updates : List Update → List ℕ
bytes_of_updates us = flat_map (λ u. u.bytes) us

pub whole_content : (us : List Update) → content us (length us) ≡ content_from [] us
whole_content us = ap (λ (l : List Update). content_from [] l) (take_all (length us) us (omega arith))

divided : (n : ℕ) → 16 * n / 16 ≡ n
divided n = omega arith

-- ---- the log
-- what a beginning of the workers' records makes
module _ (plan : LoadPlan) (us : List Update) (begun : IsBegun (λ (u : Update). u.caller) plan.workers plan.ops log_update us) where
  log_appends : All (Appends 16) us
  log_appends = begun_all _ _ _ _ us begun (Appends 16) (λ worker op from to few. record { place = refl; sized = record_length worker op })

  log_content : content us (length us) ≡ bytes_of_updates us
  log_content = whole_content us ∙ appended 16 [] us log_appends

  log_long : size_of us (length us) ≡ 16 * length us
  log_long = ap (λ (l : List ℕ). length l) log_content ∙ appended_length 16 us log_appends

module _ (plan : LoadPlan) (us : List Update) (small : plan.workers < 2 ^ 64) (merged : IsMerged (λ (u : Update). u.caller) plan.workers plan.ops log_update us) where
  log_begins : IsBegun (λ (u : Update). u.caller) plan.workers plan.ops log_update us
  log_begins = begun_of _ _ _ _ us merged

  log_count : length us ≡ all_ops plan
  log_count = merged_length _ _ _ _ us merged

  log_length : length (bytes_of_updates us) ≡ 16 * all_ops plan
  log_length = appended_length 16 us (log_appends plan us log_begins) ∙ ap (λ (n : ℕ). 16 * n) log_count

  log_pieces : pieces 16 (length (bytes_of_updates us) / 16) (bytes_of_updates us) ≡ map (λ u. u.bytes) us
  log_pieces =
      let e : length (bytes_of_updates us) / 16 ≡ length us = ap (λ (n : ℕ). n / 16) (appended_length 16 us (log_appends plan us log_begins)) ∙ divided (length us) in
      ap (λ (n : ℕ). pieces 16 n (bytes_of_updates us)) e ∙ appended_pieces 16 us (log_appends plan us log_begins)

  log_records : (worker : ℕ) → 1 ≤ worker → worker ≤ plan.workers → records_by worker (bytes_of_updates us) ≡ records_of worker plan.ops
  log_records worker from to =
      ap (λ (l : List (List ℕ)). filter (is_by worker) l) log_pieces
      ∙ (by_worker worker us
      (begun_all _ _ _ _ us log_begins (λ u. is_by worker u.bytes ≡ eqb u.caller (worker + 1)) (λ other op from' to' few. is_by_worker worker other op (omega arith) (omega arith)))
      ∙ (ap (λ (l : List Update). map (λ u. u.bytes) l) (merged.parts worker from to)
      ∙ bytes_of_records worker (range_with_len 0 plan.ops)))

-- ---- the grid
grid_zeros : (plan : LoadPlan) → length {A = ℕ} (replicate (16 * all_ops plan) 0) ≡ length (grid_bytes plan)
grid_zeros plan = length-replicate (16 * all_ops plan) 0 ∙ sym (grid_length plan)

-- what a beginning of the workers' cells makes
module _ (plan : LoadPlan) (us : List Update) (begun : IsBegun (λ (u : Update). u.caller) plan.workers plan.ops (cell_update plan) us) where
  grid_writes : All (WritesPart (grid_bytes plan)) us
  grid_writes = begun_all _ _ _ _ us begun (WritesPart (grid_bytes plan)) (λ worker op from to few. cell_written plan worker op from to few)

  grid_from : content (first_update plan ∷ us) (length (first_update plan ∷ us)) ≡ content_from (replicate (16 * all_ops plan) 0) us
  unfolding first_update zeros
  grid_from = whole_content (first_update plan ∷ us) ∙ ap (λ (c : List ℕ). content_from c us) (put_end [] (replicate (16 * all_ops plan) 0))

  grid_long : size_of (first_update plan ∷ us) (length (first_update plan ∷ us)) ≡ 16 * all_ops plan
  grid_long = ap (λ (l : List ℕ). length l) grid_from ∙ (writes_length (grid_bytes plan) (replicate (16 * all_ops plan) 0) us (grid_zeros plan) grid_writes ∙ grid_length plan)

module _ (plan : LoadPlan) (us : List Update) (merged : IsMerged (λ (u : Update). u.caller) plan.workers plan.ops (cell_update plan) us) where
  grid_covered : (y : ℕ) → y < length (grid_bytes plan) → (u : Update) × (Contains us u × Covers y u)
  grid_covered y lt =
      let c = has_cell plan y lt in
      (cell_update plan c.worker c.op, (merged_has _ _ _ _ us merged c.worker c.op c.from c.to c.few, c.covers))

  grid_content : content (first_update plan ∷ us) (length (first_update plan ∷ us)) ≡ grid_bytes plan
  grid_content =
      let begun = begun_of _ _ _ _ us merged in
      grid_from plan us begun ∙ writes_all (grid_bytes plan) (replicate (16 * all_ops plan) 0) us (grid_zeros plan) (grid_writes plan us begun) grid_covered

  grid_count : length (first_update plan ∷ us) ≡ all_ops plan + 1
  grid_count = omega (arith, merged_length _ _ _ _ us merged)

-- ---- the two blobs
module _ (plan : LoadPlan) (log : Blob) (us : List Update) (small : plan.workers < 2 ^ 64) (merged : IsMerged (λ (u : Update). u.caller) plan.workers plan.ops log_update us)
    (updates : log.updates ≡ us) where
  log_holds : content log.updates (assigned log) ≡ bytes_of_updates us
  log_holds = ap (λ (l : List Update). content l (length l)) updates ∙ log_content plan us (log_begins plan us small merged)

  log_assigned : assigned log ≡ all_ops plan
  log_assigned = ap (λ (l : List Update). length l) updates ∙ log_count plan us small merged

module _ (plan : LoadPlan) (grid : Blob) (us : List Update) (merged : IsMerged (λ (u : Update). u.caller) plan.workers plan.ops (cell_update plan) us)
    (updates : grid.updates ≡ first_update plan ∷ us) where
  grid_holds : content grid.updates (assigned grid) ≡ grid_bytes plan
  grid_holds = ap (λ (l : List Update). content l (length l)) updates ∙ grid_content plan us merged

  grid_assigned : assigned grid ≡ all_ops plan + 1
  grid_assigned = ap (λ (l : List Update). length l) updates ∙ grid_count plan us merged

same_summary : (plan : LoadPlan) (log grid : Blob) → size_of log.updates (published log) ≡ 16 * all_ops plan → published log ≡ all_ops plan
    → in_order_of plan.workers plan.ops (content log.updates (published log)) ≡ plan.workers
    → size_of grid.updates (published grid) ≡ 16 * all_ops plan → published grid ≡ all_ops plan + 1 → sum (content grid.updates (published grid)) ≡ cells_sum plan
    → summary_told plan log grid ≡ summary_of plan
same_summary plan log grid a b c d e f = cc

is_done : (plan : LoadPlan) (log grid : Blob) (us vs : List Update) → plan.workers < 2 ^ 64
    → IsMerged (λ (u : Update). u.caller) plan.workers plan.ops log_update us → IsMerged (λ (u : Update). u.caller) plan.workers plan.ops (cell_update plan) vs
    → log.updates ≡ us → grid.updates ≡ first_update plan ∷ vs → published log ≡ assigned log → published grid ≡ assigned grid → IsDone plan log grid
is_done plan log grid us vs small logged filled log_is grid_is log_out grid_out =
    let log_has : content log.updates (assigned log) ≡ bytes_of_updates us = log_holds plan log us small logged log_is in
    let grid_has : content grid.updates (assigned grid) ≡ grid_bytes plan = grid_holds plan grid vs filled grid_is in
    let log_sized : size_now log ≡ 16 * all_ops plan = ap (λ (l : List ℕ). length l) log_has ∙ log_length plan us small logged in
    let grid_sized : size_now grid ≡ 16 * all_ops plan = ap (λ (l : List ℕ). length l) grid_has ∙ grid_length plan in
    let stand : (worker : ℕ) → 1 ≤ worker → worker ≤ plan.workers → records_by worker (content log.updates (assigned log)) ≡ records_of worker plan.ops =
    λ worker from to. ap (λ (l : List ℕ). records_by worker l) log_has ∙ log_records plan us small logged worker from to in
    record {
      log_versions = log_assigned plan log us small logged log_is;
      log_published = log_out ∙ log_assigned plan log us small logged log_is;
      log_size = log_sized;
      records = stand;
      grid_versions = grid_assigned plan grid vs filled grid_is;
      grid_published = grid_out ∙ grid_assigned plan grid vs filled grid_is;
      grid_size = grid_sized;
      cells = λ worker op from to few.
          ap (λ (l : List ℕ). take 16 (drop (cell_offset plan worker op) l)) grid_has
          ∙ window (grid_bytes plan) (cell_of plan.seed worker op) (cell_offset plan worker op) 16 (cell_length plan.seed worker op) (cell_fits plan worker op from to few) (cell_is plan worker op from to few);
      summary = same_summary plan log grid
          (ap (λ (v : ℕ). size_of log.updates v) log_out ∙ log_sized)
          (log_out ∙ log_assigned plan log us small logged log_is)
          (ap (λ (v : ℕ). in_order_of plan.workers plan.ops (content log.updates v)) log_out ∙ all_in_order plan.workers plan.ops (content log.updates (assigned log)) stand)
          (ap (λ (v : ℕ). size_of grid.updates v) grid_out ∙ grid_sized)
          (grid_out ∙ grid_assigned plan grid vs filled grid_is)
          (ap (λ (v : ℕ). sum (content grid.updates v)) grid_out ∙ (ap (λ (l : List ℕ). sum l) grid_has ∙ grid_sum plan));
    }

-- ---- the law
module _ (plan : LoadPlan) (history : List Event) (legal : IsLegal greatest history) (load : IsLoad plan history) where
  log_published : published (log_of plan load.later) ≡ assigned (log_of plan load.later)
  log_published =
      let numbered = merged_length _ _ _ _ (updates_in 1 load.later) (log_merged plan history load) in
      let finished = merged_length _ _ _ _ (finishers_in 1 load.later) (log_finishers plan history load) in
      let long : length (log_of plan load.later).updates ≡ plan.workers * plan.ops = ap (λ (l : List Update). length l) (log_updates plan load.later) ∙ numbered in
      all_published (log_of plan load.later) (marks_fit greatest history 1 (log_of plan load.later) (log_there plan history load.later legal load.begins)) (log_trues plan history load.later legal load.begins ∙ (finished ∙ sym long))

  grid_published : published (grid_of plan load.later) ≡ assigned (grid_of plan load.later)
  grid_published =
      let numbered = merged_length _ _ _ _ (updates_in 2 load.later) (grid_merged plan history load) in
      let finished = merged_length _ _ _ _ (finishers_in 2 load.later) (grid_finishers plan history load) in
      let long : length (grid_of plan load.later).updates ≡ suc (plan.workers * plan.ops) =
      ap (λ (l : List Update). length l) (grid_updates plan load.later) ∙ ap (λ (n : ℕ). suc n) numbered in
      all_published (grid_of plan load.later) (marks_fit greatest history 2 (grid_of plan load.later) (grid_there plan history load.later legal load.begins))
      (grid_trues plan history load.later legal load.begins ∙ (ap (λ (n : ℕ). suc n) finished ∙ sym long))

  pub summary_holds : plan.workers < 2 ^ 64
      → (log : Blob)
      × ((grid : Blob) × ((blob_at (store_of greatest history) 1 ≡ Some log) × ((blob_at (store_of greatest history) 2 ≡ Some grid) × IsDone plan log grid)))
  summary_holds small =
      let done = is_done plan (log_of plan load.later) (grid_of plan load.later) (updates_in 1 load.later) (updates_in 2 load.later) small
      (log_merged plan history load) (grid_merged plan history load) (log_updates plan load.later) (grid_updates plan load.later) log_published grid_published in (
        log_of plan load.later,
        (grid_of plan load.later, (log_there plan history load.later legal load.begins, (grid_there plan history load.later legal load.begins, done))),
      )

-- a call in a blob that is there
pub found : (s : Store) (id : ℕ) (b : Blob) (f : Blob → Answered) → blob_at s id ≡ Some b → in_blob s id f ≡ f b
found s id b f at = ap (λ (o : Option Blob). let a : Answered = elim o [ None ↦ refuse s (Refusals.NoBlob id) | Some b ↦ f b ] in a) at

pub passes : (s : Store) (t u : Test) (done : Answered) → t.refuses ≡ false → u.refuses ≡ false → unless_refused s (t ∷ u ∷ []) done ≡ done
passes s t u done first second = rw (first, second) refl

recent : (s : Store) (caller id : ℕ) (b : Blob) (version size : ℕ) → blob_at s id ≡ Some b → published b ≡ version → size_of b.updates version ≡ size
    → (answer s caller (Calls.Recent id)).1 ≡ Outcomes.Recent version size
recent s caller id b version size at out long =
    ap (λ (a : Answered). a.1) (found s id b (λ b. (s, Outcomes.Recent (published b) (size_of b.updates (published b)))) at)
    ∙ (ap (λ (v : ℕ). Outcomes.Recent v (size_of b.updates v)) out ∙ ap (λ (n : ℕ). Outcomes.Recent version n) long)

whole_read : (s : Store) (caller id : ℕ) (b : Blob) (version size : ℕ) → blob_at s id ≡ Some b → published b ≡ version → size_of b.updates version ≡ size
    → (answer s caller (Calls.Read id version 0 size)).1 ≡ Outcomes.Content (content b.updates version)
whole_read s caller id b version size at out long =
    ap (λ (a : Answered). a.1)
    (found s id b (λ b. unless_refused s (not_published b version ∷ range_past_size b version 0 size ∷ []) (s, Outcomes.Content (bytes_of b version 0 size))) at)
    ∙ (ap (λ (a : Answered). a.1) (passes s (not_published b version) (range_past_size b version 0 size) (s, Outcomes.Content (bytes_of b version 0 size))
    (le-ltb (published b) version (omega arith)) (le-ltb (size_of b.updates version) (0 + size) (omega arith)))
    ∙ ap (λ (l : List ℕ). Outcomes.Content l) (take_all size (content b.updates version) (omega arith)))

read : (plan : LoadPlan) (s : Store) (log grid : Blob) (caller : ℕ) → blob_at s 1 ≡ Some log → blob_at s 2 ≡ Some grid → IsDone plan log grid → IsReadBack plan s caller
read plan s log grid caller log_at grid_at done =
    let log_long : size_of log.updates (all_ops plan) ≡ 16 * all_ops plan = ap (λ (v : ℕ). size_of log.updates v) (sym done.log_versions) ∙ done.log_size in
    let grid_long : size_of grid.updates (all_ops plan + 1) ≡ 16 * all_ops plan = ap (λ (v : ℕ). size_of grid.updates v) (sym done.grid_versions) ∙ done.grid_size in
    record {
      log_recent = recent s caller 1 log (all_ops plan) (16 * all_ops plan) log_at done.log_published log_long;
      log_bytes = content log.updates (all_ops plan);
      log_read = whole_read s caller 1 log (all_ops plan) (16 * all_ops plan) log_at done.log_published log_long;
      in_order = ap (λ (v : ℕ). in_order_of plan.workers plan.ops (content log.updates v)) (sym done.log_published) ∙ ap (λ (x : Summary). x.in_order) done.summary;
      grid_recent = recent s caller 2 grid (all_ops plan + 1) (16 * all_ops plan) grid_at done.grid_published grid_long;
      grid_bytes = content grid.updates (all_ops plan + 1);
      grid_read = whole_read s caller 2 grid (all_ops plan + 1) (16 * all_ops plan) grid_at done.grid_published grid_long;
      grid_sum = ap (λ (v : ℕ). sum (content grid.updates v)) (sym done.grid_published) ∙ ap (λ (x : Summary). x.grid_sum) done.summary;
    }

pub read_back : LoadsReadBack
read_back plan history small legal load caller =
    let holds = summary_holds plan history legal load small in
    read plan (store_of greatest history) holds.0 holds.1.0 caller holds.1.1.0 holds.1.1.1.0 holds.1.1.1.1

-- ---- no event changes the limits
unless_limits : (s : Store) (o : Option Refusal) (done : Answered) → done.0.limits ≡ s.limits → (let a : Answered = elim o [ Some r ↦ refuse s r | None ↦ done ] in a).0.limits ≡ s.limits
unless_limits s (Some r) done e = refl
unless_limits s None done e = e

blob_limits : (s : Store) (id : ℕ) (o : Option Blob) (f : Blob → Answered) → ((b : Blob) → (f b).0.limits ≡ s.limits)
    → (let a : Answered = elim o [ None ↦ refuse s (Refusals.NoBlob id) | Some b ↦ f b ] in a).0.limits ≡ s.limits
blob_limits s id None f e = refl
blob_limits s id (Some b) f e = e b

event_limits : (s : Store) (e : Event) → (answer s (caller_of e) (call_of e)).0.limits ≡ s.limits
event_limits s (Events.Create caller) = unless_limits s _ _ refl
event_limits s (Events.Assign caller blob place bytes) = blob_limits s blob (blob_at s blob) _ (λ b. unless_limits s _ _ refl)
event_limits s (Events.Finish caller blob version) = blob_limits s blob (blob_at s blob) _ (λ b. unless_limits s _ _ refl)
event_limits s (Events.Branch caller blob version) = blob_limits s blob (blob_at s blob) _ (λ b. unless_limits s _ _ refl)

pub limits_stay : (s : Store) (es : List Event) → (store_from s es).limits ≡ s.limits
limits_stay s [] = refl
limits_stay s (e ∷ es) = limits_stay (answer s (caller_of e) (call_of e)).0 es ∙ event_limits s e

-- ---- a numbering that passes its first three tests
last_test : (s : Store) (full : Bool) (limit : ℕ) (done : Answered) (version at size : ℕ) → done.1 ≡ Outcomes.Assigned version at size → (refusal : Refusal)
    → (let a : Answered = elim (let o : Option Refusal = (if full then Some (Refusals.TooManyOpen limit) else None) in o) [ Some r ↦ refuse s r | None ↦ done ] in a).1 ≡ Outcomes.Refused refusal
    → refusal ≡ Refusals.TooManyOpen limit
last_test s true limit done version at size is refusal e = cc
last_test s false limit done version at size is refusal e = (let no : ⊥ = cc in absurd no)

three_pass : (s : Store) (t u v w : Test) (done : Answered) → t.refuses ≡ false → u.refuses ≡ false → v.refuses ≡ false
    → unless_refused s (t ∷ u ∷ v ∷ w ∷ []) done ≡ unless_refused s (w ∷ []) done
three_pass s t u v w done first second third = rw (first, second, third) refl

pub only_full : (s : Store) (id : ℕ) (b : Blob) (caller : ℕ) (place : Place) (bytes : List ℕ) → blob_at s id ≡ Some b → s.limits ≡ greatest
    → offset_of place (size_now b) ≤ size_now b → size_with b place bytes ≤ greatest.max_size → assigned b < greatest.max_versions
    → (refusal : Refusal) → (answer s caller (Calls.Assign id place bytes)).1 ≡ Outcomes.Refused refusal → refusal ≡ Refusals.TooManyOpen greatest.max_open
only_full s id b caller place bytes at limits within small few refusal refused =
    let done : Blob → Answered = λ b.
    (with_blob s id (and_update b (record { caller = caller; place = place; bytes = bytes })), Outcomes.Assigned (assigned b + 1) (offset_of place (size_now b)) (size_with b place bytes)) in
    let tested : Blob → Answered = λ b.
    unless_refused s (offset_past_size b place ∷ blob_too_big s b place bytes ∷ too_many_versions s b ∷ too_many_open s b ∷ []) (done b) in
    let big : ltb s.limits.max_size (size_with b place bytes) ≡ false = ap (λ (l : Bounds). ltb l.max_size (size_with b place bytes)) limits ∙ le-ltb greatest.max_size (size_with b place bytes) small in
    let many : eqb (assigned b) s.limits.max_versions ≡ false = ap (λ (l : Bounds). eqb (assigned b) l.max_versions) limits ∙ ne_eqb (assigned b) greatest.max_versions (λ same. omega arith) in
    let e : answer s caller (Calls.Assign id place bytes) ≡ unless_refused s (too_many_open s b ∷ []) (done b) =
    found s id b tested at
    ∙ three_pass s (offset_past_size b place) (blob_too_big s b place bytes) (too_many_versions s b) (too_many_open s b) (done b)
    (le-ltb (size_now b) (offset_of place (size_now b)) within) big many in
    last_test s (too_many_open s b).refuses s.limits.max_open (done b) _ _ _ refl refusal (sym (ap (λ (a : Answered). a.1) e) ∙ refused)
    ∙ ap (λ (l : Bounds). Refusals.TooManyOpen l.max_open) limits

-- ---- at every moment of a load
module _ (plan : LoadPlan) (history : List Event) (sized : IsSized plan) (legal : IsLegal greatest history) (under : IsUnderway plan history) where
  few_ops : all_ops plan ≤ 16 * 4096
  few_ops = mul-le plan.workers plan.ops 16 4096 sized.workers sized.ops

  same_limits : (store_of greatest history).limits ≡ greatest
  same_limits = limits_stay (empty_store greatest) history

  pub log_size : size_now (log_of plan under.later) ≤ 16 * all_ops plan
  log_size =
      let us : List Update = updates_in 1 under.later in
      let begun = log_begun plan history under in
      omega (arith, ap (λ (l : List Update). size_of l (length l)) (log_updates plan under.later), log_long plan us begun, begun_length _ _ _ _ us begun)

  log_few : assigned (log_of plan under.later) ≤ all_ops plan
  log_few = omega (arith, ap (λ (l : List Update). length l) (log_updates plan under.later), begun_length _ _ _ _ (updates_in 1 under.later) (log_begun plan history under))

  grid_size : size_now (grid_of plan under.later) ≡ 16 * all_ops plan
  grid_size = ap (λ (l : List Update). size_of l (length l)) (grid_updates plan under.later) ∙ grid_long plan (updates_in 2 under.later) (grid_begun plan history under)

  grid_few : assigned (grid_of plan under.later) ≤ all_ops plan + 1
  grid_few =
      let long : assigned (grid_of plan under.later) ≡ suc (length (updates_in 2 under.later)) = ap (λ (l : List Update). length l) (grid_updates plan under.later) in
      omega (arith, long, begun_length _ _ _ _ (updates_in 2 under.later) (grid_begun plan history under))

  pub refused_when_full : (worker op : ℕ) → 1 ≤ worker → worker ≤ plan.workers → op < plan.ops → IsRefusedWhenFull plan (store_of greatest history) worker op
  refused_when_full worker op from to few = record {
    log = only_full (store_of greatest history) 1 (log_of plan under.later) (worker + 1) Append (record_of worker op)
        (log_there plan history under.later legal under.begins) same_limits (omega arith)
        (omega (arith, log_size, few_ops, record_length worker op)) (omega (arith, log_few, few_ops));
    grid = only_full (store_of greatest history) 2 (grid_of plan under.later) (worker + 1) (WriteAt (cell_offset plan worker op)) (cell_of plan.seed worker op)
        (grid_there plan history under.later legal under.begins) same_limits
        (omega (arith, grid_size, grid_length plan, cell_fits plan worker op from to few))
        (omega (arith, grid_size, few_ops, grid_length plan, cell_fits plan worker op from to few, cell_length plan.seed worker op))
        (omega (arith, grid_few, few_ops));
  }

-- ---- the opening
four_pass : (s : Store) (t u v w : Test) (done : Answered) → t.refuses ≡ false → u.refuses ≡ false → v.refuses ≡ false → w.refuses ≡ false → unless_refused s (t ∷ u ∷ v ∷ w ∷ []) done ≡ done
four_pass s t u v w done first second third fourth = rw (first, second, third, fourth) refl

pub opening_legal : OpeningsGoOn
opening_legal plan sized =
    let some : 1 ≤ all_ops plan = mul-le 1 1 plan.workers plan.ops sized.some_workers sized.some_ops in
    let zeros : List ℕ = replicate (16 * all_ops plan) 0 in
    let long : length zeros ≡ 16 * all_ops plan = length-replicate (16 * all_ops plan) 0 in
    let few : all_ops plan ≤ 16 * 4096 = mul-le plan.workers plan.ops 16 4096 sized.workers sized.ops in
    let none : Blob = record { updates = []; finished = [] } in
    let made : Store = record { limits = greatest; blobs = none ∷ none ∷ [] } in
    let done : Answered = (with_blob made 2 (and_update none (record { caller = 1; place = Append; bytes = zeros })), Outcomes.Assigned 1 0 (size_with none Append zeros)) in
    let e : answer made 1 (Calls.Assign 2 Append zeros) ≡ done =
    four_pass made (offset_past_size none Append) (blob_too_big made none Append zeros) (too_many_versions made none) (too_many_open made none) done refl
    (le-ltb greatest.max_size (size_with none Append zeros) (omega (arith, long, few))) refl refl in (
      record { may = tt; accepted = refl },
      (
        record { may = tt; accepted = refl },
        (
          record { may = omega (arith, long); accepted = ap (λ (a : Answered). is_refused a.1) e },
          subst (λ (a : Answered). IsLegalFrom a.0 (Events.Finish 1 2 1 ∷ [])) (sym e) (record { may = (omega arith, omega arith); accepted = refl }, tt),
        ),
      ),
    )

-- ---- beginnings
pub loads_underway : LoadsAreUnderway
loads_underway plan history load = record {
  later = load.later;
  begins = load.begins;
  opened = load.opened;
  begun = λ worker from to. ([], subst (λ (es : List Event). HasDone plan worker plan.ops es) (sym (append-nil (events_by (worker + 1) history))) (load.worked worker from to));
  only = load.only;
}

pub beginnings_underway : BeginningsAreUnderway
beginnings_underway plan history more later under begins =
    let split : (caller : ℕ) → events_by caller (history ++ more) ≡ events_by caller history ++ events_by caller more = λ caller. filter-append (λ e. caller_of e == caller) history more in
    let own : events_by 1 history ≡ opening plan ++ events_by 1 later = ap (λ (es : List Event). events_by 1 es) begins ∙ filter-append (λ e. caller_of e == 1) (opening plan) later in
    let whole : opening plan ++ (events_by 1 later ++ events_by 1 more) ≡ opening plan ++ [] =
    sym (append_assoc (opening plan) (events_by 1 later) (events_by 1 more))
    ∙ (ap (λ (es : List Event). es ++ events_by 1 more) (sym own) ∙ (sym (split 1) ∙ (under.opened ∙ sym (append-nil (opening plan))))) in
    let none : events_by 1 later ≡ [] = (both_empty (events_by 1 later) (events_by 1 more) (append_cancel_left (opening plan) (events_by 1 later ++ events_by 1 more) [] whole)).0 in
    record {
      later = later;
      begins = begins;
      opened = own ∙ (ap (λ (es : List Event). opening plan ++ es) none ∙ append-nil (opening plan));
      begun = λ worker from to.
          let b = under.begun worker from to in (
            events_by (worker + 1) more ++ b.0,
            subst (λ (es : List Event). HasDone plan worker plan.ops es)
                (ap (λ (es : List Event). es ++ b.0) (split (worker + 1)) ∙ append_assoc (events_by (worker + 1) history) (events_by (worker + 1) more) b.0) b.1,
          );
      only = λ caller out. (none_parts caller history more (under.only caller out)).0;
    }

pub both_there : BlobsAreThere
both_there plan history legal under =
    (log_of plan under.later, (grid_of plan under.later, (log_there plan history under.later legal under.begins, grid_there plan history under.later legal under.begins)))

-- whoever did some operations may do the others
goes_on : (plan : LoadPlan) (worker op left : ℕ) (events : List Event) → HasDone plan worker op events → op + left ≡ plan.ops
    → (rest : List Event) × HasDone plan worker plan.ops (events ++ rest)
goes_on plan worker op zero events done e =
    let all : op ≡ plan.ops = omega arith in
    ([], subst (λ (es : List Event). HasDone plan worker plan.ops es) (sym (append-nil events)) (subst (λ (n : ℕ). HasDone plan worker n events) all done))
goes_on plan worker op (suc left) events done e =
    let next : List Event = operation plan worker op 0 0 in
    let more = goes_on plan worker (suc op) left (events ++ next) (events, (0, (0, (done, refl)))) (omega arith) in
    (next ++ more.0, subst (λ (es : List Event). HasDone plan worker plan.ops es) (append_assoc events next more.0) more.1)

pub stopped_begun : StoppedHaveBegun
stopped_begun plan worker op v u before done rest had few split =
    let whole : before ++ (done ++ rest) ≡ before ++ operation plan worker op v u = ap (λ (es : List Event). before ++ es) split in
    let more = goes_on plan worker (suc op) (plan.ops - (op + 1)) (before ++ (done ++ rest)) (before, (v, (u, (had, whole)))) (omega arith) in (
      rest ++ more.0,
      subst (λ (es : List Event). HasDone plan worker plan.ops es)
          (ap (λ (es : List Event). es ++ more.0) (sym (append_assoc before done rest)) ∙ append_assoc (before ++ done) rest more.0) more.1,
    )
