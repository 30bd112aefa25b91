-- What the events of a load make in the log and the grid, by the workers.
use Rattle.std.proofs.Common.{◌≡◌, ◌≢◌, ◌⊎◌, ℕ, ◌+◌, ◌<◌, ◌≤◌, ◌==◌, zero, suc, Bool, true, false, cond, eqb, if◌then◌else◌, List, [], ◌∷◌, ◌++◌, map, refl, sym, ap, ◌∙◌, inl, inr, arith, append-nil, add-one}
use Rattle.std.specs.List.{range_with_len, flat_map}
use Rattle.std.proofs.lemmas.Bool.{ne_eqb, cases_eq}
use Rattle.std.proofs.lemmas.List.{append_cancel_left}
use Rattle.std.proofs.lemmas.List.Concat.{flat_map-append}
use Rattle.std.proofs.lemmas.List.Elements.{filter-append}
use Rattle.std.proofs.lemmas.List.FromFn.{map-range_with_len_more}
use Rattle.blob_model.specs.Content.{Update}
use Rattle.blob_model.specs.History.{caller_of, events_by}
use Rattle.blob_model.specs.declared.call.Place.TheVariants.{WriteAt, Append}
use Rattle.blob_model.specs.declared.call.Event.{Event}
use Rattle.blob_model.specs.declared.call.Event.TheVariants as Events
use Rattle.workload_law.specs.declared.plan.LoadPlan.{LoadPlan}
use Rattle.workload_law.specs.Pieces.{record_of, cell_of}
use Rattle.workload_law.specs.Load.{opening, operation, HasDone, HasBegun, IsLoad, IsUnderway, cell_offset}
use Rattle.workload_law.proofs.Parts.{part}
use Rattle.workload_law.proofs.Merged.{IsMerged, IsBegun}
use Rattle.workload_law.proofs.Counted.{update_in, updates_in, finisher_in, finishers_in}

-- ---- by callers
cond_map : {X Y : Type 0} (f : X → List Y) (t : Bool) (x : X) (xs : List X) → cond t (f x) [] ++ flat_map f xs ≡ flat_map f (cond t (x ∷ xs) xs)
cond_map f true x xs = refl
cond_map f false x xs = refl

module _ {X : Type 0} (key : X → ℕ) (f : Event → List X) (own : (e : Event) (c : ℕ) → part key c (f e) ≡ cond (eqb (caller_of e) c) (f e) []) where
  -- what a caller made is made by its events
  pub part_of_events : (c : ℕ) (es : List Event) → part key c (flat_map f es) ≡ flat_map f (events_by c es)
  part_of_events c [] = refl
  part_of_events c (e ∷ es) =
      filter-append (λ x. eqb (key x) c) (f e) (flat_map f es)
      ∙ (ap (λ (l : List X). l ++ part key c (flat_map f es)) (own e c)
      ∙ (ap (λ (l : List X). cond (eqb (caller_of e) c) (f e) [] ++ l) (part_of_events c es)
      ∙ cond_map f (eqb (caller_of e) c) e (events_by c es)))

none_cond : {X : Type 0} (t : Bool) → ◌≡◌ {A = List X} [] (cond t [] [])
none_cond true = refl
none_cond false = refl

one_update : (same t : Bool) (u : Update) (c : ℕ) → eqb u.caller c ≡ t → part (λ (u : Update). u.caller) c (if same then u ∷ [] else []) ≡ cond t (let l : List Update = (if same then u ∷ [] else []) in l) []
one_update true t u c e = ap (λ (b : Bool). cond b (u ∷ []) []) e
one_update false t u c e = none_cond t

one_finisher : (same t : Bool) (x c : ℕ) → eqb x c ≡ t → part (λ (x : ℕ). x) c (if same then x ∷ [] else []) ≡ cond t (let l : List ℕ = (if same then x ∷ [] else []) in l) []
one_finisher true t x c e = ap (λ (b : Bool). cond b (x ∷ []) []) e
one_finisher false t x c e = none_cond t

own_update : (id : ℕ) (e : Event) (c : ℕ) → part (λ (u : Update). u.caller) c (update_in id e) ≡ cond (eqb (caller_of e) c) (update_in id e) []
own_update id (Events.Create caller) c = none_cond (eqb caller c)
own_update id (Events.Assign caller blob place bytes) c = one_update (blob == id) (eqb caller c) (record { caller = caller; place = place; bytes = bytes }) c refl
own_update id (Events.Finish caller blob version) c = none_cond (eqb caller c)
own_update id (Events.Branch caller blob version) c = none_cond (eqb caller c)

own_finisher : (id : ℕ) (e : Event) (c : ℕ) → part (λ (x : ℕ). x) c (finisher_in id e) ≡ cond (eqb (caller_of e) c) (finisher_in id e) []
own_finisher id (Events.Create caller) c = none_cond (eqb caller c)
own_finisher id (Events.Assign caller blob place bytes) c = none_cond (eqb caller c)
own_finisher id (Events.Finish caller blob version) c = one_finisher (blob == id) (eqb caller c) caller c refl
own_finisher id (Events.Branch caller blob version) c = none_cond (eqb caller c)

-- ---- a worker's events
-- the update that appends a record
abbrev pub log_update : ℕ → ℕ → Update
log_update worker op = record { caller = worker + 1; place = Append; bytes = record_of worker op }

-- the update that writes a cell
abbrev pub cell_update : LoadPlan → ℕ → ℕ → Update
cell_update plan worker op = record { caller = worker + 1; place = WriteAt (cell_offset plan worker op); bytes = cell_of plan.seed worker op }

module _ {X : Type 0} (f : Event → List X) (plan : LoadPlan) (worker : ℕ) (make : ℕ → X) (one : (op v u : ℕ) → flat_map f (operation plan worker op v u) ≡ make op ∷ []) where
  done_makes : (ops : ℕ) (events : List Event) → HasDone plan worker ops events → flat_map f events ≡ map make (range_with_len 0 ops)
  done_makes zero events none = ap (λ (es : List Event). flat_map f es) none
  done_makes (suc op) events done =
      let before = done.0 in
      let last = operation plan worker op done.1.0 done.1.1.0 in
      ap (λ (es : List Event). flat_map f es) done.1.1.1.1
      ∙ (flat_map-append f before last
      ∙ (ap (λ (l : List X). l ++ flat_map f last) (done_makes op before done.1.1.1.0)
      ∙ (ap (λ (l : List X). map make (range_with_len 0 op) ++ l) (one op done.1.0 done.1.1.0)
      ∙ (sym (map-range_with_len_more make 0 op op (omega arith)) ∙ ap (λ (n : ℕ). map make (range_with_len 0 n)) (add-one op)))))

-- ---- the events after the opening
none_by : (plan : LoadPlan) (caller : ℕ) → caller ≢ 1 → events_by caller (opening plan) ≡ []
none_by plan caller apart =
    let e : eqb 1 caller ≡ false = ne_eqb 1 caller (λ same. apart (sym same)) in
    rw e refl

-- the opening stands first, and no other caller than it and the workers has events
pub record IsOpened (plan : LoadPlan) (history later : List Event) : Type 0 where
  pub begins : history ≡ opening plan ++ later
  pub opened : events_by 1 history ≡ opening plan
  pub only : (caller : ℕ) → (caller ≡ 0) ⊎ (plan.workers + 1 < caller) → events_by caller history ≡ []

module _ (plan : LoadPlan) (history later : List Event) (first : IsOpened plan history later) where
  history_by : (caller : ℕ) → events_by caller history ≡ events_by caller (opening plan) ++ events_by caller later
  history_by caller = ap (λ (es : List Event). events_by caller es) first.begins ∙ filter-append (λ e. caller_of e == caller) (opening plan) later

  later_by : (caller : ℕ) → caller ≢ 1 → events_by caller later ≡ events_by caller history
  later_by caller apart = sym (history_by caller ∙ ap (λ (es : List Event). es ++ events_by caller later) (none_by plan caller apart))

  later_by_first : events_by 1 later ≡ []
  later_by_first = append_cancel_left (opening plan) (events_by 1 later) [] (sym (history_by 1) ∙ (first.opened ∙ sym (append-nil (opening plan))))

  later_none : (caller : ℕ) → (caller < 2) ⊎ (2 + plan.workers ≤ caller) → (caller ≡ 1) ⊎ (caller ≡ 1 → ⊥) → events_by caller later ≡ []
  later_none caller out (inl one) = ap (λ (c : ℕ). events_by c later) one ∙ later_by_first
  later_none caller (inl low) (inr apart) = later_by caller apart ∙ first.only caller (inl (omega arith))
  later_none caller (inr high) (inr apart) = later_by caller apart ∙ first.only caller (inr (omega arith))

  module _ {X : Type 0} (key : X → ℕ) (f : Event → List X) (own : (e : Event) (c : ℕ) → part key c (f e) ≡ cond (eqb (caller_of e) c) (f e) [])
      (make : ℕ → ℕ → X) (one : (worker op v u : ℕ) → flat_map f (operation plan worker op v u) ≡ make worker op ∷ []) where
    part_is : (caller : ℕ) → caller ≢ 1 → part key caller (flat_map f later) ≡ flat_map f (events_by caller history)
    part_is caller apart = part_of_events key f own caller later ∙ ap (λ (es : List Event). flat_map f es) (later_by caller apart)

    none_else : (k : ℕ) → (k < 2) ⊎ (2 + plan.workers ≤ k) → part key k (flat_map f later) ≡ []
    none_else k out = part_of_events key f own k later ∙ ap (λ (es : List Event). flat_map f es) (later_none k out (cases_eq k 1))

    merged : ((worker : ℕ) → 1 ≤ worker → worker ≤ plan.workers → HasDone plan worker plan.ops (events_by (worker + 1) history)) → IsMerged key plan.workers plan.ops make (flat_map f later)
    merged worked = record {
      parts = λ worker from to.
          part_is (worker + 1) (λ same. omega arith)
          ∙ done_makes f plan worker (make worker) (one worker) plan.ops (events_by (worker + 1) history) (worked worker from to);
      none = none_else;
    }

    begun_part : (worker : ℕ) → 1 ≤ worker → HasBegun plan worker (events_by (worker + 1) history)
        → (rest : List X) × (part key (worker + 1) (flat_map f later) ++ rest ≡ map (make worker) (range_with_len 0 plan.ops))
    begun_part worker from begun = (
      flat_map f begun.0,
      ap (λ (l : List X). l ++ flat_map f begun.0) (part_is (worker + 1) (λ same. omega arith))
          ∙ (sym (flat_map-append f (events_by (worker + 1) history) begun.0)
          ∙ done_makes f plan worker (make worker) (one worker) plan.ops (events_by (worker + 1) history ++ begun.0) begun.1),
    )

    begun : ((worker : ℕ) → 1 ≤ worker → worker ≤ plan.workers → HasBegun plan worker (events_by (worker + 1) history)) → IsBegun key plan.workers plan.ops make (flat_map f later)
    begun worked = record { parts = λ worker from to. begun_part worker from (worked worker from to); none = none_else }

module _ (plan : LoadPlan) (history : List Event) (load : IsLoad plan history) where
  pub load_opened : IsOpened plan history load.later
  load_opened = record { begins = load.begins; opened = load.opened; only = load.only }

  pub log_merged : IsMerged (λ (u : Update). u.caller) plan.workers plan.ops log_update (updates_in 1 load.later)
  log_merged = merged plan history load.later load_opened (λ (u : Update). u.caller) (update_in 1) (own_update 1) log_update (λ worker op v u. refl) load.worked

  pub grid_merged : IsMerged (λ (u : Update). u.caller) plan.workers plan.ops (cell_update plan) (updates_in 2 load.later)
  grid_merged = merged plan history load.later load_opened (λ (u : Update). u.caller) (update_in 2) (own_update 2) (cell_update plan) (λ worker op v u. refl) load.worked

  pub log_finishers : IsMerged (λ (x : ℕ). x) plan.workers plan.ops (λ worker op. worker + 1) (finishers_in 1 load.later)
  log_finishers = merged plan history load.later load_opened (λ (x : ℕ). x) (finisher_in 1) (own_finisher 1) (λ worker op. worker + 1) (λ worker op v u. refl) load.worked

  pub grid_finishers : IsMerged (λ (x : ℕ). x) plan.workers plan.ops (λ worker op. worker + 1) (finishers_in 2 load.later)
  grid_finishers = merged plan history load.later load_opened (λ (x : ℕ). x) (finisher_in 2) (own_finisher 2) (λ worker op. worker + 1) (λ worker op v u. refl) load.worked

module _ (plan : LoadPlan) (history : List Event) (under : IsUnderway plan history) where
  underway_opened : IsOpened plan history under.later
  underway_opened = record { begins = under.begins; opened = under.opened; only = under.only }

  pub log_begun : IsBegun (λ (u : Update). u.caller) plan.workers plan.ops log_update (updates_in 1 under.later)
  log_begun = begun plan history under.later underway_opened (λ (u : Update). u.caller) (update_in 1) (own_update 1) log_update (λ worker op v u. refl) under.begun

  pub grid_begun : IsBegun (λ (u : Update). u.caller) plan.workers plan.ops (cell_update plan) (updates_in 2 under.later)
  grid_begun = begun plan history under.later underway_opened (λ (u : Update). u.caller) (update_in 2) (own_update 2) (cell_update plan) (λ worker op v u. refl) under.begun
