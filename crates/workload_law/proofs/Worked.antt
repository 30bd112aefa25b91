-- Worked rows, computed from the definitions alone: what loads come to, and a load of two workers whose steps are mixed.
use Rattle.std.proofs.Common.{◌≡◌, ◌≢◌, ◌⊎◌, ℕ, ◌+◌, ◌<◌, ◌≤◌, zero, suc, false, eqb, List, [], ◌∷◌, ◌++◌, refl, sym, inl, inr, arith}
use Rattle.std.proofs.lemmas.Bool.{ne_eqb}
use Rattle.blob_model.specs.Limits.{greatest}
use Rattle.blob_model.specs.Answer.{answer}
use Rattle.blob_model.specs.History.{store_of, IsLegal, events_by}
use Rattle.blob_model.specs.declared.call.Call.TheVariants as Calls
use Rattle.blob_model.specs.declared.call.Outcome.TheVariants as Outcomes
use Rattle.blob_model.specs.declared.call.Place.TheVariants.{WriteAt, Append}
use Rattle.blob_model.specs.declared.call.Event.{Event}
use Rattle.blob_model.specs.declared.call.Event.TheVariants as Events
use Rattle.workload_law.specs.declared.plan.LoadPlan.{LoadPlan}
use Rattle.workload_law.specs.Pieces.{record_of, cell_of, is_by, is_in_order, in_order_of}
use Rattle.workload_law.specs.Load.{opening, HasDone, IsLoad, IsLoadPage}
use Rattle.workload_law.specs.Summed.{cells_sum, summary_of}
use Rattle.workload_law.specs.Numbered.{IsNumberedBy}
use Rattle.workload_law.specs.Ends.{IsPageOf}

first_record : record_of 1 258 ≡ 0 ∷ 0 ∷ 0 ∷ 0 ∷ 0 ∷ 0 ∷ 0 ∷ 1 ∷ 0 ∷ 0 ∷ 0 ∷ 0 ∷ 0 ∷ 0 ∷ 1 ∷ 2 ∷ []
unfolding record_of
first_record = refl

last_cell : cell_of 250 3 1 ≡ 254 ∷ 255 ∷ 0 ∷ 1 ∷ 2 ∷ 3 ∷ 4 ∷ 5 ∷ 6 ∷ 7 ∷ 8 ∷ 9 ∷ 10 ∷ 11 ∷ 12 ∷ 13 ∷ []
unfolding cell_of
last_cell = refl

-- ---- what whole loads come to
smallest_load : summary_of (record { seed = 0; workers = 1; ops = 1 })
    ≡ record { log_size = 16; log_versions = 1; in_order = 1; grid_size = 16; grid_versions = 2; grid_sum = 136 }
unfolding cells_sum
smallest_load = refl

larger_load : summary_of (record { seed = 7; workers = 4; ops = 100 })
    ≡ record { log_size = 6400; log_versions = 400; in_order = 4; grid_size = 6400; grid_versions = 401; grid_sum = 425600 }
unfolding cells_sum
larger_load = refl

-- the last of its pages of 4096 bytes begins within its bytes, and the page after that one doesn't
larger_page : IsLoadPage (record { seed = 7; workers = 4; ops = 100 }) 4096 1
larger_page = omega arith

larger_end : IsLoadPage (record { seed = 7; workers = 4; ops = 100 }) 4096 2 → ⊥
larger_end within = omega (arith, within)

-- ---- two workers, one operation each
plan : LoadPlan
plan = record { seed = 7; workers = 2; ops = 1 }

-- the second worker's versions are finished first, and its cell is written first
later : List Event
later =
    Events.Assign 2 1 Append (record_of 1 0)
    ∷ Events.Assign 3 1 Append (record_of 2 0)
    ∷ Events.Finish 3 1 2
    ∷ Events.Assign 3 2 (WriteAt 16) (cell_of 7 2 0)
    ∷ Events.Finish 2 1 1
    ∷ Events.Finish 3 2 2
    ∷ Events.Assign 2 2 (WriteAt 0) (cell_of 7 1 0)
    ∷ Events.Finish 2 2 3
    ∷ []

mixed : List Event
mixed = opening plan ++ later

mixed_legal : IsLegal greatest mixed
unfolding mixed later plan record_of cell_of
mixed_legal = (
  record { may = tt; accepted = refl },
  (
    record { may = tt; accepted = refl },
    (
      record { may = omega arith; accepted = refl },
      (
        record { may = (omega arith, omega arith); accepted = refl },
        (
          record { may = omega arith; accepted = refl },
          (
            record { may = omega arith; accepted = refl },
            (
              record { may = (omega arith, omega arith); accepted = refl },
              (
                record { may = omega arith; accepted = refl },
                (
                  record { may = (omega arith, omega arith); accepted = refl },
                  (
                    record { may = (omega arith, omega arith); accepted = refl },
                    (record { may = omega arith; accepted = refl }, (record { may = (omega arith, omega arith); accepted = refl }, tt)),
                  ),
                ),
              ),
            ),
          ),
        ),
      ),
    ),
  ),
)

nobody_else : (caller : ℕ) → caller ≢ 1 → caller ≢ 2 → caller ≢ 3 → events_by caller mixed ≡ []
unfolding mixed later plan
nobody_else caller first second third =
    let one : eqb 1 caller ≡ false = ne_eqb 1 caller (λ same. first (sym same)) in
    let two : eqb 2 caller ≡ false = ne_eqb 2 caller (λ same. second (sym same)) in
    let three : eqb 3 caller ≡ false = ne_eqb 3 caller (λ same. third (sym same)) in
    rw (one, two, three) refl

only : (caller : ℕ) → (caller ≡ 0) ⊎ (3 < caller) → events_by caller mixed ≡ []
only caller (inl none) = nobody_else caller (λ same. omega arith) (λ same. omega arith) (λ same. omega arith)
only caller (inr past) = nobody_else caller (λ same. omega arith) (λ same. omega arith) (λ same. omega arith)

worked : (worker : ℕ) → 1 ≤ worker → worker ≤ 2 → HasDone plan worker 1 (events_by (worker + 1) mixed)
unfolding mixed later plan
worked zero from to = absurd (omega arith)
worked (suc zero) from to = ([], (1, (3, (refl, refl))))
worked (suc (suc zero)) from to = ([], (2, (2, (refl, refl))))
worked (suc (suc (suc n))) from to = absurd (omega arith)

-- so the law speaks of it
mixed_is_load : IsLoad plan mixed
unfolding mixed plan
mixed_is_load = record { later = later; begins = refl; opened = (unfold later in refl); worked = worked; only = only }

-- what the definitions answer after it: both blobs' last versions and sizes, and the bytes of the second cell
mixed_log : (answer (store_of greatest mixed) 4 (Calls.Recent 1)).1 ≡ Outcomes.Recent 2 32
unfolding mixed later plan record_of cell_of
mixed_log = refl

mixed_grid : (answer (store_of greatest mixed) 4 (Calls.Recent 2)).1 ≡ Outcomes.Recent 3 32
unfolding mixed later plan record_of cell_of
mixed_grid = refl

second_cell : (answer (store_of greatest mixed) 4 (Calls.Read 2 3 16 16)).1
    ≡ Outcomes.Content (9 ∷ 10 ∷ 11 ∷ 12 ∷ 13 ∷ 14 ∷ 15 ∷ 16 ∷ 17 ∷ 18 ∷ 19 ∷ 20 ∷ 21 ∷ 22 ∷ 23 ∷ 24 ∷ [])
unfolding mixed later plan record_of cell_of
second_cell = refl

-- two workers' records stand in it in order, and not those of a third
counted : in_order_of 3 1 (record_of 1 0 ++ record_of 2 0) ≡ 2
unfolding is_in_order is_by record_of
counted = refl

-- a record that stands twice, or that is missing, isn't counted
counted_none : in_order_of 2 1 (record_of 1 0 ++ record_of 1 0) ≡ 0
unfolding is_in_order is_by record_of
counted_none = refl

-- records whose operations fall aren't counted
counted_falling : in_order_of 1 2 (record_of 1 1 ++ record_of 1 0) ≡ 0
unfolding is_in_order is_by record_of
counted_falling = refl

-- the second worker numbered version 2 of the log
mixed_numbered : IsNumberedBy greatest mixed 3 1 2
unfolding mixed later plan record_of cell_of
mixed_numbered = record { before = opening plan ++ Events.Assign 2 1 Append (record_of 1 0) ∷ []; after = _; place = Append; bytes = record_of 2 0; at = 16; size = 32; split = refl; answered = refl }

-- its record is page 1 of the log, where pages have 16 bytes, and can be lost as such
mixed_page : IsPageOf greatest 16 3 1 Append (record_of 2 0) (opening plan) mixed 1
unfolding mixed later plan record_of cell_of
mixed_page = IsPageOf.of_blob (opening plan ++ Events.Assign 2 1 Append (record_of 1 0) ∷ []) _ 2 16 32 refl refl refl (λ some. omega arith)
