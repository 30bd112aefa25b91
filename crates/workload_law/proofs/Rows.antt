-- Worked rows of a watch, by computation.
use Rattle.std.proofs.Common.{◌≡◌, ℕ, zero, suc, ◌+◌, ◌≤◌, List, [], ◌++◌, ◌∷◌, length, refl, ap, arith}
use Rattle.std.specs.Prelude.{Some, None}
use Rattle.std.proofs.lemmas.List.{length-append}
use Rattle.std.proofs.lemmas.List.Elements.{All-nil, All-cons}
use Rattle.blob_model.specs.Limits.{greatest}
use Rattle.blob_model.specs.Answer.{answer}
use Rattle.blob_model.specs.History.{store_of}
use Rattle.blob_model.specs.declared.call.Call.TheVariants as Calls
use Rattle.blob_model.specs.declared.call.Event.TheVariants as Events
use Rattle.blob_model.specs.declared.call.Outcome.TheVariants as Outcomes
use Rattle.workload_law.specs.Pieces.{cell_of}
use Rattle.workload_law.specs.declared.watch_plan.WatchPlan.{WatchPlan}
use Rattle.workload_law.specs.Watch.{operation, summary_of}
use Rattle.workload_law.specs.WatchNotes.{NotesState, noted, HasNotedOne, HasNoted, IsPiece, HasDone}

abbrev small : WatchPlan
small = record { seed = 255; readers = 2; ops = 2 }

-- what a watch of two readers and two operations comes to
small_summary : summary_of small ≡ record { size = 32; versions = 2; agree = 2 }
small_summary = refl

-- what a store answers after its two operations
small_recent : (answer (store_of greatest (Events.Create 1 ∷ (operation small 0 1 ++ operation small 1 2))) 6 (Calls.Recent 1)).1 ≡ Outcomes.Recent 2 32
unfolding cell_of
small_recent = refl

-- and the two bytes in which they meet: the last of the first, and the first of the second
small_read : (answer (store_of greatest (Events.Create 1 ∷ (operation small 0 1 ++ operation small 1 2))) 6 (Calls.Read 1 2 15 2)).1 ≡ Outcomes.Content (14 ∷ 0 ∷ [])
unfolding cell_of
small_read = refl

-- ---- what it does
-- The keeper gets the first version, and then the second; the last session gets the second again. Reader 1 reads the first version, and comes too early for the second; reader 2 comes too
-- early for the first, and reads the second.
abbrev small_notes : NotesState
small_notes = record {
  refreshes = 1 ∷ 2 ∷ 2 ∷ [];
  readings = 1 ∷ 1 ∷ 255 ∷ 0 ∷ 1 ∷ 2 ∷ 3 ∷ 4 ∷ 5 ∷ 6 ∷ 7 ∷ 8 ∷ 9 ∷ 10 ∷ 11 ∷ 12 ∷ 13 ∷ 14 ∷ 2 ∷ 0 ∷ 1 ∷ 0 ∷ 2 ∷ 1 ∷ 0 ∷ 1 ∷ 2 ∷ 3 ∷ 4 ∷ 5 ∷ 6 ∷ 7 ∷ 8 ∷ 9 ∷ 10 ∷ 11 ∷ 12 ∷ 13 ∷ 14 ∷ 15 ∷ [];
}

abbrev first_piece : List ℕ
first_piece = 255 ∷ 0 ∷ 1 ∷ 2 ∷ 3 ∷ 4 ∷ 5 ∷ 6 ∷ 7 ∷ 8 ∷ 9 ∷ 10 ∷ 11 ∷ 12 ∷ 13 ∷ 14 ∷ []

abbrev second_piece : List ℕ
second_piece = 0 ∷ 1 ∷ 2 ∷ 3 ∷ 4 ∷ 5 ∷ 6 ∷ 7 ∷ 8 ∷ 9 ∷ 10 ∷ 11 ∷ 12 ∷ 13 ∷ 14 ∷ 15 ∷ []

first_is : IsPiece small 0 first_piece
unfolding cell_of
first_is = refl

second_is : IsPiece small 1 second_piece
unfolding cell_of
second_is = refl

small_done : HasDone small small_notes
small_done = record {
  count = refl;
  few = All-cons (λ (v : ℕ). v ≤ 2) 1 (2 ∷ 2 ∷ []) (omega arith)
      (All-cons (λ (v : ℕ). v ≤ 2) 2 (2 ∷ []) (omega arith) (All-cons (λ (v : ℕ). v ≤ 2) 2 [] (omega arith) (All-nil (λ (v : ℕ). v ≤ 2))));
  last = (1 ∷ 2 ∷ [], refl);
  readings = (
    noted 1 (Some first_piece) ++ noted 2 None,
    (
      noted 1 None ++ noted 2 (Some second_piece),
      (
        (
          noted 1 (Some first_piece),
          (([], (refl, HasNotedOne.read first_piece first_is refl)), HasNotedOne.unpublished refl),
        ),
        (
          (
            noted 1 None ++ noted 2 (Some second_piece),
            ([], ((noted 1 None, (([], (refl, HasNotedOne.unpublished refl)), HasNotedOne.read second_piece second_is refl)), (refl, refl))),
          ),
          refl,
        ),
      ),
    ),
  );
}

-- a reader leaves no version out
least : (Is : ℕ → List ℕ → Type 0) (op : ℕ) (list : List ℕ) → HasNoted Is op list → op + op ≤ length list
least Is zero list none = omega arith
least Is (suc op) list (before, (was, HasNotedOne.read bytes is more)) =
    omega (arith, least Is op before was, ap (λ (l : List ℕ). length l) more, length-append before (noted (op + 1) (Some bytes)))
least Is (suc op) list (before, (was, HasNotedOne.unpublished more)) =
    omega (arith, least Is op before was, ap (λ (l : List ℕ). length l) more, length-append before (noted (op + 1) None))

none_left_out : HasNoted (IsPiece small) 2 (noted 2 None) → ⊥
none_left_out reads = omega (arith, least (IsPiece small) 2 (noted 2 None) reads)
