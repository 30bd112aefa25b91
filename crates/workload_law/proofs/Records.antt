-- The records that stand in the log, by their workers.
use Rattle.std.proofs.Common.{◌≡◌, ℕ, ◌+◌, ◌^◌, ◌<◌, ◌≤◌, Bool, true, false, cond, eqb, List, [], ◌∷◌, length, map, refl, sym, ap, ◌∙◌, arith, w64}
use Rattle.std.specs.Int.{to_be_bytes, from_be_bytes}
use Rattle.std.specs.Str.{bytes_eq}
use Rattle.std.specs.Bool.{Decides}
use Rattle.std.specs.List.{filter, All}
use Rattle.std.proofs.lemmas.Bool.Decides.{same_from_decides, Decides-eqb, Decides-like}
use Rattle.std.proofs.lemmas.List.Elements.{All-head, All-tail}
use Rattle.std.proofs.lemmas.Nat.{from_be_bytes-to_be_bytes_8}
use Rattle.std.proofs.lemmas.Slice.Eq.{bytes_eq-Decides, slice_eq-Decides}
use Rattle.blob_model.specs.Content.{Update}
use Rattle.workload_law.specs.Pieces.{record_of, is_by, records_by, records_of, is_in_order, in_order_of}
use Rattle.workload_law.proofs.Sums.{sum_same, sum_const}
use Rattle.workload_law.proofs.Parts.{part}
use Rattle.workload_law.proofs.Workers.{log_update}

pub record_length : (worker op : ℕ) → length (record_of worker op) ≡ 16
unfolding record_of
record_length worker op = refl

-- eight bytes tell their number
same_number : (a b : ℕ) → a < 2 ^ 64 → b < 2 ^ 64 → to_be_bytes w64 a ≡ to_be_bytes w64 b → a ≡ b
same_number a b small low e = sym (from_be_bytes-to_be_bytes_8 a small) ∙ (ap (λ (l : List ℕ). from_be_bytes w64 l) e ∙ from_be_bytes-to_be_bytes_8 b low)

-- a record is of the worker whose number it begins with
pub is_by_worker : (worker other op : ℕ) → worker < 2 ^ 64 → other < 2 ^ 64 → is_by worker (record_of other op) ≡ eqb (other + 1) (worker + 1)
unfolding record_of is_by
is_by_worker worker other op small low =
    let tells : Decides (bytes_eq (to_be_bytes w64 other) (to_be_bytes w64 worker)) (other ≡ worker) =
    Decides-like _ (λ e. same_number other worker low small e) (λ e. ap (λ (n : ℕ). to_be_bytes w64 n) e) (bytes_eq-Decides (to_be_bytes w64 other) (to_be_bytes w64 worker)) in
    let too : Decides (eqb (other + 1) (worker + 1)) (other ≡ worker) =
    Decides-like _ (λ e. omega arith) (λ e. omega arith) (Decides-eqb (other + 1) (worker + 1)) in
    same_from_decides _ _ tells too

cond_bytes : (t : Bool) (u : Update) (us : List Update) → cond t (u.bytes ∷ map (λ u. u.bytes) us) (map (λ u. u.bytes) us) ≡ map (λ u. u.bytes) (cond t (u ∷ us) us)
cond_bytes true u us = refl
cond_bytes false u us = refl

-- the pieces of a worker are those that its caller appended
pub by_worker : (worker : ℕ) (us : List Update) → All (λ u. is_by worker u.bytes ≡ eqb u.caller (worker + 1)) us
    → filter (is_by worker) (map (λ u. u.bytes) us) ≡ map (λ u. u.bytes) (part (λ (u : Update). u.caller) (worker + 1) us)
by_worker worker [] all = refl
by_worker worker (u ∷ us) all =
    let Agrees : Update → Type 0 = λ u. is_by worker u.bytes ≡ eqb u.caller (worker + 1) in
    let here : is_by worker u.bytes ≡ eqb u.caller (worker + 1) = All-head Agrees u us all in
    let rest = by_worker worker us (All-tail Agrees u us all) in
    ap (λ (t : Bool). cond t (u.bytes ∷ filter (is_by worker) (map (λ u. u.bytes) us)) (filter (is_by worker) (map (λ u. u.bytes) us))) here
    ∙ (ap (λ (l : List (List ℕ)). cond (eqb u.caller (worker + 1)) (u.bytes ∷ l) l) rest
    ∙ cond_bytes (eqb u.caller (worker + 1)) u (part (λ (u : Update). u.caller) (worker + 1) us))

pub bytes_of_records : (worker : ℕ) (ks : List ℕ) → map (λ u. u.bytes) (map (log_update worker) ks) ≡ map (record_of worker) ks
bytes_of_records worker [] = refl
bytes_of_records worker (k ∷ ks) = ap (λ (l : List (List ℕ)). record_of worker k ∷ l) (bytes_of_records worker ks)

-- where each worker's records stand in order, all are counted
pub all_in_order : (workers ops : ℕ) (bytes : List ℕ) → ((worker : ℕ) → 1 ≤ worker → worker ≤ workers → records_by worker bytes ≡ records_of worker ops) → in_order_of workers ops bytes ≡ workers
unfolding is_in_order
all_in_order workers ops bytes each =
    sum_same (λ worker. cond (is_in_order ops bytes worker) 1 0) (λ worker. 1) 1 workers
    (λ worker from to.
    let yes : is_in_order ops bytes worker ≡ true =
    (slice_eq-Decides bytes_eq-Decides (records_by worker bytes) (records_of worker ops) (is_in_order ops bytes worker) refl).1 (each worker from (omega arith)) in
    ap (λ (t : Bool). cond t 1 0) yes)
    ∙ (sum_const 1 1 workers ∙ omega arith)
