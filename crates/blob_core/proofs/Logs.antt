-- What a blob's updates touch, one after another.
use Rattle.std.proofs.Common.{◌≡◌, ℕ, ◌+◌, ◌-◌, ◌^◌, ◌<◌, ◌≤◌, suc, List, [], ◌∷◌, ◌++◌, length, take, get_or, arith, ap, sym, ◌∙◌, append_assoc}
use Rattle.std.specs.Prelude.{max}
use Rattle.std.proofs.lemmas.List.{take_more, take_all, get_or_read, get_or_default}
use Rattle.blob_model.specs.Content.{Update, size_of, offset_of}
use Rattle.tree_geom.specs.declared.touch.Touch.{Touch}
use Rattle.tree_geom.specs.Geometry.{touched_by, no_touch}
use Rattle.range_log.specs.Log.{touch_at, size_at}
use Rattle.range_log.specs.Updates.{Replayable, update_at, no_update}
use Rattle.range_log.specs.Laws.{ExtentsStand}
use Rattle.range_log.specs.declared.«open».OpenTouch.{OpenTouch}
use Rattle.blob_core.specs.World.{log_of, waiting_after}
use Rattle.blob_core.proofs.Growing.{length_log}
use Rattle.blob_core.proofs.Sound.{size_step, touch_step, log_size}

-- update number k + 1, and the size n before it
pub record Falls (p : ℕ) (us : List Update) (k : ℕ) (place_at len n : ℕ) : Type 0 where
  pub within : place_at ≤ n
  pub some : 1 ≤ len
  pub next : max n (place_at + len) ≡ size_of us (suc k)
  pub touch : take (k + 1) (log_of p us) ≡ take k (log_of p us) ++ touched_by p place_at len (max n (place_at + len)) ∷ []

pub falls : (stand : ExtentsStand) (p : ℕ) (us : List Update) (k : ℕ) (u : Update) (n : ℕ) → Replayable us → k < length us → u ≡ get_or us k u → n ≡ size_of us k
    → Falls p us k (offset_of u.place n) (length u.bytes) n
falls stand p us k u n ok lt is size =
    let here : u ≡ update_at us (suc k) = get_or_read us k u lt is no_update in
    let v : Update = update_at us (suc k) in
    let step = size_step stand us k ok lt in
    rw (size, here)
    (record {
      within = (ok k lt).0;
      some = (ok k lt).1;
      next = sym step;
      touch = take_more (log_of p us) k no_touch (omega (arith, length_log p us))
          ∙ ap (λ (t : Touch). take k (log_of p us) ++ t ∷ [])
          (touch_step stand p us k ok lt ∙ ap (λ (m : ℕ). touched_by p (offset_of v.place (size_of us k)) (length v.bytes) m) step);
    })

-- the same of a list that is the updates, none of whose sizes is past the greatest
pub falls_in : (stand : ExtentsStand) (p : ℕ) (k n : ℕ) {all us : List Update} {x u : Update} → us ≡ all → Replayable all
    → ((v : ℕ) → v ≤ length all → size_of all v ≤ 2 ^ 40) → k < length us → u ≡ x → x ≡ get_or us k x → n ≡ size_of us k
    → Falls p us k (offset_of u.place n) (length u.bytes) n × (max n (offset_of u.place n + length u.bytes) ≤ 2 ^ 40)
falls_in stand p k n {all} {us} {x} {u} same ok fits lt is item size =
    let f : Falls p us k (offset_of u.place n) (length u.bytes) n = falls stand p us k u n (rw same ok) lt (rw is item) size in
    let small : size_of us (suc k) ≤ 2 ^ 40 = rw same (fits (suc k) (rw same at lt)) in
    (f, omega (arith, f.next))

-- what all of the updates touch
pub whole_log : (stand : ExtentsStand) (p : ℕ) (all us : List Update) (k : ℕ) (log : List Touch) → us ≡ all → Replayable all → length us ≤ k → log ≡ take k (log_of p us)
    → (log ≡ log_of p all) × (length log ≡ length all) × ((v : ℕ) → v ≤ length all → size_at log v ≡ size_of all v)
whole_log stand p all us k log same ok le e =
    let is : log ≡ log_of p all = (rw same at e) ∙ take_all k (log_of p all) (omega (arith, length_log p all, rw same at le)) in
    (is, ap length is ∙ length_log p all, λ v within. ap (λ (l : List Touch). size_at l v) is ∙ log_size stand p all v ok within)

-- ---- the updates that wait
pub waiting_next : (log : List Touch) (v k : ℕ) (before : List OpenTouch) (d : Touch) → v < k → k ≤ length log
    → (before ++ record { version = k - 1 + 1; touch = get_or log (k - 1) d } ∷ []) ++ waiting_after log v (k - 1 - v) ≡ before ++ waiting_after log v (k - v)
waiting_next log v k before d lt le =
    let n : ℕ = k - 1 - v in
    let t : Touch = get_or log (k - 1) d in
    let more : k - v ≡ suc n = omega arith in
    let number : k - 1 + 1 ≡ suc (v + n) = omega arith in
    let at : k - 1 ≡ v + n = omega arith in
    let T : ℕ → Touch → OpenTouch = λ i x. record { version = i; touch = x } in
    let here : t ≡ get_or log (k - 1) no_touch = get_or_default log (k - 1) d no_touch (omega arith) in
    let same : T (k - 1 + 1) t ≡ T (suc (v + n)) (touch_at log (suc (v + n))) =
    ap (λ (i : ℕ). T i t) number ∙ ap (λ (x : Touch). T (suc (v + n)) x) (here ∙ ap (λ (i : ℕ). get_or log i no_touch) at) in
    append_assoc before (T (k - 1 + 1) t ∷ []) (waiting_after log v n)
    ∙ ap (λ (x : OpenTouch). before ++ (x ∷ waiting_after log v n)) same
    ∙ ap (λ (m : ℕ). before ++ waiting_after log v m) (sym more)
