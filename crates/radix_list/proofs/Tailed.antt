-- A list of a front of a body and of the items that were put in slots.
use Rattle.std.proofs.Common.{◌≡◌, ℕ, ◌+◌, ◌-◌, ◌<◌, ◌≤◌, List, [], ◌∷◌, ◌++◌, length, take, get_or, Some, min, sym, ap, ◌∙◌, arith, append-nil, inl, inr}
use Rattle.std.specs.Prelude.{slice_get}
use Rattle.std.specs.Option.{option_map}
use Rattle.std.proofs.lemmas.Bool.{cases_lt}
use Rattle.std.proofs.lemmas.Option.{slice_get-map, slice_get-get_or, slice_get_within, same_Some}
use Rattle.std.proofs.lemmas.List.{take-take, take-map, take-append-le, take_more, length-take, length-take-le, length-append, length-map, length_push, map-append, get_or-map}
use Rattle.std.proofs.Math.Seq.{take-append-add}
use Rattle.boxcar.specs.Slot.{Named}
use Rattle.radix_list.specs.Puts.{items_put, slots_told, names_of}
use Rattle.radix_list.specs.Tails.{IsTailed}
use Rattle.radix_list.proofs.Grouping.{slice_get-take}

-- the list has as many items as both
pub length_tailed : {T : Type 0} (body : List T) (front : ℕ) (puts : List (ℕ × T)) → front ≤ length body → length (take front body ++ items_put puts) ≡ front + length puts
length_tailed {T} body front puts le =
    length-append (take front body) (items_put puts)
    ∙ (ap (λ n. n + length (items_put puts)) (length-take-le front body le) ∙ ap (λ n. front + n) (length-map puts (λ (p : ℕ × T). p.1)))

-- ---- a front of the list
front_short : {T : Type 0} (body : List T) (front n : ℕ) (puts : List (ℕ × T)) → front ≤ length body → n ≤ front → take n body ++ [] ≡ take n (take front body ++ items_put puts)
front_short body front n puts le short =
    append-nil (take n body) ∙ sym (take-append-le n (take front body) (items_put puts) (omega (arith, length-take-le front body le)) ∙ take-take n front body short)

front_long : {T : Type 0} (body : List T) (front n : ℕ) (puts : List (ℕ × T)) → front ≤ length body → front ≤ n
    → take front body ++ items_put (take (n - front) puts) ≡ take n (take front body ++ items_put puts)
front_long {T} body front n puts le long =
    let e : length (take front body) + (n - front) ≡ n = omega (arith, length-take-le front body le) in
    ap (λ l. take front body ++ l) (sym (take-map (λ (p : ℕ × T). p.1) (n - front) puts))
    ∙ (sym (take-append-add (take front body) (items_put puts) (n - front)) ∙ ap (λ k. take k (take front body ++ items_put puts)) e)

pub front_tailed : {T : Type 0} (body : List T) (front n m : ℕ) (puts : List (ℕ × T)) → front ≤ length body → m ≡ min front n
    → take m body ++ items_put (take (n - m) puts) ≡ take n (take front body ++ items_put puts)
front_tailed body front n m puts le is =
    elim (cases_lt front n) [
      | inl long ↦
          (let e : m ≡ front = omega arith in
          ap (λ k. take k body ++ items_put (take (n - k) puts)) e ∙ front_long body front n puts le (omega arith))
      | inr short ↦
          (let e : m ≡ n = omega arith in
          let none : n - m ≡ 0 = omega arith in
          ap (λ k. take m body ++ items_put (take k puts)) none ∙ (ap (λ k. take k body ++ []) e ∙ front_short body front n puts le short))
    ]

pub tailed_front : {T : Type 0} {body : List T} {whole : ℕ} {slots : List Named} {front : ℕ} {puts : List (ℕ × T)} → IsTailed body whole slots front puts → (n m : ℕ) → n ≤ front + length puts → m ≡ min front n
    → IsTailed body whole slots m (take (n - m) puts)
tailed_front {T} {body} {whole} {slots} {front} {puts} is n m within least =
    let left : n - m ≤ length puts = omega arith in
    let count : length (take (n - m) puts) ≡ n - m = length-take-le (n - m) puts left in
    record {
      cut = is.cut;
      aligned = is.aligned;
      few = is.few;
      within = omega (arith, is.within);
      follows = λ some. omega (arith, count, is.follows (omega (arith, count)));
      told =
          sym (take-map (λ (p : ℕ × T). p.0) (n - m) puts)
          ∙ (ap (take (n - m)) is.told ∙ (take-take (n - m) (length puts) (names_of slots) left ∙ ap (λ k. take k (names_of slots)) (sym count)));
      room = omega (arith, count, is.room);
    }

-- ---- one item more, in the next slot
pub slots_pushed : {T : Type 0} (puts : List (ℕ × T)) (p : ℕ × T) (slots : List Named) (k : ℕ) (slot : Named) → slots_told puts ≡ take k (names_of slots) → k < length slots
    → slot ≡ get_or slots k slot → p.0 ≡ slot.id → slots_told (puts ++ p ∷ []) ≡ take (k + 1) (names_of slots)
slots_pushed {T} puts p slots k slot told more read same =
    let name = λ (s : Named). s.id in
    let there : get_or (names_of slots) k p.0 ≡ p.0 = get_or-map name slots k slot p.0 more ∙ (ap name (sym read) ∙ sym same) in
    map-append (λ (q : ℕ × T). q.0) puts (p ∷ [])
    ∙ (ap (λ l. l ++ p.0 ∷ []) told
    ∙ (ap (λ x. take k (names_of slots) ++ x ∷ []) (sym there) ∙ sym (take_more (names_of slots) k p.0 (omega (arith, length-map slots name)))))

pub tailed_pushed : {T : Type 0} {body : List T} {whole : ℕ} {slots : List Named} {front : ℕ} {puts : List (ℕ × T)} → IsTailed body whole slots front puts → (p : ℕ × T) (slot : Named) → front ≡ whole
    → length puts < length slots → front + length puts < 1048576 → slot ≡ get_or slots (length puts) slot → p.0 ≡ slot.id → IsTailed body whole slots front (puts ++ p ∷ [])
tailed_pushed {T} {body} {whole} {slots} {front} {puts} is p slot here more room read same = record {
  cut = is.cut;
  aligned = is.aligned;
  few = is.few;
  within = is.within;
  follows = λ some. here;
  told = slots_pushed puts p slots (length puts) slot is.told more read same ∙ ap (λ k. take k (names_of slots)) (sym (length_push puts p));
  room = omega (arith, length_push puts p);
}

-- ---- the slot of an item
pub slot_read : {T : Type 0} (puts : List (ℕ × T)) (slots : List Named) (k : ℕ) (p : ℕ × T) (slot : Named) → slots_told puts ≡ take (length puts) (names_of slots) → slice_get puts k ≡ Some p
    → slot ≡ get_or slots k slot → p.0 ≡ slot.id
slot_read {T} puts slots k p slot told is read =
    let name = λ (s : Named). s.id in
    let number = λ (q : ℕ × T). q.0 in
    let below : k < length puts = slice_get_within puts k p is in
    let more : k < length slots = omega (arith, below, ap length told, length-map puts number, length-take (length puts) (names_of slots), length-map slots name) in
    let mine : slice_get (slots_told puts) k ≡ Some p.0 = slice_get-map number puts k ∙ ap (option_map number) is in
    let its : slice_get (names_of slots) k ≡ Some slot.id = slice_get-map name slots k ∙ ap (option_map name) (slice_get-get_or slots k slot more ∙ ap Some (sym read)) in
    same_Some p.0 slot.id (sym mine ∙ (ap (λ l. slice_get l k) told ∙ (slice_get-take (length puts) (names_of slots) k below ∙ its)))
