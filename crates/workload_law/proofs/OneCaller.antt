-- No version is numbered twice.
use Rattle.std.proofs.Common.{◌≡◌, ℕ, ◌+◌, ◌<◌, ◌≤◌, ◌==◌, Bool, true, false, if◌then◌else◌, List, [], ◌∷◌, ◌++◌, length, refl, sym, ap, subst, ◌∙◌, arith, append_assoc}
use Rattle.std.specs.Prelude.{Option, Some, None}
use Rattle.std.proofs.lemmas.Bool.{eq-eqb}
use Rattle.std.proofs.lemmas.List.{length-append}
use Rattle.blob_model.specs.Content.{Update, offset_of}
use Rattle.blob_model.specs.Limits.{Bounds}
use Rattle.blob_model.specs.Store.{Store, Blob, blob_at, assigned, size_now, empty_store}
use Rattle.blob_model.specs.Answer.{answer, Answered, refuse}
use Rattle.blob_model.specs.History.{store_of, store_from, caller_of, call_of, IsLegal, IsLegalFrom}
use Rattle.blob_model.specs.declared.call.Call.TheVariants as Calls
use Rattle.blob_model.specs.declared.call.Event.{Event}
use Rattle.blob_model.specs.declared.call.Event.TheVariants as Events
use Rattle.blob_model.specs.declared.call.Outcome.TheVariants as Outcomes
use Rattle.blob_model.specs.declared.call.Place.{Place}
use Rattle.blob_model.specs.declared.call.Refusal.{Refusal}
use Rattle.blob_model.specs.declared.call.Refusal.TheVariants as Refusals
use Rattle.workload_law.specs.Numbered.{IsNumberedBy, VersionsHaveOneCaller, NumberedStays}
use Rattle.workload_law.proofs.Blobs.{updated_all}
use Rattle.workload_law.proofs.Counted.{updates_in, store_updated, all_updates}
use Rattle.blob_model.proofs.Stays.{some_is, store_from-append}

-- ---- two places in one list
head_is : (x y : Event) (xs ys : List Event) → x ∷ xs ≡ y ∷ ys → x ≡ y
head_is x y xs ys e = cc

pub tail_is : (x y : Event) (xs ys : List Event) → x ∷ xs ≡ y ∷ ys → xs ≡ ys
tail_is x y xs ys e = cc

-- one is the other, or stands before it
data TwoPlaces (xs ys : List Event) (x y : Event) : Type 0 where
  same : xs ≡ ys → x ≡ y → TwoPlaces xs ys x y
  earlier : (between : List Event) → ys ≡ xs ++ x ∷ between → TwoPlaces xs ys x y
  later : (between : List Event) → xs ≡ ys ++ y ∷ between → TwoPlaces xs ys x y

two_more : (z w : Event) (xs ys : List Event) (x y : Event) → z ≡ w → TwoPlaces xs ys x y → TwoPlaces (z ∷ xs) (w ∷ ys) x y
two_more z w xs ys x y e (same p q) = same (cc) q
two_more z w xs ys x y e (earlier between p) = earlier between (cc)
two_more z w xs ys x y e (later between p) = later between (cc)

two_places : (xs ys us vs : List Event) (x y : Event) → xs ++ x ∷ us ≡ ys ++ y ∷ vs → TwoPlaces xs ys x y
two_places [] [] us vs x y e = same refl (head_is x y us vs e)
two_places [] (w ∷ ys) us vs x y e = earlier ys (ap (λ (z : Event). z ∷ ys) (sym (head_is x w us (ys ++ y ∷ vs) e)))
two_places (z ∷ xs) [] us vs x y e = later xs (ap (λ (w : Event). w ∷ xs) (head_is z y (xs ++ x ∷ us) vs e))
two_places (z ∷ xs) (w ∷ ys) us vs x y e =
    two_more z w xs ys x y (head_is z w (xs ++ x ∷ us) (ys ++ y ∷ vs) e) (two_places xs ys us vs x y (tail_is z w (xs ++ x ∷ us) (ys ++ y ∷ vs) e))

-- ---- legal histories
legal_later : (s : Store) (xs ys : List Event) → IsLegalFrom s (xs ++ ys) → IsLegalFrom (store_from s xs) ys
legal_later s [] ys legal = legal
legal_later s (x ∷ xs) ys legal = legal_later (answer s (caller_of x) (call_of x)).0 xs ys legal.1

pub legal_front : (s : Store) (xs ys : List Event) → IsLegalFrom s (xs ++ ys) → IsLegalFrom s xs
legal_front s [] ys legal = tt
legal_front s (x ∷ xs) ys legal = (legal.0, legal_front (answer s (caller_of x) (call_of x)).0 xs ys legal.1)

-- ---- a numbering is of the next version of a blob that is there, and falls where its place says
pub record IsPlaced (s : Store) (blob : ℕ) (place : Place) (version at : ℕ) : Type 0 where
  pub here : Blob
  pub there : blob_at s blob ≡ Some here
  pub next : version ≡ assigned here + 1
  pub placed : at ≡ offset_of place (size_now here)

unless_placed : (s : Store) (o : Option Refusal) (done : Answered) (version at size next from to : ℕ) → done.1 ≡ Outcomes.Assigned next from to
    → (let a : Answered = elim o [ Some r ↦ refuse s r | None ↦ done ] in a).1 ≡ Outcomes.Assigned version at size → (version ≡ next) × (at ≡ from)
unless_placed s (Some r) done version at size next from to is e = (let no : ⊥ = cc in absurd no)
unless_placed s None done version at size next from to is e = (let same : Outcomes.Assigned next from to ≡ Outcomes.Assigned version at size = sym is ∙ e in (cc, cc))

blob_placed : (s : Store) (blob : ℕ) (place : Place) (o : Option Blob) (f : Blob → Answered) (version at size : ℕ) → blob_at s blob ≡ o
    → (let a : Answered = elim o [ None ↦ refuse s (Refusals.NoBlob blob) | Some b ↦ f b ] in a).1 ≡ Outcomes.Assigned version at size
    → ((b : Blob) → (f b).1 ≡ Outcomes.Assigned version at size → (version ≡ assigned b + 1) × (at ≡ offset_of place (size_now b))) → IsPlaced s blob place version at
blob_placed s blob place None f version at size is e each = (let no : ⊥ = cc in absurd no)
blob_placed s blob place (Some b) f version at size is e each = record { here = b; there = is; next = (each b e).0; placed = (each b e).1 }

pub is_placed : (s : Store) (caller blob : ℕ) (place : Place) (bytes : List ℕ) (version at size : ℕ) → (answer s caller (Calls.Assign blob place bytes)).1 ≡ Outcomes.Assigned version at size
    → IsPlaced s blob place version at
is_placed s caller blob place bytes version at size e =
    blob_placed s blob place (blob_at s blob) _ version at size refl e (λ b e. unless_placed s _ _ version at size (assigned b + 1) (offset_of place (size_now b)) _ refl e)

first_counts : (own : Bool) (u : Update) (us : List Update) → own ≡ true → 1 ≤ length ((let l : List Update = (if own then u ∷ [] else []) in l) ++ us)
first_counts true u us e = omega arith
first_counts false u us e = (let no : ⊥ = cc in absurd no)

-- the version that a later numbering gets is greater
later_greater : (limits : Bounds) (before between : List Event) (caller blob : ℕ) (place place' : Place) (bytes : List ℕ) (version at next at' : ℕ)
    → IsLegal limits (before ++ Events.Assign caller blob place bytes ∷ between) → IsPlaced (store_of limits before) blob place version at
    → IsPlaced (store_of limits (before ++ Events.Assign caller blob place bytes ∷ between)) blob place' next at' → version < next
later_greater limits before between caller blob place place' bytes version at next at' legal first second =
    let es : List Event = Events.Assign caller blob place bytes ∷ between in
    let now : blob_at (store_of limits (before ++ es)) blob ≡ Some (updated_all blob first.here es) =
    ap (λ (s : Store). blob_at s blob) (store_from-append (empty_store limits) before es)
    ∙ store_updated (store_of limits before) es blob first.here first.there (legal_later (empty_store limits) before es legal) in
    let is : second.here ≡ updated_all blob first.here es = some_is (blob_at (store_of limits (before ++ es)) blob) second.here (updated_all blob first.here es) second.there now in
    let long : assigned second.here ≡ length (first.here.updates ++ updates_in blob es) = ap (λ (b : Blob). assigned b) is ∙ ap length (all_updates blob first.here es) in
    let more : 1 ≤ length (updates_in blob es) = first_counts (blob == blob) (record { caller = caller; place = place; bytes = bytes }) (updates_in blob between) (eq-eqb blob blob refl) in
    omega (arith, long, more, first.next, second.next, length-append first.here.updates (updates_in blob es))

-- the same version isn't numbered again
not_again : (limits : Bounds) (history : List Event) → IsLegal limits history → (blob version one other : ℕ)
    → (a : IsNumberedBy limits history one blob version) (b : IsNumberedBy limits history other blob version)
    → (between : List Event) → b.before ≡ a.before ++ Events.Assign one blob a.place a.bytes ∷ between → ⊥
not_again limits history legal blob version one other a b between e =
    let front : IsLegal limits b.before = legal_front (empty_store limits) b.before (Events.Assign other blob b.place b.bytes ∷ b.after) (subst (λ (h : List Event). IsLegal limits h) b.split legal) in
    let second = is_placed (store_of limits b.before) other blob b.place b.bytes version b.at b.size b.answered in
    let less : version < version = later_greater limits a.before between one blob a.place b.place a.bytes version a.at version b.at
    (subst (λ (h : List Event). IsLegal limits h) e front) (is_placed (store_of limits a.before) one blob a.place a.bytes version a.at a.size a.answered)
    (subst (λ (h : List Event). IsPlaced (store_of limits h) blob b.place version b.at) e second) in
    omega arith

pub one_caller : VersionsHaveOneCaller
one_caller limits history legal blob version one other a b =
    elim (two_places a.before b.before a.after b.after (Events.Assign one blob a.place a.bytes) (Events.Assign other blob b.place b.bytes) (sym a.split ∙ b.split)) [
      | same p q ↦ cc
      | earlier between e ↦ absurd (not_again limits history legal blob version one other a b between e)
      | later between e ↦ absurd (not_again limits history legal blob version other one b a between e)
    ]

pub numbered_stays : NumberedStays
numbered_stays limits history more caller blob version n = record {
  before = n.before;
  after = n.after ++ more;
  place = n.place;
  bytes = n.bytes;
  at = n.at;
  size = n.size;
  split = ap (λ (es : List Event). es ++ more) n.split ∙ append_assoc n.before (Events.Assign caller blob n.place n.bytes ∷ n.after) more;
  answered = n.answered;
}
