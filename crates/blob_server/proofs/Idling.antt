-- Lists of sessions that wait for a peer, and what their doors have counted.
use Rattle.std.proofs.Common.{◌≡◌, ◌∙◌, ℕ, ◌+◌, ◌-◌, ◌^◌, ◌≤◌, suc, min, List, [], ◌∷◌, ◌++◌, length, refl, sym, ap, subst, arith, length-append, append_assoc, append-nil}
use Rattle.std.specs.List.{All}
use Rattle.std.specs.Prelude.{sum_by, slice_index_or}
use Rattle.std.proofs.Math.ListN.{get_or-append}
use Rattle.std.proofs.lemmas.List.{nil_from_length}
use Rattle.std.proofs.lemmas.List.Elements.{All-nil, All-cons}
use Rattle.std.proofs.lemmas.List.Sums.{sum_by-append, sum_by-cons}
use Rattle.blob_model.specs.declared.call.Event.{Event}
use Rattle.turn_lock.specs.History.{Log, Begins}
use Rattle.turn_lock.proofs.Histories.{begins_both}
use Rattle.version_manager.specs.Log.{events}
use Rattle.client_session.specs.Sessions.{StoreState, SessionState, session_of}
use Rattle.blob_server.specs.Peers.{IsIdle}
use Rattle.blob_server.specs.Serving.{AllBegin}
use Rattle.blob_server.proofs.Beginnings.{events_begin}

-- ---- lists

pub all_front : {X : Type 0} (P : X → Type 0) (xs : List X) (x : X) → All P (xs ++ x ∷ []) → All P xs
all_front P xs x h k d less =
    let joined = length-append xs (x ∷ []) in
    subst P (get_or-append xs (x ∷ []) d k less) (h k d (omega arith))

pub last_of : {X : Type 0} (P : X → Type 0) (xs : List X) (x : X) → All P (xs ++ x ∷ []) → P x
last_of P [] x h = h 0 x (omega arith)
last_of P (y ∷ xs) x h = last_of P xs x (λ k d less. h (suc k) d (omega arith))

-- a sum with one more
pub sum_more : {X : Type 0} (f : X → ℕ) (xs : List X) (x : X) → sum_by f (xs ++ x ∷ []) ≡ sum_by f xs + f x
sum_more f xs x =
    let joined = sum_by-append f xs (x ∷ []) in
    let one = sum_by-cons f x [] in
    omega (arith, joined, one)

-- ---- sessions

module _ {D : Type 0} where
  -- it is of its own store, which is that one
  pub own_store : (store : StoreState) (session : SessionState D) → IsIdle store session → IsIdle session.store session × (session.store ≡ store)
  own_store store session i = (record { of_store = refl; none_held = i.none_held; first_next = i.first_next; first_limit = i.first_limit }, i.of_store)

  pub that_store : (store : StoreState) (session : SessionState D) → IsIdle session.store session × (session.store ≡ store) → IsIdle store session
  that_store store session i = record { of_store = i.1; none_held = i.0.none_held; first_next = i.0.first_next; first_limit = i.0.first_limit }

  -- each of them is
  pub own_stores : (store : StoreState) (sessions : List (SessionState D)) → All (IsIdle store) sessions → All (λ s. IsIdle s.store s × (s.store ≡ store)) sessions
  own_stores store sessions idle k d less = own_store store (slice_index_or sessions k d) (idle k d less)

  pub that_stores : (store : StoreState) (sessions : List (SessionState D)) → All (λ s. IsIdle s.store s × (s.store ≡ store)) sessions → All (IsIdle store) sessions
  that_stores store sessions idle k d less = that_store store (slice_index_or sessions k d) (idle k d less)

-- ---- sessions that end one after another

module _ {D : Type 0} where
  -- of these sessions those behind the ones that are left have ended, and what each of them had seen begins this history
  pub record HaveEnded (all left : List (SessionState D)) (seen : Log Event) : Type 0 where
    pub gone : List (SessionState D)
    pub behind : all ≡ left ++ gone
    pub begin : All (λ (s : SessionState D). Begins s.log seen) gone

  pub none_ended : (all : List (SessionState D)) (seen : Log Event) → HaveEnded all all seen
  none_ended all seen = record { gone = []; behind = sym (append-nil all); begin = All-nil (λ (s : SessionState D). Begins s.log seen) }

  pub one_ended : (all left front : List (SessionState D)) (one : SessionState D) (seen seen' : Log Event) → HaveEnded all left seen → left ≡ front ++ one ∷ [] → Begins seen seen' → Begins one.log seen'
      → HaveEnded all front seen'
  one_ended all left front one seen seen' had is grew begins = record {
    gone = one ∷ had.gone;
    behind = had.behind ∙ (ap (λ (l : List (SessionState D)). l ++ had.gone) is ∙ append_assoc front (one ∷ []) had.gone);
    begin = All-cons (λ (s : SessionState D). Begins s.log seen') one had.gone begins (λ k d less. begins_both (slice_index_or had.gone k d).log seen seen' (had.begin k d less) grew);
  }

  pub all_ended : (all left : List (SessionState D)) (seen : Log Event) → length left ≡ 0 → HaveEnded all left seen → All (λ (s : SessionState D). Begins s.log seen) all
  all_ended all left seen none had =
      subst (λ (l : List (SessionState D)). All (λ (s : SessionState D). Begins s.log seen) l) (sym (had.behind ∙ ap (λ (l : List (SessionState D)). l ++ had.gone) (nil_from_length left none))) had.begin

  -- what each of them had seen is a beginning of it
  pub sessions_begin : (all : List (SessionState D)) (seen : Log Event) → All (λ (s : SessionState D). Begins s.log seen) all → AllBegin (λ (s : SessionState D). (session_of s).seen) all (events seen)
  sessions_begin all seen begin k d less = events_begin (slice_index_or all k d).log seen (begin k d less)

-- ---- counts of doors

-- the doors of one more session have gone back
pub gave_back : (first before now whole front one : ℕ) → min (first + whole) (2 ^ 64 - 1) ≤ before + (front + one) → min (before + one) (2 ^ 64 - 1) ≤ now → min (first + whole) (2 ^ 64 - 1) ≤ now + front
gave_back first before now whole front one had back = omega (arith, had, back)
