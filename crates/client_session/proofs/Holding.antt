-- What becomes of the held updates.
use Rattle.std.proofs.Common.{◌≡◌, sym, ◌∙◌, ap, subst, ℕ, suc, ◌+◌, ◌<◌, ◌≤◌, List, [], ◌∷◌, ◌++◌, length, take, drop, Some, arith}
use Rattle.std.specs.Prelude.{All, remove, slice_get}
use Rattle.std.proofs.lemmas.List.{map_push, map-append, take-map, drop-map, length-map}
use Rattle.std.proofs.lemmas.List.Elements.{All-append, All-drop, All-push, All-take}
use Rattle.std.proofs.lemmas.List.Quantifiers.{all_pairs_push, all_pairs_remove}
use Rattle.std.proofs.lemmas.Option.{get_or_from_slice_get, slice_get_within}
use Rattle.blob_model.specs.declared.call.Event.{Event}
use Rattle.version_manager.specs.declared.journal.DeskFixed.{DeskFixed}
use Rattle.request_form.specs.Session.{HeldTicket}
use Rattle.client_session.specs.Tickets.{OpenUpdate, Rise, ticket_of, tickets_of}
use Rattle.client_session.specs.SessionInvariant.{IsOpen, IsHolding}

-- what holds of all holds of the one at an index, and of those that are left without it
pub at_index : {X : Type 0} (P : X → Type 0) (xs : List X) (i : ℕ) (x : X) → slice_get xs i ≡ Some x → All P xs → P x
at_index P xs i x at all = subst P (get_or_from_slice_get xs i x x at) (all i x (slice_get_within xs i x at))

all_remove : {X : Type 0} (P : X → Type 0) (xs : List X) (i : ℕ) → All P xs → All P (remove xs i)
all_remove P xs i all = All-append P (take i xs) (drop (suc i) xs) (All-take P i xs all) (All-drop P (suc i) xs all)

-- what is shown of the updates that are left
pub tickets_of-remove : (os : List OpenUpdate) (i : ℕ) → tickets_of (remove os i) ≡ remove (tickets_of os) i
tickets_of-remove os i =
    map-append ticket_of (take i os) (drop (suc i) os)
    ∙ (ap (λ (hs : List HeldTicket). hs ++ tickets_of (drop (suc i) os)) (sym (take-map ticket_of i os))
    ∙ ap (λ (hs : List HeldTicket). take i (tickets_of os) ++ hs) (sym (drop-map ticket_of (suc i) os)))

-- ---- the numbers
rise_push : (ts : List HeldTicket) (t : HeldTicket) (next : ℕ) → t.number ≡ next → Rise ts next → Rise (ts ++ t ∷ []) (next + 1)
rise_push ts t next number rise = record {
  below = All-push (λ (x : HeldTicket). x.number < next + 1) ts t (λ k x lt. omega (arith, rise.below k x lt)) (omega (arith, number));
  pairs = all_pairs_push (λ (a b : HeldTicket). a.number < b.number) ts t rise.pairs (λ k x lt. omega (arith, rise.below k x lt, number));
}

rise_remove : (ts : List HeldTicket) (i next : ℕ) → i < length ts → Rise ts next → Rise (remove ts i) next
rise_remove ts i next within rise = record {
  below = all_remove (λ (x : HeldTicket). x.number < next) ts i rise.below;
  pairs = all_pairs_remove (λ (a b : HeldTicket). a.number < b.number) ts i within rise.pairs;
}

module _ (f : DeskFixed) (log : List (ℕ × Event)) (held : List OpenUpdate) (next : ℕ) where
  -- one more is held, under the next number
  pub holding_push : (o : OpenUpdate) → o.number ≡ next → IsOpen f log o → next ≤ length log → IsHolding f log held next → IsHolding f log (held ++ o ∷ []) (next + 1)
  holding_push o number open_ drawn h = record {
    open_ = All-push (IsOpen f log) held o h.open_ open_;
    rise = subst (λ (ts : List HeldTicket). Rise ts (next + 1)) (sym (map_push ticket_of held o)) (rise_push (tickets_of held) (ticket_of o) next number h.rise);
    drawn = omega (arith, drawn);
  }

  -- one is held no more
  pub holding_remove : (i : ℕ) → i < length held → IsHolding f log held next → IsHolding f log (remove held i) next
  holding_remove i within h = record {
    open_ = all_remove (IsOpen f log) held i h.open_;
    rise = subst (λ (ts : List HeldTicket). Rise ts next) (sym (tickets_of-remove held i)) (rise_remove (tickets_of held) i next (omega (arith, within, length-map held ticket_of)) h.rise);
    drawn = h.drawn;
  }
