-- The first held update of a number.
use Rattle.std.proofs.Common.{◌≡◌, refl, ℕ, zero, suc, ◌<◌, ◌≢◌, List, [], ◌∷◌, length, get_or, Some, None, ap, sym, subst, ◌∙◌, eq-eqb, arith, inl, inr, true, false}
use Rattle.std.specs.Prelude.{slice_get, remove, ◌==◌, ◌&&◌}
use Rattle.std.proofs.lemmas.Bool.{cases_eq, ne_eqb}
use Rattle.std.proofs.lemmas.Option.{get_or_from_slice_get, slice_get_within}
use Rattle.request_form.specs.Session.{HeldTicket, ticket_at, without_ticket, without_version}
use Rattle.client_session.specs.Tickets.{OpenUpdate, ticket_of, tickets_of, IsHeldAt, HoldsNone, IsVersionAt}

-- none of the first i has the number
abbrev pub NoneBefore : List OpenUpdate → ℕ → ℕ → Type 0
NoneBefore os number i = (k : ℕ) (d : OpenUpdate) → k < i → (get_or os k d).number ≢ number

later : (o : OpenUpdate) (os : List OpenUpdate) (number i : ℕ) → NoneBefore (o ∷ os) number (suc i) → NoneBefore os number i
later o os number i h k d lt = h (suc k) d (omega arith)

pub ticket_at-none : (os : List OpenUpdate) (number : ℕ) → NoneBefore os number (length os) → ticket_at (tickets_of os) number ≡ None
ticket_at-none [] number h = refl
ticket_at-none (o ∷ os) number h =
    let other : o.number ≢ number = h 0 o (omega arith) in
    rw (ne_eqb o.number number other) (ticket_at-none os number (later o os number (length os) h))

ticket_at-first : (os : List OpenUpdate) (number i : ℕ) (o : OpenUpdate) → slice_get os i ≡ Some o → o.number ≡ number → NoneBefore os number i
    → ticket_at (tickets_of os) number ≡ Some (ticket_of o)
ticket_at-first [] number i o is e h = cc
ticket_at-first (x ∷ os) number zero o is e h =
    let same : x ≡ o = cc in
    let n : x.number ≡ number = ap (λ (y : OpenUpdate). y.number) same ∙ e in
    rw (eq-eqb x.number number n) (ap (λ (y : OpenUpdate). Some (ticket_of y)) same)
ticket_at-first (x ∷ os) number (suc i) o is e h =
    let other : x.number ≢ number = h 0 x (omega arith) in
    rw (ne_eqb x.number number other) (ticket_at-first os number i o is e (later x os number i h))

without-first : (os : List OpenUpdate) (number i : ℕ) (o : OpenUpdate) → slice_get os i ≡ Some o → o.number ≡ number → NoneBefore os number i
    → without_ticket (tickets_of os) number ≡ tickets_of (remove os i)
without-first [] number i o is e h = cc
without-first (x ∷ os) number zero o is e h =
    let same : x ≡ o = cc in
    let n : x.number ≡ number = ap (λ (y : OpenUpdate). y.number) same ∙ e in
    rw (eq-eqb x.number number n) refl
without-first (x ∷ os) number (suc i) o is e h =
    let other : x.number ≢ number = h 0 x (omega arith) in
    rw (ne_eqb x.number number other) (ap (λ (hs : List HeldTicket). ticket_of x ∷ hs) (without-first os number i o is e (later x os number i h)))

pub found_first : (os : List OpenUpdate) (number i : ℕ) (o : OpenUpdate) → slice_get os i ≡ Some o → o.number ≡ number → NoneBefore os number i → IsHeldAt os number i
found_first os number i o is e h = record {
  within = slice_get_within os i o is;
  update = o;
  is = is;
  number_is = e;
  held = ticket_at-first os number i o is e h;
  left = without-first os number i o is e h;
}

-- ---- by version
-- none of the first i is of that version of the blob
abbrev pub NoVersionBefore : List OpenUpdate → ℕ → ℕ → ℕ → Type 0
NoVersionBefore os blob version i = (k : ℕ) (d : OpenUpdate) → k < i → ¬ (((get_or os k d).ticket.blob ≡ blob) × ((get_or os k d).ticket.version ≡ version))

other_version : (a b x y : ℕ) → ¬ ((a ≡ b) × (x ≡ y)) → (a == b && x == y) ≡ false
other_version a b x y differs =
    elim (cases_eq a b) [
      | inl same ↦ rw (eq-eqb a b same, ne_eqb x y (λ e. differs (same, e))) refl
      | inr apart ↦ rw (ne_eqb a b apart) refl
    ]

this_version : (a b x y : ℕ) → a ≡ b → x ≡ y → (a == b && x == y) ≡ true
this_version a b x y e f = rw (eq-eqb a b e, eq-eqb x y f) refl

later_version : (o : OpenUpdate) (os : List OpenUpdate) (blob version i : ℕ) → NoVersionBefore (o ∷ os) blob version (suc i) → NoVersionBefore os blob version i
later_version o os blob version i h k d lt = h (suc k) d (omega arith)

without_version-none : (os : List OpenUpdate) (blob version : ℕ) → NoVersionBefore os blob version (length os) → without_version (tickets_of os) blob version ≡ tickets_of os
without_version-none [] blob version h = refl
without_version-none (o ∷ os) blob version h =
    rw (other_version o.ticket.blob blob o.ticket.version version (h 0 o (omega arith)))
    (ap (λ (hs : List HeldTicket). ticket_of o ∷ hs) (without_version-none os blob version (later_version o os blob version (length os) h)))

without_version-first : (os : List OpenUpdate) (blob version i : ℕ) (o : OpenUpdate) → slice_get os i ≡ Some o → o.ticket.blob ≡ blob → o.ticket.version ≡ version → NoVersionBefore os blob version i
    → without_version (tickets_of os) blob version ≡ tickets_of (remove os i)
without_version-first [] blob version i o is e f h = cc
without_version-first (x ∷ os) blob version zero o is e f h =
    let same : x ≡ o = cc in
    rw (this_version x.ticket.blob blob x.ticket.version version (ap (λ (y : OpenUpdate). y.ticket.blob) same ∙ e) (ap (λ (y : OpenUpdate). y.ticket.version) same ∙ f)) refl
without_version-first (x ∷ os) blob version (suc i) o is e f h =
    rw (other_version x.ticket.blob blob x.ticket.version version (h 0 x (omega arith)))
    (ap (λ (hs : List HeldTicket). ticket_of x ∷ hs) (without_version-first os blob version i o is e f (later_version x os blob version i h)))

pub version_first : (os : List OpenUpdate) (blob version i : ℕ) (o : OpenUpdate) → slice_get os i ≡ Some o → o.ticket.blob ≡ blob → o.ticket.version ≡ version → NoVersionBefore os blob version i
    → IsVersionAt os blob version i
version_first os blob version i o is e f h = record {
  within = slice_get_within os i o is;
  update = o;
  is = is;
  blob_is = e;
  version_is = f;
  left = without_version-first os blob version i o is e f h;
}

pub no_version : (os : List OpenUpdate) (blob version : ℕ) → NoVersionBefore os blob version (length os) → HoldsNone os blob version
no_version os blob version h = record {
  none = λ i o is both.
      let same : get_or os i o ≡ o = get_or_from_slice_get os i o o is in
      let P : OpenUpdate → Type 0 = λ x. (x.ticket.blob ≡ blob) × (x.ticket.version ≡ version) in
      h i o (slice_get_within os i o is) (subst P (sym same) both);
  left = without_version-none os blob version h;
}
