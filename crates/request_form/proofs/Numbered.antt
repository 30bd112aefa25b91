-- Numbered versions, and tickets whose versions are numbered.
use Rattle.std.proofs.Common.{◌≡◌, ℕ, ◌+◌, ◌-◌, ◌≤◌, ◌==◌, ◌&&◌, Bool, true, false, if◌then◌else◌, List, [], ◌∷◌, ◌++◌, length, refl, sym, ap, subst, arith, length-append}
use Rattle.std.specs.Prelude.{Option, Some, None, slice_get, slice_set}
use Rattle.blob_model.specs.Content.{Update}
use Rattle.blob_model.specs.Limits.{Bounds}
use Rattle.blob_model.specs.Store.{Store, Blob, blob_at, with_blob, and_update, assigned}
use Rattle.blob_model.specs.Answer.{Answered, answer, refuse}
use Rattle.blob_model.specs.History.{IsNumbered, store_of}
use Rattle.blob_model.specs.Laws.{OldVersionsStay}
use Rattle.blob_model.specs.declared.call.Event.{Event}
use Rattle.blob_model.specs.declared.call.Place.{Place}
use Rattle.blob_model.specs.declared.call.Call.TheVariants as Calls
use Rattle.blob_model.specs.declared.call.Outcome.TheVariants as Outcomes
use Rattle.blob_model.specs.declared.call.Refusal.{Refusal}
use Rattle.blob_model.specs.declared.call.Refusal.TheVariants as Refusals
use Rattle.request_form.specs.Session.{HeldTicket, ticket_at, without_ticket, without_version}
use Rattle.request_form.specs.HangUp.{AllNumbered}
use Rattle.blob_model.proofs.Stays.{get-set_same}

-- ---- a numbered version of a blob
pub record Numbered (store : Store) (ticket : HeldTicket) : Type 0 where
  pub b : Blob
  pub at : blob_at store ticket.blob ≡ Some b
  pub some : 1 ≤ ticket.version
  pub within : ticket.version ≤ assigned b

some_numbered : (o : Option Blob) (version : ℕ) → IsNumbered o version → (b : Blob) × (o ≡ Some b) × (1 ≤ version) × (version ≤ assigned b)
some_numbered None version none = absurd none
some_numbered (Some b) version n = (b, refl, n.0, n.1)

pub numbered : (store : Store) (ticket : HeldTicket) → IsNumbered (blob_at store ticket.blob) ticket.version → Numbered store ticket
numbered store ticket n = let (b, at, some, within) = some_numbered (blob_at store ticket.blob) ticket.version n in record { b = b; at = at; some = some; within = within }

is_numbered : (store : Store) (ticket : HeldTicket) → Numbered store ticket → IsNumbered (blob_at store ticket.blob) ticket.version
is_numbered store ticket n = subst (λ (o : Option Blob). IsNumbered o ticket.version) (sym n.at) (n.some, n.within)

-- ---- later
module _ (stay : OldVersionsStay) (limits : Bounds) where
  pub numbered_later : (h more h' : List Event) (ticket : HeldTicket) → h' ≡ h ++ more → Numbered (store_of limits h) ticket → Numbered (store_of limits h') ticket
  numbered_later h more h' ticket e n =
      let (new, at, stays) = stay limits h more ticket.blob n.b n.at in
      let longer : length new.updates ≡ length (n.b.updates ++ stays.later) = ap (λ (us : List Update). length us) stays.updates in
      subst (λ (x : List Event). Numbered (store_of limits x) ticket) (sym e)
      (record { b = new; at = at; some = n.some; within = omega (arith, n.within, longer, length-append n.b.updates stays.later) })

  pub all_numbered_later : (h more h' : List Event) (tickets : List HeldTicket) → h' ≡ h ++ more → AllNumbered (store_of limits h) tickets → AllNumbered (store_of limits h') tickets
  all_numbered_later h more h' [] e all = tt
  all_numbered_later h more h' (t ∷ ts) e all =
      (is_numbered (store_of limits h') t (numbered_later h more h' t e (numbered (store_of limits h) t all.0)), all_numbered_later h more h' ts e all.1)

-- ---- fewer and more tickets
module _ (store : Store) where
  pub numbered_more : (tickets : List HeldTicket) (ticket : HeldTicket) → AllNumbered store tickets → IsNumbered (blob_at store ticket.blob) ticket.version → AllNumbered store (tickets ++ ticket ∷ [])
  numbered_more [] ticket all one = (one, tt)
  numbered_more (t ∷ ts) ticket all one = (all.0, numbered_more ts ticket all.1 one)

  numbered_if : (same : Bool) (t : HeldTicket) (ts rest : List HeldTicket) → AllNumbered store (t ∷ ts) → AllNumbered store rest → AllNumbered store (if same then ts else t ∷ rest)
  numbered_if true t ts rest all fewer = all.1
  numbered_if false t ts rest all fewer = (all.0, fewer)

  pub numbered_without : (tickets : List HeldTicket) (number : ℕ) → AllNumbered store tickets → AllNumbered store (without_ticket tickets number)
  numbered_without [] number all = tt
  numbered_without (t ∷ ts) number all = numbered_if (t.number == number) t ts (without_ticket ts number) all (numbered_without ts number all.1)

  pub numbered_let_go : (tickets : List HeldTicket) (blob version : ℕ) → AllNumbered store tickets → AllNumbered store (without_version tickets blob version)
  numbered_let_go [] blob version all = tt
  numbered_let_go (t ∷ ts) blob version all = numbered_if (t.blob == blob && t.version == version) t ts (without_version ts blob version) all (numbered_let_go ts blob version all.1)

  numbered_by : (t ticket : HeldTicket) (rest : Option HeldTicket) (same : Bool) → IsNumbered (blob_at store t.blob) t.version
      → (rest ≡ Some ticket → IsNumbered (blob_at store ticket.blob) ticket.version) → (if same then Some t else rest) ≡ Some ticket → IsNumbered (blob_at store ticket.blob) ticket.version
  numbered_by t ticket rest true here later e = let same : t ≡ ticket = cc in subst (λ (x : HeldTicket). IsNumbered (blob_at store x.blob) x.version) same here
  numbered_by t ticket rest false here later e = later e

  -- the ticket of that number, if one is held, is one of them
  pub numbered_at : (tickets : List HeldTicket) (number : ℕ) (ticket : HeldTicket) → AllNumbered store tickets → ticket_at tickets number ≡ Some ticket
      → IsNumbered (blob_at store ticket.blob) ticket.version
  numbered_at [] number ticket all e = let never : ⊥ = cc in absurd never
  numbered_at (t ∷ ts) number ticket all e = numbered_by t ticket (ticket_at ts number) (t.number == number) all.0 (numbered_at ts number ticket all.1) e

set_there : (none : Bool) (xs : List Blob) (i : ℕ) (x y : Blob) → (if none then None else slice_get xs i) ≡ Some y → (if none then None else slice_get (slice_set xs i x) i) ≡ Some x
set_there true xs i x y e = let no : ⊥ = cc in absurd no
set_there false xs i x y e = get-set_same xs i x y e

-- the blob is there, and that is its last version
abbrev pub IsLast : Store → ℕ → ℕ → Type 0
IsLast store blob version = (b : Blob) × (blob_at store blob ≡ Some b) × (version ≡ assigned b)

unless_last : (s : Store) (blob : ℕ) (b : Blob) (u : Update) (o : Option Refusal) (from to version at size : ℕ) → blob_at s blob ≡ Some b
    → (let a : Answered = elim o [ Some r ↦ refuse s r | None ↦ (with_blob s blob (and_update b u), Outcomes.Assigned (assigned b + 1) from to) ] in a).1 ≡ Outcomes.Assigned version at size
    → IsLast (let a : Answered = elim o [ Some r ↦ refuse s r | None ↦ (with_blob s blob (and_update b u), Outcomes.Assigned (assigned b + 1) from to) ] in a).0 blob version
unless_last s blob b u (Some r) from to version at size there e = let no : ⊥ = cc in absurd no
unless_last s blob b u None from to version at size there e =
    let same : assigned b + 1 ≡ version = cc in
    (and_update b u, set_there (blob == 0) s.blobs (blob - 1) (and_update b u) b there, omega (arith, same, length-append b.updates (u ∷ [])))

in_blob_last : (s : Store) (blob version at size : ℕ) (o : Option Blob) (f : Blob → Answered) → blob_at s blob ≡ o
    → ((b : Blob) → blob_at s blob ≡ Some b → (f b).1 ≡ Outcomes.Assigned version at size → IsLast (f b).0 blob version)
    → (let a : Answered = elim o [ None ↦ refuse s (Refusals.NoBlob blob) | Some b ↦ f b ] in a).1 ≡ Outcomes.Assigned version at size
    → IsLast (let a : Answered = elim o [ None ↦ refuse s (Refusals.NoBlob blob) | Some b ↦ f b ] in a).0 blob version
in_blob_last s blob version at size None f there each e = let no : ⊥ = cc in absurd no
in_blob_last s blob version at size (Some b) f there each e = each b there e

pub last_numbered : (s : Store) (caller blob : ℕ) (place : Place) (bytes : List ℕ) (version at size : ℕ) → (answer s caller (Calls.Assign blob place bytes)).1 ≡ Outcomes.Assigned version at size
    → IsLast (answer s caller (Calls.Assign blob place bytes)).0 blob version
last_numbered s caller blob place bytes version at size e =
    in_blob_last s blob version at size (blob_at s blob) _ refl (λ b there same. unless_last s blob b _ _ _ _ version at size there same) e
