-- What a finish needs, each longer history keeps. No history need be legal for it: updates are only ever added.
use Rattle.std.proofs.Common.{◌≡◌, ◌≢◌, ℕ, ◌+◌, List, [], ◌++◌, ◌≤◌, zero, suc, length, take, drop, refl, sym, ap, ◌∙◌, subst, arith, length-append, length-take, take-append-drop}
use Rattle.std.specs.Prelude.{Option, Some, None}
use Rattle.std.proofs.lemmas.List.{map-append, take-append-le, get_or_append_left}
use Rattle.range_log.specs.Extents.{Extent}
use Rattle.range_log.specs.Rows.{folds_of}
use Rattle.range_log.specs.Updates.{update_at, extents, no_update}
use Rattle.range_log.proofs.Bytes.{length-extents}
use Rattle.range_log.proofs.Growth.{rows_stay, extents_grow}
use Rattle.snapshot.proofs.Growing.{IsRowOf-longer, folds_kept}
use Rattle.border_hints.specs.Numbered.{NumberedUpdate, IsTicketAmong}
use Rattle.node_store.specs.UpdateRows.{UpdateRow}
use Rattle.blob_model.specs.Content.{Update}
use Rattle.blob_model.specs.Limits.{Bounds}
use Rattle.blob_model.specs.Store.{Store, Blob, blob_at, empty_store}
use Rattle.blob_model.specs.History.{store_of}
use Rattle.blob_model.specs.declared.call.Event.{Event}
use Rattle.blob_model.proofs.Stays.{store_kept, store_from-append}
use Rattle.snapshot.specs.Versions.{IsRowOf}
use Rattle.version_manager.specs.declared.journal.DeskFixed.{DeskFixed}
use Rattle.version_manager.specs.Desks.{DeskState, IsTicketOf, updates_in, updates_or_none, published_or_none}
use Rattle.version_manager.specs.Folds.{IsInOrder}
use Rattle.version_manager.specs.Log.{MayFinish, desk_at, events}

pub same_update : (us later : List Update) (v : ℕ) → v ≤ length us → update_at (us ++ later) v ≡ update_at us v
same_update us later zero le = refl
same_update us later (suc k) le = get_or_append_left us later no_update k (omega arith)

unfoldable pub Longer : List Update → List Update → Type 0
Longer old new = (later : List Update) × (new ≡ old ++ later)

pub longer : (limits : Bounds) (h more : List Event) (blob : ℕ) (o : Option Blob) → blob_at (store_of limits h) blob ≡ o
    → Longer (updates_or_none o) (updates_or_none (blob_at (store_of limits (h ++ more)) blob))
unfolding Longer
longer limits h more blob None is = (_, refl)
longer limits h more blob (Some b) is =
    let (new, at, stay) = store_kept (store_of limits h) more blob b is in
    let there : blob_at (store_of limits (h ++ more)) blob ≡ Some new = ap (λ (s : Store). blob_at s blob) (store_from-append (empty_store limits) h more) ∙ at in
    (stay.later, ap updates_or_none there ∙ stay.updates)

-- the updates of a blob go on from what they were
updates_longer : (f : DeskFixed) (xs ys : List (ℕ × Event)) (blob : ℕ) → Longer (updates_in (desk_at f xs) blob) (updates_in (desk_at f (xs ++ ys)) blob)
unfolding Longer
updates_longer f xs ys blob =
    let (later, more_is) = longer f.limits (events xs) (events ys) blob (blob_at (store_of f.limits (events xs)) blob) refl in
    let O : List Event → List Update = λ l. updates_or_none (blob_at (store_of f.limits l) blob) in
    (later, ap O (map-append (λ (x : ℕ × Event). x.1) xs ys) ∙ more_is)

pub ticket_stays : (t : NumberedUpdate) (xs ys : List (ℕ × Event)) (f : DeskFixed) → IsTicketOf (desk_at f xs) t → IsTicketOf (desk_at f (xs ++ ys)) t
unfolding Longer
ticket_stays t xs ys f ticket =
    let us = updates_in (desk_at f xs) t.blob in
    let v = t.version in
    let (later, is) = updates_longer f xs ys t.blob in
    let same : update_at (updates_in (desk_at f (xs ++ ys)) t.blob) v ≡ update_at us v = ap (λ (l : List Update). update_at l v) is ∙ same_update us later v ticket.numbered in
    let taken : take v (updates_in (desk_at f (xs ++ ys)) t.blob) ≡ take v us = ap (λ (l : List Update). take v l) is ∙ take-append-le v us later ticket.numbered in
    let S : List Update → Type 0 = λ l. IsTicketAmong t (extents l) in
    record {
      page_size = ticket.page_size;
      numbered = omega (arith, ticket.numbered, ap length is, length-append us later);
      caller = ap (λ (u : Update). u.caller) same ∙ ticket.caller;
      stands = subst S (sym taken) ticket.stands;
      bytes = ticket.bytes ∙ sym (ap (λ (u : Update). u.bytes) same);
    }

-- by more updates it stores the same pages anew
pub folds_longer : (p v : ℕ) (us later : List Update) → v ≤ length us → folds_of p (extents (us ++ later)) v ≡ folds_of p (extents us) v
folds_longer p v us later le =
    let rest = extents_grow us later in
    ap (λ (xs : List Extent). folds_of p xs v) rest.1 ∙ folds_kept rows_stay p v (extents us) rest.0 (omega (arith, length-extents us))

-- those of a ticket's update, as its ticket tells them and as the history does
pub ticket_folds : (d : DeskState) (t : NumberedUpdate) → IsTicketOf d t
    → folds_of d.page_size (extents (updates_in d t.blob)) t.version ≡ folds_of t.snapshot.page_size (extents (take t.version (updates_in d t.blob))) t.version
ticket_folds d t ticket =
    let us = updates_in d t.blob in
    let v = t.version in
    let few : v ≤ length (take v us) = omega (arith, length-take v us, ticket.numbered) in
    ap (λ (l : List Update). folds_of d.page_size (extents l) v) (sym (take-append-drop v us))
    ∙ folds_longer d.page_size v (take v us) (drop v us) few
    ∙ ap (λ (p : ℕ). folds_of p (extents (take v us)) v) (sym ticket.page_size)

in_order_by : (p : ℕ) (limits : Bounds) (h more : List Event) (blob v : ℕ) (o : Option Blob) → blob_at (store_of limits h) blob ≡ o → v ≤ length (updates_or_none o)
    → (folds_of p (extents (updates_or_none o)) v ≢ [] → v ≤ published_or_none o + 1) → IsInOrder p (store_of limits (h ++ more)) blob v
in_order_by p limits h more blob v None is few order = λ some. omega (arith, few)
in_order_by p limits h more blob v (Some b) is few order = λ some.
    let (new, at, stay) = store_kept (store_of limits h) more blob b is in
    let there : blob_at (store_of limits (h ++ more)) blob ≡ Some new = ap (λ (s : Store). blob_at s blob) (store_from-append (empty_store limits) h more) ∙ at in
    let same : folds_of p (extents (updates_or_none (blob_at (store_of limits (h ++ more)) blob))) v ≡ folds_of p (extents b.updates) v =
    ap (λ (o : Option Blob). folds_of p (extents (updates_or_none o)) v) there
    ∙ ap (λ (us : List Update). folds_of p (extents us) v) stay.updates
    ∙ folds_longer p v b.updates stay.later few in
    omega (arith, order (λ none. some (same ∙ none)), stay.published, ap published_or_none there)

-- a numbered update that may be finished may be later on
pub in_order_stays : (f : DeskFixed) (xs ys : List (ℕ × Event)) (blob v : ℕ) → v ≤ length (updates_in (desk_at f xs) blob) → IsInOrder f.page_size (store_of f.limits (events xs)) blob v
    → IsInOrder f.page_size (store_of f.limits (events (xs ++ ys))) blob v
in_order_stays f xs ys blob v few order =
    subst (λ (h : List Event). IsInOrder f.page_size (store_of f.limits h) blob v) (sym (map-append (λ (x : ℕ × Event). x.1) xs ys))
    (in_order_by f.page_size f.limits (events xs) (events ys) blob v (blob_at (store_of f.limits (events xs)) blob) refl few order)

pub finish_stays : (t : NumberedUpdate) (row : UpdateRow) (xs ys : List (ℕ × Event)) (f : DeskFixed) → MayFinish t row xs f → MayFinish t row (xs ++ ys) f
unfolding Longer
finish_stays t row xs ys f h =
    let us = updates_in (desk_at f xs) t.blob in
    let v = t.version in
    let (later, is) = updates_longer f xs ys t.blob in
    let R : List Update → Type 0 = λ l. IsRowOf f.page_size l v row in
    record {
      ticket = ticket_stays t xs ys f h.ticket;
      row_for = subst R (sym is) (IsRowOf-longer rows_stay extents_grow f.page_size v us later row h.ticket.numbered h.row_for);
      under = h.under;
      here = h.here;
      in_order = in_order_stays f xs ys t.blob t.version h.ticket.numbered h.in_order;
    }
