-- What a ticket, and a held update, give to a session's calls.
use Rattle.std.proofs.Common.{◌≡◌, refl, sym, ◌∙◌, ap, subst, ℕ, ◌≤◌, List, [], ◌++◌, length, Option, Some, None, arith}
use Rattle.std.specs.Prelude.{IfSome, option_map}
use Rattle.std.proofs.lemmas.List.{map-append}
use Rattle.blob_model.specs.Content.{Update, content}
use Rattle.blob_model.specs.Store.{Store, Blob, blob_at, empty_store}
use Rattle.blob_model.specs.History.{store_of}
use Rattle.blob_model.specs.declared.call.Event.{Event}
use Rattle.blob_model.proofs.Marks.{published_within}
use Rattle.blob_model.proofs.Stays.{store_kept, store_from-append}
use Rattle.page_store.specs.House.{House}
use Rattle.page_store.specs.Stored.{Cut, LieAmong}
use Rattle.node_store.specs.UpdateRows.{UpdateRow}
use Rattle.border_hints.specs.Numbered.{NumberedUpdate}
use Rattle.border_hints.specs.Numbered.{IsValidTicket as IsWellNumbered}
use Rattle.client_session.specs.Tickets.{OpenUpdate}
use Rattle.tree_weaver.specs.Anew.{StoresNoneAnew}
use Rattle.tree_weaver.specs.Woven.{IsWoven}
use Rattle.version_manager.specs.Desks.{updates_in, updates_or_none, published_or_none}
use Rattle.version_manager.specs.Folds.{IsInOrder}
use Rattle.version_manager.specs.Log.{MayFinish, IsNewTicket, IsWaitingTicket, desk_at, events}
use Rattle.version_manager.specs.Stays.{ticket_stays}
use Rattle.version_manager.specs.declared.journal.DeskFixed.{DeskFixed}
use Rattle.client_session.specs.Finishing.{TicketsStayHere}
use Rattle.client_session.specs.SessionInvariant.{IsOpen, IsTicketHere}
use Rattle.client_session.proofs.Folding.{none_in_order}

-- an open update with its row may be finished
pub may_finish : (f : DeskFixed) (log : List (ℕ × Event)) (o : OpenUpdate) (row : UpdateRow) → IsOpen f log o → o.row ≡ Some row → MayFinish o.ticket row log f
may_finish f log o row open_ is = subst (λ (x : Option UpdateRow). IfSome x (λ r. MayFinish o.ticket r log f)) is open_.row

-- so may one that was woven by a ticket that is here, where it is in order
pub may_finish_woven : (f : DeskFixed) (log : List (ℕ × Event)) (t : NumberedUpdate) (row : UpdateRow) → IsTicketHere f log t → IsWoven f.nodes f.houses t row
    → IsInOrder f.page_size (store_of f.limits (events log)) t.blob t.version → MayFinish t row log f
may_finish_woven f log t row h woven order = record {
  ticket = h.ticket;
  row_for = woven.for f.page_size (updates_in (desk_at f log) t.blob)
      (record { page_size = h.ticket.page_size; numbered = h.ticket.numbered; stands = h.ticket.stands; bytes = h.ticket.bytes; before = h.bytes });
  under = woven.under;
  here = woven.here;
  in_order = order;
}

-- and so one that was woven at once, if it was
pub may_finish_if_woven : {A : Type 0} (value : A → UpdateRow) (row : Option A) (f : DeskFixed) (log : List (ℕ × Event)) (t : NumberedUpdate) → IsTicketHere f log t
    → IfSome row (λ r. (houses : List House) → LieAmong houses t.pages.pages → IsWoven f.nodes houses t (value r)) → IfSome row (λ _. StoresNoneAnew t)
    → IfSome (option_map value row) (λ r. MayFinish t r log f)
may_finish_if_woven value None f log t h woven none = tt
may_finish_if_woven value (Some r) f log t h woven none = may_finish_woven f log t (value r) h (woven f.houses h.here.pages) (none_in_order f log t h.ticket none)

-- ---- what a blob's updates leave stays, as they go on
content_longer : (f : DeskFixed) (h more : List Event) (blob v : ℕ) (o : Option Blob) → blob_at (store_of f.limits h) blob ≡ o → v ≤ length (updates_or_none o)
    → content (updates_or_none (blob_at (store_of f.limits (h ++ more)) blob)) v ≡ content (updates_or_none o) v
content_longer f h more blob v None is few =
    let none : v ≡ 0 = omega (arith, few) in
    ap (content (updates_or_none (blob_at (store_of f.limits (h ++ more)) blob))) none ∙ ap (content []) (sym none)
content_longer f h more blob v (Some b) is few =
    let (new, at, stay) = store_kept (store_of f.limits h) more blob b is in
    let there : blob_at (store_of f.limits (h ++ more)) blob ≡ Some new = ap (λ (s : Store). blob_at s blob) (store_from-append (empty_store f.limits) h more) ∙ at in
    ap (λ (x : Option Blob). content (updates_or_none x) v) there ∙ stay.content v few

pub content_stays : (f : DeskFixed) (log more : List (ℕ × Event)) (blob v : ℕ) → v ≤ length (updates_in (desk_at f log) blob)
    → content (updates_in (desk_at f (log ++ more)) blob) v ≡ content (updates_in (desk_at f log) blob) v
content_stays f log more blob v few =
    ap (λ (h : List Event). content (updates_or_none (blob_at (store_of f.limits h) blob)) v) (map-append (λ (x : ℕ × Event). x.1) log more)
    ∙ content_longer f (events log) (events more) blob v (blob_at (store_of f.limits (events log)) blob) refl few

-- a ticket that is here stays here
pub ticket_here_stays : TicketsStayHere
ticket_here_stays f log log' t (more, is) h =
    subst (λ (l : List (ℕ × Event)). IsTicketHere f l t) (sym is)
    (record {
      ticket = ticket_stays t log more f h.ticket;
      here = h.here;
      below = h.below;
      bytes = h.bytes ∙ sym (content_stays f log more t.blob (length t.snapshot.rows) (omega (arith, h.below, h.ticket.numbered)));
    })

-- ---- tickets that were just given
published_few : (f : DeskFixed) (h : List Event) (blob : ℕ) (o : Option Blob) → blob_at (store_of f.limits h) blob ≡ o → published_or_none o ≤ length (updates_or_none o)
published_few f h blob None is = omega arith
published_few f h blob (Some b) is = published_within f.limits h blob b is

-- one of a numbering
pub new_ticket_here : (f : DeskFixed) (blob caller : ℕ) (log more : List (ℕ × Event)) (t : NumberedUpdate) (cut : Cut) → IsWellNumbered t → LieAmong f.houses cut.pages
    → IsNewTicket f blob caller cut log (log ++ more) t → IsTicketHere f (log ++ more) t
new_ticket_here f blob caller log more t cut well pages n =
    let before : List Update = updates_in (desk_at f log) blob in
    let v : ℕ = length t.snapshot.rows in
    let few : v ≤ length before = omega (arith, n.hints.rows, published_few f (events log) blob (blob_at (store_of f.limits (events log)) blob) refl) in
    record {
      ticket = n.ticket;
      here = record { snapshot = n.hints.here.0; pages = subst (λ (x : Cut). LieAmong f.houses x.pages) (sym n.pages_are) pages };
      below = omega (arith, well.version);
      bytes =
          n.hints.tells.leave v (omega arith)
          ∙ (sym (content_stays f log more blob v few) ∙ ap (λ (b : ℕ). content (updates_in (desk_at f (log ++ more)) b) v) (sym n.blob_is));
    }

-- one of a waiting version
pub waiting_ticket_here : (f : DeskFixed) (log : List (ℕ × Event)) (blob version : ℕ) (t : NumberedUpdate) → IsWellNumbered t → IsWaitingTicket f log blob version t → IsTicketHere f log t
waiting_ticket_here f log blob version t well w =
    let v : ℕ = length t.snapshot.rows in
    record {
      ticket = w.ticket;
      here = record { snapshot = w.hints.here.0; pages = w.pages_here };
      below = omega (arith, well.version);
      bytes = w.hints.tells.leave v (omega arith) ∙ ap (λ (b : ℕ). content (updates_in (desk_at f log) b) v) (sym w.blob_is);
    }
