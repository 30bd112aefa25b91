use Rattle.std.proofs.Common.{◌≡◌, sym, ◌∙◌, ap, subst, ℕ, ◌<◌, List, length, IfOk}
use Rattle.std.specs.Prelude.{remove}
use Rattle.client_session.specs.Tickets.{OpenUpdate, IsHeldAt}
use Rattle.client_session.proofs.Holding.{at_index, holding_remove}
use Rattle.range_reader.specs.Opened.{all_kept}
use Rattle.client_session.specs.SessionInvariant.{IsOpen, IsSession}
use Rattle.client_session.specs.Sessions.{SessionState, longest}
use Rattle.client_session.proofs.HeldFinishes.{finish_settled, finish_open}
use Rattle.client_session.proofs.Losses.{settled_lost, held_lost}
use Rattle.client_session.specs.TurnCounts.{RowTurns, UpTo}
use Rattle.client_session.proofs.TurnCounts.{held_turns}
use Rattle.std.proofs.lemmas.Bool.{false≢true}
use Rattle.client_session.proofs.Untouched.{RisingPairs, by_row}
use Rattle.client_session.proofs.Memory.{settled_memory, held_memory}
use Rattle.client_session.proofs.session.Session.finish.Goals as goal

pub invariant_of-self : goal.invariant_of-self
invariant_of-self g c =
    let v = c.args.self.now in
    let i = c.self-2.inside in
    let inv = c.self-2.invariant in
    let index = c.in-Some.index in
    let held0 : c.self.inside.held ≡ v.held = ap (λ (s : SessionState g.row.D.Denot). s.held) c.self.view_is in
    let held2 : i.held ≡ v.held =
    ap (λ (s : SessionState g.row.D.Denot). s.held) c.self-2.view_is ∙ ap (λ (s : SessionState g.row.D.Denot). s.held) c.finish_at-finished.ensures.rest in
    let h : IsHeldAt v.held c.args.ticket index = subst (λ (os : List OpenUpdate). IsHeldAt os c.args.ticket index) held0 c.in-Some.ensures in
    let within : index < length i.held = subst (λ (os : List OpenUpdate). index < length os) (sym held2) h.within in
    subst (λ (os : List OpenUpdate). IsSession g.D.Door.is_true i.shared.now i.pass os i.next i.doors i.room i.opened) (sym c.remove.ensures)
    (record {
      pass_is = inv.pass_is;
      holding = holding_remove i.shared.now.fixed i.pass.seen i.held i.next index within inv.holding;
      housed = inv.housed;
      served = inv.served;
      true_doors = inv.true_doors;
      marks = inv.marks;
      kept = inv.kept;
    })

pub returns-then-is_settled-clause-answers : goal.returns-then-is_settled-clause-answers
returns-then-is_settled-clause-answers g c =
    let v = c.args.self.now in
    let i0 = c.self.inside in
    let m = c.finish_at-finished.new.self in
    let index = c.in-Some.index in
    let v0 : SessionState g.row.D.Denot = record { store = i0.shared.now; caller = i0.pass.caller; log = i0.pass.seen; held = i0.held; next = i0.next; doors = i0.doors; limit = longest i0.limit; looks_first = i0.looks_first; turns = i0.pass.turns; opened = all_kept i0.opened } in
    let all : (k : IsHeldAt v0.held c.args.ticket index) → IsOpen v0.store.fixed v0.log k.update =
    λ k. at_index (IsOpen i0.shared.now.fixed i0.pass.seen) i0.held index k.update k.is c.self.invariant.holding.open_ in
    let all' : (k : IsHeldAt v.held c.args.ticket index) → IsOpen v.store.fixed v.log k.update =
    subst (λ (x : SessionState g.row.D.Denot). (k : IsHeldAt x.held c.args.ticket index) → IsOpen x.store.fixed x.log k.update) c.self.view_is all in
    let h : IsHeldAt v.held c.args.ticket index = subst (λ (x : SessionState g.row.D.Denot). IsHeldAt x.held c.args.ticket index) c.self.view_is c.in-Some.ensures in
    rw c.remove.ensures
    (finish_settled v m c.finish_at-finished.ensures.rest c.finish_at-finished.result c.args.ticket index h (all' h) (c.finish_at-finished.ensures.finishing h.update h.is) _
    (sym c.if-is_settled.ensures) (ap (λ (x : SessionState g.row.D.Denot). record x { held = remove x.held index }) c.self-2.view_is))

pub returns-else-is_settled-clause-answers : goal.returns-else-is_settled-clause-answers
returns-else-is_settled-clause-answers g c =
    let v = c.args.self.now in
    let i0 = c.self.inside in
    let m = c.finish_at-finished.new.self in
    let index = c.in-Some.index in
    let v0 : SessionState g.row.D.Denot = record { store = i0.shared.now; caller = i0.pass.caller; log = i0.pass.seen; held = i0.held; next = i0.next; doors = i0.doors; limit = longest i0.limit; looks_first = i0.looks_first; turns = i0.pass.turns; opened = all_kept i0.opened } in
    let all : (k : IsHeldAt v0.held c.args.ticket index) → IsOpen v0.store.fixed v0.log k.update =
    λ k. at_index (IsOpen i0.shared.now.fixed i0.pass.seen) i0.held index k.update k.is c.self.invariant.holding.open_ in
    let all' : (k : IsHeldAt v.held c.args.ticket index) → IsOpen v.store.fixed v.log k.update =
    subst (λ (x : SessionState g.row.D.Denot). (k : IsHeldAt x.held c.args.ticket index) → IsOpen x.store.fixed x.log k.update) c.self.view_is all in
    let h : IsHeldAt v.held c.args.ticket index = subst (λ (x : SessionState g.row.D.Denot). IsHeldAt x.held c.args.ticket index) c.self.view_is c.in-Some.ensures in
    finish_open v m c.finish_at-finished.ensures.rest c.finish_at-finished.result c.args.ticket index h (all' h) (c.finish_at-finished.ensures.finishing h.update h.is) (sym c.if-is_settled.ensures)

pub returns-then-is_settled-clause-failed : goal.returns-then-is_settled-clause-failed
returns-then-is_settled-clause-failed g c = settled_lost c.finish_at-finished.result _ (sym c.if-is_settled.ensures)

pub returns-else-is_settled-clause-failed : goal.returns-else-is_settled-clause-failed
returns-else-is_settled-clause-failed g c =
    let v = c.args.self.now in
    let h : IsHeldAt v.held c.args.ticket c.in-Some.index = subst (λ (x : SessionState g.row.D.Denot). IsHeldAt x.held c.args.ticket c.in-Some.index) c.self.view_is c.in-Some.ensures in
    held_lost v.store c.finish_at-finished.new.self.log v.held c.args.ticket c.in-Some.index h _ _ c.finish_at-finished.result (c.finish_at-finished.ensures.failed h.update h.is)

pub returns-then-is_settled-clause-held_turns : goal.returns-then-is_settled-clause-held_turns
returns-then-is_settled-clause-held_turns g c =
    let v = c.args.self.now in
    let h : IsHeldAt v.held c.args.ticket c.in-Some.index = subst (λ (x : SessionState g.row.D.Denot). IsHeldAt x.held c.args.ticket c.in-Some.index) c.self.view_is c.in-Some.ensures in
    held_turns v.held c.args.ticket c.in-Some.index h c.finish_at-finished.result v.turns c.self-2.inside.pass.turns
    (subst (λ (n : ℕ). IfOk c.finish_at-finished.result (λ _. RowTurns h.update.row v.turns n)) (sym (ap (λ (s : SessionState g.row.D.Denot). s.turns) c.self-2.view_is)) (c.finish_at-finished.ensures.row_turns h.update h.is))

pub returns-else-is_settled-clause-held_turns : goal.returns-else-is_settled-clause-held_turns
returns-else-is_settled-clause-held_turns g c =
    let v = c.args.self.now in
    let h : IsHeldAt v.held c.args.ticket c.in-Some.index = subst (λ (x : SessionState g.row.D.Denot). IsHeldAt x.held c.args.ticket c.in-Some.index) c.self.view_is c.in-Some.ensures in
    held_turns v.held c.args.ticket c.in-Some.index h c.finish_at-finished.result v.turns c.finish_at-finished.new.self.turns (c.finish_at-finished.ensures.row_turns h.update h.is)

pub returns-then-is_settled-clause-by_row : goal.returns-then-is_settled-clause-by_row
returns-then-is_settled-clause-by_row g c = λ has.
    let v = c.args.self.now in
    let h : IsHeldAt v.held c.args.ticket c.in-Some.index = subst (λ (x : SessionState g.row.D.Denot). IsHeldAt x.held c.args.ticket c.in-Some.index) c.self.view_is c.in-Some.ensures in
    let pairs : RisingPairs v.held = subst (λ (x : SessionState g.row.D.Denot). RisingPairs x.held) c.self.view_is c.self.invariant.holding.rise.pairs in
    ap (λ (x : SessionState g.row.D.Denot). x.doors) c.self-2.view_is ∙ by_row v.held pairs c.args.ticket c.in-Some.index h has (c.finish_at-finished.ensures.row_doors h.update h.is)

pub returns-else-is_settled-clause-by_row : goal.returns-else-is_settled-clause-by_row
returns-else-is_settled-clause-by_row g c = λ has.
    let v = c.args.self.now in
    let h : IsHeldAt v.held c.args.ticket c.in-Some.index = subst (λ (x : SessionState g.row.D.Denot). IsHeldAt x.held c.args.ticket c.in-Some.index) c.self.view_is c.in-Some.ensures in
    let pairs : RisingPairs v.held = subst (λ (x : SessionState g.row.D.Denot). RisingPairs x.held) c.self.view_is c.self.invariant.holding.rise.pairs in
    by_row v.held pairs c.args.ticket c.in-Some.index h has (c.finish_at-finished.ensures.row_doors h.update h.is)

pub returns-then-is_settled-clause-by_row_turns : goal.returns-then-is_settled-clause-by_row_turns
returns-then-is_settled-clause-by_row_turns g c = λ has.
    let v = c.args.self.now in
    let h : IsHeldAt v.held c.args.ticket c.in-Some.index = subst (λ (x : SessionState g.row.D.Denot). IsHeldAt x.held c.args.ticket c.in-Some.index) c.self.view_is c.in-Some.ensures in
    let pairs : RisingPairs v.held = subst (λ (x : SessionState g.row.D.Denot). RisingPairs x.held) c.self.view_is c.self.invariant.holding.rise.pairs in
    subst (λ (n : ℕ). UpTo 1 v.turns n) (sym (ap (λ (x : SessionState g.row.D.Denot). x.turns) c.self-2.view_is))
    (by_row v.held pairs c.args.ticket c.in-Some.index h has (c.finish_at-finished.ensures.row_most h.update h.is))

pub returns-else-is_settled-clause-by_row_turns : goal.returns-else-is_settled-clause-by_row_turns
returns-else-is_settled-clause-by_row_turns g c = λ has.
    let v = c.args.self.now in
    let h : IsHeldAt v.held c.args.ticket c.in-Some.index = subst (λ (x : SessionState g.row.D.Denot). IsHeldAt x.held c.args.ticket c.in-Some.index) c.self.view_is c.in-Some.ensures in
    let pairs : RisingPairs v.held = subst (λ (x : SessionState g.row.D.Denot). RisingPairs x.held) c.self.view_is c.self.invariant.holding.rise.pairs in
    by_row v.held pairs c.args.ticket c.in-Some.index h has (c.finish_at-finished.ensures.row_most h.update h.is)

pub returns-then-is_settled-clause-held_stay : goal.returns-then-is_settled-clause-held_stay
returns-then-is_settled-clause-held_stay g c = λ open_. absurd (false≢true (sym open_ ∙ sym c.if-is_settled.ensures))

pub returns-else-is_settled-clause-held_stay : goal.returns-else-is_settled-clause-held_stay
returns-else-is_settled-clause-held_stay g c = λ open_. ap (λ (x : SessionState g.row.D.Denot). x.held) c.finish_at-finished.ensures.rest

pub returns-then-is_settled-clause-given_up : goal.returns-then-is_settled-clause-given_up
returns-then-is_settled-clause-given_up g c = λ settled.
    let v = c.args.self.now in
    let index = c.in-Some.index in
    let held : c.self-2.inside.held ≡ v.held =
    ap (λ (x : SessionState g.row.D.Denot). x.held) c.self-2.view_is ∙ ap (λ (x : SessionState g.row.D.Denot). x.held) c.finish_at-finished.ensures.rest in
    record {
      index = index;
      at = subst (λ (x : SessionState g.row.D.Denot). IsHeldAt x.held c.args.ticket index) c.self.view_is c.in-Some.ensures;
      left = c.remove.ensures ∙ ap (λ (os : List OpenUpdate). remove os index) held;
    }

pub returns-else-is_settled-clause-given_up : goal.returns-else-is_settled-clause-given_up
returns-else-is_settled-clause-given_up g c = λ settled. absurd (false≢true (c.if-is_settled.ensures ∙ settled))

pub returns-then-is_settled-clause-memory : goal.returns-then-is_settled-clause-memory
returns-then-is_settled-clause-memory g c = settled_memory c.finish_at-finished.result _ (sym c.if-is_settled.ensures)

pub returns-else-is_settled-clause-memory : goal.returns-else-is_settled-clause-memory
returns-else-is_settled-clause-memory g c =
    let v = c.args.self.now in
    let h : IsHeldAt v.held c.args.ticket c.in-Some.index = subst (λ (x : SessionState g.row.D.Denot). IsHeldAt x.held c.args.ticket c.in-Some.index) c.self.view_is c.in-Some.ensures in
    held_memory v.held c.args.ticket c.in-Some.index h _ c.finish_at-finished.result (c.finish_at-finished.ensures.memory h.update h.is)
