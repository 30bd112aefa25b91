-- What a session keeps, from call to call.
use Rattle.std.proofs.Common.{◌≡◌, sym, ◌∙◌, ap, subst, ℕ, ◌≤◌, List, ◌++◌, length, length-append, get_or, arith, Option, Some, None}
use Rattle.std.specs.Prelude.{All, Bool, IfSome}
use Rattle.node_store.specs.UpdateRows.{UpdateRow}
use Rattle.border_hints.specs.Numbered.{NumberedUpdate}
use Rattle.blob_model.specs.declared.call.Event.{Event}
use Rattle.turn_lock.specs.History.{Begins}
use Rattle.turn_lock.specs.Shown.{PassView}
use Rattle.version_manager.specs.Desks.{IsTicketOf}
use Rattle.version_manager.specs.Log.{MayFinish, desk_at}
use Rattle.version_manager.specs.Stays.{ticket_stays, finish_stays}
use Rattle.version_manager.specs.declared.journal.DeskFixed.{DeskFixed}
use Rattle.client_session.specs.Tickets.{OpenUpdate}
use Rattle.client_session.specs.SessionInvariant.{IsOpen, IsHolding, IsSession}
use Rattle.client_session.specs.Sessions.{StoreState, IsPassOf, Went}
use Rattle.client_session.specs.Finishing.{IsEquipped}
use Rattle.client_session.proofs.Kept.{kept_stay}
use Rattle.snapshot.specs.Versions.{Version}

-- a row by which an update may be finished stays one as the history goes on
row_stays : (f : DeskFixed) (log more : List (ℕ × Event)) (t : NumberedUpdate) (row : Option UpdateRow) → IfSome row (λ r. MayFinish t r log f) → IfSome row (λ r. MayFinish t r (log ++ more) f)
row_stays f log more t None may = tt
row_stays f log more t (Some r) may = finish_stays t r log more f may

-- a held update stays one as the history goes on
pub open_stays : (f : DeskFixed) (log log' : List (ℕ × Event)) (o : OpenUpdate) → Begins log log' → IsOpen f log o → IsOpen f log' o
open_stays f log log' o begins open_ =
    let (more, is) = begins in
    record {
      some = open_.some;
      ticket = subst (λ (l : List (ℕ × Event)). IsTicketOf (desk_at f l) o.ticket) (sym is) (ticket_stays o.ticket log more f open_.ticket);
      row = subst (λ (l : List (ℕ × Event)). IfSome o.row (λ row. MayFinish o.ticket row l f)) (sym is) (row_stays f log more o.ticket o.row open_.row);
    }

pub longer_log : (log log' : List (ℕ × Event)) → Begins log log' → length log ≤ length log'
longer_log log log' begins =
    let (more, is) = begins in
    omega (arith, ap length is, length-append log more)

pub holding_stays : (f : DeskFixed) (log log' : List (ℕ × Event)) (held : List OpenUpdate) (next : ℕ) → Begins log log' → IsHolding f log held next → IsHolding f log' held next
holding_stays f log log' held next begins h = record {
  open_ = λ k x lt. open_stays f log log' (get_or held k x) begins (h.open_ k x lt);
  rise = h.rise;
  drawn = omega (arith, h.drawn, longer_log log log' begins);
}

-- the pass after a turn
pub pass_after : (store : StoreState) (pass pass' : PassView Event DeskFixed) → IsPassOf store pass → pass' ≡ record pass { seen = pass'.seen; turns = pass'.turns } → Went store.fixed pass.seen pass'.seen → IsPassOf store pass'
pass_after store pass pass' is same went = record {
  lock = ap (λ (p : PassView Event DeskFixed). p.lock) same ∙ is.lock;
  fixed = ap (λ (p : PassView Event DeskFixed). p.fixed) same ∙ is.fixed;
  log = went.log_is;
}

-- the session after a turn, with what it holds
module _ {D : Type 0} (is_true : D → Type 0) (store : StoreState) (pass pass' : PassView Event DeskFixed) (doors : List D) (room : List Bool) {opened : List Version} where
  pub session_with : (held held' : List OpenUpdate) (next next' : ℕ) → IsSession is_true store pass held next doors room opened → pass' ≡ record pass { seen = pass'.seen; turns = pass'.turns }
      → Went store.fixed pass.seen pass'.seen → IsHolding store.fixed pass'.seen held' next' → IsSession is_true store pass' held' next' doors room opened
  session_with held held' next next' s same went holding = record {
    pass_is = pass_after store pass pass' s.pass_is same went;
    holding = holding;
    housed = s.housed;
    served = s.served;
    true_doors = s.true_doors;
    marks = s.marks;
    kept = kept_stay store.fixed pass.seen pass'.seen opened went.begins s.kept;
  }

  pub session_after : (held : List OpenUpdate) (next : ℕ) → IsSession is_true store pass held next doors room opened → pass' ≡ record pass { seen = pass'.seen; turns = pass'.turns } → Went store.fixed pass.seen pass'.seen
      → IsSession is_true store pass' held next doors room opened
  session_after held next s same went = session_with held held next next s same went (holding_stays store.fixed pass.seen pass'.seen held next went.begins s.holding)

-- with other doors, as many and as true
pub session_doors : {D : Type 0} (is_true : D → Type 0) (store : StoreState) (pass : PassView Event DeskFixed) (held : List OpenUpdate) (next : ℕ) (doors doors' : List D) (room room' : List Bool) {opened : List Version}
    → length doors' ≡ length doors → All is_true doors' → length room' ≡ length room → IsSession is_true store pass held next doors room opened → IsSession is_true store pass held next doors' room' opened
session_doors is_true store pass held next doors doors' room room' count true_ marks s = record {
  pass_is = s.pass_is;
  holding = s.holding;
  housed = s.housed;
  served = count ∙ s.served;
  true_doors = true_;
  marks = marks ∙ s.marks;
  kept = s.kept;
}

-- after turns, with doors and room as good as before
pub session_equipped : {D : Type 0} (is_true : D → Type 0) (store : StoreState) (pass pass' : PassView Event DeskFixed) (held : List OpenUpdate) (next : ℕ) (doors doors' : List D) (room room' : List Bool) {opened : List Version}
    → IsSession is_true store pass held next doors room opened → pass' ≡ record pass { seen = pass'.seen; turns = pass'.turns } → Went store.fixed pass.seen pass'.seen → IsEquipped is_true store doors' room'
    → IsSession is_true store pass' held next doors' room' opened
session_equipped is_true store pass pass' held next doors doors' room room' {opened = opened} s same went ready = record {
  pass_is = pass_after store pass pass' s.pass_is same went;
  holding = holding_stays store.fixed pass.seen pass'.seen held next went.begins s.holding;
  housed = s.housed;
  served = ready.served;
  true_doors = ready.true_doors;
  marks = ready.marks;
  kept = kept_stay store.fixed pass.seen pass'.seen opened went.begins s.kept;
}
