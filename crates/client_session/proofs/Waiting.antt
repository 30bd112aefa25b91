-- A session that waits, look by look.
use Rattle.std.proofs.Common.{◌≡◌, refl, sym, ◌∙◌, ap, subst, ℕ, ◌+◌, List, [], ◌++◌, append_assoc, append-nil, arith}
use Rattle.blob_model.specs.Answer.{answer}
use Rattle.blob_model.specs.History.{AllOther, store_of}
use Rattle.blob_model.specs.declared.call.Call.{Call}
use Rattle.blob_model.specs.declared.call.Event.{Event}
use Rattle.request_form.specs.Session.{Session, sees}
use Rattle.request_form.specs.Answers.{LookAnswer}
use Rattle.request_form.specs.Replies.{reply_of}
use Rattle.request_form.specs.declared.form.Reply.{Reply}
use Rattle.client_session.specs.Sessions.{SessionState, Continues, session_of}
use Rattle.client_session.specs.Waiting.{Waits}
use Rattle.client_session.proofs.Answering.{sees-nothing}
use Rattle.turn_lock.specs.History.{Begins}
use Rattle.turn_lock.proofs.Histories.{begins_both}
use Rattle.client_session.proofs.Gapped.{others_both}

sees_both : (x : Session) (a b : List Event) → sees (sees x a) b ≡ sees x (a ++ b)
sees_both x a b = ap (λ (h : List Event). record { fixed = x.fixed; caller = x.caller; seen = h; tickets = x.tickets; next = x.next; limit = x.limit }) (append_assoc x.seen a b)

pub goes_both : {D : Type 0} (a b d : SessionState D) → Continues a b → Continues b d → Continues a d
goes_both a b d x y = record { store = y.store ∙ x.store; caller = y.caller ∙ x.caller; begins = begins_both a.log b.log d.log x.begins y.begins }

-- but for what it has seen the session is the same, twice over
pub rest_both : {D : Type 0} (a b d : SessionState D) → b ≡ record a { log = b.log; turns = b.turns } → d ≡ record b { log = d.log; turns = d.turns } → d ≡ record a { log = d.log; turns = d.turns }
rest_both {D = D} a b d x y = y ∙ ap (λ (s : SessionState D). record s { log = d.log; turns = d.turns }) x

module _ {D : Type 0} where
  pub waits_start : (s : SessionState D) → Waits s s
  waits_start s = record { others = []; is_gap = tt; seen = sees-nothing (session_of s); rest = refl; turns = omega arith; begins = ([], sym (append-nil s.log)) }

  -- one look more
  pub looks_on : (a b d : SessionState D) (call : Call) (reply : Reply) → Waits a b → LookAnswer AllOther (session_of b) call reply (session_of d) → LookAnswer AllOther (session_of a) call reply (session_of d)
  looks_on a b d call reply w look =
      let caller : b.caller ≡ a.caller = ap (λ (s : SessionState D). s.caller) w.rest in
      record {
        others = w.others ++ look.others;
        is_gap = others_both a.caller w.others look.others w.is_gap (subst (λ (k : ℕ). AllOther k look.others) caller look.is_gap);
        said =
            look.said
            ∙ ap reply_of
            (ap (λ (s : Session). (answer (store_of s.fixed.limits (s.seen ++ look.others)) s.caller call).1) w.seen
            ∙ ap (λ (h : List Event). (answer (store_of (session_of a).fixed.limits h) a.caller call).1) (append_assoc (session_of a).seen w.others look.others));
        seen = look.seen ∙ (ap (λ (s : Session). sees s look.others) w.seen ∙ sees_both (session_of a) w.others look.others);
      }

  pub waits_on : (a b d : SessionState D) (call : Call) (reply : Reply) → Waits a b → LookAnswer AllOther (session_of b) call reply (session_of d) → d ≡ record b { log = d.log; turns = d.turns } → d.turns ≡ b.turns + 1 → Begins b.log d.log → Waits a d
  waits_on a b d call reply w look rest turn begins =
      let joined = looks_on a b d call reply w look in
      record {
        others = joined.others;
        is_gap = joined.is_gap;
        seen = joined.seen;
        rest = rest_both a b d w.rest rest;
        turns = omega (arith, w.turns, turn);
        begins = begins_both a.log b.log d.log w.begins begins;
      }

  -- and so it goes on
  pub waited : (a d : SessionState D) → d ≡ record a { log = d.log; turns = d.turns } → Begins a.log d.log → Continues a d
  waited a d rest begins = record { store = ap (λ (s : SessionState D). s.store) rest; caller = ap (λ (s : SessionState D). s.caller) rest; begins = begins }
