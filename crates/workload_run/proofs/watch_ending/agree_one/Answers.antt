use Rattle.std.proofs.Common.{subst, arith}
use Rattle.turn_lock.specs.History.{Begins}
use Rattle.client_session.specs.Sessions.{SessionState}
use Rattle.workload_run.proofs.WatchCrews.{seen_on}
use Rattle.workload_run.proofs.watch_ending.agree_one.Goals as goal

pub returns-then-has_place-clause-seen : goal.returns-then-has_place-clause-seen
returns-then-has_place-clause-seen g c = seen_on c.requires.seen c.agree_by_place.ensures.sessions.leaves.comes.begins

pub returns-then-has_place-clause-made : goal.returns-then-has_place-clause-made
returns-then-has_place-clause-made g c = let e = c.agree_by_place.ensures.made in (omega (arith, e), omega (arith, e))

pub returns-clause-begins : goal.returns-clause-begins
returns-clause-begins g c = subst (λ (s : SessionState _). Begins s.log c.agree_by_turn.new.owner.seen) c.into_session-session.ensures c.agree_by_turn.ensures.begins

pub returns-then-has_place-clause-sessions : goal.returns-then-has_place-clause-sessions
returns-then-has_place-clause-sessions g c = c.agree_by_place.ensures.sessions

pub returns-clause-sessions : goal.returns-clause-sessions
returns-clause-sessions g c = c.agree_by_turn.ensures.sessions
