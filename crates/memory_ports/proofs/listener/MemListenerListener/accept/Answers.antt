use Rattle.ports.specs.Listener.{IsFresh}
use Rattle.memory_ports.proofs.Fresh.{first_leaves}
use Rattle.memory_ports.proofs.listener.MemListenerListener.accept.Goals as goal

pub invariant_of-self-in-Some : goal.invariant_of-self-in-Some
invariant_of-self-in-Some g c =
    let e = g.P.Ends in
    (first_leaves (λ p. IsFresh (e.given p) (e.written p)) c.self.inside.peers.items c.pop_front.new.self.items c.pop_front.result c.pop_front.ensures.items c.self.invariant).1
