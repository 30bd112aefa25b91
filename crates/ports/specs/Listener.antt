-- What a listener's calls do, by their answers.
use Rattle.std.specs.Prelude.{◌≡◌, ℕ, Bool, true, false, List, [], Option, IfSome, ⊤}
use Rattle.ports.specs.declared.listener.Accepted.{Accepted}
use Rattle.ports.specs.declared.listener.Accepted.TheVariants as Answers

-- the faults that the answer of `listen` tells of
abbrev pub refusals : Bool → ℕ
refusals true = 0
refusals false = 1

-- it listens where `listen` answered true, and else where it listened before
abbrev pub OnListening : Bool → Bool → Bool → Type 0
OnListening true before after = after ≡ true
OnListening false before after = after ≡ before

-- it listens at that address where `listen` answered true, as far as that is known, and else where it listened before
abbrev pub OnAddress : Bool → List ℕ → Option (List ℕ) → Option (List ℕ) → Type 0
OnAddress true address before after = IfSome after (λ here. here ≡ address)
OnAddress false address before after = after ≡ before

-- as far as it is known, nothing was read of a peer yet, and nothing was written to it
abbrev pub IsFresh : (given written : Option (List ℕ)) → Type 0
IsFresh given written = IfSome given (λ bytes. bytes ≡ []) × IfSome written (λ bytes. bytes ≡ [])

module _ {P : Type 0} where
  -- the faults that an accept tells of
  abbrev pub accept_faults : Accepted P → ℕ
  accept_faults (Answers.Peer p) = 0
  accept_faults Answers.Done = 0
  accept_faults Answers.Failed = 1

  -- that of a peer that an accept handed out
  abbrev pub OnPeer : Accepted P → (P → Type 0) → Type 0
  OnPeer (Answers.Peer p) Is = Is p
  OnPeer Answers.Done Is = ⊤
  OnPeer Answers.Failed Is = ⊤

  -- the peers that an accept handed out
  abbrev pub peers_in : Accepted P → ℕ
  peers_in (Answers.Peer p) = 1
  peers_in Answers.Done = 0
  peers_in Answers.Failed = 0

  -- whether Done was answered, now or before
  abbrev pub done_after : Accepted P → Bool → Bool
  done_after (Answers.Peer p) before = before
  done_after Answers.Done before = true
  done_after Answers.Failed before = before
