-- Where the pages of an update were put that a session has numbered.
use Rattle.std.specs.Prelude.{◌≡◌, ℕ, Some, slice_get}
use Rattle.border_hints.specs.Numbered.{NumberedUpdate}
use Rattle.page_fan.specs.Put.{ArePut}
use Rattle.client_session.specs.Tickets.{OpenUpdate}
use Rattle.client_session.specs.Sessions.{SessionState}

-- the update's own pages were put by the session's doors, each at the providers of its placement, and no door was called besides
abbrev pub WerePut : {D : Type 0} → (D → D → Type 0) → (D → ℕ) → SessionState D → SessionState D → NumberedUpdate → Type 0
WerePut called faults s s' t = ArePut called faults s.store.providers s.store.replicas s.doors s'.doors t.pages.pages

-- so it is of the update that is held under that number
pub record WerePutAlone {D : Type 0} (called : D → D → Type 0) (faults : D → ℕ) (s s' : SessionState D) (number : ℕ) : Type 0 where
  pub index : ℕ
  pub update : OpenUpdate
  pub is : slice_get s'.held index ≡ Some update
  pub number_is : update.number ≡ number
  pub put : WerePut called faults s s' update.ticket
