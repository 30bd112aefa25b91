-- The calls of a door, and the doors that a maker hands out and takes back.
use Rattle.std.specs.Prelude.{ℕ, suc}

-- so many calls lead from the first door to the last, where `called` says what one call leads to
pub data Calls {D : Type 0} (called : D → D → Type 0) : ℕ → D → D → Type 0 where
  uncalled : {door : D} → Calls called 0 door door
  call_more : {n : ℕ} {first door last : D} → Calls called n first door → called door last → Calls called (suc n) first last

-- between the first state of a maker and the last so many doors were handed out, and so many were taken back
pub data Traffic {M : Type 0} (hands_out takes_back : M → M → Type 0) : ℕ → ℕ → M → M → Type 0 where
  no_door : {maker : M} → Traffic hands_out takes_back 0 0 maker maker
  handed_out : {out back : ℕ} {first maker last : M} → Traffic hands_out takes_back out back first maker → hands_out maker last
      → Traffic hands_out takes_back (suc out) back first last
  taken_back : {out back : ℕ} {first maker last : M} → Traffic hands_out takes_back out back first maker → takes_back maker last
      → Traffic hands_out takes_back out (suc back) first last

-- as many doors were taken back as were handed out
abbrev pub AllCameBack : {M : Type 0} → (hands_out takes_back : M → M → Type 0) → M → M → Type 0
AllCameBack hands_out takes_back first last = (n : ℕ) × Traffic hands_out takes_back n n first last
