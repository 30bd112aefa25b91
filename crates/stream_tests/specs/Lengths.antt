-- Lines that are heard as their lengths: a newline ends each, an empty one is the last, and each is answered by the greatest length so far.
use Rattle.std.specs.Prelude.{◌≡◌, ℕ, ◌+◌, ◌==◌, nat_lt, max, if◌then◌else◌, List, [], ◌∷◌, ◌++◌}
use Rattle.std.specs.Fmt.{decimal}
use Rattle.items.specs.Items.{ItemStream, after_item}
use Rattle.server_core.specs.Talk.{Talk}

-- what bytes say behind so many of a line
abbrev pub heard_behind : ℕ → List ℕ → ItemStream ℕ
heard_behind count [] = record { items = []; whole = []; cut = nat_lt 0 count }
heard_behind count (b ∷ bytes) = if b == 10 then after_item count (heard_behind 0 bytes) else heard_behind (count + 1) bytes

-- the reply tells the greatest length so far, which the session keeps
pub record IsGreatest (session length reply session' : ℕ) : Type 0 where
  pub told : reply ≡ max session length
  pub kept : session' ≡ max session length

abbrev pub lengths : Talk ℕ
lengths = record {
  Reply = ℕ;
  Session = ℕ;
  Answers = IsGreatest;
  is_last = λ length. length == 0;
  fault_count = λ session length reply. 0;
  said = λ reply. decimal reply ++ 10 ∷ [];
  IsWell = λ length. Unit {0};
}
