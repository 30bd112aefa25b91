-- What callers see of a pass and of its owner.
use Rattle.std.specs.Prelude.{◌≡◌, ℕ, ◌≤◌, List, [], ◌++◌, Option, Some}
use Rattle.atomic_table.specs.Seated.{TableId}
use Rattle.atomic_table.specs.declared.shared.Seat.{Seat}
use Rattle.turn_lock.specs.declared.view.Known.{Known}
use Rattle.turn_lock.specs.History.{Log, entries_by, Adds, LacksUngiven}
use Rattle.turn_lock.specs.Told.{kept_of, IsOwner}

-- a pass: which lock it is of, its caller, the prefix of the history that it has seen, the fixed data, and how many turns it has had
pub record PassView (E F : Type 0) : Type 0 where
  pub lock : TableId
  pub caller : ℕ
  pub seen : Log E
  pub fixed : Option F
  pub turns : ℕ

-- an owner: the same, with how many passes it made, how many of them are out, and the callers of those that it took back
pub record OwnerView (E F : Type 0) : Type 0 where
  pub lock : TableId
  pub made : ℕ
  pub out : ℕ
  pub seen : Log E
  pub fixed : Option F
  pub kept : List ℕ

module _ {S E F : Type 0} where
  abbrev pub view_of_pass : Seat S (Known E F) → ℕ → PassView E F
  view_of_pass s caller = record { lock = s.table_id; caller = caller; seen = s.me.0.seen; fixed = s.me.0.fixed; turns = s.me.0.turns }

  abbrev pub view_of_owner : Seat S (Known E F) → ℕ → ℕ → OwnerView E F
  view_of_owner s made out = record { lock = s.table_id; made = made; out = out; seen = s.me.0.seen; fixed = s.me.0.fixed; kept = kept_of s.me.0.stage }

  -- what is true of every owner
  pub record IsOwning (s : Seat S (Known E F)) (made out : ℕ) : Type 0 where
    pub owns : IsOwner s.me made out
    pub most : made ≤ 1024
    pub few : out ≤ made
    pub ungiven : LacksUngiven made s.me.0.seen

module _ {E F : Type 0} where
  -- A turn: the history that the act was given is what the pass had seen and then a gap of other callers' entries. The act added at most one entry, of the pass's caller, and the pass has seen the history that the act left.
  abbrev pub Turned : (Log E → F → Log E → Type 0) → PassView E F → PassView E F → Type 0
  Turned gives v w =
      (f : F) × (gap : Log E) × (v.fixed ≡ Some f) × (entries_by v.caller gap ≡ []) × Adds v.caller (v.seen ++ gap) w.seen × gives (v.seen ++ gap) f w.seen
