-- What has come of a frame behind its length.
use Rattle.std.specs.Prelude.{◌≡◌, ◌+◌, ◌<◌, ◌≤◌, ℕ, List, ◌++◌, length, take, refl}
use Rattle.std.specs.Coded.{Coded, code_by, coded×, coded_ℕ, coded_list}

-- the bytes that have come, and how many are still to come
pub record Come : Type 0 where
  pub bytes : List ℕ
  pub left : ℕ

abbrev pub come_coded : Coded Come
come_coded = code_by (List ℕ × ℕ) (coded× (coded_list coded_ℕ) coded_ℕ) (λ c. (c.bytes, c.left)) (λ p. record { bytes = p.0; left = p.1 }) (λ _. refl)

-- so many bytes have come off the front of a piece, at least one
pub record TakesBytes (old : Come) (piece : List ℕ) (new : Come) (count : ℕ) : Type 0 where
  pub some : 0 < count
  pub within : count ≤ length piece
  pub bytes : new.bytes ≡ old.bytes ++ take count piece
  pub left : new.left + count ≡ old.left
