-- What a clause sees of a provider's house, and how providers are numbered.
use Rattle.std.specs.Prelude.{◌≡◌, ℕ, ◌+◌, ◌≤◌, List, Some, slice_get}
use Rattle.std.specs.Coded.{Coded, coded×, coded_ℕ}
use base.Stored.{coded_via}
use Rattle.boxcar.specs.Table.{Shelves, shelves_coded}

-- a house: the provider whose pages it keeps, and the shelves that they lie on
pub record House : Type 0 where
  pub provider : ℕ
  pub shelves : Shelves

abbrev pub house_coded : Coded House
house_coded = coded_via (coded× coded_ℕ shelves_coded) (λ (h : House). (h.provider, h.shelves)) (λ x y e i. record { provider = (e i).0; shelves = (e i).1 })

-- a provider is one of so many, which are numbered from 1
abbrev pub IsProvider : ℕ → ℕ → Type 0
IsProvider count provider = (1 ≤ provider) × (provider ≤ count)

-- the first house is that of provider 1, and so on
abbrev pub AreNumbered : List House → Type 0
AreNumbered houses = (i : ℕ) (house : House) → slice_get houses i ≡ Some house → house.provider ≡ i + 1
