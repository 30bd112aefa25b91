-- What a clause sees of a reference to a page, and where a page lies.
use Rattle.std.specs.Prelude.{◌≡◌, ℕ, ◌-◌, List, length, slice_get, IsSomeAnd}
use Rattle.std.specs.Coded.{Coded, coded×, coded_ℕ, coded_list}
use base.Stored.{coded_via}
use Rattle.boxcar.specs.Table.{id_at}
use Rattle.page_store.specs.House.{House, IsProvider}

-- where a page lies: the provider that has it, which page there it is, from 0, its shelf, and the mark of that shelf
pub record Spot : Type 0 where
  pub provider : ℕ
  pub place : ℕ
  pub shelf : ℕ
  pub mark : ℕ

abbrev pub spot_coded : Coded Spot
spot_coded = coded_via (coded× coded_ℕ (coded× coded_ℕ (coded× coded_ℕ coded_ℕ))) (λ (p : Spot). (p.provider, (p.place, (p.shelf, p.mark))))
    (λ x y e i. record { provider = (e i).0; place = (e i).1.0; shelf = (e i).1.1.0; mark = (e i).1.1.1 })

-- a page: where it lies, and the bytes that were put
pub record Page : Type 0 where
  pub spot : Spot
  pub bytes : List ℕ

abbrev pub page_coded : Coded Page
page_coded = coded_via (coded× spot_coded (coded_list coded_ℕ)) (λ (p : Page). (p.spot, p.bytes)) (λ x y e i. record { spot = (e i).0; bytes = (e i).1 })

-- a page that lies at this spot was stored in this house, and has the house's provider
pub record IsIn (house : House) (spot : Spot) : Type 0 where
  pub provided : spot.provider ≡ house.provider
  pub shown : spot.mark ≡ id_at house.shelves.buckets spot.shelf

-- the spot is in the house of its provider, which is one of these
pub record IsAmong (houses : List House) (spot : Spot) : Type 0 where
  pub known : IsProvider (length houses) spot.provider
  pub kept : IsSomeAnd (slice_get houses (spot.provider - 1)) (λ house. IsIn house spot)
