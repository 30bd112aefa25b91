-- What a clause sees of a page with its replicas, and of the pages of one update.
use Rattle.std.specs.Prelude.{◌≡◌, ℕ, ◌≤◌, List, [], ◌∷◌, length, All}
use Rattle.std.specs.List.{flat_map}
use Rattle.std.specs.Coded.{Coded, coded×, coded_ℕ, coded_list}
use base.Stored.{coded_via}
use Rattle.page_store.specs.House.{House}
use Rattle.page_store.specs.Page.{Spot, spot_coded, IsAmong}

-- a stored page: its bytes, and the spot of each replica
pub record Stored : Type 0 where
  pub bytes : List ℕ
  pub spots : List Spot

abbrev pub stored_coded : Coded Stored
stored_coded = coded_via (coded× (coded_list coded_ℕ) (coded_list spot_coded)) (λ (s : Stored). (s.bytes, s.spots)) (λ x y e i. record { bytes = (e i).0; spots = (e i).1 })

-- the pages of one update: the page size, how many pages there is room for, and the pages
pub record Cut : Type 0 where
  pub page_size : ℕ
  pub room : ℕ
  pub pages : List Stored

abbrev pub cut_coded : Coded Cut
cut_coded = coded_via (coded× coded_ℕ (coded× coded_ℕ (coded_list stored_coded))) (λ (c : Cut). (c.page_size, (c.room, c.pages))) (λ x y e i. record { page_size = (e i).0; room = (e i).1.0; pages = (e i).1.1 })

-- the bytes of the pages, one page after the other
abbrev pub bytes_of_pages : List Stored → List ℕ
bytes_of_pages pages = flat_map (λ (s : Stored). s.bytes) pages

-- each page has as many bytes as the page size
abbrev pub AllFull : ℕ → List Stored → Type 0
AllFull page_size pages = All (λ s. length s.bytes ≡ page_size) pages

-- each page but the last is full, and the last has from 1 byte to the page size
abbrev pub IsCut : ℕ → List Stored → Type 0
IsCut page_size [] = Unit {0}
IsCut page_size (page ∷ []) = (1 ≤ length page.bytes) × (length page.bytes ≤ page_size)
IsCut page_size (page ∷ next ∷ rest) = (length page.bytes ≡ page_size) × IsCut page_size (next ∷ rest)

-- each replica of each page lies in one of the houses
abbrev pub LieAmong : List House → List Stored → Type 0
LieAmong houses pages = All (λ s. All (IsAmong houses) s.spots) pages
