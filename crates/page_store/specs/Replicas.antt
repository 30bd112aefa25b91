-- What the replicas of a page keep.
use Rattle.std.specs.Prelude.{◌≡◌, ℕ, ◌≤◌, List, [], ◌∷◌, length, All}
use Rattle.page_store.specs.Page.{Page}
use Rattle.page_store.specs.declared.replicas.Others.{Others}
use Rattle.page_store.specs.declared.replicas.Others.TheVariants as Replicas

-- the replicas of a page after the first
abbrev pub others_in : Others → List Page
others_in Replicas.Alone = []
others_in (Replicas.Second page) = page ∷ []
others_in (Replicas.Several pages) = pages.items

-- each stands for the same bytes, and there are at most seven
pub record AreOthers (bytes : List ℕ) (others : List Page) : Type 0 where
  pub same : All (λ (p : Page). p.bytes ≡ bytes) others
  pub few : length others ≤ 7
