-- The replicas of a page that are stored so far.
use Rattle.std.proofs.Common.{◌≡◌, ℕ, ◌+◌, ◌≤◌, List, [], ◌∷◌, ◌++◌, length, arith, sym, ◌∙◌, refl, length-append}
use Rattle.std.specs.Prelude.{Option, Some, None, IfSome, All}
use Rattle.std.specs.Option.{option_map_or}
use Rattle.std.proofs.lemmas.List.Elements.{All-push, All-nil}
use Rattle.page_store.specs.House.{House}
use Rattle.page_store.specs.Page.{Page, IsAmong}
use Rattle.page_store.specs.Stored.{Stored}
use Rattle.page_fan.specs.Answer.{with_replica}

-- the page stands for the bytes, lies in the houses, and has a replica and at most n
pub record KeptAs (houses : List House) (content : List ℕ) (n : ℕ) (page : Stored) : Type 0 where
  pub bytes : page.bytes ≡ content
  pub here : All (IsAmong houses) page.spots
  pub few : length page.spots ≤ n
  pub some : 1 ≤ length page.spots

pub kept_more : (houses : List House) (bytes : List ℕ) (n : ℕ) (stored : Option Stored) (page : Page)
    → IfSome stored (KeptAs houses bytes n) → IsAmong houses page.spot → page.bytes ≡ bytes → KeptAs houses bytes (n + 1) (with_replica stored page)
kept_more houses bytes n (Some s) page h a b = record {
  bytes = b;
  here = All-push (IsAmong houses) s.spots page.spot h.here a;
  few = omega (arith, h.few, length-append s.spots (page.spot ∷ []));
  some = omega (arith, length-append s.spots (page.spot ∷ []));
}
kept_more houses bytes n None page h a b = record {
  bytes = b;
  here = All-push (IsAmong houses) [] page.spot (All-nil (IsAmong houses)) a;
  few = omega arith;
  some = omega arith;
}

pub spots_more : (stored : Option Stored) (page : Page) → (with_replica stored page).spots ≡ option_map_or (λ (s : Stored). s.spots) stored [] ++ page.spot ∷ []
spots_more (Some s) page = refl
spots_more None page = refl

pub kept_longer : (houses : List House) (bytes : List ℕ) (n : ℕ) (stored : Option Stored) → IfSome stored (KeptAs houses bytes n) → IfSome stored (KeptAs houses bytes (n + 1))
kept_longer houses bytes n (Some s) h = record { bytes = h.bytes; here = h.here; few = omega (arith, h.few); some = h.some }
kept_longer houses bytes n None h = tt

-- what is kept so far stands for the same bytes
pub same_bytes : (houses : List House) (bytes : List ℕ) (n : ℕ) (stored : Option Stored) (page : Page) → IfSome stored (KeptAs houses bytes n) → page.bytes ≡ bytes → IfSome stored (λ (s : Stored). s.bytes ≡ page.bytes)
same_bytes houses bytes n (Some s) page h is = h.bytes ∙ sym is
same_bytes houses bytes n None page h is = tt
