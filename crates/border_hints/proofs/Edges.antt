-- What each edge of the borders knows.
use Rattle.std.proofs.Common.{◌≡◌, ◌≢◌, ◌⊎◌, ℕ, List, inl, inr, ap, sym, subst, ◌∙◌}
use Rattle.std.specs.Prelude.{Option, unwrap_or}
use Rattle.tree_geom.specs.declared.touch.Touch.{Touch}
use Rattle.tree_geom.specs.Geometry.{height_of}
use Rattle.border_hints.specs.declared.border.Edge.{Edge}
use Rattle.border_hints.specs.Borders.{BorderLinks, AreBorders, EdgeLinks, KnowsEdge, edge_links}

abbrev pub links_of : Edge → EdgeLinks
links_of e = edge_links e.besides e.leaf e.depth

-- the borders, by the fields of the code
abbrev pub made : ℕ → Touch → Edge → Option Edge → BorderLinks
made p touch first last = record { page_size = p; touch = touch; first = links_of first; last = links_of (unwrap_or last first) }

-- the edge knows what that page's is to know
abbrev pub KnowsAt : BorderLinks → ℕ → Edge → Type 0
KnowsAt b page e = (log : List Touch) (k : ℕ) → AreBorders log k b → KnowsEdge b.page_size log k (height_of b.page_size b.touch.size) page (links_of e)

module _ (p : ℕ) (touch : Touch) (first : Edge) (last : Option Edge) (b : BorderLinks) (page : ℕ) (same : made p touch first last ≡ b) where
  pub at_first : page ≡ touch.first → KnowsAt b page first
  at_first is =
      let P : BorderLinks → Type 0 = λ x. KnowsAt x page first in
      let K : List Touch → ℕ → ℕ → Type 0 = λ log k i. KnowsEdge p log k (height_of p touch.size) i (links_of first) in
      subst P same (λ log k are. subst (K log k) (sym is) are.first)

  pub at_last : (e : Edge) → (page ≡ b.touch.first) ⊎ (page ≡ b.touch.last) → page ≢ touch.first → unwrap_or last first ≡ e → KnowsAt b page e
  at_last e asked other here =
      let P : BorderLinks → Type 0 = λ x. KnowsAt x page e in
      let K : List Touch → ℕ → ℕ → Edge → Type 0 = λ log k i x. KnowsEdge p log k (height_of p touch.size) i (links_of x) in
      let is : page ≡ touch.last = elim asked [
        | inl first_page ↦ absurd (other (first_page ∙ sym (ap (λ (x : BorderLinks). x.touch.first) same)))
        | inr last_page ↦ last_page ∙ sym (ap (λ (x : BorderLinks). x.touch.last) same)
      ] in
      subst P same (λ log k are. subst (λ i. K log k i e) (sym is) (subst (K log k touch.last) here are.last))
