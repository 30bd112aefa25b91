-- Where folded pages were put, over several calls of the doors.
use Rattle.std.proofs.Common.{◌≡◌, ℕ, List, [], ◌∷◌, ◌++◌, map, sym, subst}
use Rattle.std.specs.Prelude.{All}
use Rattle.std.proofs.lemmas.List.Elements.{All-push, All-weaker}
use Rattle.page_store.specs.Stored.{Stored}
use Rattle.page_fan.specs.Counts.{NoneFell}
use Rattle.page_fan.proofs.Rises.{none_fell_since}
use Rattle.tree_weaver.specs.Put.{WasPut}

module _ {D : Type 0} where
  -- pages that were put so far, and one more
  pub put_next : (called : D → D → Type 0) (faults : D → ℕ) (providers replicas : ℕ) (first old new : List D) (pages all : List Stored) (page : Stored) → all ≡ pages ++ page ∷ []
      → NoneFell (map faults old) (map faults new) → NoneFell (map faults first) (map faults old)
      → All (WasPut called faults providers replicas first old) pages → WasPut called faults providers replicas old new page → All (WasPut called faults providers replicas first new) all
  put_next called faults providers replicas first old new pages all page is kept begun puts put =
      let P : Stored → Type 0 = WasPut called faults providers replicas first new in
      let A : List Stored → Type 0 = λ l. All P l in
      subst A (sym is) (All-push P pages page (All-weaker (WasPut called faults providers replicas first old) P
      (λ x w. record { before = w.before; after = w.after; until_then = w.until_then; put = w.put; since_then = none_fell_since _ _ _ w.since_then kept }) pages puts)
      (record { before = put.before; after = put.after; until_then = none_fell_since _ _ _ begun put.until_then; put = put.put; since_then = put.since_then }))
