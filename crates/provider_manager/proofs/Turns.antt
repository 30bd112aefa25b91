-- Pages placed one after another.
use Rattle.std.proofs.Common.{◌≡◌, ℕ, ◌+◌, ◌*◌, inl, inr, List, [], ◌∷◌, ◌++◌, length, sum, All, sym, ap, ◌∙◌, subst, arith}
use Rattle.std.proofs.lemmas.List.{take-append-le, take_at, get_or_append_left, get_or_push, length_push}
use Rattle.std.proofs.lemmas.List.Elements.{All-push}
use Rattle.std.proofs.lemmas.List.Sums.{fold_push}
use Rattle.std.proofs.lemmas.Bool.{cases_lt}
use Rattle.replica_place.specs.Order.{least}
use Rattle.provider_manager.specs.Book.{Book}
use Rattle.provider_manager.specs.Loads.{with_replicas, loads_after, IsEven}
use Rattle.provider_manager.specs.Placed.{PlacedInTurn, IsSpread}

-- a book after these pages were placed from a start on
pub record IsAfter (start now : Book) (pages : List (List ℕ)) : Type 0 where
  pub in_turn : PlacedInTurn start.loads start.replicas pages
  pub spread : All (IsSpread (length start.loads) start.replicas) pages
  pub loads : now.loads ≡ loads_after start.loads pages
  pub count : length now.loads ≡ length start.loads
  pub sum_is : sum now.loads ≡ sum start.loads + length pages * start.replicas
  pub replicas : now.replicas ≡ start.replicas
  pub even : IsEven start.loads → IsEven now.loads

in_turn-push : (loads : List ℕ) (r : ℕ) (pages : List (List ℕ)) (page : List ℕ) → PlacedInTurn loads r pages → page ≡ least (loads_after loads pages) r → PlacedInTurn loads r (pages ++ page ∷ [])
in_turn-push loads r pages page h is = λ k l.
    elim (cases_lt k (length pages)) [
      | inl small ↦
          get_or_append_left pages (page ∷ []) [] k small ∙ h k small
          ∙ ap (λ ps. least (loads_after loads ps) r) (sym (take-append-le k pages (page ∷ []) (omega arith)))
      | inr large ↦
          let end : length pages ≡ k = omega (arith, length_push pages page) in
          get_or_push pages page [] k end ∙ is ∙ ap (λ ps. least (loads_after loads ps) r) (sym (take_at pages (page ∷ []) k end))
    ]

-- one page that is the only one
pub in_turn-one : (loads : List ℕ) (r : ℕ) (page : List ℕ) → page ≡ least loads r → PlacedInTurn loads r (page ∷ [])
in_turn-one loads r page is = in_turn-push loads r [] page (λ k l. absurd (omega (arith, l))) is

pub after-more : (start was now : Book) (pages : List (List ℕ)) (page : List ℕ) → IsAfter start was pages → page ≡ least was.loads was.replicas → IsSpread (length was.loads) was.replicas page → now.loads ≡ with_replicas was.loads page → length now.loads ≡ length was.loads → sum now.loads ≡ sum was.loads + was.replicas → now.replicas ≡ was.replicas → (IsEven was.loads → IsEven now.loads) → IsAfter start now (pages ++ page ∷ [])
after-more start was now pages page h is spread loads count total replicas even = record {
  in_turn = in_turn-push start.loads start.replicas pages page h.in_turn (is ∙ ap (λ r. least was.loads r) h.replicas ∙ ap (λ xs. least xs start.replicas) h.loads);
  spread =
      let P : ℕ → Type 0 = λ n. IsSpread n was.replicas page in
      let Q : ℕ → Type 0 = λ r. IsSpread (length start.loads) r page in
      All-push (IsSpread (length start.loads) start.replicas) pages page h.spread (subst Q h.replicas (subst P h.count spread));
  loads = loads ∙ ap (λ xs. with_replicas xs page) h.loads ∙ sym (fold_push with_replicas start.loads pages page);
  count = count ∙ h.count;
  sum_is = omega (arith, total, h.sum_is, h.replicas, ap (λ n. n * start.replicas) (length_push pages page));
  replicas = replicas ∙ h.replicas;
  even = λ e. even (h.even e);
}
