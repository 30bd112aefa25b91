-- What a keeper keeps, as it adds a refresh and publishes.
use Rattle.std.proofs.Common.{◌≡◌, ℕ, zero, suc, ◌<◌, ◌≤◌, ◌==◌, Bool, true, false, List, [], ◌∷◌, ◌++◌, length, refl, ap, sym, ◌∙◌, subst, arith, if◌then◌else◌}
use Rattle.std.specs.List.{All}
use mathlib.Core.List.{IsPrefix}
use Rattle.client_session.specs.Sessions.{StoreState}
use Rattle.read_board.specs.declared.refresh.Refresh.{Refresh}
use Rattle.read_board.specs.Fronts.{BoardId, FrontState}
use Rattle.read_board.specs.Refreshes.{place, put, latest_of, IsOn}
use Rattle.read_board.specs.Keeping.{IsKeeping}
use Rattle.read_board.proofs.Fronts.{prefix_self, prefix_trans}
use Rattle.read_board.proofs.Latest.{put_latest}

few_case : (n : ℕ) (x r : Refresh) (xs : List Refresh) (b : Bool) → ((m : ℕ) → length xs ≤ m → place r.blob xs < m → length (put xs r) ≤ m) → suc (length xs) ≤ n → (if b then 0 else suc (place r.blob xs)) < n
    → length (if b then r ∷ xs else x ∷ put xs r) ≤ n
few_case n x r xs true more few there = few
few_case zero x r xs false more few there = absurd (omega (arith, few))
few_case (suc m) x r xs false more few there = let rest = more m (omega (arith, few)) (omega (arith, there)) in omega (arith, rest)

put_few : (n : ℕ) (rs : List Refresh) (r : Refresh) → length rs ≤ n → place r.blob rs < n → length (put rs r) ≤ n
put_few n [] r few there = there
put_few n (x ∷ xs) r few there = few_case n x r xs (x.blob == r.blob) (λ m. put_few m xs r) few there

first_of : (P : Refresh → Type 0) (x : Refresh) (xs : List Refresh) → All P (x ∷ xs) → P x
first_of P x xs all = all 0 x (omega arith)

rest_of : (P : Refresh → Type 0) (x : Refresh) (xs : List Refresh) → All P (x ∷ xs) → All P xs
rest_of P x xs all k d lt = all (suc k) d (omega (arith, lt))

both_of : (P : Refresh → Type 0) (x : Refresh) (xs : List Refresh) → P x → All P xs → All P (x ∷ xs)
both_of P x xs p all zero d lt = p
both_of P x xs p all (suc k) d lt = all k d (omega (arith, lt))

put_case : (P : Refresh → Type 0) (x r : Refresh) (xs : List Refresh) (b : Bool) → All P (put xs r) → All P (x ∷ xs) → P r → All P (if b then r ∷ xs else x ∷ put xs r)
put_case P x r xs true more all p = both_of P r xs p (rest_of P x xs all)
put_case P x r xs false more all p = both_of P x (put xs r) (first_of P x xs all) more

all_put : (P : Refresh → Type 0) (rs : List Refresh) (r : Refresh) → All P rs → P r → All P (put rs r)
all_put P [] r all p = both_of P r [] p all
all_put P (x ∷ xs) r all p = put_case P x r xs (x.blob == r.blob) (all_put P xs r (rest_of P x xs all) p) all p

pub added : (front front' shown chart : FrontState) (on on' : List Refresh) (r : Refresh) → IsKeeping front shown chart on → front'.list ≡ front.list ++ r ∷ [] → front'.board ≡ front.board
    → on' ≡ put on r → place r.blob on < 64 → IsOn front.board.store r → IsKeeping front' shown chart on'
added front front' shown chart on on' r k list board put_is there of_store = record {
  latest = put_is ∙ (put_latest front.list on r k.latest ∙ ap latest_of (sym list));
  few = subst (λ (l : List Refresh). length l ≤ 64) (sym put_is) (put_few 64 on r k.few there);
  of_store = subst (λ (stores : List StoreState). All (IsOn stores) on') (ap (λ (b : BoardId). b.store) (sym board))
      (subst (λ (l : List Refresh). All (IsOn front.board.store) l) (sym put_is) (all_put (IsOn front.board.store) on r k.of_store of_store));
  is_shown = k.is_shown;
  one_board = k.one_board ∙ sym board;
  begun = subst (λ (l : List Refresh). IsPrefix shown.list l) (sym list) (prefix_trans shown.list front.list (front.list ++ r ∷ []) k.begun (r ∷ [], refl));
}

pub published : (front shown shown' chart chart' : FrontState) (on : List Refresh) → IsKeeping front shown chart on → shown' ≡ front → chart' ≡ front → IsKeeping front shown' chart' on
published front shown shown' chart chart' on k shown_is chart_is = record {
  latest = k.latest;
  few = k.few;
  of_store = k.of_store;
  is_shown = chart_is ∙ sym shown_is;
  one_board = ap (λ (f : FrontState). f.board) shown_is;
  begun = subst (λ (l : List Refresh). IsPrefix l front.list) (ap (λ (f : FrontState). f.list) (sym shown_is)) (prefix_self front.list);
}

-- nothing new is shown
pub kept : (front shown chart chart' : FrontState) (on : List Refresh) → IsKeeping front shown chart on → chart' ≡ chart → IsKeeping front shown chart' on
kept front shown chart chart' on k same = record {
  latest = k.latest;
  few = k.few;
  of_store = k.of_store;
  is_shown = same ∙ k.is_shown;
  one_board = k.one_board;
  begun = k.begun;
}

pub of_store_as : (front front' : FrontState) (on on' : List Refresh) → front' ≡ front → on' ≡ on → All (IsOn front.board.store) on → All (IsOn front'.board.store) on'
of_store_as front front' on on' same items all =
    subst (λ (f : FrontState). All (IsOn f.board.store) on') (sym same) (subst (λ (l : List Refresh). All (IsOn front.board.store) l) (sym items) all)
