-- The steps on what is published keep its rule.
use Rattle.std.proofs.Common.{◌≡◌, ◌≢◌, ◌∙◌, ℕ, List, [], ◌∷◌, ◌++◌, fold, set, Option, Some, None, refl, ap, subst, ⊎_elim, Result, Ok, Err, MatchResult, MatchBool, true, false}
use Rattle.std.specs.Arc.{arc_value}
use Rattle.std.specs.Result.{is_err, is_ok}
use mathlib.Core.Option.{some}
use lib.ListN.{get_elem?}
use Rattle.std.proofs.lemmas.List.Sums.{fold_push}
use Rattle.left_right.specs.Register.{Admits, TurnsAt, Forks, Merges}
use Rattle.atomic_table.proofs.Lists.{at_set, at_snoc}
use Rattle.read_board.specs.Fronts.{FrontState}
use Rattle.read_board.specs.declared.shown.Shown.{Shown}
use Rattle.read_board.specs.Boards.{front_of, Fits, Keeps, Sees, newcomer}

none_fits : (x : Shown) → Fits x None
none_fits x f e = absurd (cc (e))

some_fits : (x : Shown) → Fits x (Some (front_of x))
some_fits x f e = let same : front_of x ≡ f = cc (e) in ap (λ (t : FrontState). t.board) same

set_fits : (x : Shown) (views : List (Option FrontState)) (seat : ℕ) (w : Option FrontState) → Fits x w → Keeps x views → Keeps x (set views seat w)
set_fits x views seat w mine others j u e =
    ⊎_elim (λ (t : (j ≡ seat) × (w ≡ u)). subst (λ (v : Option FrontState). Fits x v) t.1 mine) (λ (t : (j ≢ seat) × (get_elem? views j ≡ some u)). others j u t.1) (at_set views seat j w u e)

snoc_fits : (x : Shown) (views : List (Option FrontState)) (w : Option FrontState) → Fits x w → Keeps x views → Keeps x (views ++ w ∷ [])
snoc_fits x views w mine others j u e = ⊎_elim (others j u) (λ (same : w ≡ u). subst (λ (v : Option FrontState). Fits x v) same mine) (at_snoc views w u j e)

pub admits : Admits Keeps newcomer
admits x views h = snoc_fits x views newcomer (none_fits x) h

-- what is published next is of the same board
pub turns : (seat : ℕ) (v : Option FrontState) (x y : Shown) → (front_of y).board ≡ (front_of x).board → TurnsAt Keeps seat v x y Sees
turns seat v x y same views h at = (
  Some (front_of y),
  set_fits y views seat (Some (front_of y)) (some_fits y) (λ j u e f is. same ∙ h j u e f is),
  ((λ f is. same ∙ h seat v at f is), refl),
)

pub forks : (seat : ℕ) (v : Option FrontState) → Forks Keeps seat v v v
forks seat v x views h at = snoc_fits x (set views seat v) v (h seat v at) (set_fits x views seat v (h seat v at) h)

pub merges : (seat : ℕ) (v : Option FrontState) (other : ℕ) (w : Option FrontState) → Merges Keeps seat v other w w newcomer
merges seat v other w x views h at apart there =
    let was : Fits x w = ⊎_elim (λ (t : (other ≡ seat) × (w ≡ w)). absurd (apart t.0)) (λ (t : (other ≢ seat) × (get_elem? views other ≡ some w)). h other w t.1) (at_set views seat other w w there) in
    set_fits x (set views seat w) other newcomer (none_fits x) (set_fits x views seat w was h)

-- the state after the last chart was absorbed is that chart
pub last_is : {A C : Type 0} (g : A → C) (new s : C) (all more : List A) (op : A) → new ≡ fold (λ (x : C) (a : A). g a) s all → all ≡ more ++ op ∷ [] → new ≡ g op
last_is {A} {C} g new s all more op is pending = is ∙ (ap (fold (λ (x : C) (a : A). g a) s) pending ∙ fold_push (λ (x : C) (a : A). g a) s more op)

pub when_ok : {A E : Type 0} (P : A → Type 0) (Q : E → Type 0) (r : Result A E) → is_err r ≡ false → MatchResult r P Q → (a : A) × P a
when_ok P Q (Ok a) fine h = (a, h)
when_ok P Q (Err e) fine h = absurd (cc (fine))

pub when_err : {A E : Type 0} (P : A → Type 0) (Q : E → Type 0) (r : Result A E) → is_err r ≡ true → MatchResult r P Q → (e : E) × Q e
when_err P Q (Ok a) failed h = absurd (cc (failed))
when_err P Q (Err e) failed h = (e, h)

-- what is shown after a publication, or was shown before it
pub shown_next : {E : Type 0} (P Q : Type 0) (r : Result (Unit {0}) E) (old new : Shown) (v w : Option FrontState) (state chart : FrontState) → state ≡ chart
    → MatchResult r (λ _. (arc_value new.chart ≡ state) × P) (λ _. (new ≡ old) × Q) → MatchResult r (λ _. Sees v old new w) (λ _. w ≡ v)
    → MatchBool (is_ok r) ((arc_value new.chart ≡ chart) × (w ≡ Some chart)) (new ≡ old)
shown_next P Q (Ok u) old new v w state chart is values rule = (values.0 ∙ is, rule.1 ∙ ap (λ (c : FrontState). Some c) (values.0 ∙ is))
shown_next P Q (Err e) old new v w state chart is values rule = values.0
