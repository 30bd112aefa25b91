-- A reader that learnt of a refresh reads what the store holds, from that refresh or from a later one.
use Rattle.std.proofs.Common.{◌≡◌, ◌⊎◌, ℕ, zero, suc, ◌+◌, ◌≤◌, ◌==◌, Bool, true, false, List, [], ◌∷◌, ◌++◌, length, take, fold, slice_get, Option, Some, None, if◌then◌else◌, refl, ap, sym, ◌∙◌, subst, arith, inl, inr, ⊎_elim, append-nil, Ok}
use Rattle.std.specs.Prelude.{nat_le}
use Rattle.std.proofs.lemmas.Bool.Decides.{nat_tests}
use Rattle.std.proofs.lemmas.List.{take-append-le}
use Rattle.std.proofs.lemmas.Option.{slice_get_within}
use mathlib.Core.List.{IsPrefix}
use Rattle.blob_model.specs.Content.{Update, content, content_from}
use Rattle.blob_model.specs.declared.call.Event.{Event}
use Rattle.snapshot.proofs.Lists.{length-updates}
use Rattle.version_manager.specs.Desks.{updates_in}
use Rattle.version_manager.specs.Log.{desk_at}
use Rattle.version_manager.specs.declared.journal.DeskFixed.{DeskFixed}
use Rattle.read_board.specs.declared.refresh.Refresh.{Refresh}
use Rattle.read_board.specs.Refreshes.{version_of, updates_of, on_board, covering, IsRising}
use Rattle.read_board.specs.Laws.{ReadsAgree, Agrees}
use Rattle.client_session.specs.Sessions.{SessionState}
use Rattle.read_board.proofs.Fronts.{prefix_count}
use Rattle.read_board.specs.declared.standing.Way.{Way}
use Rattle.read_board.specs.Reads.{Goes, goes_by}

abbrev step : ℕ → Option Refresh → Refresh → Option Refresh
step blob found e = if e.blob == blob then Some e else found

fold_on : (blob : ℕ) (found : Option Refresh) (xs ys : List Refresh) → fold (step blob) found (xs ++ ys) ≡ fold (step blob) (fold (step blob) found xs) ys
fold_on blob found [] ys = refl
fold_on blob found (x ∷ xs) ys = fold_on blob (step blob found x) xs ys

-- what is found stands in the list, or was found before
Found : ℕ → List Refresh → Refresh → Type 0
Found blob xs a = (i : ℕ) × (slice_get xs i ≡ Some a) × (a.blob ≡ blob)

same_blob : (e : Refresh) (blob : ℕ) → (e.blob == blob) ≡ true → e.blob ≡ blob
same_blob e blob here = grind (arith, nat_tests, here)

found_case : (blob : ℕ) (found : Option Refresh) (e a : Refresh) (b : Bool) → (e.blob == blob) ≡ b → (if b then Some e else found) ≡ Some a → (found ≡ Some a) ⊎ ((e ≡ a) × (e.blob ≡ blob))
found_case blob found e a true here is = inr (cc (is), same_blob e blob here)
found_case blob found e a false away is = inl is

found_in : (blob : ℕ) (xs : List Refresh) (found : Option Refresh) (a : Refresh) → fold (step blob) found xs ≡ Some a → (found ≡ Some a) ⊎ Found blob xs a
unfolding Found
found_in blob [] found a is = inl is
found_in blob (x ∷ xs) found a is =
    ⊎_elim
    (λ (t : step blob found x ≡ Some a). ⊎_elim (λ (u : found ≡ Some a). inl u) (λ (u : (x ≡ a) × (x.blob ≡ blob)). inr (0, cc (u.0), subst (λ (y : Refresh). y.blob ≡ blob) u.0 u.1)) (found_case blob found x a (x.blob == blob) refl t))
    (λ (t : (i : ℕ) × (slice_get xs i ≡ Some a) × (a.blob ≡ blob)). inr (suc t.0, t.1, t.2))
    (found_in blob xs (step blob found x) a is)

-- something is found still
still_case : (blob : ℕ) (a e : Refresh) (b : Bool) → (c : Refresh) × ((if b then Some e else Some a) ≡ Some c)
still_case blob a e true = (e, refl)
still_case blob a e false = (a, refl)

found_still : (blob : ℕ) (xs : List Refresh) (a : Refresh) → (c : Refresh) × (fold (step blob) (Some a) xs ≡ Some c)
found_still blob [] a = (a, refl)
found_still blob (x ∷ xs) a =
    let (c, is) = still_case blob a x (x.blob == blob) in
    let (d, then_is) = found_still blob xs c in
    (d, ap (λ (o : Option Refresh). fold (step blob) o xs) is ∙ then_is)

get_past : {A : Type 0} (xs ys : List A) (k j : ℕ) (a : A) → j ≡ length xs + k → slice_get ys k ≡ Some a → slice_get (xs ++ ys) j ≡ Some a
get_past [] ys k j a e is = let same : k ≡ j = omega (arith, e) in subst (λ (n : ℕ). slice_get ys n ≡ Some a) same is
get_past (x ∷ xs) ys k zero a e is = absurd (omega (arith, e))
get_past (x ∷ xs) ys k (suc j) a e is = get_past xs ys k j a (omega (arith, e)) is

pub get_front : {A : Type 0} (xs ys : List A) (k : ℕ) (a : A) → slice_get xs k ≡ Some a → slice_get (xs ++ ys) k ≡ Some a
get_front [] ys k a is = absurd (cc (is))
get_front (x ∷ xs) ys zero a is = is
get_front (x ∷ xs) ys (suc k) a is = get_front xs ys k a is

-- the later of two refreshes of a blob has the updates of the earlier one
later_has : (blob : ℕ) (seen rest : List Refresh) (a b : Refresh) → IsRising (seen ++ rest) → on_board blob seen ≡ Some a → fold (step blob) (Some a) rest ≡ Some b → IsPrefix (updates_of a) (updates_of b)
unfolding Found
later_has blob seen rest a b rising at is =
    ⊎_elim (λ (t : Some a ≡ Some b). let same : a ≡ b = cc (t) in subst (λ (y : Refresh). IsPrefix (updates_of a) (updates_of y)) same ([], append-nil (updates_of a)))
    (λ (t : (k : ℕ) × (slice_get rest k ≡ Some b) × (b.blob ≡ blob)).
    ⊎_elim (λ (u : None ≡ Some a). absurd (cc (u)))
    (λ (u : (i : ℕ) × (slice_get seen i ≡ Some a) × (a.blob ≡ blob)).
    rising u.0 (length seen + t.0) a b (omega (arith, slice_get_within seen u.0 a u.1)) (get_front seen rest u.0 a u.1) (get_past seen rest t.0 (length seen + t.0) b refl t.1) (u.2 ∙ sym t.2))
    (found_in blob seen None a at))
    (found_in blob rest (Some a) b is)

content_stays : (us vs : List Update) (v : ℕ) → IsPrefix us vs → v ≤ length us → content vs v ≡ content us v
content_stays us vs v p le = ap (λ (l : List Update). content_from [] (take v l)) (sym p.1) ∙ ap (λ (l : List Update). content_from [] l) (take-append-le v us p.0 le)

covers : (e : Refresh) (version : ℕ) → version ≤ version_of e → covering (Some e) version ≡ Some e
covers e version le = let yes : nat_le version (version_of e) ≡ true = grind (arith, nat_tests, le) in rw yes refl

-- the blob's last refresh stands in the list
pub on_stands : (blob : ℕ) (seen : List Refresh) (a : Refresh) → on_board blob seen ≡ Some a → (i : ℕ) × (slice_get seen i ≡ Some a) × (a.blob ≡ blob)
unfolding Found
on_stands blob seen a at = ⊎_elim (λ (u : None ≡ Some a). absurd (cc (u))) (λ (u : (i : ℕ) × (slice_get seen i ≡ Some a) × (a.blob ≡ blob)). u) (found_in blob seen None a at)

pub reads_agree : ReadsAgree
reads_agree f log seen list blob v a prefix rising at holds le =
    let rest = prefix.0 in
    let (b, is) = found_still blob rest a in
    let on : on_board blob list ≡ Some b = ap (on_board blob) (sym prefix.1) ∙ (fold_on blob None seen rest ∙ (ap (λ (o : Option Refresh). fold (step blob) o rest) at ∙ is)) in
    let rising' : IsRising (seen ++ rest) = subst IsRising (sym prefix.1) rising in
    let has = later_has blob seen rest a b rising' at is in
    let count = prefix_count (updates_of a) (updates_of b) has in
    let within : v ≤ length (updates_of a) = omega (arith, le, length-updates a.snapshot.rows) in
    let a_blob : a.blob ≡ blob = (on_stands blob seen a at).2 in
    record {
      refresh = b;
      on = on;
      goes = ap (λ (o : Option Refresh). covering o v) on ∙ covers b v (omega (arith, le, count, length-updates a.snapshot.rows, length-updates b.snapshot.rows));
      content = content_stays (updates_of a) (updates_of b) v has within
          ∙ (holds.tells.leave v le ∙ ap (λ (k : ℕ). content (updates_in (desk_at f log) k) v) a_blob);
    }

take_all : {A : Type 0} (xs : List A) → take (length xs) xs ≡ xs
take_all [] = refl
take_all (x ∷ xs) = ap (λ l. x ∷ l) (take_all xs)

-- a reader with a place reads what the store holds
pub whole_read : {D : Type 0} (f : DeskFixed) (log : List (ℕ × Event)) (list : List Refresh) (blob version : ℕ) → Agrees f log list blob version → (has_place : Bool) → has_place ≡ true
    → (s s' : SessionState D) (count : ℕ) (bytes expected : List ℕ) (way : Way) (before after : ℕ) → Goes (goes_by has_place list blob version) s blob version 0 count (Ok (bytes, way)) s' before after
    → count ≡ length expected → expected ≡ content (updates_in (desk_at f log) blob) version → bytes ≡ expected
whole_read f log list blob version a false has s s' count bytes expected way before after goes counted is = absurd (cc (has))
whole_read f log list blob version a true has s s' count bytes expected way before after goes counted is =
    let by = subst (λ (o : Option Refresh). Goes o s blob version 0 count (Ok (bytes, way)) s' before after) a.goes goes in
    let whole : content (updates_of a.refresh) version ≡ expected = a.content ∙ sym is in
    by.reads.bytes ∙ (ap (λ (l : List ℕ). take count l) whole ∙ (ap (λ (n : ℕ). take n expected) counted ∙ take_all expected))
