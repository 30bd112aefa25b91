-- One more provider among those kept so far.
use Rattle.std.proofs.Common.{◌≡◌, ℕ, suc, ◌+◌, ◌-◌, ◌<◌, ◌≤◌, not, min, List, length, take, insert, ap, sym, ◌∙◌, arith}
use Rattle.std.specs.List.{position_or_len}
use Rattle.std.proofs.lemmas.List.{take-take, take_min}
use Rattle.std.proofs.lemmas.List.Sums.{prefix_len-le-length}
use Rattle.replica_place.specs.Order.{comes_before, ordered}
use Rattle.replica_place.proofs.Orders.{length-ordered}
use Rattle.replica_place.proofs.Insertions.{take-insert, take-insert_past, prefix_len-take}

-- the position of a provider among the first n, in order
position_in : List ℕ → ℕ → ℕ → ℕ
position_in loads n p = position_or_len (comes_before loads p) (ordered loads n)

position_in-le : (loads : List ℕ) (n p : ℕ) → position_in loads n p ≤ n
unfolding position_in
position_in-le loads n p = omega (arith, length-ordered loads n, prefix_len-le-length (λ q. not (comes_before loads p q)) (ordered loads n))

ordered-next : (loads : List ℕ) (n p : ℕ) → p ≡ n + 1 → ordered loads p ≡ insert (ordered loads n) (position_in loads n p) p
unfolding position_in
ordered-next loads n p e =
    let up : p ≡ suc n = omega arith in
    ap (ordered loads) up ∙ ap (λ t. insert (ordered loads n) (position_or_len (comes_before loads t) (ordered loads n)) t) (sym up)

-- the position found among those kept, which are the first of the order
position_in-kept : (loads kept : List ℕ) (n p room k position : ℕ) → k ≡ min n room → take (min n room) kept ≡ take room (ordered loads n) → position ≡ position_or_len (comes_before loads p) (take k kept) → position ≡ min room (position_in loads n p)
unfolding position_in
position_in-kept loads kept n p room k position e same found =
    found ∙ ap (λ t. position_or_len (comes_before loads p) t) (ap (λ t. take t kept) e ∙ same) ∙ prefix_len-take (λ q. not (comes_before loads p q)) room (ordered loads n)

-- there is room for the provider
pub admitted : (loads kept kept' : List ℕ) (n p room k position : ℕ) → p ≡ n + 1 → k ≡ min n room → take (min n room) kept ≡ take room (ordered loads n) → position ≡ position_or_len (comes_before loads p) (take k kept) → position < room → kept' ≡ take room (insert kept position p) → take (min p room) kept' ≡ take room (ordered loads p)
admitted loads kept kept' n p room k position next e same found small put =
    let all = ordered loads n in
    let within : position_in loads n p ≤ n = position_in-le loads n p in
    let at : position ≡ min room (position_in loads n p) = position_in-kept loads kept n p room k position e same found in
    let here : position_in loads n p ≡ position = omega arith in
    let m = room - 1 in
    let j = min n m in
    let one : room ≡ suc m = omega arith in
    let some : min p room ≡ suc j = omega arith in
    let right : take room (ordered loads p) ≡ insert (take m all) position p = ap (take room) (ordered-next loads n p next) ∙ ap (λ t. take room (insert all t p)) here ∙ ap (λ t. take t (insert all position p)) one ∙ take-insert m position all p (omega arith) in
    let left : take (min p room) kept' ≡ insert (take j kept) position p = ap (take (min p room)) put ∙ take-take (min p room) room (insert kept position p) (omega arith) ∙ ap (λ t. take t (insert kept position p)) some ∙ take-insert j position kept p (omega arith) in
    let fewer : take j kept ≡ take j (take (min n room) kept) = sym (take-take j (min n room) kept (omega arith)) in
    let shared : take j (take room all) ≡ take j all = take-take j room all (omega arith) in
    let count : j ≡ min m (length all) = omega (arith, length-ordered loads n) in
    let whole : take j all ≡ take m all = ap (λ t. take t all) count ∙ take_min m all in
    left ∙ ap (λ t. insert t position p) (fewer ∙ ap (take j) same ∙ shared ∙ whole) ∙ sym right

-- there is no room for it
pub left_out : (loads kept : List ℕ) (n p room k position : ℕ) → p ≡ n + 1 → k ≡ min n room → take (min n room) kept ≡ take room (ordered loads n) → position ≡ position_or_len (comes_before loads p) (take k kept) → room ≤ position → take (min p room) kept ≡ take room (ordered loads p)
left_out loads kept n p room k position next e same found large =
    let all = ordered loads n in
    let within : position_in loads n p ≤ n = position_in-le loads n p in
    let at : position ≡ min room (position_in loads n p) = position_in-kept loads kept n p room k position e same found in
    let past : room ≤ position_in loads n p = omega arith in
    let full : min p room ≡ min n room = omega arith in
    ap (λ t. take t kept) full ∙ same ∙ sym (ap (take room) (ordered-next loads n p next) ∙ take-insert_past room (position_in loads n p) all p past (omega (arith, length-ordered loads n)))
