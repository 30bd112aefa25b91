-- Calls and traffic, one after the other.
use Rattle.std.proofs.Common.{◌≡◌, ℕ, zero, suc, ◌+◌, arith}
use Rattle.page_store.specs.Calls.{Calls, uncalled, call_more, Traffic, no_door, handed_out, taken_back, AllCameBack}

pub one_call : {D : Type 0} (called : D → D → Type 0) (first last : D) → called first last → Calls called 1 first last
one_call called first last h = call_more uncalled h

-- some calls, and then others
pub calls_join : {D : Type 0} (called : D → D → Type 0) (m n : ℕ) (first door last : D) → Calls called m first door → Calls called n door last → Calls called (m + n) first last
calls_join called m zero first door last a uncalled = let e : m + 0 ≡ m = omega arith in rw e a
calls_join called m (suc n) first door last a (call_more b h) = let e : m + suc n ≡ suc (m + n) = omega arith in rw e (call_more (calls_join called m n first door _ a b) h)

-- the doors of some time, and then those of another
pub traffic_join : {M : Type 0} (hands_out takes_back : M → M → Type 0) (out back out' back' : ℕ) (first maker last : M)
    → Traffic hands_out takes_back out back first maker → Traffic hands_out takes_back out' back' maker last → Traffic hands_out takes_back (out + out') (back + back') first last
traffic_join hands_out takes_back out back zero zero first maker last a no_door =
    let e : out + 0 ≡ out = omega arith in
    let f : back + 0 ≡ back = omega arith in
    rw (e, f) a
traffic_join hands_out takes_back out back (suc out') back' first maker last a (handed_out b h) =
    let e : out + suc out' ≡ suc (out + out') = omega arith in
    rw e (handed_out (traffic_join hands_out takes_back out back out' back' first maker _ a b) h)
traffic_join hands_out takes_back out back out' (suc back') first maker last a (taken_back b h) =
    let e : back + suc back' ≡ suc (back + back') = omega arith in
    rw e (taken_back (traffic_join hands_out takes_back out back out' back' first maker _ a b) h)

pub all_came_back_join : {M : Type 0} (hands_out takes_back : M → M → Type 0) (first maker last : M)
    → AllCameBack hands_out takes_back first maker → AllCameBack hands_out takes_back maker last → AllCameBack hands_out takes_back first last
all_came_back_join hands_out takes_back first maker last (n, a) (m, b) = (n + m, traffic_join hands_out takes_back n n m m first maker last a b)
