-- How work of many sessions ends early, where the outside failed.
use Rattle.std.proofs.Common.{ℕ, ◌+◌, ◌-◌, ◌^◌, ◌<◌, ◌≤◌, refl, sym, ap, subst, arith}
use Rattle.request_form.specs.Replies.{page_faults}
use Rattle.request_form.specs.declared.form.Fault.{Fault}
use Rattle.workload_law.specs.Ends.{IsOutside}
use Rattle.workload_run.specs.Ending.{ended_by, EndsEarly}

-- why it ended early, by what the doors counted
pub early_of : (IsPage : ℕ → Type 0) (fault : Fault) → IsOutside IsPage fault → (before after : ℕ) → (after < 2 ^ 64 - 1 → before + page_faults fault ≤ after)
    → EndsEarly IsPage (ended_by fault) before after
early_of IsPage fault (IsOutside.lost page one is) before after rose =
    subst (λ (x : Fault). EndsEarly IsPage (ended_by x) before after) (sym is)
    (record { page = page; is_page = one; lost = refl; rose = λ less. omega (arith, rose less, ap page_faults is) })
early_of IsPage fault (IsOutside.starved is) before after rose = subst (λ (x : Fault). EndsEarly IsPage (ended_by x) before after) (sym is) tt
early_of IsPage fault (IsOutside.held ticket is) before after rose = subst (λ (x : Fault). EndsEarly IsPage (ended_by x) before after) (sym is) tt
