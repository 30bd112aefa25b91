use Rattle.std.proofs.Common.{◌≡◌, ℕ, ◌+◌, ◌-◌, ◌*◌, ◌/◌, ◌%◌, ◌^◌, arith, ap, sym, subst, ◌∙◌}
use Rattle.tree_geom.specs.Geometry.{tree_range, height_of}
use Rattle.range_log.specs.Log.{newest_of}
use Rattle.snapshot.specs.Versions.{Version, size_now, NodesLieIn}
use Rattle.border_hints.specs.Numbered.{log_upto}
use Rattle.border_hints.specs.Borders.{newest_known}
use Rattle.border_hints.proofs.Turning.{halved, beside_even, beside_odd}
use Rattle.border_hints.proofs.descent.turn.Goals as goal

-- the same at the number by its other name
at_number : (newest : ℕ → ℕ) (result m n : ℕ) → m ≡ n → result ≡ newest m → result ≡ newest n
at_number newest result m n same is = is ∙ ap newest same

pub halves_known-low-requires-clause-at : goal.halves_known-low-requires-clause-at
halves_known-low-requires-clause-at g c =
    let t = c.args.ticket.now in
    let N : Version → ℕ → ℕ = λ s n. newest_known s (tree_range s.page_size (c.args.level + 1) n) in
    c.requires.at
    ∙ ap (N t.snapshot) (sym (halved c.args.page c.args.level))
    ∙ ap (λ s. N s (c.args.page / 2 ^ c.args.level / 2)) (sym c.requires.version)

pub halves_known-low-requires-clause-here : goal.halves_known-low-requires-clause-here
halves_known-low-requires-clause-here g c = subst (NodesLieIn c.args.nodes.now) (sym c.requires.version) c.requires.here

pub halves_known-low-requires-clause-tall : goal.halves_known-low-requires-clause-tall
halves_known-low-requires-clause-tall g c = c.requires.tall ∙ ap (λ s. height_of s.page_size (size_now s)) (sym c.requires.version)

-- the other half is that of the number beside
pub newest_below-requires-clause-known : goal.newest_below-requires-clause-known
newest_below-requires-clause-known g c =
    let t = c.args.ticket.now in
    let n : ℕ = c.args.page / 2 ^ c.args.level in
    let N : Version → ℕ → ℕ = λ s m. newest_known s (tree_range s.page_size c.args.level m) in
    let e : 2 * (n / 2) + 1 ≡ n + 1 = omega (arith, c.if-number-eq0.true) in
    c.halves_known-low.ensures.high ∙ ap (λ s. N s (2 * (n / 2) + 1)) c.requires.version ∙ ap (N t.snapshot) e

pub newest_below-requires-else-number-eq0-clause-known : goal.newest_below-requires-else-number-eq0-clause-known
newest_below-requires-else-number-eq0-clause-known g c =
    let t = c.args.ticket.now in
    let n : ℕ = c.args.page / 2 ^ c.args.level in
    let N : Version → ℕ → ℕ = λ s m. newest_known s (tree_range s.page_size c.args.level m) in
    let e : 2 * (n / 2) ≡ n - 1 = omega (arith, c.if-number-eq0.false) in
    c.halves_known-low.ensures.low ∙ ap (λ s. N s (2 * (n / 2))) c.requires.version ∙ ap (N t.snapshot) e

pub returns-then-number-eq0-clause-on : goal.returns-then-number-eq0-clause-on
returns-then-number-eq0-clause-on g c =
    let t = c.args.ticket.now in
    let n : ℕ = c.args.page / 2 ^ c.args.level in
    let N : Version → ℕ → ℕ = λ s m. newest_known s (tree_range s.page_size c.args.level m) in
    let e : 2 * (n / 2) ≡ n = omega (arith, c.if-number-eq0.true) in
    c.halves_known-low.ensures.low ∙ ap (λ s. N s (2 * (n / 2))) c.requires.version ∙ ap (N t.snapshot) e

pub returns-then-number-eq0-clause-off : goal.returns-then-number-eq0-clause-off
returns-then-number-eq0-clause-off g c =
    let t = c.args.ticket.now in
    let p = t.snapshot.page_size in
    let N : ℕ → ℕ = λ m. newest_of p (log_upto t) (t.version - 1) (tree_range p c.args.level m) in
    at_number N c.newest_below.result _ _ (sym (beside_even (c.args.page / 2 ^ c.args.level) c.if-number-eq0.true)) c.newest_below.ensures

pub returns-else-number-eq0-clause-on : goal.returns-else-number-eq0-clause-on
returns-else-number-eq0-clause-on g c =
    let t = c.args.ticket.now in
    let n : ℕ = c.args.page / 2 ^ c.args.level in
    let N : Version → ℕ → ℕ = λ s m. newest_known s (tree_range s.page_size c.args.level m) in
    let e : 2 * (n / 2) + 1 ≡ n = omega (arith, c.if-number-eq0.false) in
    c.halves_known-low.ensures.high ∙ ap (λ s. N s (2 * (n / 2) + 1)) c.requires.version ∙ ap (N t.snapshot) e

pub returns-else-number-eq0-clause-off : goal.returns-else-number-eq0-clause-off
returns-else-number-eq0-clause-off g c =
    let t = c.args.ticket.now in
    let p = t.snapshot.page_size in
    let n : ℕ = c.args.page / 2 ^ c.args.level in
    let odd : n % 2 ≡ 1 = omega (arith, c.if-number-eq0.false) in
    let N : ℕ → ℕ = λ m. newest_of p (log_upto t) (t.version - 1) (tree_range p c.args.level m) in
    at_number N c.newest_below-else-number-eq0.result _ _ (sym (beside_odd n odd)) c.newest_below-else-number-eq0.ensures
