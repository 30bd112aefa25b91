use Rattle.std.proofs.Common.{◌≡◌, ◌∙◌, ℕ, List, [], ◌∷◌, ◌++◌, take, ap, sym}
use Rattle.std.proofs.lemmas.List.{take_more}
use Rattle.snapshot.specs.Versions.{Version, under_blob}
use Rattle.read_board.specs.declared.refresh.Refresh.{Refresh}
use Rattle.read_board.proofs.chart.copy.Goals as goal

pub loop-r-preserved : goal.loop-r-preserved
loop-r-preserved c =
    let r : Refresh = c.r-item.result in
    let all = c.loop-r.all.items in
    let taken = take c.loop-r.r-index c.args.on.now in
    let pushed = rw c.if-is_err.ensures.negation at c.push.ensures.items in
    let same : c.in-Ok.snapshot ≡ r.snapshot = c.in-Ok.ensures ∙ ap (λ (blob : ℕ). under_blob r.snapshot blob) c.blob.ensures in
    let next = take_more c.args.on.now c.loop-r.r-index r c.loop-r-test.true in
    pushed ∙ (ap (λ (v : Version). all ++ record { blob = r.blob; snapshot = v } ∷ []) same
    ∙ (ap (λ (l : List Refresh). l ++ r ∷ []) c.loop-r.invariant ∙ (ap (λ (x : Refresh). taken ++ x ∷ []) c.r-item.is ∙ sym next)))
