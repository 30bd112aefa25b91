use Rattle.std.proofs.Common.{◌^◌, ◌<◌, ◌≤◌, arith}
use Rattle.std.proofs.Math.Nat.{pow-le-pow_right}
use Rattle.blob_core.proofs.state.State.walk_page.Goals as goal

pub add_tree-requires-clause-fits : goal.add_tree-requires-clause-fits
add_tree-requires-clause-fits c =
    let two : 0 < 2 = omega arith in
    let small : 2 ^ c.height-levels.result ≤ 2 ^ 38 = pow-le-pow_right two c.height-levels.ensures.bound in
    omega (arith, small)
