use Rattle.std.proofs.Common.{◌≡◌, ◌≤◌, ℕ, Some, None, cond, ltb, length, reverse, rules, arith, not}
use borrow.Author.Tests.{tests}
use Rattle.std.specs.List.{position_or_len}
use Rattle.std.proofs.lemmas.List.{length-reverse}
use Rattle.std.proofs.lemmas.List.Sums.{prefix_len-le-length}
use Rattle.std.proofs.lemmas.Iterator.Search.{position_from_yields_List}
use Rattle.std.proofs.lemmas.Iterator.Adapters.{YieldsList-from_rev_slice}
use Rattle.file_names.specs.Paths.{is_slash}
use Rattle.file_names.proofs.path.behind_slash.Goals as goal

some_at : (n m k : ℕ) → Some k ≡ cond (ltb n m) (Some n) None → k ≡ n
some_at n m k e = grind arith

none_at : (n m : ℕ) → None ≡ cond (ltb n m) (Some n) None → n ≤ m → m ≡ n
none_at n m e le = grind arith

pub returns-in-Some-clause-behind : goal.returns-in-Some-clause-behind
returns-in-Some-clause-behind c =
    let found : c.position.result ≡ cond (ltb (position_or_len is_slash (reverse c.args.text.now)) (length (reverse c.args.text.now))) (Some (position_or_len is_slash (reverse c.args.text.now))) None =
    position_from_yields_List is_slash _ _ c.position.result c.position.ensures.ran (YieldsList-from_rev_slice c.args.text.now cc) (λ x b q k. search (rules, tests)) in
    some_at (position_or_len is_slash (reverse c.args.text.now)) (length (reverse c.args.text.now)) c.in-Some.count (cc)

pub returns-in-None-clause-behind : goal.returns-in-None-clause-behind
returns-in-None-clause-behind c =
    let found : c.position.result ≡ cond (ltb (position_or_len is_slash (reverse c.args.text.now)) (length (reverse c.args.text.now))) (Some (position_or_len is_slash (reverse c.args.text.now))) None =
    position_from_yields_List is_slash _ _ c.position.result c.position.ensures.ran (YieldsList-from_rev_slice c.args.text.now cc) (λ x b q k. search (rules, tests)) in
    let counted = none_at (position_or_len is_slash (reverse c.args.text.now)) (length (reverse c.args.text.now)) (cc) (prefix_len-le-length (λ byte. not (is_slash byte)) (reverse c.args.text.now)) in
    omega (arith, counted, length-reverse c.args.text.now)
