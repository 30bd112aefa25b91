use Rattle.std.proofs.Common.{ℕ, List, ◌∷◌, [], ◌++◌, ◌≡◌, sym, ap, subst, ◌∙◌, take}
use Rattle.branching.specs.Line.{Line, origin_from, origin_of, begun_before}
use Rattle.branching.specs.Rising.{IsRising}
use Rattle.branching.specs.declared.Branch.{Branch}
use Rattle.branching.proofs.Origins.{joined, joined_rises, origin_own, origin_shared}
use Rattle.branching.proofs.Lineage.branch.Goals as goal

-- what the new lineage keeps: the branches that begin below the version, and its own
kept : (bs : List Branch) (n at blob : ℕ) (made front whole slice : List Branch) → made ≡ [] → slice ≡ bs → n ≡ begun_before bs at
    → front ≡ made ++ take n slice → whole ≡ front ++ (record { after = at; blob = blob }) ∷ [] → whole ≡ joined bs at blob
kept bs n at blob made front whole slice none same count first rest =
    let own : List Branch = (record { after = at; blob = blob }) ∷ [] in
    rest ∙ ap (λ (xs : List Branch). xs ++ own) (first ∙ (ap (λ (xs : List Branch). xs ++ take n slice) none ∙ (ap (λ (xs : List Branch). take n xs) same ∙ ap (λ (k : ℕ). take k bs) count)))

items : (c : goal.After-result-1) → c.push_reserved.new.self.items ≡ joined c.self.inside.branches.items c.args.at c.args.new_blob
items c =
    kept c.self.inside.branches.items c.begun_before-kept.result c.args.at c.args.new_blob c.in_ok-branches.branches.items c.extend_from_slice.new.self.items _ c.deref.result.now
    c.in_ok-branches.ensures.items c.deref.ensures.value (c.begun_before-kept.ensures.is ∙ ap (λ (l : Line). begun_before l.branches c.args.at) (sym c.self.view_is))
    c.in_ok-extend_from_slice.ensures.items c.push_reserved.ensures.items

pub invariant_of-result : goal.invariant_of-result
invariant_of-result c = subst IsRising (sym (items c)) (joined_rises c.self.inside.branches.items c.args.at c.args.new_blob c.self.invariant)

pub returns-clause-own : goal.returns-clause-own
returns-clause-own c = λ version above.
    ap (λ (bs : List Branch). origin_from c.self.inside.root bs version) (items c) ∙ origin_own c.self.inside.root c.self.inside.branches.items c.args.at c.args.new_blob version above

pub returns-clause-shared : goal.returns-clause-shared
returns-clause-shared c = λ version below.
    ap (λ (bs : List Branch). origin_from c.self.inside.root bs version) (items c)
    ∙ (origin_shared c.self.inside.root c.self.inside.branches.items c.args.at c.args.new_blob version below ∙ ap (λ (l : Line). origin_of l version) c.self.view_is)
