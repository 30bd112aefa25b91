-- The origins of versions as blobs are made, and the lineages that tell them.
use Rattle.std.proofs.Common.{◌≡◌, suc, true, false, ◌==◌, ◌&&◌, nat_le, [], ◌∷◌, length, Some, None, inl, inr, refl, sym, ◌∙◌, arith}
use Rattle.std.proofs.lemmas.Bool.{cases_lt}
use Rattle.std.proofs.lemmas.Bool.Decides.{nat_tests}
use Rattle.branching.specs.Laws.{OriginsStay, NewAreOwn, BranchesOwn, BranchesShare, LinesStay, FirstLines, BranchedLines}

pub origin_older : OriginsStay
origin_older None older blob version le = refl
origin_older (Some q) older blob version le = let t : (blob == suc (length older) && nat_le version q.version) ≡ false = grind (arith, nat_tests) in rw t refl

pub origin_past : NewAreOwn
origin_past [] blob version lt = refl
origin_past (None ∷ l) blob version lt = origin_past l blob version (omega arith)
origin_past (Some q ∷ l) blob version lt =
    let t : (blob == suc (length l) && nat_le version q.version) ≡ false = grind (arith, nat_tests) in rw t (origin_past l blob version (omega arith))

pub origin_own : BranchesOwn
origin_own q l blob version e lt =
    let t : (blob == suc (length l) && nat_le version q.version) ≡ false = grind (arith, nat_tests) in rw t (origin_past l blob version (omega arith))

pub origin_shared : BranchesShare
origin_shared q l blob version e le =
    let t : (blob == suc (length l) && nat_le version q.version) ≡ true = grind (arith, nat_tests) in rw t refl

pub lines_stay : LinesStay
lines_stay parents next blob line le is version = is version ∙ sym (origin_older next parents blob version le)

pub first_lines : FirstLines
first_lines parents line own version = own version ∙ sym (origin_past parents (suc (length parents)) version (omega arith))

pub branched_lines : BranchedLines
branched_lines parents parent line branched is own shared version = elim (cases_lt parent.version version) [
  | inl above ↦ own version above ∙ sym (origin_own parent parents (suc (length parents)) version refl above)
  | inr upto ↦ shared version upto ∙ is version ∙ sym (origin_shared parent parents (suc (length parents)) version refl upto)
]
