-- The branches that begin below a version, and the blob to which they lead.
use Rattle.std.proofs.Common.{◌≡◌, ℕ, ◌-◌, ◌<◌, ◌≤◌, zero, suc, Bool, true, false, if◌then◌else◌, nat_lt, List, [], ◌∷◌, ◌++◌, length, take, get_or, refl, sym, ◌∙◌, ap, arith}
use Rattle.std.proofs.lemmas.Bool.Decides.{nat_tests}
use Rattle.std.proofs.lemmas.List.{get_or-take, length-take-le}
use Rattle.std.proofs.lemmas.List.Sorted.{IsNonDecreasingBy-push, IsNonDecreasingBy-take}
use Rattle.branching.specs.Line.{origin_from, begun_before}
use Rattle.branching.specs.Rising.{IsRising}
use Rattle.branching.specs.declared.Branch.{Branch}

pub count_is : (xs : List Branch) (version i : ℕ) → i ≤ length xs
    → ((k : ℕ) (d : Branch) → k < i → nat_lt (get_or xs k d).after version ≡ true)
    → ((k : ℕ) (d : Branch) → i ≤ k → k < length xs → nat_lt (get_or xs k d).after version ≡ false)
    → i ≡ begun_before xs version
count_is [] version i within below above = omega arith
count_is (x ∷ xs) version zero within below above = let e : nat_lt x.after version ≡ false = above 0 x (omega arith) (omega arith) in rw e refl
count_is (x ∷ xs) version (suc i) within below above =
    let e : nat_lt x.after version ≡ true = below 0 x (omega arith) in
    let rest : i ≡ begun_before xs version = count_is xs version i (omega arith) (λ k d h. below (suc k) d (omega arith)) (λ k d h l. above (suc k) d (omega arith) (omega arith)) in
    rw e (omega arith)

pub origin_none : (own : ℕ) (bs : List Branch) (version : ℕ) → begun_before bs version ≡ 0 → origin_from own bs version ≡ own
origin_none own [] version none = refl
origin_none own (b ∷ bs) version none =
    elim (nat_lt b.after version) as (λ t. (if t then suc (begun_before bs version) else 0) ≡ 0 → (if t then origin_from b.blob bs version else own) ≡ own) [
      | true ↦ λ e. (let no : ⊥ = omega (arith, e) in absurd no)
      | false ↦ λ e. refl
    ] none

pub origin_some : (own : ℕ) (bs : List Branch) (version n : ℕ) (d : Branch) → begun_before bs version ≡ suc n → origin_from own bs version ≡ (get_or bs n d).blob
origin_some own [] version n d some = (let no : ⊥ = omega (arith, some) in absurd no)
origin_some own (b ∷ bs) version zero d some =
    elim (nat_lt b.after version) as (λ t. (if t then suc (begun_before bs version) else 0) ≡ suc zero → (if t then origin_from b.blob bs version else own) ≡ b.blob) [
      | true ↦ λ e. origin_none b.blob bs version (omega (arith, e))
      | false ↦ λ e. (let no : ⊥ = omega (arith, e) in absurd no)
    ] some
origin_some own (b ∷ bs) version (suc m) d some =
    elim (nat_lt b.after version) as (λ t. (if t then suc (begun_before bs version) else 0) ≡ suc (suc m) → (if t then origin_from b.blob bs version else own) ≡ (get_or bs m d).blob) [
      | true ↦ λ e. origin_some b.blob bs version m d (omega (arith, e))
      | false ↦ λ e. (let no : ⊥ = omega (arith, e) in absurd no)
    ] some

-- the branches that begin below a version, and then one that begins there
abbrev pub joined : List Branch → ℕ → ℕ → List Branch
joined bs at blob = take (begun_before bs at) bs ++ (record { after = at; blob = blob }) ∷ []

new_branch : (own at blob version : ℕ) (t : Bool) → nat_lt at version ≡ t → origin_from own ((record { after = at; blob = blob }) ∷ []) version ≡ (if t then blob else own)
new_branch own at blob version t e = rw e refl

pub origin_shared : (own : ℕ) (bs : List Branch) (at blob version : ℕ) → version ≤ at → origin_from own (joined bs at blob) version ≡ origin_from own bs version
origin_shared own [] at blob version le = new_branch own at blob version false (grind (arith, nat_tests))
origin_shared own (b ∷ bs) at blob version le =
    elim (nat_lt b.after at) as (λ t. nat_lt b.after at ≡ t →
    origin_from own (take {A = Branch} (if t then suc (begun_before bs at) else 0) (b ∷ bs) ++ (record { after = at; blob = blob }) ∷ []) version
    ≡ (if nat_lt b.after version then origin_from b.blob bs version else own)) [
      | true ↦ λ e. ap (λ (rest : ℕ). if nat_lt b.after version then rest else own) (origin_shared b.blob bs at blob version le)
      | false ↦ λ e. (let late : nat_lt b.after version ≡ false = grind (arith, nat_tests) in
          new_branch own at blob version false (grind (arith, nat_tests)) ∙ sym (ap (λ (t : Bool). if t then origin_from b.blob bs version else own) late))
    ] refl

pub origin_own : (own : ℕ) (bs : List Branch) (at blob version : ℕ) → at < version → origin_from own (joined bs at blob) version ≡ blob
origin_own own [] at blob version lt = new_branch own at blob version true (grind (arith, nat_tests))
origin_own own (b ∷ bs) at blob version lt =
    elim (nat_lt b.after at) as (λ t. nat_lt b.after at ≡ t →
    origin_from own (take {A = Branch} (if t then suc (begun_before bs at) else 0) (b ∷ bs) ++ (record { after = at; blob = blob }) ∷ []) version ≡ blob) [
      | true ↦ λ e. (let early : nat_lt b.after version ≡ true = grind (arith, nat_tests) in
          ap (λ (t : Bool). if t then origin_from b.blob (joined bs at blob) version else own) early ∙ origin_own b.blob bs at blob version lt)
      | false ↦ λ e. new_branch own at blob version true (grind (arith, nat_tests))
    ] refl

below_version : (bs : List Branch) (version k : ℕ) (d : Branch) → k < begun_before bs version → (get_or bs k d).after < version
below_version [] version k d h = (let no : ⊥ = omega (arith, h) in absurd no)
below_version (b ∷ bs) version zero d h =
    elim (nat_lt b.after version) as (λ t. nat_lt b.after version ≡ t → 0 < (if t then suc (begun_before bs version) else 0) → b.after < version) [
      | true ↦ λ e h. grind (arith, nat_tests)
      | false ↦ λ e h. (let no : ⊥ = omega (arith, h) in absurd no)
    ] refl h
below_version (b ∷ bs) version (suc k) d h =
    elim (nat_lt b.after version) as (λ t. suc k < (if t then suc (begun_before bs version) else 0) → (get_or bs k d).after < version) [
      | true ↦ λ h. below_version bs version k d (omega (arith, h))
      | false ↦ λ h. (let no : ⊥ = omega (arith, h) in absurd no)
    ] h

begun_within : (bs : List Branch) (version : ℕ) → begun_before bs version ≤ length bs
begun_within [] version = omega arith
begun_within (b ∷ bs) version =
    elim (nat_lt b.after version) as (λ t. (if t then suc (begun_before bs version) else 0) ≤ suc (length bs)) [
      | true ↦ omega (arith, begun_within bs version)
      | false ↦ omega arith
    ]

pub joined_rises : (bs : List Branch) (at blob : ℕ) → IsRising bs → IsRising (joined bs at blob)
joined_rises bs at blob rising =
    let n = begun_before bs at in
    IsNonDecreasingBy-push (λ (b : Branch). b.after) (take n bs) (record { after = at; blob = blob }) (IsNonDecreasingBy-take (λ (b : Branch). b.after) n bs rising)
    (λ d some.
    let count : length (take n bs) ≡ n = length-take-le n bs (begun_within bs at) in
    let same : get_or (take n bs) (length (take n bs) - 1) d ≡ get_or bs (n - 1) d =
    ap (λ (m : ℕ). get_or (take n bs) (m - 1) d) count ∙ get_or-take n bs (n - 1) d (omega arith) in
    let under : (get_or bs (n - 1) d).after < at = below_version bs at (n - 1) d (omega arith) in
    let e : (get_or (take n bs) (length (take n bs) - 1) d).after ≡ (get_or bs (n - 1) d).after = ap (λ (b : Branch). b.after) same in
    omega arith)
