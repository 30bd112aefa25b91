-- One run of marked bytes more.
use Rattle.std.proofs.Common.{◌≡◌, ◌≢◌, ℕ, ◌+◌, ◌-◌, ◌<◌, ◌≤◌, List, length, take, drop, arith, ap, ◌∙◌, inl, inr, Bool, true, false, get_or}
use Rattle.std.specs.Prelude.{slice_range}
use Rattle.std.proofs.lemmas.Bool.{cases_lt}
use borrow.Rule.Slice.PartMut.{put_mid}
use Rattle.range_reader.proofs.Parts.{part_read, put_below, put_within, put_above}

module _ (from first past n : ℕ) (bytes out sub : List ℕ) (marks : List Bool) (order : first ≤ past) (within : past ≤ length out)
    (is : sub ≡ slice_range bytes (from + first) (from + first + n)) (count : n ≡ past - first) (len : length sub ≡ past - first) where
  -- the marked bytes are there up to the next run
  pub more_marked : (next : ℕ) → ((x : ℕ) → x < first → get_or marks x false ≡ true → get_or out x 0 ≡ get_or bytes (from + x) 0)
      → ((x : ℕ) → past ≤ x → x < next → get_or marks x false ≢ true)
      → (x : ℕ) → x < next → get_or marks x false ≡ true → get_or (put_mid first (past - first) out sub) x 0 ≡ get_or bytes (from + x) 0
  more_marked next before none x lt yes' = elim (cases_lt x first) [
    | inl old ↦ put_below 0 first (past - first) out sub (omega arith) x old ∙ before x old yes'
    | inr from' ↦ elim (cases_lt x past) [
      | inl run ↦
          let e : from + first + (x - first) ≡ from + x = omega arith in
          let m : from + first + n - (from + first) ≡ n = omega arith in
          put_within 0 first (past - first) out sub (omega arith) x from' (omega arith)
          ∙ ap (λ (l : List ℕ). get_or l (x - first) 0) is
          ∙ ap (λ k. get_or (take k (drop (from + first) bytes)) (x - first) 0) m
          ∙ part_read 0 bytes (from + first) n (x - first) (omega arith) ∙ ap (λ y. get_or bytes y 0) e
      | inr later ↦ absurd (none x later lt yes')
    ]
  ]

-- what isn't marked is as it was
pub more_unmarked : (first past : ℕ) (out sub : List ℕ) (marks : List Bool) → first ≤ past → past ≤ length out → length sub ≡ past - first
    → ((x : ℕ) → first ≤ x → x < past → get_or marks x false ≢ false)
    → (x : ℕ) → get_or marks x false ≡ false → get_or (put_mid first (past - first) out sub) x 0 ≡ get_or out x 0
more_unmarked first past out sub marks order within len all x unmarked = elim (cases_lt x first) [
  | inl old ↦ put_below 0 first (past - first) out sub (omega arith) x old
  | inr from' ↦ elim (cases_lt x past) [
    | inl run ↦ absurd (all x from' run unmarked)
    | inr later ↦ put_above 0 first (past - first) out sub (omega arith) x len (omega arith)
  ]
]
