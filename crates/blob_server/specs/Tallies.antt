-- What the passes of the queue know, and what is so of all of them.
use Rattle.std.specs.Prelude.{◌≡◌, ℕ, ◌+◌, List, [], ◌∷◌, ◌++◌, length, sum_by, All}
use Rattle.blob_server.specs.declared.tally.Tally.{Tally}

-- into so many parts the right to know the whole is cut: one for each worker at most
abbrev pub all_parts : ℕ
all_parts = 16

module _ {P : Type 0} where
  abbrev pub tally : ℕ → ℕ → List P → Tally P
  tally parts put taken = record { parts = parts; put = put; taken = taken }

  -- what two passes know together
  abbrev pub both : Tally P → Tally P → Tally P
  both v w = tally (v.parts + w.parts) (v.put + w.put) (v.taken ++ w.taken)

  -- what is known after one more peer was put, and after one more was taken
  abbrev pub after_put : Tally P → Tally P
  after_put v = tally v.parts (v.put + 1) v.taken

  abbrev pub after_take : Tally P → P → Tally P
  after_take v x = tally v.parts v.put (v.taken ++ x ∷ [])

  -- without a part it has put and taken nothing
  abbrev pub IsEmptyIfIdle : Tally P → Type 0
  IsEmptyIfIdle v = v.parts ≡ 0 → (v.put ≡ 0) × (length v.taken ≡ 0)

  -- As many peers were put as were taken and wait still, all passes together.
  pub record Balanced (items : List P) (views : List (Tally P)) : Type 0 where
    pub parts : sum_by (λ (v : Tally P). v.parts) views ≡ all_parts
    pub even : sum_by (λ (v : Tally P). v.put) views ≡ sum_by (λ (v : Tally P). length v.taken) views + length items
    pub idle : All IsEmptyIfIdle views

  -- with all parts it has taken all that it has put, but for those that wait
  abbrev pub HasTaken : Tally P → List P → Type 0
  HasTaken v items = v.parts ≡ all_parts → v.put ≡ length v.taken + length items
