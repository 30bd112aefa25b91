-- How far a page of the buffer is filled, while the walk goes along the backs.
use Rattle.std.proofs.Common.{◌≡◌, ◌⊎◌, ℕ, ◌+◌, ◌-◌, ◌<◌, ◌≤◌, List, length, arith, ap, sym, ◌∙◌, inl, inr, Bool, true, false, get_or}
use Rattle.std.proofs.lemmas.Bool.{cases_lt}
use Rattle.range_reader.specs.Filling.{Overlaid, Taken}
use Rattle.range_reader.proofs.Parts.{either}

-- bytes that are not wanted are there, from byte `begin` of the page on
pub record AreThere (page : List ℕ) (begin : ℕ) (out : List ℕ) (marks : List Bool) : Type 0 where
  pub there : (x : ℕ) → x < length out → get_or marks x false ≡ false → get_or out x 0 ≡ get_or page (begin + x) 0

-- those that are wanted are in an older form of the page
pub record AreIn (page : List ℕ) (older : List ℕ) (begin : ℕ) (count : ℕ) (marks : List Bool) : Type 0 where
  pub same : (x : ℕ) → x < count → get_or marks x false ≡ true → get_or page (begin + x) 0 ≡ get_or older (begin + x) 0
  pub valid : (x : ℕ) → x < count → get_or marks x false ≡ true → begin + x < length older

-- a mark that is left was there before, and its byte isn't the leaf's own
left : (start len begin x : ℕ) (old new : List Bool) → Taken start len begin old new → x < length old → get_or new x false ≡ true
    → (get_or old x false ≡ true) × ((begin + x < start) ⊎ (start + len ≤ begin + x))
left start len begin x old new t lt is =
    elim (cases_lt (begin + x) start) [
      | inl below ↦ (sym (t.below x lt below) ∙ is, inl below)
      | inr from ↦ elim (cases_lt (begin + x) (start + len)) [
        | inl within ↦ absurd (let e : get_or new x false ≡ false = t.within x lt from within in cc)
        | inr above ↦ (sym (t.above x lt above) ∙ is, inr above)
      ]
    ]

-- A leaf has n bytes of a page from byte st on. Where a valid byte isn't among them, it is that of an older form of the page,
-- and then U holds.
module _ (st n : ℕ) (here older : List ℕ) (U : Type 0) (rest : (x : ℕ) → (x < st) ⊎ (st + n ≤ x) → x < length here → U × (get_or here x 0 ≡ get_or older x 0) × (x < length older))
    (begin : ℕ) (page : List ℕ) (marks marks' : List Bool) where
  -- after a leaf's bytes are filled in where they were wanted
  pub there_after : (out out' : List ℕ) → length out' ≡ length out → length marks ≡ length out → AreThere page begin out marks → AreIn page here begin (length out) marks
      → Overlaid st n st begin here marks out out'
      → Taken st n begin marks marks' → AreThere page begin out' marks'
  there_after out out' same marked there from over t = record {
    there = λ x lt' no.
        let lt : x < length out = omega arith in
        let few : x < length marks = omega arith in
        elim (either (get_or marks x false)) [
          | inr already ↦ over.unmarked x lt already ∙ there.there x lt already
          | inl wanted ↦ elim (cases_lt (begin + x) st) [
            | inl below ↦ absurd (let e : get_or marks' x false ≡ get_or marks x false = t.below x few below in cc)
            | inr start ↦ elim (cases_lt (begin + x) (st + n)) [
              | inl within ↦ over.marked x lt start within wanted ∙ (let e : st + (begin + x - st) ≡ begin + x = omega arith in ap (λ z. get_or here z 0) e) ∙ sym (from.same x lt wanted)
              | inr above ↦ absurd (let e : get_or marks' x false ≡ get_or marks x false = t.above x few above in cc)
            ]
          ]
        ];
  }

  -- what is still wanted is in the page at the leaf's back
  pub in_after : (count : ℕ) → count ≤ length marks → AreIn page here begin count marks
      → Taken st n begin marks marks'
      → AreIn page older begin count marks'
  in_after count few from t = record {
    same = λ x lt is.
        let l = left st n begin x marks marks' t (omega arith) is in
        from.same x lt l.0 ∙ (rest (begin + x) l.1 (from.valid x lt l.0)).1;
    valid = λ x lt is.
        let l = left st n begin x marks marks' t (omega arith) is in
        (rest (begin + x) l.1 (from.valid x lt l.0)).2;
  }

  -- where a byte is still wanted, U holds
  pub still_wanted : (count x : ℕ) → count ≤ length marks → AreIn page here begin count marks
      → Taken st n begin marks marks' → x < count → get_or marks' x false ≡ true
      → U
  still_wanted count x few from t lt is =
      let l = left st n begin x marks marks' t (omega arith) is in
      (rest (begin + x) l.1 (from.valid x lt l.0)).0
