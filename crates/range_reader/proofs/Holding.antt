-- The leaf that has a byte, and the stored page in which it has it.
use Rattle.std.proofs.Common.{◌≡◌, ◌⊎◌, ℕ, ◌+◌, ◌*◌, ◌/◌, ◌<◌, ◌≤◌, List, length, arith, ap, sym, ◌∙◌, inl, inr, true, false}
use Rattle.std.specs.Prelude.{nat_lt}
use Rattle.std.proofs.lemmas.Bool.{cases_lt}
use Rattle.std.proofs.lemmas.Bool.Decides.{nat_tests}
use Rattle.tree_geom.specs.declared.range.Range.{Range}
use Rattle.tree_geom.specs.Geometry.{Aligned, page_range}
use Rattle.range_log.specs.Rows.{back_of}
use Rattle.range_log.specs.Laws.{BacksHaveNoHoles, BacksLead, ExtentsStand, PageBytesStay}
use Rattle.node_store.specs.UpdateRows.{stored_of}
use Rattle.snapshot.specs.Versions.{Version, row_at, updates_of, size_now, HasNodeFor, IsVersion}
use Rattle.tree_geom.proofs.Spans.{page_pos}
use Rattle.node_store.specs.declared.parts.LeafParts.{LeafParts}
use Rattle.range_reader.specs.Reading.{falls, newest_in, page_in, own_start, own_len, IsLeafOf}
use Rattle.node_store.specs.Parts.{piece_with}
use Rattle.range_reader.specs.Filling.{AreAlike, IsMetBy}
use Rattle.range_reader.specs.Holders.{HasByte}
use Rattle.range_reader.proofs.Going.{newest_length}
use Rattle.range_reader.proofs.Leaves.{LeafOf}
use Rattle.range_reader.proofs.Narrowing.{alike_after}
use Rattle.range_reader.proofs.Taking.{lens, first_is, second_is}
use Rattle.range_reader.proofs.Walking.{div_is, page_of_range}

-- a range of one page is that of the page of each byte in it
pub page_is : (p : ℕ) (r : Range) (at : ℕ) → 1 ≤ p → Aligned p r → r.size ≡ p → r.offset ≤ at → at < r.offset + r.size → r ≡ page_range p (at / p)
page_is p r at pos al whole le lt =
    let page : ℕ = r.offset / p in
    let same : r ≡ page_range p page = page_of_range p r pos al whole in
    let o : r.offset ≡ page * p = ap (λ (x : Range). x.offset) same in
    let span : (page + 1) * p ≡ page * p + p = omega arith in
    let i : at / p ≡ page = div_is p page at pos (omega arith) (omega arith) in
    same ∙ ap (page_range p) (sym i)

-- a byte below the size is valid in the page at its newest version
pub valid_newest : PageBytesStay → (s : Version) → IsVersion s → (i newest b : ℕ) → newest ≡ newest_in s (page_range s.page_size i) → b < s.page_size
    → i * s.page_size + b < size_now s → b < length (page_in s newest i)
valid_newest stay s is i newest b same within valid = omega (arith, newest_length stay s is i newest same, within, valid)

-- ---- on to the next leaf
-- the leaf at the back of that of page i in the row of update j, for byte b of the page
pub record NextLeaf (s : Version) (j i b : ℕ) : Type 0 where
  pub some : 1 ≤ back_of s.page_size (falls s) j i
  pub less : back_of s.page_size (falls s) j i < j
  pub stands : HasNodeFor s (back_of s.page_size (falls s) j i) (page_range s.page_size i)
  pub valid : b < length (page_in s (back_of s.page_size (falls s) j i) i)

-- a byte that a leaf lacks lies before its own bytes or after them
pub beside : (s : Version) (j i b : ℕ) → ¬ HasByte s j i b → (b < own_start s j i) ⊎ (own_start s j i + own_len s j i ≤ b)
beside s j i b lacks = elim (cases_lt b (own_start s j i)) [
  | inl below ↦ inl below
  | inr from ↦ elim (cases_lt b (own_start s j i + own_len s j i)) [
    | inl within ↦ absurd (lacks (from, within))
    | inr above ↦ inr above
  ]
]

-- where a leaf lacks a valid byte of its page, it has a back, and the byte is valid there too
pub next_leaf : BacksHaveNoHoles → BacksLead → ExtentsStand → (s : Version) → IsVersion s → (j i b : ℕ) → HasNodeFor s j (page_range s.page_size i) → LeafOf s j i
    → b < length (page_in s j i) → ¬ HasByte s j i b → NextLeaf s j i b
next_leaf holes lead stand s is j i b has leaf valid lacks =
    let p : ℕ = s.page_size in
    let pos : 1 ≤ p = page_pos p is.page_size in
    let bounds = (stand (updates_of s) is.replayable).0 in
    let rest = leaf.tells.rest b (beside s j i b lacks) valid in
    let back = (holes p j i (falls s) pos bounds has rest.0.0).1 rest.0.1 in
    record { some = back.0; less = back.1; stands = lead p j i (falls s) pos bounds has back.0; valid = rest.2 }

-- ---- past a leaf that has none of a gap's bytes
pub record Passed (s : Version) (j i low high : ℕ) : Type 0 where
  pub lacks : (b : ℕ) → low ≤ b → b < high → ¬ HasByte s j i b
  pub next : NextLeaf s j i low
  pub alike : (page : List ℕ) → AreAlike page (page_in s j i) low high → AreAlike page (page_in s (back_of s.page_size (falls s) j i) i) low high

pub passed : BacksHaveNoHoles → BacksLead → ExtentsStand → (s : Version) → IsVersion s → (j i low high : ℕ) (parts : LeafParts) → IsLeafOf s j i parts → HasNodeFor s j (page_range s.page_size i)
    → LeafOf s j i → low < high → high ≤ length (page_in s j i) → ¬ IsMetBy low high parts → Passed s j i low high
passed holes lead stand s is j i low high parts of has leaf some valid apart =
    let lacks : (b : ℕ) → low ≤ b → b < high → ¬ HasByte s j i b =
    λ b from to own. apart (omega (arith, from, own.1, of.start, lens s j i parts of), omega (arith, to, own.0, of.start)) in
    record {
      lacks = lacks;
      next = next_leaf holes lead stand s is j i low has leaf (omega (arith, some, valid)) (lacks low (omega arith) some);
      alike = λ page alike.
          alike_after page (page_in s j i) 0 low high low high alike (omega arith) (omega arith) (page_in s (back_of s.page_size (falls s) j i) i) some
          (λ b from to within. let rest = leaf.tells.rest b (beside s j i b (lacks b from to)) within in (rest.1, rest.2));
    }

-- ---- a leaf by its parts
module _ (s : Version) (j i b : ℕ) (parts : LeafParts) (is : IsLeafOf s j i parts) where
  pub byte_in : IsMetBy b (b + 1) parts → HasByte s j i b
  byte_in met = (omega (arith, met.1, is.start), omega (arith, met.0, is.start, lens s j i parts is))

  -- the stored page of the piece with the byte is there
  pub piece_stands : LeafOf s j i → HasByte s j i b → (piece_with parts.start parts.first parts.second b).page < length (stored_of (row_at s.rows j))
  piece_stands of has =
      elim (cases_lt b (parts.start + parts.first.len)) [
        | inl low ↦ (let e : nat_lt b (parts.start + parts.first.len) ≡ true = grind (arith, nat_tests) in rw e (first_is s j i parts is of).number)
        | inr high ↦
            (let e : nat_lt b (parts.start + parts.first.len) ≡ false = grind (arith, nat_tests) in
            let some : 1 ≤ parts.second.len = omega (arith, has.1, is.start, lens s j i parts is) in
            rw e (second_is s j i parts is of some).number)
      ]
