-- From one leaf of a page to the next.
use Rattle.std.proofs.Common.{◌≡◌, ℕ, ◌+◌, ◌-◌, ◌*◌, ◌<◌, ◌≤◌, List, length, arith, ap, sym, ◌∙◌, inl, inr, Bool, true, false, get_or, min}
use Rattle.std.proofs.lemmas.Bool.{cases_lt}
use Rattle.std.specs.Prelude.{slice_range}
use Rattle.blob_model.specs.Content.{Update}
use Rattle.tree_geom.specs.Geometry.{page_range}
use Rattle.range_log.specs.Log.{HasNode}
use Rattle.range_log.specs.Extents.{Extent, InBounds, touches}
use Rattle.range_log.specs.Updates.{page_bytes}
use Rattle.range_log.specs.Rows.{back_of}
use Rattle.range_log.specs.Laws.{PageBytesStay, BacksHaveNoHoles}
use Rattle.range_log.proofs.Links.{back_cases}
use Rattle.snapshot.specs.Versions.{Version, updates_of, size_now, IsVersion}
use Rattle.tree_geom.proofs.Spans.{page_pos}
use Rattle.range_reader.specs.Reading.{newest_in, page_in, content_of, bytes_at}
use Rattle.range_reader.specs.Filling.{Taken}
use Rattle.range_reader.proofs.Parts.{either, part_read}
use Rattle.range_reader.proofs.LeafBytes.{length-page}
use Rattle.range_reader.proofs.Taking.{slice_in}
use Rattle.range_reader.proofs.Among.{length-updates}

not_true : (b : Bool) → (b ≡ true → ⊥) → b ≡ false
not_true b never = elim (either b) [ inl yes' ↦ absurd (never yes') | inr is ↦ is ]

-- a byte that wasn't wanted isn't wanted after a leaf
stays_unmarked : (start len begin x : ℕ) (old new : List Bool) → Taken start len begin old new → x < length old → get_or old x false ≡ false → get_or new x false ≡ false
stays_unmarked start len begin x old new t lt unmarked =
    elim (cases_lt (begin + x) start) [
      | inl below ↦ t.below x lt below ∙ unmarked
      | inr from ↦ elim (cases_lt (begin + x) (start + len)) [
        | inl within ↦ t.within x lt from within
        | inr above ↦ t.above x lt above ∙ unmarked
      ]
    ]

-- what isn't wanted before a leaf's next wanted byte
pub no_longer : (start len begin x first next : ℕ) (old new : List Bool) → Taken start len begin old new → x < length old
    → ((x : ℕ) → x < first → get_or old x false ≡ false) → ((x : ℕ) → first ≤ x → x < next → get_or new x false ≡ true → ⊥) → x < next → get_or new x false ≡ false
no_longer start len begin x first next old new t lt before none less = elim (cases_lt x first) [
  | inl earlier ↦ stays_unmarked start len begin x old new t lt (before x earlier)
  | inr from ↦ not_true (get_or new x false) (none x from less)
]

-- ---- the page at its newest version
-- it is the page of the version
newest_page : PageBytesStay → (s : Version) → IsVersion s → (i newest : ℕ) → newest ≡ newest_in s (page_range s.page_size i) → page_in s (length s.rows) i ≡ page_in s newest i
newest_page stay s is i newest same =
    let p : ℕ = s.page_size in
    let us : List Update = updates_of s in
    stay p (length s.rows) i us (page_pos p is.page_size) is.replayable (omega (arith, length-updates s)) ∙ ap (λ n. page_bytes p us n i) (sym same)

pub newest_length : PageBytesStay → (s : Version) → IsVersion s → (i newest : ℕ) → newest ≡ newest_in s (page_range s.page_size i)
    → length (page_in s newest i) ≡ min s.page_size (size_now s - i * s.page_size)
newest_length stay s is i newest same =
    ap length (sym (newest_page stay s is i newest same)) ∙ length-page s.page_size (updates_of s) (length s.rows) i

-- and its bytes are the version's
pub newest_bytes : PageBytesStay → (s : Version) → IsVersion s → (i newest begin n : ℕ) → newest ≡ newest_in s (page_range s.page_size i) → begin + n ≤ s.page_size
    → i * s.page_size + begin + n ≤ size_now s → slice_range (page_in s newest i) begin (begin + n) ≡ bytes_at s (i * s.page_size + begin) n
newest_bytes stay s is i newest begin n same within valid =
    let p : ℕ = s.page_size in
    let page : List ℕ = page_in s (length s.rows) i in
    let c : List ℕ = content_of s in
    let count : length page ≡ min p (size_now s - i * p) = length-page p (updates_of s) (length s.rows) i in
    ap (λ l. slice_range l begin (begin + n)) (sym (newest_page stay s is i newest same))
    ∙ slice_in page c begin (i * p + begin) n (omega (arith, count, within, valid)) valid
    (λ y lt.
    let e : i * p + (begin + y) ≡ i * p + begin + y = omega arith in
    part_read 0 c (i * p) p (begin + y) (omega (arith, lt, within)) ∙ ap (λ z. get_or c z 0) e)

-- backs lead to older versions
pub back_less : BacksHaveNoHoles → (p k i : ℕ) (xs : List Extent) → 1 ≤ p → InBounds xs → HasNode p (touches p xs) k (page_range p i) → back_of p xs k i < k
back_less holes p k i xs pos bounds has =
    elim (back_cases p xs k i) [
      | inl none ↦ omega (arith, none, has.version.0)
      | inr led ↦ ((holes p k i xs pos bounds has led.0).1 led.1).1
    ]
