-- What a window is, by how it is kept.
use Rattle.std.proofs.Common.{◌≡◌, ℕ, suc, ◌+◌, ◌-◌, ◌<◌, ◌≤◌, List, [], ◌∷◌, ◌++◌, length, take, drop, map, is_some, Option, None, Some, true, false, true≢false, arith, inl, inr, ap, sym, ◌∙◌, subst, get_or, set, length-append, length-drop, take-append-drop}
use Rattle.std.proofs.lemmas.Bool.{cases_lt}
use Rattle.std.proofs.lemmas.List.{append_assoc, append-nil, length-map, length-set, map-append, drop-map, get_or-map, get_or_append_left, set-append_right}
use Rattle.std.proofs.Math.Seq.{drop-append_seam, get_or-append-add, set-append_seam, take-length}
use Rattle.blob_model.specs.Content.{Update}
use Rattle.tree_geom.specs.declared.touch.Touch.{Touch}
use Rattle.tree_geom.specs.Geometry.{no_touch}
use Rattle.range_log.specs.declared.open.OpenTouch.{OpenTouch}
use Rattle.range_log.specs.Open.{no_open}
use Rattle.range_log.specs.Log.{touch_at}
use Rattle.node_store.specs.UpdateRows.{UpdateRow}
use Rattle.snapshot.specs.Versions.{Version, no_row, IsRowOf}
use Rattle.snapshot.specs.Laws.{AreRowsOf}
use Rattle.publisher.specs.Windows.{Numbered, WindowState, leading, is_finished, published_of, version_of, waiting_of, opens_from, with_finished, WindowHolds, IsRowIn}
use Rattle.publisher.specs.WindowInvariant.{present, row_touches, open_touches, over, KeepsWindow, Ready}
use Rattle.publisher.proofs.Leading.{leading_over, published_counts, present_drop, leading_rest, leading_set, leading_more, first_missing, touches_match}
use Rattle.publisher.proofs.Opens.{open_as, opens_drop, opens_push, opens_at}
use Rattle.publisher.proofs.Standing.{stands_finished, are_rows}

module _ (s : Version) (opens : List OpenTouch) (above : List (Option UpdateRow)) where
  rows_are : leading above ≡ [] → leading (present s.rows ++ above) ≡ s.rows
  rows_are least = leading_over s.rows above ∙ ap (λ l. s.rows ++ l) least ∙ append-nil s.rows

  pub published_is : leading above ≡ [] → published_of (over s opens above) ≡ length s.rows
  published_is least = published_counts (present s.rows ++ above) ∙ ap length (rows_are least)

  pub version_is : leading above ≡ [] → s ≡ version_of (over s opens above)
  version_is least =
      let made : List UpdateRow → Version = λ l. record { blob = s.blob; page_size = s.page_size; rows = l } in
      ap made (sym (rows_are least))

  pub waiting_is : KeepsWindow s opens above → opens ≡ waiting_of (over s opens above)
  waiting_is kept =
      let log : List Touch = row_touches s.rows ++ open_touches opens in
      let count : length (row_touches s.rows) ≡ length s.rows = length-map s.rows (λ (row : UpdateRow). row.touch) in
      let rest : drop (length s.rows) log ≡ open_touches opens = ap (λ n. drop n log) (sym count) ∙ drop-append_seam (row_touches s.rows) (open_touches opens) in
      let from : ℕ → List OpenTouch = λ n. opens_from (n + 1) (drop n log) in
      kept.versions
      ∙ ap (opens_from (length s.rows + 1)) (sym rest)
      ∙ ap from (sym (published_is kept.least))

  pub log_count : length (over s opens above).log ≡ length s.rows + length opens
  log_count = omega (arith, length-append (row_touches s.rows) (open_touches opens), length-map s.rows (λ (r : UpdateRow). r.touch), length-map opens (λ (o : OpenTouch). o.touch))

  pub open_version : KeepsWindow s opens above → (i : ℕ) → i < length opens → (get_or opens i no_open).version ≡ length s.rows + 1 + i
  open_version kept i lt =
      let V : List OpenTouch → ℕ = λ l. (get_or l i no_open).version in
      ap V kept.versions ∙ opens_at (length s.rows + 1) (open_touches opens) i (omega (arith, length-map opens (λ (o : OpenTouch). o.touch)))

  -- one update more
  pub keeps_numbered : (version : ℕ) (touch : Touch) → KeepsWindow s opens above → version ≡ length s.rows + length opens + 1 → length opens < 64 → length s.rows + length opens < 1048576
      → KeepsWindow s (opens ++ open_as version touch ∷ []) (above ++ None ∷ [])
  keeps_numbered version touch kept is few counted =
      let ts : List Touch = open_touches opens in
      let T : OpenTouch → Touch = λ o. o.touch in
      let a : length (above ++ None ∷ []) ≡ length above + 1 = length-append above (None ∷ []) in
      let o : length (opens ++ open_as version touch ∷ []) ≡ length opens + 1 = length-append opens (open_as version touch ∷ []) in
      let next : version ≡ length s.rows + 1 + length ts = omega (arith, length-map opens T) in
      record {
        paired = omega (arith, kept.paired);
        few = omega (arith, kept.paired);
        versions =
            ap (λ l. l ++ open_as version touch ∷ []) kept.versions
            ∙ sym (opens_push (length s.rows + 1) version ts touch next)
            ∙ ap (opens_from (length s.rows + 1)) (sym (map-append T opens (open_as version touch ∷ [])));
        least = leading_more above kept.least;
        counted = omega arith;
      }

-- the published version moves on over a finished row and those after it
module _ (s : Version) (opens : List OpenTouch) (above : List (Option UpdateRow)) (version : ℕ) (row : UpdateRow) where
  -- the rows that become published, and how many there are
  abbrev pub moved : List UpdateRow
  moved = row ∷ leading (drop 1 above)

  abbrev pub passed : ℕ
  passed = length moved

  abbrev pub after : Version
  after = record s { rows = s.rows ++ moved }

  module _ (kept : KeepsWindow s opens above) (next : version ≡ length s.rows + 1) (waits : 0 < length above) where
    place_is : above ≡ None ∷ drop 1 above
    place_is = first_missing above kept.least waits

    -- all rows, with the new one
    rows_set : set (present s.rows ++ above) (version - 1) (Some row) ≡ present s.rows ++ Some row ∷ drop 1 above
    rows_set =
        let count : length (present s.rows) ≡ length s.rows = length-map s.rows (λ (r : UpdateRow). Some r) in
        let at : version - 1 ≡ length (present s.rows) = omega arith in
        ap (λ l. set (present s.rows ++ l) (version - 1) (Some row)) place_is
        ∙ ap (λ n. set (present s.rows ++ None ∷ drop 1 above) n (Some row)) at
        ∙ set-append_seam (present s.rows) None (drop 1 above) (Some row)

    pub rest_is : drop passed above ≡ drop (length (leading (drop 1 above))) (drop 1 above)
    rest_is = ap (drop passed) place_is

    pub rows_moved : present (s.rows ++ moved) ++ drop passed above ≡ set (present s.rows ++ above) (version - 1) (Some row)
    rows_moved =
        let tail : List (Option UpdateRow) = drop 1 above in
        ap (λ l. present (s.rows ++ moved) ++ l) rest_is
        ∙ ap (λ l. l ++ drop (length (leading tail)) tail) (map-append (λ (r : UpdateRow). Some r) s.rows moved)
        ∙ append_assoc (present s.rows) (present moved) (drop (length (leading tail)) tail)
        ∙ ap (λ l. present s.rows ++ Some row ∷ l) (present_drop tail)
        ∙ sym rows_set

    leading_moved : leading (with_finished (over s opens above) version row).rows ≡ s.rows ++ moved
    leading_moved = ap leading rows_set ∙ leading_over s.rows (Some row ∷ drop 1 above)

    module _ (us : List Update) (stands : WindowHolds us (over s opens above)) (own : IsRowOf s.page_size us version row) where
      pub few_moved : passed ≤ length above
      few_moved =
          let tail : List (Option UpdateRow) = drop 1 above in
          let count : length above ≡ length (None ∷ tail) = ap length place_is in
          let all : length (present (leading tail) ++ drop (length (leading tail)) tail) ≡ length tail = ap length (present_drop tail) in
          omega (arith, length-append (present (leading tail)) (drop (length (leading tail)) tail), length-map (leading tail) (λ (r : UpdateRow). Some r))

      log_length : length (row_touches s.rows ++ open_touches opens) ≡ length s.rows + length opens
      log_length = omega (arith, length-append (row_touches s.rows) (open_touches opens), length-map s.rows (λ (r : UpdateRow). r.touch), length-map opens (λ (o : OpenTouch). o.touch))

      rows_length : length (present s.rows ++ above) ≡ length s.rows + length above
      rows_length = omega (arith, length-append (present s.rows) above, length-map s.rows (λ (r : UpdateRow). Some r))

      all_length : length (s.rows ++ moved) ≡ length s.rows + passed
      all_length = length-append s.rows moved

      own_rows : AreRowsOf s.page_size us (s.rows ++ moved)
      own_rows =
          let w : Numbered = with_finished (over s opens above) version row in
          let st : WindowHolds us w = stands_finished us (over s opens above) version row (omega arith) (omega (arith, rows_length)) stands own in
          let P : List UpdateRow → Type 0 = λ l. AreRowsOf s.page_size us l in
          let few : length (leading w.rows) ≤ length w.log = omega (arith, ap length leading_moved, all_length, few_moved, log_length, kept.paired) in
          subst P leading_moved (are_rows us w few st)

      pub ready_moved : Ready s.page_size (s.rows ++ moved)
      ready_moved = (
        us,
        record {
          replayable = stands.replayable;
          fits = stands.fits;
          counted = omega (arith, all_length, few_moved, kept.paired, kept.counted);
          own = own_rows;
        },
      )

      touch_moved : (i : ℕ) → i < passed → (get_or moved i no_row).touch ≡ get_or (open_touches opens) i no_touch
      touch_moved i lt =
          let T : UpdateRow → Touch = λ r. r.touch in
          let n : ℕ = length s.rows in
          let is = own_rows.each (suc (n + i)) (omega arith) (omega (arith, all_length)) in
          let count : length (row_touches s.rows) ≡ n = length-map s.rows (λ (r : UpdateRow). r.touch) in
          let at : n + i ≡ length (row_touches s.rows) + i = omega arith in
          let log : List Touch = row_touches s.rows ++ open_touches opens in
          ap T (sym (get_or-append-add s.rows moved i no_row))
          ∙ is.touch
          ∙ ap (λ l. touch_at l (suc (n + i))) (sym stands.log)
          ∙ ap (λ k. get_or log k no_touch) at
          ∙ get_or-append-add (row_touches s.rows) (open_touches opens) i no_touch

      pub log_moved : row_touches (s.rows ++ moved) ++ open_touches (drop passed opens) ≡ row_touches s.rows ++ open_touches opens
      log_moved =
          let ts : List Touch = open_touches opens in
          let count : length ts ≡ length opens = length-map opens (λ (o : OpenTouch). o.touch) in
          let front : row_touches moved ≡ take passed ts = touches_match moved ts (omega (arith, few_moved, kept.paired)) touch_moved in
          ap (λ l. row_touches (s.rows ++ moved) ++ l) (sym (drop-map (λ (o : OpenTouch). o.touch) passed opens))
          ∙ ap (λ l. l ++ drop passed ts) (map-append (λ (r : UpdateRow). r.touch) s.rows moved)
          ∙ append_assoc (row_touches s.rows) (row_touches moved) (drop passed ts)
          ∙ ap (λ l. row_touches s.rows ++ (l ++ drop passed ts)) front
          ∙ ap (λ l. row_touches s.rows ++ l) (take-append-drop passed ts)

      pub over_moved : over after (drop passed opens) (drop passed above) ≡ with_finished (over s opens above) version row
      over_moved =
          let made : List Touch → List (Option UpdateRow) → Numbered = λ log rows. record { blob = s.blob; page_size = s.page_size; log = log; rows = rows } in
          ap (λ log. made log (present (s.rows ++ moved) ++ drop passed above)) log_moved
          ∙ ap (made (row_touches s.rows ++ open_touches opens)) rows_moved

      pub keeps_moved : KeepsWindow after (drop passed opens) (drop passed above)
      keeps_moved =
          let m : ℕ = passed in
          let ts : List Touch = open_touches opens in
          let from : length s.rows + 1 + m ≡ length (s.rows ++ moved) + 1 = omega (arith, all_length) in
          let a : length (drop m above) ≡ length above - m = length-drop m above in
          let o : length (drop m opens) ≡ length opens - m = length-drop m opens in
          record {
            paired = omega (arith, kept.paired);
            few = omega (arith, kept.few);
            versions =
                ap (drop m) kept.versions
                ∙ opens_drop (length s.rows + 1) ts m
                ∙ ap (λ k. opens_from k (drop m ts)) from
                ∙ ap (opens_from (length (s.rows ++ moved) + 1)) (drop-map (λ (x : OpenTouch). x.touch) m opens);
            least = ap leading rest_is ∙ leading_rest (drop 1 above);
            counted = omega (arith, kept.counted, kept.paired, few_moved, all_length);
          }

-- what is finished
module _ (s : Version) (opens : List OpenTouch) where
  pub finished_below : (above : List (Option UpdateRow)) (version : ℕ) → 1 ≤ version → version ≤ length s.rows → is_finished (over s opens above) version ≡ true
  finished_below above version some le =
      let i : ℕ = version - 1 in
      let rows : List (Option UpdateRow) = present s.rows in
      let count : length rows ≡ length s.rows = length-map s.rows (λ (r : UpdateRow). Some r) in
      get_or-map is_some (rows ++ above) i None false (omega (arith, length-append rows above))
      ∙ ap is_some (get_or_append_left rows above None i (omega arith))
      ∙ ap is_some (get_or-map (λ (r : UpdateRow). Some r) s.rows i no_row None (omega arith))

  pub finished_above : (above : List (Option UpdateRow)) (version slot : ℕ) → version ≡ length s.rows + slot + 1 → slot < length above → is_finished (over s opens above) version ≡ is_some (get_or above slot None)
  finished_above above version slot is lt =
      let i : ℕ = version - 1 in
      let rows : List (Option UpdateRow) = present s.rows in
      let count : length rows ≡ length s.rows = length-map s.rows (λ (r : UpdateRow). Some r) in
      let at : i ≡ length rows + slot = omega arith in
      get_or-map is_some (rows ++ above) i None false (omega (arith, length-append rows above))
      ∙ ap (λ n. is_some (get_or (rows ++ above) n None)) at
      ∙ ap is_some (get_or-append-add rows above slot None)

  pub finished_read : {A : Type 0} (row : A → Option UpdateRow) (items : List A) (version slot : ℕ) (x : A) → version ≡ length s.rows + slot + 1 → slot < length items → x ≡ get_or items slot x
      → is_finished (over s opens (map row items)) version ≡ is_some (row x)
  finished_read row items version slot x is lt at =
      finished_above (map row items) version slot is (omega (arith, length-map items row))
      ∙ ap is_some (get_or-map row items slot x None lt)
      ∙ ap (λ y. is_some (row y)) (sym at)

  -- an unfinished version waits
  pub unfinished_waits : (above : List (Option UpdateRow)) (version : ℕ) → 1 ≤ version → is_finished (over s opens above) version ≡ false → length s.rows < version
  unfinished_waits above version some e = elim (cases_lt (length s.rows) version) [
    | inl lt ↦ lt
    | inr le ↦ absurd (true≢false (sym (finished_below above version some le) ∙ e))
  ]

  -- a row is kept above an unfinished version
  pub over_kept : (above : List (Option UpdateRow)) (version slot : ℕ) (row : UpdateRow) → version ≡ length s.rows + slot + 1 → over s opens (set above slot (Some row)) ≡ with_finished (over s opens above) version row
  over_kept above version slot row is =
      let made : List (Option UpdateRow) → Numbered = λ rows. record { blob = s.blob; page_size = s.page_size; log = row_touches s.rows ++ open_touches opens; rows = rows } in
      let count : length (present s.rows) ≡ length s.rows = length-map s.rows (λ (r : UpdateRow). Some r) in
      let at : version - 1 - length s.rows ≡ slot = omega arith in
      ap made (ap (λ n. present s.rows ++ set above n (Some row)) (sym at) ∙ sym (set-append_right (present s.rows) above (length s.rows) (version - 1) (Some row) count (omega arith)))

  -- the window stands with a row above the least missing one
  pub keeps_set : (above : List (Option UpdateRow)) (slot : ℕ) (row : UpdateRow) → KeepsWindow s opens above → 0 < slot
      → KeepsWindow s opens (set above slot (Some row))
  keeps_set above slot row kept some =
      let same : length (set above slot (Some row)) ≡ length above = length-set above slot (Some row) in
      record {
        paired = same ∙ kept.paired;
        few = omega (arith, kept.few);
        versions = kept.versions;
        least = leading_set above slot (Some row) kept.least some;
        counted = kept.counted;
      }

  pub published_kept : (above : List (Option UpdateRow)) (version slot : ℕ) (row : UpdateRow) → leading above ≡ [] → 0 < slot → version ≡ length s.rows + slot + 1
      → length s.rows ≡ published_of (with_finished (over s opens above) version row)
  published_kept above version slot row least some is =
      sym (published_is s opens (set above slot (Some row)) (leading_set above slot (Some row) least some)) ∙ ap published_of (over_kept above version slot row is)

-- the slots after the first one
pub tail_is : {A : Type 0} (row : A → Option UpdateRow) (items read : List A) → read ≡ items → map row (take (length read - 1) (drop 1 read)) ≡ drop 1 (map row items)
tail_is {A} row items read e =
    let count : length read - 1 ≡ length (drop 1 read) = sym (length-drop 1 read) in
    ap (λ n. map row (take n (drop 1 read))) count
    ∙ ap (map row) (take-length (drop 1 read))
    ∙ ap (λ (l : List A). map row (drop 1 l)) e
    ∙ sym (drop-map row 1 items)

-- ---- the window that a clause sees
pub told : {U : Type 0} {a b : WindowState U} → a ≡ b → a.numbered ≡ b.numbered
told {U} e = ap (λ (x : WindowState U). x.numbered) e

-- how many versions are published, and how many are numbered
pub record Counts (s : Version) (opens : List OpenTouch) (w : Numbered) : Type 0 where
  pub published : published_of w ≡ length s.rows
  pub assigned : length w.log ≡ length s.rows + length opens

pub counts : (s : Version) (opens : List OpenTouch) (above : List (Option UpdateRow)) (w : Numbered) → over s opens above ≡ w → KeepsWindow s opens above → Counts s opens w
counts s opens above w is kept = record {
  published = sym (ap published_of is) ∙ published_is s opens above kept.least;
  assigned = sym (ap (λ (x : Numbered). length x.log) is) ∙ log_count s opens above;
}

-- an unfinished version has its slot
pub record IsPlaced (s : Version) (above : List (Option UpdateRow)) (version slot : ℕ) : Type 0 where
  pub waits : length s.rows < version
  pub is : version ≡ length s.rows + slot + 1
  pub within : slot < length above

pub placed : (s : Version) (opens : List OpenTouch) (above : List (Option UpdateRow)) (w : Numbered) (version published : ℕ) → over s opens above ≡ w → KeepsWindow s opens above
    → (1 ≤ version) × (version ≤ length w.log) → is_finished w version ≡ false → published ≡ length s.rows → IsPlaced s above version (version - published - 1)
placed s opens above w version published is kept numbered unfinished count =
    let c = counts s opens above w is kept in
    let waits = unfinished_waits s opens above version numbered.0 (ap (λ x. is_finished x version) is ∙ unfinished) in
    record { waits = waits; is = omega (arith, waits, count); within = omega (arith, waits, count, c.assigned, numbered.1, kept.paired) }

-- the window after its published version moved on
pub record HasMoved (s new : Version) (opens : List OpenTouch) (above : List (Option UpdateRow)) (count : ℕ) (to : Numbered) : Type 0 where
  pub few : count ≤ length above
  pub keeps : KeepsWindow new (drop count opens) (drop count above)
  pub view : over new (drop count opens) (drop count above) ≡ to
  pub published : length new.rows ≡ published_of to

pub has_moved : (s new : Version) (opens : List OpenTouch) (above tail : List (Option UpdateRow)) (version count : ℕ) (row : UpdateRow)
    → KeepsWindow s opens above → version ≡ length s.rows + 1 → 0 < length above → IsRowIn (over s opens above) version row → tail ≡ drop 1 above
    → new.blob ≡ s.blob → new.page_size ≡ s.page_size → new.rows ≡ s.rows ++ row ∷ leading tail → count ≡ length new.rows - length s.rows
    → HasMoved s new opens above count (with_finished (over s opens above) version row)
has_moved s new opens above tail version count row kept next waits own e blob page_size rows counts =
    let goes : List UpdateRow = moved s opens above version row in
    let m : ℕ = passed s opens above version row in
    let made : ℕ → ℕ → List UpdateRow → Version = λ b p l. record { blob = b; page_size = p; rows = l } in
    let all : new.rows ≡ s.rows ++ goes = rows ∙ ap (λ l. s.rows ++ row ∷ leading l) e in
    let new_is : new ≡ after s opens above version row =
    ap (λ b. made b new.page_size new.rows) blob ∙ ap (λ p. made s.blob p new.rows) page_size ∙ ap (made s.blob s.page_size) all in
    let long : length new.rows ≡ length s.rows + m = ap length all ∙ length-append s.rows goes in
    let count_is : count ≡ m = omega arith in
    let to : Numbered = with_finished (over s opens above) version row in
    let P : Version → Type 0 = λ v. HasMoved s v opens above count to in
    let Q : ℕ → Type 0 = λ n. HasMoved s (after s opens above version row) opens above n to in
    let keeps = keeps_moved s opens above version row kept next waits own.0 own.1 own.2 in
    let view = over_moved s opens above version row kept next waits own.0 own.1 own.2 in
    let here : Q m = record {
      few = few_moved s opens above version row kept next waits own.0 own.1 own.2;
      keeps = keeps;
      view = view;
      published = sym (published_is (after s opens above version row) (drop m opens) (drop m above) keeps.least) ∙ ap published_of view;
    } in
    subst P (sym new_is) (subst Q (sym count_is) here)
