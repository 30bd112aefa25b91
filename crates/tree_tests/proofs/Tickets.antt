-- The ticket of a numbered update, at whichever version is published.
use Rattle.std.proofs.Common.{◌≡◌, ℕ, zero, suc, ◌+◌, ◌-◌, ◌^◌, ◌<◌, ◌≤◌, List, [], ◌∷◌, ◌++◌, length, take, drop, map, max, arith, refl, ap, sym, ◌∙◌, subst}
use Rattle.std.specs.Prelude.{slice_index_or}
use Rattle.std.proofs.lemmas.List.{length-map, length-take-le, get_or-map, get_or-take, get_or_default}
use Rattle.std.proofs.Math.Seq.{take-suc}
use Rattle.blob_model.specs.Content.{Update, offset_of, size_of}
use Rattle.tree_geom.specs.declared.touch.Touch.{Touch}
use Rattle.tree_geom.specs.Geometry.{no_touch, touched_by}
use Rattle.range_log.specs.declared.open.OpenTouch.{OpenTouch}
use Rattle.range_log.specs.Open.{open_at}
use Rattle.range_log.specs.Log.{size_at}
use Rattle.range_log.specs.Extents.{Extent, IsLog, touches}
use Rattle.range_log.specs.Updates.{update_at, no_update, extent_of, extents, Replayable}
use Rattle.range_log.specs.Laws.{TouchesAre, EachTouchIs, SizesAre, RowsStay, ExtentsGrow, ExtentsStand}
use Rattle.page_store.specs.Stored.{bytes_of_pages}
use Rattle.snapshot.specs.Versions.{Version, older_version, NodesLieIn}
use Rattle.border_hints.specs.Numbered.{log_of, log_with, numbered_update}
use Rattle.publisher.specs.Windows.{version_of, opens_from}
use Rattle.publisher.specs.Laws.{PublishedLogIs}
use Rattle.tree_tests.specs.Blobs.{OneBlob, IsOneBlob, Start, update_of, updates_in, IsTicketOf}
use Rattle.tree_tests.proofs.Opens.{opens_at, length-opens, opens_touch, length-between, between_joined}
use Rattle.tree_tests.proofs.Updates.{replayable_first, touches_first, extent_first, size_next, touch_next, size_told}
use Rattle.tree_tests.proofs.Lying.{older_lies}
use Rattle.tree_geom.proofs.Spans.{page_pos}

size_at-take : (k : ℕ) (log : List Touch) → size_at (take k log) k ≡ size_at log k
size_at-take zero log = refl
size_at-take (suc j) log = ap (λ (t : Touch). t.size) (get_or-take (suc j) log j no_touch (omega arith))

abbrev at_len : ℕ → ℕ → Extent
at_len a n = record { at = a; len = n }

-- update number i, from 0, begins as s says; `from` versions are published, and those between wait
pub record IsPicked (b : OneBlob) (from i : ℕ) (s : Start) (snap : Version) (opens : List OpenTouch) (len : ℕ) (touch : Touch) : Type 0 where
  pub order : from ≤ i
  pub within : i < length b.starts
  pub published : from ≤ length (version_of b.window).rows
  pub own : s ≡ slice_index_or b.starts i s
  pub taken : snap ≡ older_version (version_of b.window) from
  pub waits : opens ≡ opens_from (from + 1) (take (i - from) (drop from b.touches))
  pub long : len ≡ length (bytes_of_pages s.pages.pages)
  pub touched : touch ≡ slice_index_or b.touches i touch

module _ (are : TouchesAre) (each : EachTouchIs) (sizes : SizesAre) (stay : RowsStay) (grow : ExtentsGrow) (stand : ExtentsStand) (logs : PublishedLogIs) where
  module _ (b : OneBlob) (is : IsOneBlob b) (from i : ℕ) (s : Start) (snap : Version) (opens : List OpenTouch) (len : ℕ) (touch : Touch) (f : IsPicked b from i s snap opens len touch) where
    abbrev size : ℕ
    size = touch.size

    abbrev us : List Update
    us = updates_in b

    abbrev p : ℕ
    p = b.window.page_size

    abbrev log : List Touch
    log = b.window.log

    ok : Replayable us
    ok = is.stands.replayable

    count : length us ≡ length b.starts
    count = length-map b.starts update_of

    rows_count : length snap.rows ≡ from
    rows_count = ap (λ (v : Version). length v.rows) f.taken ∙ length-take-le from (version_of b.window).rows f.published

    page : snap.page_size ≡ p
    page = ap (λ (v : Version). v.page_size) f.taken

    few : i ≤ length b.touches
    few = omega (arith, f.within, count, is.stands.counted, ap (λ (l : List Touch). length l) is.touches)

    opens_count : length opens ≡ i - from
    opens_count = ap length f.waits ∙ length-opens (from + 1) (take (i - from) (drop from b.touches)) ∙ length-between b.touches from i f.order few

    update : update_at us (suc i) ≡ update_of s
    update = get_or-map update_of b.starts i s no_update f.within ∙ ap update_of (sym f.own)

    falls : extent_of us (suc i) ≡ at_len s.at len
    falls = ap (λ (u : Update). at_len (offset_of u.place (size_of us i)) (length u.bytes)) update ∙ ap (at_len s.at) (sym f.long)

    below : log_with snap opens ≡ take i log
    below =
        let waits : List Touch = map (λ (o : OpenTouch). o.touch) opens in
        let known : log_of snap ≡ take from log = ap log_of f.taken ∙ logs us b.window from (page_pos p is.page_size) is.paired is.stands f.published in
        let waiting : waits ≡ take (i - from) (drop from log) =
        ap (map (λ (o : OpenTouch). o.touch)) f.waits
        ∙ opens_touch (from + 1) (take (i - from) (drop from b.touches))
        ∙ ap (λ l. take (i - from) (drop from l)) is.touches in
        ap (λ l. l ++ waits) known ∙ ap (λ l. take from log ++ l) waiting ∙ between_joined log from i f.order

    before : size_at (log_with snap opens) i ≡ size_of us i
    before =
        ap (λ l. size_at l i) below
        ∙ size_at-take i log
        ∙ ap (λ l. size_at l i) is.stands.log
        ∙ size_told each sizes stand p us i ok (omega (arith, count, f.within))

    next : size_of us (suc i) ≡ max (size_of us i) (s.at + len)
    next = size_next each sizes stand us i ok (omega (arith, count, f.within)) ∙ ap (λ (x : Extent). max (size_of us i) (x.at + x.len)) falls

    touch_of_own : slice_index_or log i no_touch ≡ touched_by p s.at len (size_of us (suc i))
    touch_of_own =
        ap (λ l. slice_index_or l i no_touch) is.stands.log
        ∙ touch_next each sizes stand p us i ok (omega (arith, count, f.within))
        ∙ ap (λ (x : Extent). touched_by p x.at x.len (size_of us (suc i))) falls

    whole : size ≡ size_of us (suc i)
    whole =
        ap (λ (t : Touch). t.size) (f.touched ∙ get_or_default b.touches i touch no_touch (omega (arith, f.within, count, is.stands.counted, ap (λ (l : List Touch). length l) is.touches)))
        ∙ ap (λ (l : List Touch). (slice_index_or l i no_touch).size) is.touches
        ∙ ap (λ (t : Touch). t.size) touch_of_own

    begins : (s.at ≤ size_of us i) × (1 ≤ len)
    begins =
        let B : Extent → Type 0 = λ x. (x.at ≤ size_of us i) × (1 ≤ x.len) in
        subst B falls (ok i (omega (arith, count, f.within)))

    -- ---- what a ticket has to meet
    pub first_waits : 0 < length opens → (open_at opens 0).version ≡ length snap.rows + 1
    first_waits some =
        let between : List Touch = take (i - from) (drop from b.touches) in
        ap (λ (l : List OpenTouch). (open_at l 0).version) f.waits
        ∙ opens_at (from + 1) between 0 (omega (arith, some, opens_count, length-between b.touches from i f.order few))
        ∙ omega (arith, rows_count)

    pub version_next : (version : ℕ) → version ≡ suc i → version ≡ length snap.rows + length opens + 1
    version_next version e = omega (arith, e, rows_count, opens_count, f.order)

    pub below_is_log : IsLog snap.page_size (log_with snap opens)
    below_is_log =
        let L : ℕ → Type 0 = λ q. IsLog q (log_with snap opens) in
        subst L (sym page) (
          extents (take i us),
          (stand (take i us) (replayable_first us i ok)).0,
          below ∙ ap (take i) is.stands.log ∙ sym (touches_first are stay grow p i us (omega (arith, count, f.within))),
        )

    pub begins_before : (version : ℕ) → version ≡ suc i → s.at ≤ size_at (log_with snap opens) (version - 1)
    begins_before version e =
        let v : version - 1 ≡ i = omega arith in
        let here : size_at (log_with snap opens) (version - 1) ≡ size_of us i = ap (size_at (log_with snap opens)) v ∙ before in
        omega (arith, here, begins.0)

    pub some_bytes : 1 ≤ len
    some_bytes = begins.1

    pub size_after_it : (version : ℕ) → version ≡ suc i → size ≡ max (size_at (log_with snap opens) (version - 1)) (s.at + len)
    size_after_it version e =
        let v : version - 1 ≡ i = omega arith in
        whole ∙ next ∙ ap (λ n. max n (s.at + len)) (sym (ap (size_at (log_with snap opens)) v ∙ before))

    pub size_fits : size ≤ 2 ^ 40
    size_fits = omega (arith, whole, is.stands.fits (suc i) (omega (arith, count, f.within)))

    pub cut_alike : s.pages.page_size ≡ snap.page_size
    cut_alike =
        let P : Start → Type 0 = λ x. x.pages.page_size ≡ p in
        subst P (sym f.own) (is.cut i s f.within) ∙ sym page

    pub is_ticket : (caller blob version : ℕ) → version ≡ suc i → IsTicketOf b (numbered_update caller blob version s.at len size snap opens s.pages)
    is_ticket caller blob version e =
        let L : Version → Type 0 = λ v. NodesLieIn b.nodes v in
        let T : ℕ → Type 0 = λ v. IsTicketOf b (numbered_update caller blob v s.at len size snap opens s.pages) in
        let within : suc i ≤ length us = omega (arith, count, f.within) in
        subst T (sym e) record {
          some = omega arith;
          numbered = f.within;
          page_size = page;
          stands = record {
            in_bounds = (stand (take (suc i) us) (replayable_first us (suc i) ok)).0;
            touches =
                ap (λ q. touches q (extents (take (suc i) us))) page
                ∙ touches_first are stay grow p (suc i) us within
                ∙ ap (take (suc i)) (sym is.stands.log)
                ∙ take-suc log i no_touch (omega (arith, is.stands.counted, within))
                ∙ ap (λ l. l ++ slice_index_or log i no_touch ∷ []) (sym below)
                ∙ ap (λ t. log_with snap opens ++ t ∷ []) (touch_of_own ∙ ap (touched_by p s.at len) (sym whole) ∙ ap (λ q. touched_by q s.at len size) (sym page));
            own = extent_first are stay grow us i within ∙ falls;
          };
          bytes = sym (ap (λ (u : Update). u.bytes) (get_or-take (suc i) us i no_update (omega arith) ∙ update));
          lies = subst L (sym f.taken) (older_lies b.nodes b.window from is.lies);
        }
