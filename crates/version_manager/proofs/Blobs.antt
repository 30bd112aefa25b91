-- What a window tells of the blob that it keeps.
use Rattle.std.proofs.Common.{◌≡◌, ℕ, suc, ◌+◌, ◌-◌, ◌<◌, ◌≤◌, ◌==◌, Bool, true, false, List, [], length, take, drop, arith, refl, ap, sym, subst, ◌∙◌, get_or, set, Some, is_some, length-drop, take-append-drop, true≢false, inl, inr}
use Rattle.std.proofs.lemmas.List.{length-map, length-take-le, map-set, get_or-drop}
use Rattle.std.proofs.Math.Seq.{take-length}
use Rattle.std.specs.Prelude.{replicate, if◌then◌else◌}
use Rattle.std.proofs.lemmas.Bool.{ne_eqb, cases_lt}
use Rattle.blob_model.specs.Content.{Update, size_of}
use Rattle.blob_model.specs.Limits.{Bounds}
use Rattle.blob_model.specs.Store.{Blob, true_prefix, assigned, published, waiting, size_now, is_finished, finish, branch_of}
use Rattle.tree_geom.specs.declared.touch.Touch.{Touch}
use Rattle.tree_geom.specs.Geometry.{no_touch}
use Rattle.range_log.specs.Log.{size_at}
use Rattle.range_log.specs.Open.{open_at}
use Rattle.range_log.specs.Updates.{extents, extent_of, Replayable}
use Rattle.range_log.proofs.Bytes.{size_is, length-extents}
use Rattle.range_log.proofs.Grown.{size-touches}
use Rattle.range_log.proofs.Growth.{rows_stay, extents_grow, extent_of_front, size_front}
use Rattle.node_store.specs.UpdateRows.{UpdateRow}
use Rattle.snapshot.specs.Versions.{row_at, updates_of, older_version, under_blob, IsRowOf, IsVersion, size_now as version_size}
use Rattle.snapshot.specs.Laws.{AreRowsOf, TellUpdates}
use Rattle.snapshot.proofs.Growing.{IsRowOf-shorter}
use Rattle.snapshot.proofs.Telling.{told}
use Rattle.publisher.specs.Windows.{Numbered, finished_of, published_of, leading, version_of, waiting_of, window_on, with_finished, is_finished as is_done}
use Rattle.publisher.proofs.Growing.{new_stands}
use Rattle.publisher.proofs.Leading.{published_counts}
use Rattle.publisher.proofs.Standing.{rows_published, stands_finished}
use Rattle.tree_geom.proofs.Spans.{page_pos}
use Rattle.version_manager.specs.DeskInvariant.{Keeps}
use Rattle.version_manager.proofs.BlobsSizes.{prefix_set, prefix_true, prefix_whole, all_present, opens_count, opens_touch, sizes_grow}
use Rattle.blob_model.proofs.Marks.{prefix_within}

-- rows of updates are those of the first of them
rows_of_front : (p v : ℕ) (us : List Update) (rows : List UpdateRow) → v ≤ length us → length rows ≤ v → AreRowsOf p us rows → AreRowsOf p (take v us) rows
rows_of_front p v us rows le few are =
    let count : length (take v us) ≡ v = length-take-le v us le in
    record {
      few = omega arith;
      each = λ k some le'.
          let R : List Update → Type 0 = λ l. IsRowOf p l k (row_at rows k) in
          IsRowOf-shorter rows_stay extents_grow p k (take v us) (drop v us) (row_at rows k) (omega arith) (subst R (sym (take-append-drop v us)) (are.each k some le'));
    }

size_taken : (us : List Update) (v k : ℕ) → v ≤ length us → k ≤ v → size_of (take v us) k ≡ size_of us k
size_taken us v k le few =
    let count : length (take v us) ≡ v = length-take-le v us le in
    sym (size_front (take v us) (drop v us) k (omega arith)) ∙ ap (λ l. size_of l k) (take-append-drop v us)

pub replayable_taken : (us : List Update) (v : ℕ) → v ≤ length us → Replayable us → Replayable (take v us)
replayable_taken us v le ok k lt =
    let count : length (take v us) ≡ v = length-take-le v us le in
    let same : extent_of us (suc k) ≡ extent_of (take v us) (suc k) = ap (λ l. extent_of l (suc k)) (sym (take-append-drop v us)) ∙ extent_of_front (take v us) (drop v us) k (omega arith) in
    let here = ok k (omega arith) in
    let at = ap (λ x. x.at) same in
    let len = ap (λ x. x.len) same in (
      omega (arith, here.0, at, size_taken us v k le (omega arith)),
      omega (arith, here.1, len),
    )

-- the window of an empty blob
pub first_kept : (limits : Bounds) (id p : ℕ) → Keeps limits (window_on record { blob = id; page_size = p; rows = [] }) record { updates = []; finished = [] }
first_kept limits id p = record {
  blob = refl;
  page_size = refl;
  stands =
      new_stands [] (record { blob = id; page_size = p; rows = [] }) (λ k lt. absurd (omega arith)) (λ v le. (let e : v ≡ 0 = omega arith in omega (arith, ap (size_of []) e))) refl
      (record { few = omega arith; each = λ k some le. absurd (omega arith) });
  finished = refl;
  versions = omega arith;
  waiting = omega arith;
  size = omega arith;
}

-- an unfinished version isn't published
pub unfinished_above : (w : Numbered) (version : ℕ) → 1 ≤ version → is_done w version ≡ false → published_of w < version
unfinished_above w version some e = elim (cases_lt (version - 1) (published_of w)) [
  | inl lt ↦ absurd (true≢false (sym (prefix_true (finished_of w) (version - 1) lt) ∙ e))
  | inr le ↦ omega arith
]

module _ (limits : Bounds) (w : Numbered) (b : Blob) (k : Keeps limits w b) where
  pub assigned_is : length w.log ≡ assigned b
  assigned_is = sym k.stands.counted

  pub published_is : published_of w ≡ published b
  published_is = ap true_prefix (sym k.finished)

  pub finished_is : (version : ℕ) → 1 ≤ version → is_done w version ≡ is_finished b version
  finished_is version some =
      let off : (version == 0) ≡ false = ne_eqb version 0 (λ e. omega arith) in
      let old : Bool = get_or b.finished (version - 1) false in
      ap (λ l. get_or l (version - 1) false) (sym k.finished) ∙ sym (ap (λ t. if t then true else old) off)

  -- the sizes by the log
  pub log_size : (v : ℕ) → v ≤ length b.updates → size_at w.log v ≡ size_of b.updates v
  log_size v le =
      ap (λ l. size_at l v) k.stands.log
      ∙ size-touches w.page_size (extents b.updates) v (omega (arith, length-extents b.updates))
      ∙ size_is b.updates v k.stands.replayable le

  module _ (even : length w.rows ≡ length w.log) where
    pub leads : length (leading w.rows) ≡ published_of w
    leads = sym (published_counts w.rows)

    pub published_few : published_of w ≤ length w.log
    published_few = omega (arith, prefix_within (finished_of w), length-map w.rows is_some)

    pub waiting_count : length (waiting_of w) ≡ length w.log - published_of w
    waiting_count = opens_count (published_of w + 1) (drop (published_of w) w.log) ∙ length-drop (published_of w) w.log

    pub waiting_is : length (waiting_of w) ≡ waiting b
    waiting_is = omega (arith, waiting_count, assigned_is, published_is)

    -- the size after a waiting update, and after the last
    pub open_size : (i : ℕ) → i < length (waiting_of w) → (open_at (waiting_of w) i).touch.size ≡ size_of b.updates (suc (published_of w + i))
    open_size i lt =
        let n : ℕ = published_of w in
        let S : Touch → ℕ = λ t. t.size in
        ap S (opens_touch (n + 1) (drop n w.log) i) ∙ ap S (get_or-drop n w.log i no_touch) ∙ log_size (suc (n + i)) (omega (arith, waiting_count, published_few, k.stands.counted))

    pub last_size : (i : ℕ) → i + 1 ≡ length (waiting_of w) → (open_at (waiting_of w) i).touch.size ≡ size_now b
    last_size i last =
        let e : suc (published_of w + i) ≡ length b.updates = omega (arith, waiting_count, published_few, k.stands.counted) in
        open_size i (omega arith) ∙ ap (size_of b.updates) e

    module _ (is : IsVersion (version_of w)) where
      page_some : 1 ≤ w.page_size
      page_some = page_pos w.page_size is.page_size

      own_rows : (v : ℕ) → v ≤ published_of w → AreRowsOf w.page_size b.updates (take v (leading w.rows))
      own_rows v le = rows_published b.updates w v even k.stands

      pub rows_count : (v : ℕ) → v ≤ published_of w → length (take v (leading w.rows)) ≡ v
      rows_count v le = length-take-le v (leading w.rows) (omega (arith, leads))

      -- the rows of a published version tell the updates
      pub tells : (v : ℕ) → v ≤ published_of w → TellUpdates w.page_size b.updates (take v (leading w.rows))
      tells v le = told rows_stay w.page_size b.updates (take v (leading w.rows)) page_some k.stands.replayable (own_rows v le)

      pub older_size : (v : ℕ) → v ≤ published_of w → version_size (older_version (version_of w) v) ≡ size_of b.updates v
      older_size v le =
          ap length ((tells v le).leave (length (take v (leading w.rows))) (omega arith)) ∙ ap (size_of b.updates) (rows_count v le)

      whole : take (published_of w) (leading w.rows) ≡ leading w.rows
      whole = ap (λ n. take n (leading w.rows)) (sym leads) ∙ take-length (leading w.rows)

      pub tells_all : TellUpdates w.page_size b.updates (leading w.rows)
      tells_all = subst (TellUpdates w.page_size b.updates) whole (tells (published_of w) (omega arith))

      pub size_told : (v : ℕ) → v ≤ length (leading w.rows) → size_of (updates_of (version_of w)) v ≡ size_of b.updates v
      size_told v le = ap length (tells_all.leave v le)

      pub size_published : version_size (version_of w) ≡ size_of b.updates (published_of w)
      size_published = size_told (length (leading w.rows)) (omega arith) ∙ ap (size_of b.updates) leads

      -- where nothing waits, the published version is the last
      pub size_alone : length (waiting_of w) ≡ 0 → version_size (version_of w) ≡ size_now b
      size_alone none = size_published ∙ ap (size_of b.updates) (let e : published_of w ≡ length b.updates = omega (arith, waiting_count, published_few, k.stands.counted) in e)

      -- a blob that shares the versions up to a published one
      pub branch_kept : (v id : ℕ) → v ≤ published_of w → Keeps limits (window_on (under_blob (older_version (version_of w) v) id)) (branch_of b v)
      branch_kept v id le =
          let us : List Update = take v b.updates in
          let rows : List UpdateRow = take v (leading w.rows) in
          let upto : v ≤ length b.updates = omega (arith, published_few, k.stands.counted) in
          let count : length us ≡ v = length-take-le v b.updates upto in
          let few : length rows ≡ v = rows_count v le in
          let last : size_of us (length us) ≡ size_of b.updates v = ap (size_of us) count ∙ size_taken b.updates v v upto (omega arith) in
          let rest : length b.updates - v + v ≡ length b.updates = omega arith in
          record {
            blob = refl;
            page_size = refl;
            stands =
                new_stands us (under_blob (older_version (version_of w) v) id)
                (replayable_taken b.updates v upto k.stands.replayable)
                (λ i le'. omega (arith, size_taken b.updates v i upto (omega arith), k.stands.fits i (omega arith)))
                (count ∙ sym few)
                (rows_of_front w.page_size v b.updates rows upto (omega arith) (own_rows v le));
            finished = sym (all_present rows ∙ ap (λ n. replicate n true) few);
            versions = omega (arith, k.versions);
            waiting = omega (arith, prefix_whole v);
            size = omega (arith, last, sizes_grow b.updates v (length b.updates - v) k.stands.replayable (omega arith), ap (size_of b.updates) rest, k.size);
          }

    -- one update is finished, by its row
    pub finish_kept : (version : ℕ) (row : UpdateRow) → 1 ≤ version → version ≤ assigned b → IsRowOf w.page_size b.updates version row → Keeps limits (with_finished w version row) (finish b version)
    finish_kept version row some le own = record {
      blob = refl;
      page_size = refl;
      stands = stands_finished b.updates w version row some (omega (arith, k.stands.counted)) k.stands own;
      finished = ap (λ l. set l (version - 1) true) k.finished ∙ sym (map-set is_some w.rows (version - 1) (Some row));
      versions = k.versions;
      waiting = omega (arith, k.waiting, prefix_set b.finished (version - 1));
      size = k.size;
    }
