-- The pages that a numbered update stores anew: where they lie, and their bytes.
use Rattle.std.proofs.Common.{true, false, Bool, ◌≡◌, ◌⊎◌, ℕ, zero, suc, ◌+◌, ◌-◌, ◌*◌, ◌/◌, ◌<◌, ◌≤◌, List, [], ◌∷◌, ◌++◌, length, take, drop, max, min, arith, inl, inr, refl, ap, sym, subst, ◌∙◌}
use Rattle.std.specs.Prelude.{◌==◌, if◌then◌else◌}
use Rattle.std.specs.List.{Contains}
use Rattle.std.proofs.lemmas.Bool.{cases_lt, eq-eqb, false≢true}
use Rattle.std.proofs.lemmas.List.{get_or_append_left, get_or-take, take-take, length-take-le}
use Rattle.std.proofs.lemmas.List.Elements.{Contains-append_cases}
use Rattle.blob_model.specs.Content.{Update, put, content, content_from, size_of}
use Rattle.tree_geom.specs.declared.touch.Touch.{Touch}
use Rattle.tree_geom.specs.declared.range.Range.{Range}
use Rattle.tree_geom.specs.Geometry.{Meets, covers, page_range, tree_range}
use Rattle.tree_geom.proofs.Spans.{page_pos, page_aligned}
use Rattle.range_log.specs.Log.{HasNode, newest_of, touch_at, size_at}
use Rattle.range_log.specs.Extents.{Extent, InBounds, extent_at, size_after, touches}
use Rattle.range_log.specs.Updates.{update_at, no_update, extents, extent_of, own_bytes, page_bytes, Replayable}
use Rattle.range_log.specs.Rows.{edge_pages, folds_of, leaf_from, leaf_len, leaf_start}
use Rattle.range_log.specs.Laws.{EachExtentIs, EachTouchIs, ContentsGrow, ExtentsAre, ExtentsStand, FoldsAre, LeavesFill, LogsAreGrown, NewestHasNode, NewestHits, SizesAre, TouchesAre}
use Rattle.range_log.proofs.Bytes.{length-put}
use Rattle.page_store.specs.Stored.{bytes_of_pages}
use Rattle.snapshot.specs.Versions.{size_now, updates_of}
use Rattle.border_hints.specs.Numbered.{NumberedUpdate, IsValidTicket, log_of, log_with, log_upto, own_touch}
use Rattle.border_hints.proofs.Published.{log_size}
use Rattle.border_hints.proofs.Tickets.{length-log_of, length-log_with}
use Rattle.range_reader.specs.Reading.{page_in}
use Rattle.range_reader.proofs.Walking.{down, up}
use Rattle.tree_weaver.specs.Planned.{own_depth, own_extent, own_folded, own_folds}
use Rattle.tree_weaver.proofs.Plans.{folds_told}
use Rattle.tree_weaver.proofs.Shapes.{uncovered}
use Rattle.tree_weaver.specs.Anew.{IsStoredAnew, KnowsBefore, IsChanged, bytes_anew}
use Rattle.tree_weaver.specs.Woven.{IsAmong}
use Rattle.range_log.proofs.Folds.{single, filter_only}

-- ---- lists
pub none_in : (i : ℕ) → Contains [] i → ⊥
none_in i c = let lt : c.0 < 0 = c.1 in omega arith

edges_are : (b : Bool) (first last i : ℕ) → Contains (if b then first ∷ [] else first ∷ last ∷ []) i → (first ≡ i) ⊎ (last ≡ i)
edges_are true first last i c = inl (single first i c)
edges_are false first last i c = elim (Contains-append_cases (first ∷ []) (last ∷ []) i c) [ inl here ↦ inl (single first i here) | inr there ↦ inr (single last i there) ]

-- ---- where such a page lies
-- its ticket knows the version before
pub knows : (t : NumberedUpdate) (i : ℕ) → KnowsBefore t → IsValidTicket t → IsStoredAnew t i → length t.snapshot.rows + 1 ≡ t.version
knows t i before is anew =
    before is.stands.0 is.stands.1
    (λ none. none_in i (subst (λ (l : List ℕ). Contains l i) none (anew is.stands.0 is.stands.1)))

size_front : (log more : List Touch) (k : ℕ) → k ≤ length log → size_at (log ++ more) k ≡ size_at log k
size_front log more zero le = refl
size_front log more (suc k) le = ap (λ (u : Touch). u.size) (get_or_append_left log more _ k (omega arith))

-- the size before the update is that of the snapshot
size_known : TouchesAre → SizesAre → ExtentsStand → (t : NumberedUpdate) → IsValidTicket t → length t.snapshot.rows + 1 ≡ t.version
    → size_at (log_upto t) (t.version - 1) ≡ size_now t.snapshot
size_known are sizes stand t is before =
    let n : ℕ = length t.snapshot.rows in
    let e : t.version - 1 ≡ n = omega arith in
    ap (size_at (log_upto t)) e
    ∙ size_front (log_with t.snapshot t.waiting) (own_touch t ∷ []) n (omega (arith, length-log_with are t.snapshot t.waiting))
    ∙ size_front (log_of t.snapshot) _ n (omega (arith, length-log_of are t.snapshot))
    ∙ log_size sizes stand t.snapshot is.published

-- an update that begins at the size before it at the latest covers a page that wasn't there
all_covered : (p at len size old i : ℕ) → 1 ≤ len → at ≤ old → size ≡ max old (at + len) → old ≤ i * p → i * p < at + len → covers p at len size i ≡ true
all_covered p at len size old i some le is past reach =
    let a : (max at (i * p) == i * p) ≡ true = eq-eqb (max at (i * p)) (i * p) (omega arith) in
    let b : (min (at + len) ((i + 1) * p) == min size ((i + 1) * p)) ≡ true = eq-eqb (min (at + len) ((i + 1) * p)) (min size ((i + 1) * p)) (omega arith) in
    rw (a, b) refl

pub changed : EachTouchIs → TouchesAre → SizesAre → ExtentsStand → (t : NumberedUpdate) (i : ℕ) → IsValidTicket t → IsStoredAnew t i → length t.snapshot.rows + 1 ≡ t.version → IsChanged t i
changed each are sizes stand t i is anew before =
    let p : ℕ = t.snapshot.page_size in
    let pos : 1 ≤ p = page_pos p is.published.page_size in
    let own : Contains (own_folds t) i = subst (λ (l : List ℕ). Contains l i) (folds_told each sizes t is is.stands.0 is.stands.1) (anew is.stands.0 is.stands.1) in
    let both : Contains (edge_pages (own_touch t)) i × (own_folded t i ≡ true) = filter_only (λ j. own_folded t j) (edge_pages (own_touch t)) i own in
    let edge = edges_are ((own_touch t).first == (own_touch t).last) (own_touch t).first (own_touch t).last i both.0 in
    let f : t.at / p * p ≤ t.at = down t.at p in
    let g : t.at < (t.at / p + 1) * p = up t.at p pos in
    let h : (t.at + t.len - 1) / p * p ≤ t.at + t.len - 1 = down (t.at + t.len - 1) p in
    let j : t.at + t.len - 1 < ((t.at + t.len - 1) / p + 1) * p = up (t.at + t.len - 1) p pos in
    let known = size_known are sizes stand t is before in
    let size : t.size ≡ max (size_now t.snapshot) (t.at + t.len) = is.size ∙ ap (λ n. max n (t.at + t.len)) known in
    let at : t.at ≤ size_now t.snapshot = omega (arith, is.at, known) in
    let ends : i * p < t.at + t.len = elim edge [ inl e ↦ subst (λ n. n * p < t.at + t.len) e (omega (arith, f, is.some)) | inr e ↦ subst (λ n. n * p < t.at + t.len) e (omega (arith, h, is.some)) ] in
    let begins : t.at < (i + 1) * p = elim edge [ inl e ↦ subst (λ n. t.at < (n + 1) * p) e g | inr e ↦ subst (λ n. t.at < (n + 1) * p) e (omega (arith, j, is.some)) ] in
    record {
      older = elim (cases_lt (i * p) (size_now t.snapshot)) [
        | inl lt ↦ lt
        | inr past ↦ absurd (false≢true (sym (uncovered (covers p t.at t.len t.size i) (own_depth t i == 0) both.1)
            ∙ all_covered p t.at t.len t.size (size_now t.snapshot) i is.some at size past ends))
      ];
      begins = begins;
      ends = ends;
      at = at;
      size = size;
    }

-- ---- its bytes
-- updates that fall in bounds can be replayed
replayed : ExtentsAre → EachExtentIs → ContentsGrow → (us : List Update) → InBounds (extents us) → (v : ℕ) → v ≤ length us → size_after (extents us) v ≡ size_of us v
replayed are each grow us ok zero h = refl
replayed are each grow us ok (suc v) h =
    let c : List ℕ = content us v in
    let b : List ℕ = (update_at us (suc v)).bytes in
    let x : Extent = extent_of us (suc v) in
    let before : size_after (extents us) v ≡ length c = replayed are each grow us ok v (omega arith) in
    let e : extent_at (extents us) (suc v) ≡ x = each us v (omega arith) in
    let at : (extent_at (extents us) (suc v)).at ≡ x.at = ap (λ (y : Extent). y.at) e in
    let len : (extent_at (extents us) (suc v)).len ≡ length b = ap (λ (y : Extent). y.len) e in
    let begins : (extent_at (extents us) (suc v)).at ≤ size_after (extents us) v = (ok v (omega (arith, are us))).0 in
    let next : length (content us (suc v)) ≡ length (put c x.at b) = ap length (grow us v (omega arith)) in
    let grown : length (put c x.at b) ≡ max (length c) (x.at + length b) = length-put c x.at b (omega arith) in
    omega arith

replayable : ExtentsAre → EachExtentIs → ContentsGrow → (us : List Update) → InBounds (extents us) → Replayable us
replayable are each grow us ok k h =
    let x : Extent = extent_of us (suc k) in
    let e : extent_at (extents us) (suc k) ≡ x = each us k h in
    let at : (extent_at (extents us) (suc k)).at ≡ x.at = ap (λ (y : Extent). y.at) e in
    let len : (extent_at (extents us) (suc k)).len ≡ x.len = ap (λ (y : Extent). y.len) e in
    let size : size_after (extents us) k ≡ size_of us k = replayed are each grow us ok k (omega arith) in
    let was = ok k (omega (arith, are us)) in
    (omega (arith, was.0), omega (arith, was.1))

-- the row of an update has a node for each page that it touches
touched_node : NewestHits → NewestHasNode → LogsAreGrown → (p k i : ℕ) (us : List Extent) → 1 ≤ p → InBounds us → suc k ≤ length (touches p us)
    → Meets p (touch_at (touches p us) (suc k)) (page_range p i) → HasNode p (touches p us) (suc k) (page_range p i)
touched_node hits has grown p k i us pos bounds le met =
    let log : List Touch = touches p us in
    let align : page_range p i ≡ tree_range p 0 i = page_aligned p i in
    let M : Range → Type 0 = λ r. Meets p (touch_at log (suc k)) r in
    let newest : newest_of p log (suc k) (tree_range p 0 i) ≡ suc k = hits p log k (tree_range p 0 i) (subst M align met) in
    let node : HasNode p log (newest_of p log (suc k) (tree_range p 0 i)) (tree_range p 0 i) = has p log (suc k) 0 i pos (grown p us pos bounds) le (inl refl) (omega (arith, newest)) in
    let N : ℕ → Type 0 = λ n. HasNode p log n (tree_range p 0 i) in
    let R : Range → Type 0 = λ r. HasNode p log (suc k) r in
    subst R (sym align) (subst N newest node)

-- an update is the same among the first ones
pub update_among : (us : List Update) (v : ℕ) → 1 ≤ v → update_at (take v us) v ≡ update_at us v
update_among us zero some = absurd (omega arith)
update_among us (suc k) some = get_or-take (suc k) us k no_update (omega arith)

module _ (fill : LeavesFill) (folds : FoldsAre) (grown : LogsAreGrown) (count : TouchesAre) (hits : NewestHits) (has : NewestHasNode)
    (are : ExtentsAre) (each : EachExtentIs) (grow : ContentsGrow) where
  -- among whichever updates the ticket's is one, they are the page's bytes at its version
  pub bytes_told : (t : NumberedUpdate) (p : ℕ) (us : List Update) (i : ℕ) → IsValidTicket t → IsAmong p us t → length t.snapshot.rows + 1 ≡ t.version
      → Contains (folds_of t.snapshot.page_size (extents (take t.version us)) t.version) i
      → bytes_anew t i ≡ page_bytes t.snapshot.page_size (take t.version us) t.version i
  bytes_told t size us i is among before anew =
      let p : ℕ = t.snapshot.page_size in
      let pos : 1 ≤ p = page_pos p is.published.page_size in
      let n : ℕ = length t.snapshot.rows in
      let k : ℕ = t.version in
      let first : List Update = take k us in
      let xs : List Extent = extents first in
      let last : suc n ≡ k = omega arith in
      let long : length first ≡ k = length-take-le k us among.numbered in
      let extent_count : length xs ≡ k = are first ∙ long in
      let log_count : length (touches p xs) ≡ k = count p xs ∙ extent_count in
      let met = (((folds p k xs pos among.stands.in_bounds (omega arith) (omega arith)).0 i).0 anew).0 in
      let M : ℕ → Type 0 = λ v. Meets p (touch_at (touches p xs) v) (page_range p i) in
      let H : ℕ → Type 0 = λ v. HasNode p (touches p xs) v (page_range p i) in
      let node : H k = subst H last (touched_node hits has grown p n i xs pos among.stands.in_bounds (omega arith) (subst M (sym last) met)) in
      let x : extent_of first k ≡ own_extent t =
      ap (extent_of first) (sym last) ∙ sym (each first n (omega arith)) ∙ ap (extent_at xs) last ∙ among.stands.own in
      let own_update : (update_at first k).bytes ≡ bytes_of_pages t.pages.pages = ap (λ (u : Update). u.bytes) (update_among us k (omega arith)) ∙ sym among.bytes in
      let one_before : k - 1 ≡ n = omega arith in
      let old : content first (k - 1) ≡ content (updates_of t.snapshot) n =
      ap (content_from []) (take-take (k - 1) k us (omega arith)) ∙ ap (content us) one_before ∙ sym among.before in
      let whole = (fill p k i first pos (replayable are each grow first among.stands.in_bounds) node).2 in
      sym
      (whole
      ∙ ap (λ c. put (take p (drop (i * p) c)) (leaf_start p (extent_of first k) i) (own_bytes p first k i)) old
      ∙ ap (λ (y : Extent). put (page_in t.snapshot n i) (leaf_start p y i) (take (leaf_len p y i) (drop (leaf_from p y i) (update_at first k).bytes))) x
      ∙ ap (λ b. put (page_in t.snapshot n i) (leaf_start p (own_extent t) i) (take (leaf_len p (own_extent t) i) (drop (leaf_from p (own_extent t) i) b))) own_update)
