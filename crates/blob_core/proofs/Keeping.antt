-- What each step keeps true of a world.
use Rattle.std.proofs.Common.{◌≡◌, ◌⊎◌, ℕ, ◌+◌, ◌-◌, ◌<◌, ◌≤◌, zero, suc, Bool, true, false, List, [], ◌∷◌, length, arith, inl, inr, refl, ap, sym, subst, ◌∙◌}
use Rattle.std.specs.Prelude.{◌==◌, if◌then◌else◌, Option, Some, None, slice_index_or}
use Rattle.std.proofs.lemmas.Bool.Decides.{nat_tests}
use Rattle.std.proofs.lemmas.Bool.{cases_lt}
use Rattle.std.proofs.lemmas.List.{get_or_past, length-append, length-set, length-replicate, length-take-le, take-append-drop}
use Rattle.blob_model.specs.Limits.{Bounds}
use Rattle.blob_model.specs.Content.{Update, offset_of}
use Rattle.blob_model.specs.Store.{Store, Blob, blob_at, with_blob, and_blob, and_update, finish, branch_of, published, assigned, is_finished, size_now}
use Rattle.tree_geom.specs.declared.range.Range.{Range}
use Rattle.tree_geom.specs.declared.node.Node.{Node}
use Rattle.tree_geom.specs.declared.node.NodeKey.{NodeKey}
use Rattle.tree_geom.specs.Geometry.{page_range}
use Rattle.range_log.specs.Log.{HasNode}
use Rattle.range_log.specs.Rows.{folded_of, node_of}
use Rattle.range_log.specs.Extents.{InBounds}
use Rattle.range_log.specs.Updates.{update_at, extents, page_bytes, Replayable}
use Rattle.blob_core.specs.World.{World, IsKnown, empty_world, UpdateEntry, fold_at, same_number, same_update, same_fold, same_key, page_at, node_at, kept_at, origin, key_in, node_in, bytes_of_pages, AreCut, log_of, waiting_after}
use Rattle.branching.specs.declared.Parent.{Parent}
use Rattle.blob_core.specs.declared.world.FoldKey.{FoldKey}
use Rattle.blob_core.specs.declared.world.UpdateKey.{UpdateKey}
use Rattle.blob_core.specs.Woven.{woven}
use Rattle.blob_core.specs.Steps.{IsFolded, IsNumberedIn, RowIsThere, next_kept, with_update, with_node, with_node_by}
use Rattle.blob_core.specs.Promises.{IsFoldPage, FoldsArePages, IsRowNode, NodesAreRows}
use Rattle.blob_core.proofs.Lists.{one_value, none_some, number_means, update_means, update_itself, fold_means, key_means, entry_kept, entry_new, entry_old, mark_next, mark_set, prefix_marked, prefix_all, KeepsPages, SmallPages, cut_kept, joined_kept}
use Rattle.blob_model.proofs.Marks.{prefix_within, blob_at-with}
use Rattle.blob_model.proofs.Stays.{true_prefix-set, true_prefix-append}
use Rattle.branching.proofs.Parents.{origin_older, origin_past, origin_own, origin_shared}
use Rattle.blob_core.proofs.Growing.{Cited, Agrees, agree_same, agree_more, agree_front, replay_front, replay_next, update_next, waiting_same, length_log}
use Rattle.blob_core.proofs.Finding.{RowsKnown, woven_is, woven_folded_is}
use Rattle.blob_core.proofs.Taken.{blob_some, more_kept, more_was, with_was, with_on}

-- ---- what holds
-- What is kept beside update j of a blob: its pages hold its bytes, and its hints are those of its numbering.
pub record UpdateStands (p : ℕ) (w : World) (blob : ℕ) (b : Blob) (j : ℕ) : Type 0 where
  pub kept : UpdateEntry
  pub there : kept_at w.updates (origin w blob j) j ≡ Some kept
  pub cut : AreCut p w.pages kept.pages
  pub bytes : bytes_of_pages w.pages kept.pages ≡ (update_at b.updates j).bytes
  pub before : kept.published < j
  pub front : kept.published ≤ published b
  pub waiting : kept.waiting ≡ waiting_after (log_of p b.updates) kept.published (j - 1 - kept.published)

pub record BlobStands (p : ℕ) (w : World) (blob : ℕ) (b : Blob) : Type 0 where
  pub replay : Replayable b.updates
  pub marks : length b.finished ≡ length b.updates
  pub own : (j : ℕ) → assigned b < j → origin w blob j ≡ blob
  pub updates : (j : ℕ) → 1 ≤ j → j ≤ assigned b → UpdateStands p w blob b j
  pub rows : (j : ℕ) (r : Range) → is_finished b j ≡ true → HasNode p (log_of p b.updates) j r → node_in w blob j r ≡ Some (node_of p (extents b.updates) j r)
  pub folds : (j i : ℕ) → is_finished b j ≡ true → HasNode p (log_of p b.updates) j (page_range p i) → folded_of p (extents b.updates) j i ≡ true
      → fold_at w.folded (origin w blob j) j i ≡ Some (page_bytes p b.updates j i)

abbrev pub IsOfBlob : World → ℕ → ℕ → Type 0
IsOfBlob w blob version = (b : Blob) × (blob_at w.store blob ≡ Some b) × (version ≤ assigned b)

-- where the leaf of this key stores its page anew, the page is there
abbrev pub FoldIsThere : ℕ → World → NodeKey → Type 0
FoldIsThere p w key =
    (b : Blob) → blob_at w.store key.blob ≡ Some b → (i : ℕ) → key.range ≡ page_range p i → folded_of p (extents b.updates) key.version i ≡ true
    → IsKnown (fold_at w.folded key.blob key.version i)

pub record Stands (p : ℕ) (w : World) : Type 0 where
  pub lineage : length w.lineage ≡ length w.store.blobs
  pub pages : SmallPages p w.pages
  pub known : (blob version : ℕ) (kept : UpdateEntry) → kept_at w.updates blob version ≡ Some kept → IsOfBlob w blob version
  pub blobs : (blob : ℕ) (b : Blob) → blob_at w.store blob ≡ Some b → BlobStands p w blob b
  pub nodes : NodesAreRows p w
  pub folds : FoldsArePages p w
  pub anew : (key : NodeKey) (n : Node) → node_at w.nodes key ≡ Some n → FoldIsThere p w key

-- ---- marks
finished_at : (b : Blob) (j : ℕ) → is_finished b (suc j) ≡ slice_index_or b.finished j false
finished_at b j =
    let t : (suc j == 0) ≡ false = grind (arith, nat_tests) in
    let e : suc j - 1 ≡ j = omega arith in
    rw t (ap (λ (i : ℕ). slice_index_or b.finished i false) e)

pub published_finished : (b : Blob) (j : ℕ) → j ≤ published b → is_finished b j ≡ true
published_finished b zero le = refl
published_finished b (suc j) le = finished_at b j ∙ prefix_marked b.finished j (omega arith)

finished_next : (b : Blob) (u : Update) (j : ℕ) → is_finished (and_update b u) j ≡ true → is_finished b j ≡ true
finished_next b u zero e = refl
finished_next b u (suc j) e = finished_at b j ∙ sym (mark_next b.finished j) ∙ sym (finished_at (and_update b u) j) ∙ e

finished_set : (b : Blob) (v j : ℕ) → 1 ≤ v → is_finished (finish b v) j ≡ true → (j ≡ v) ⊎ (is_finished b j ≡ true)
finished_set b v zero some e = inr refl
finished_set b v (suc j) some e =
    elim (mark_set b.finished (v - 1) j (sym (finished_at (finish b v) j) ∙ e)) [
      | inl same ↦ inl (let here : j ≡ v - 1 = same in omega arith)
      | inr old ↦ inr (finished_at b j ∙ old)
    ]

pub published_within : (p : ℕ) (w : World) (blob : ℕ) (b : Blob) → BlobStands p w blob b → published b ≤ assigned b
published_within p w blob b s = omega (arith, prefix_within b.finished, s.marks)

-- ---- worlds that only grow
record Wider (a b : World) : Type 0 where
  pages : KeepsPages a.pages b.pages
  updates : (blob version : ℕ) (kept : UpdateEntry) → kept_at a.updates blob version ≡ Some kept → kept_at b.updates blob version ≡ Some kept
  nodes : (key : NodeKey) (n : Node) → node_at a.nodes key ≡ Some n → node_at b.nodes key ≡ Some n
  folded : (blob version page : ℕ) (bytes : List ℕ) → fold_at a.folded blob version page ≡ Some bytes → fold_at b.folded blob version page ≡ Some bytes

-- a change of the store, or of the lineage, leaves what is kept, the pages and the nodes alone
wider_same : (w : World) (t : Store) (parents : List (Option Parent)) → Wider w (record w { store = t; lineage = parents })
wider_same w t parents = record {
  pages = λ n b is. is;
  updates = λ blob version kept is. is;
  nodes = λ key n is. is;
  folded = λ blob version page bytes is. is;
}

-- each blob is there, and what it was is a beginning of what it is
abbrev Forward : ℕ → World → World → Type 0
Forward p a b = (blob : ℕ) (old : Blob) → blob_at a.store blob ≡ Some old
    → (new : Blob) × (blob_at b.store blob ≡ Some new) × Agrees p old.updates new.updates (assigned old) × (assigned old ≤ assigned new)

forward_same : (p : ℕ) (a b : World) → ((blob : ℕ) (old : Blob) → blob_at a.store blob ≡ Some old → blob_at b.store blob ≡ Some old) → Forward p a b
forward_same p a b same blob old e = (old, same blob old e, agree_same p old.updates (assigned old), omega arith)

module _ (p : ℕ) (a b : World) (wide : Wider a b) (on : Forward p a b) where
  row_moved : (key : NodeKey) (n : Node) → IsRowNode p a key n → IsRowNode p b key n
  row_moved key n row =
      let (new, at, agrees, more) = on key.blob row.b row.there in
      let upto : key.version ≤ assigned row.b = omega (arith, row.has.version.1, length_log p row.b.updates) in
      record { b = new; there = at; has = agrees.there key.version key.range upto row.has; is = row.is ∙ sym (agrees.node key.version key.range upto) }

  fold_moved : (blob version page : ℕ) (bytes : List ℕ) → IsFoldPage p a blob version page bytes → IsFoldPage p b blob version page bytes
  fold_moved blob version page bytes x =
      let (new, at, agrees, more) = on blob x.b x.there in
      record { b = new; there = at; upto = omega (arith, x.upto); is = x.is ∙ sym (agrees.page version page x.upto) }

  there_moved : (key : NodeKey) (n : Node) → IsRowNode p a key n → FoldIsThere p a key → FoldIsThere p b key
  there_moved key n row was x at i same anew =
      let (new, here, agrees, more) = on key.blob row.b row.there in
      let upto : key.version ≤ assigned row.b = omega (arith, row.has.version.1, length_log p row.b.updates) in
      let eq : new ≡ x = one_value (blob_at b.store key.blob) new x here at in
      let (bytes, e) = was row.b row.there i same (sym (agrees.anew key.version i upto) ∙ ap (λ (y : Blob). folded_of p (extents y.updates) key.version i) eq ∙ anew) in
      (bytes, wide.folded key.blob key.version i bytes e)

  -- A world stands after a step where its pages and blobs do: all else was there, or stood already when it was put.
  stands_on : Stands p a → length b.lineage ≡ length b.store.blobs → SmallPages p b.pages
      → ((blob version : ℕ) (kept : UpdateEntry) → kept_at b.updates blob version ≡ Some kept → IsOfBlob b blob version ⊎ (kept_at a.updates blob version ≡ Some kept))
      → ((blob : ℕ) (x : Blob) → blob_at b.store blob ≡ Some x → BlobStands p b blob x)
      → ((key : NodeKey) (n : Node) → node_at b.nodes key ≡ Some n → (IsRowNode p a key n × FoldIsThere p a key) ⊎ (node_at a.nodes key ≡ Some n))
      → ((blob version page : ℕ) (bytes : List ℕ) → fold_at b.folded blob version page ≡ Some bytes
      → IsFoldPage p a blob version page bytes ⊎ (fold_at a.folded blob version page ≡ Some bytes))
      → Stands p b
  stands_on s lineage pages known blobs nodes folds = record {
    lineage = lineage;
    pages = pages;
    known = λ blob version kept e.
        elim (known blob version kept e) [ inl new ↦ new | inr was ↦ (let (x, is, le) = s.known blob version kept was in let (y, at, agrees, more) = on blob x is in (y, at, omega arith)) ];
    blobs = blobs;
    nodes = λ key n e. row_moved key n (elim (nodes key n e) [ inl new ↦ new.0 | inr was ↦ s.nodes key n was ]);
    folds = λ blob version page bytes e. fold_moved blob version page bytes (elim (folds blob version page bytes e) [ inl new ↦ new | inr was ↦ s.folds blob version page bytes was ]);
    anew = λ key n e. elim (nodes key n e) [ inl new ↦ there_moved key n new.0 new.1 | inr was ↦ there_moved key n (s.nodes key n was) (s.anew key n was) ];
  }

-- ---- a blob whose versions up to n are those of another one
-- what stands of a blob's versions up to n
record StandsUpTo (p : ℕ) (w : World) (blob : ℕ) (b : Blob) (n : ℕ) : Type 0 where
  updates : (j : ℕ) → 1 ≤ j → j ≤ n → UpdateStands p w blob b j
  rows : (j : ℕ) (r : Range) → j ≤ n → is_finished b j ≡ true → HasNode p (log_of p b.updates) j r → node_in w blob j r ≡ Some (node_of p (extents b.updates) j r)
  folds : (j i : ℕ) → j ≤ n → is_finished b j ≡ true → HasNode p (log_of p b.updates) j (page_range p i) → folded_of p (extents b.updates) j i ≡ true
      → fold_at w.folded (origin w blob j) j i ≡ Some (page_bytes p b.updates j i)

-- all of them
blob_stands : (p : ℕ) (w : World) (blob : ℕ) (b : Blob) → Replayable b.updates → length b.finished ≡ length b.updates → ((j : ℕ) → assigned b < j → origin w blob j ≡ blob)
    → StandsUpTo p w blob b (assigned b) → BlobStands p w blob b
blob_stands p w blob b replay marks own m = record {
  replay = replay;
  marks = marks;
  own = own;
  updates = m.updates;
  rows = λ j r fin has. m.rows j r (omega (arith, has.version.1, length_log p b.updates)) fin has;
  folds = λ j i fin has anew. m.folds j i (omega (arith, has.version.1, length_log p b.updates)) fin has anew;
}

module _ (p : ℕ) (a b : World) (blob blob' : ℕ) (old new : Blob) (n : ℕ) (wide : Wider a b) (agrees : Agrees p old.updates new.updates n)
    (same : (j : ℕ) → j ≤ n → origin b blob' j ≡ origin a blob j) (s : BlobStands p a blob old) (few : n ≤ assigned old)
    (front : (m j : ℕ) → m < j → j ≤ n → m ≤ published old → m ≤ published new) where
  update_moved : (j : ℕ) → 1 ≤ j → j ≤ n → UpdateStands p b blob' new j
  update_moved j some le =
      let u : UpdateStands p a blob old j = s.updates j some (omega arith) in
      record {
        kept = u.kept;
        there = rw (same j le) (wide.updates (origin a blob j) j u.kept u.there);
        cut = cut_kept p a.pages b.pages wide.pages u.kept.pages u.cut;
        bytes = joined_kept p a.pages b.pages wide.pages u.kept.pages u.cut ∙ u.bytes ∙ ap (λ (x : Update). x.bytes) (sym (agrees.update j some le));
        before = u.before;
        front = front u.kept.published j u.before le u.front;
        waiting = u.waiting ∙ sym (waiting_same (log_of p old.updates) (log_of p new.updates) u.kept.published (j - 1 - u.kept.published) n (omega (arith, u.before)) agrees.touch);
      }

  moved : ((j : ℕ) → j ≤ n → is_finished new j ≡ true → is_finished old j ≡ true) → StandsUpTo p b blob' new n
  moved marks = record {
    updates = update_moved;
    rows = λ j r le fin has. rw (same j le)
        (wide.nodes (key_in a blob j r) (node_of p (extents old.updates) j r) (s.rows j r (marks j le fin) (agrees.back j r le has)) ∙ ap {B = Option Node} Some (sym (agrees.node j r le)));
    folds = λ j i le fin has anew. rw (same j le)
        (wide.folded (origin a blob j) j i (page_bytes p old.updates j i) (s.folds j i (marks j le fin) (agrees.back j (page_range p i) le has) (sym (agrees.anew j i le) ∙ anew))
        ∙ ap {B = Option (List ℕ)} Some (sym (agrees.page j i le)));
  }

-- a blob that a step leaves alone
blob_kept : (p : ℕ) (a b : World) (blob : ℕ) (x : Blob) → Wider a b → ((j : ℕ) → origin b blob j ≡ origin a blob j) → BlobStands p a blob x → BlobStands p b blob x
blob_kept p a b blob x wide same s =
    blob_stands p b blob x s.replay s.marks (λ j lt. same j ∙ s.own j lt)
    (moved p a b blob blob x x (assigned x) wide (agree_same p x.updates (assigned x)) (λ j le. same j) s (omega arith) (λ m j lt le upto. upto) (λ j le fin. fin))

-- ---- a page, a node, or a page that is stored anew, is put
put_more : (p : ℕ) (w : World) (pages : List (ℕ × List ℕ)) (nodes : List (NodeKey × Node)) (folded : List (FoldKey × List ℕ)) → Stands p w
    → Wider w (record w { pages = pages; nodes = nodes; folded = folded }) → SmallPages p pages
    → ((key : NodeKey) (n : Node) → node_at nodes key ≡ Some n → (IsRowNode p w key n × FoldIsThere p w key) ⊎ (node_at w.nodes key ≡ Some n))
    → ((blob version page : ℕ) (bytes : List ℕ) → fold_at folded blob version page ≡ Some bytes → IsFoldPage p w blob version page bytes ⊎ (fold_at w.folded blob version page ≡ Some bytes))
    → Stands p (record w { pages = pages; nodes = nodes; folded = folded })
put_more p w pages nodes folded s wide small new anew =
    let v : World = record w { pages = pages; nodes = nodes; folded = folded } in
    stands_on p w v wide (forward_same p w v (λ blob old e. e)) s s.lineage small (λ blob version kept e. inr e)
    (λ blob b e. blob_kept p w v blob b wide (λ j. refl) (s.blobs blob b e)) new anew

pub page_put : (p : ℕ) (w : World) (page : ℕ) (bytes : List ℕ) → Stands p w → page_at w.pages page ≡ None → 1 ≤ length bytes → length bytes ≤ p
    → Stands p (record w { pages = (page, bytes) ∷ w.pages })
page_put p w page bytes s none some small =
    let P : List ℕ → Type 0 = λ l. (1 ≤ length l) × (length l ≤ p) in
    put_more p w ((page, bytes) ∷ w.pages) w.nodes w.folded s
    (record {
      pages = λ n b is. entry_kept same_number w.pages page bytes n b (number_means page n) none is;
      updates = λ blob version kept is. is;
      nodes = λ key n is. is;
      folded = λ blob version fold b is. is;
    })
    (λ n b is. elim (entry_old same_number w.pages page bytes n b (number_means page n) is) [ inl new ↦ subst P new.1 (some, small) | inr old ↦ s.pages n b old ])
    (λ key n is. inr is) (λ blob version fold b is. inr is)

put_node : (p : ℕ) (w : World) (key : NodeKey) (n : Node) → Stands p w → node_at w.nodes key ≡ None → IsRowNode p w key n → FoldIsThere p w key
    → Stands p (record w { nodes = (key, n) ∷ w.nodes })
put_node p w key n s none row fresh =
    let P : NodeKey → Node → Type 0 = λ k m. IsRowNode p w k m × FoldIsThere p w k in
    let K : NodeKey → Type 0 = λ k. P k n in
    put_more p w w.pages ((key, n) ∷ w.nodes) w.folded s
    (record {
      pages = λ m b is. is;
      updates = λ blob version kept is. is;
      nodes = λ k m is. entry_kept same_key w.nodes key n k m (key_means key k) none is;
      folded = λ blob version page bytes is. is;
    })
    s.pages
    (λ k m is. elim (entry_old same_key w.nodes key n k m (key_means key k) is) [ inl new ↦ inl (subst (P k) new.1 (subst K new.0 (row, fresh))) | inr old ↦ inr old ])
    (λ blob version fold b is. inr is)

pub put_fold : (p : ℕ) (w : World) (blob version page : ℕ) (bytes : List ℕ) → Stands p w → fold_at w.folded blob version page ≡ None → IsFoldPage p w blob version page bytes
    → Stands p (record w { folded = (record { blob = blob; version = version; page = page }, bytes) ∷ w.folded })
put_fold p w blob version page bytes s none x =
    let key : ℕ → ℕ → ℕ → FoldKey = λ id ver i. record { blob = id; version = ver; page = i } in
    let P : FoldKey → List ℕ → Type 0 = λ k l. IsFoldPage p w k.blob k.version k.page l in
    let K : FoldKey → Type 0 = λ k. P k bytes in
    put_more p w w.pages w.nodes ((key blob version page, bytes) ∷ w.folded) s
    (record {
      pages = λ m b is. is;
      updates = λ id ver kept is. is;
      nodes = λ k m is. is;
      folded = λ id ver i b is. entry_kept same_fold w.folded (key blob version page) bytes (key id ver i) b (fold_means (key blob version page) (key id ver i)) none is;
    })
    s.pages (λ k m is. inr is)
    (λ id ver i b is.
    elim (entry_old same_fold w.folded (key blob version page) bytes (key id ver i) b (fold_means (key blob version page) (key id ver i)) is) [
      | inl new ↦ inl (subst (P (key id ver i)) new.1 (subst K new.0 x))
      | inr old ↦ inr old
    ])

pub rows_known : (p : ℕ) (w : World) (blob : ℕ) (b : Blob) (n : ℕ) → BlobStands p w blob b → n ≤ published b → RowsKnown p w blob b.updates n
rows_known p w blob b n s le j r upto has = s.rows j r (published_finished b j (omega arith)) has

pub in_bounds : (c : Cited) (us : List Update) → Replayable us → InBounds (extents us)
in_bounds c us ok = (c.stand us ok).0

-- with the entry of a key that isn't there, or as before
pub with_node_is : (p : ℕ) (w : World) (key : NodeKey) (b : Blob) (kept : UpdateEntry) → blob_at w.store key.blob ≡ Some b → kept_at w.updates key.blob key.version ≡ Some kept
    → (o : Option Node) → node_at w.nodes key ≡ o
    → (with_node p w key ≡ w.nodes) ⊎ ((node_at w.nodes key ≡ None) × (with_node p w key ≡ (key, woven p w key.blob b kept key.version key.range) ∷ w.nodes))
with_node_is p w key b kept there has (Some n) e = inl (rw (e, with_node_by) refl)
with_node_is p w key b kept there has None e = inr (e, rw (e, there, has, with_node_by) refl)

pub node_put : (c : Cited) (p : ℕ) (w : World) (key : NodeKey) (b : Blob) → 1 ≤ p → Stands p w → IsNumberedIn w key.blob key.version b
    → HasNode p (log_of p b.updates) key.version key.range
    → ((page : ℕ) → key.range ≡ page_range p page → IsFolded p w key.blob key.version b page → IsKnown (fold_at w.folded key.blob key.version page))
    → Stands p (record w { nodes = with_node p w key })
node_put c p w key b pos s numbered has folded =
    let bs : BlobStands p w key.blob b = s.blobs key.blob b numbered.there in
    let u : UpdateStands p w key.blob b key.version = bs.updates key.version numbered.some numbered.upto in
    let there : kept_at w.updates key.blob key.version ≡ Some u.kept = rw numbered.own at u.there in
    let ok : InBounds (extents b.updates) = in_bounds c b.updates bs.replay in
    let known : RowsKnown p w key.blob b.updates u.kept.published = rows_known p w key.blob b u.kept.published bs u.front in
    elim (with_node_is p w key b u.kept numbered.there there (node_at w.nodes key) refl) [
      | inl same ↦ rw same s
      | inr put ↦
          rw put.1
          (put_node p w key (woven p w key.blob b u.kept key.version key.range) s put.0 (record {
            b = b;
            there = numbered.there;
            has = has;
            is = woven_is c p w key.blob b u.kept key.version key.range pos ok known u.before u.waiting numbered.upto has.aligned;
          })
          (λ x at i same anew.
          (let eq : x ≡ b = one_value (blob_at w.store key.blob) x b at numbered.there in
          folded i same (record {
            kept = u.kept;
            there = there;
            met = rw same at has.met;
            anew = woven_folded_is c p w key.blob b u.kept key.version pos ok known u.before u.waiting numbered.upto i
                ∙ sym (ap (λ (y : Blob). folded_of p (extents y.updates) key.version i) eq)
                ∙ anew;
          }))))
    ]

-- ---- a change of one blob
blob_set : (p : ℕ) (w : World) (updates : List (UpdateKey × UpdateEntry)) (blob : ℕ) (before new : Blob) → Stands p w
    → Wider w (record w { store = with_blob w.store blob new; updates = updates }) → blob_at w.store blob ≡ Some before
    → Agrees p before.updates new.updates (assigned before) → assigned before ≤ assigned new
    → ((id version : ℕ) (kept : UpdateEntry) → kept_at updates id version ≡ Some kept
    → IsOfBlob (record w { store = with_blob w.store blob new; updates = updates }) id version ⊎ (kept_at w.updates id version ≡ Some kept))
    → BlobStands p (record w { store = with_blob w.store blob new; updates = updates }) blob new → Stands p (record w { store = with_blob w.store blob new; updates = updates })
blob_set p w updates blob before new s wide is agrees more known stands =
    let v : World = record w { store = with_blob w.store blob new; updates = updates } in
    let on : Forward p w v = λ id old e.
    elim (with_on w.store blob before new is id old e) [
      | inl same ↦
          (let eq : before ≡ old = one_value (blob_at w.store blob) before old is (rw same at e) in
          (new, rw same (blob_at-with w.store blob before new is), rw (← eq) agrees, rw (← eq) more))
      | inr other ↦ (old, other, agree_same p old.updates (assigned old), omega arith)
    ] in
    stands_on p w v wide on s (s.lineage ∙ sym (length-set w.store.blobs (blob - 1) new)) s.pages known
    (λ id b e.
    elim (with_was w.store blob before new is id b e) [
      | inl here ↦ rw (here.0, ← here.1) stands
      | inr old ↦ blob_kept p w v id b wide (λ j. refl) (s.blobs id b old)
    ])
    (λ key n e. inr e) (λ id version page bytes e. inr e)

-- ---- a finish
pub finished : (c : Cited) (p : ℕ) (w : World) (t : Store) (blob version : ℕ) (b : Blob) → 1 ≤ p → Stands p w → IsNumberedIn w blob version b → RowIsThere p w blob version b
    → t ≡ with_blob w.store blob (finish b version)
    → Stands p (record w { store = t })
finished c p w t blob version b pos s numbered row store =
    let us = extents b.updates in
    let new : Blob = finish b version in
    let v : World = record w { store = with_blob w.store blob new } in
    let old : BlobStands p w blob b = s.blobs blob b numbered.there in
    let wide : Wider w v = wider_same w v.store w.lineage in
    let grown : published b ≤ published new = true_prefix-set b.finished (version - 1) in
    let in_list : version ≤ length us = omega (arith, numbered.upto, (c.stand b.updates old.replay).1) in
    let node : (r : Range) → HasNode p (log_of p b.updates) version r → IsKnown (node_at w.nodes (record { blob = blob; version = version; range = r })) = λ r has.
    row r ((c.exact p version us r pos (in_bounds c b.updates old.replay) numbered.some in_list).1 has) in
    let here : (r : Range) → HasNode p (log_of p b.updates) version r → node_in v blob version r ≡ Some (node_of p us version r) = λ r has.
    (let (n, is) = node r has in
    let x : IsRowNode p w (record { blob = blob; version = version; range = r }) n = s.nodes (record { blob = blob; version = version; range = r }) n is in
    let same : x.b ≡ b = one_value (blob_at w.store blob) x.b b x.there numbered.there in
    rw numbered.own (is ∙ ap {B = Option Node} Some (x.is ∙ ap (λ (y : Blob). node_of p (extents y.updates) version r) same))) in
    let fold_here : (i : ℕ) → HasNode p (log_of p b.updates) version (page_range p i) → folded_of p us version i ≡ true
    → fold_at v.folded (origin v blob version) version i ≡ Some (page_bytes p b.updates version i) = λ i has anew.
    (let (n, is) = node (page_range p i) has in
    let (bytes, e) = s.anew (record { blob = blob; version = version; range = page_range p i }) n is b numbered.there i refl anew in
    let x : IsFoldPage p w blob version i bytes = s.folds blob version i bytes e in
    let same : x.b ≡ b = one_value (blob_at w.store blob) x.b b x.there numbered.there in
    rw numbered.own (e ∙ ap {B = Option (List ℕ)} Some (x.is ∙ ap (λ (y : Blob). page_bytes p y.updates version i) same))) in
    rw store
    (blob_set p w w.updates blob b new s wide numbered.there (agree_same p b.updates (assigned b)) (omega arith) (λ id ver kept e. inr e)
    (record {
      replay = old.replay;
      marks = length-set b.finished (version - 1) true ∙ old.marks;
      own = old.own;
      updates = update_moved p w v blob blob b new (assigned b) wide (agree_same p b.updates (assigned b)) (λ j le. refl) old (omega arith) (λ m j lt le upto. omega arith);
      rows = λ j r fin has. elim (finished_set b version j numbered.some fin) [ inl same ↦ rw same (here r (rw same at has)) | inr was ↦ old.rows j r was has ];
      folds = λ j i fin has anew.
          elim (finished_set b version j numbered.some fin) [ inl same ↦ rw same (fold_here i (rw same at has) (rw same at anew)) | inr was ↦ old.folds j i was has anew ];
    }))

-- ---- a numbering
pub with_update_is : (p : ℕ) (w : World) (blob : ℕ) (pages : List ℕ) (b : Blob) → blob_at w.store blob ≡ Some b
    → with_update p w blob pages ≡ (record { blob = blob; version = assigned b + 1 }, next_kept p b pages) ∷ w.updates
with_update_is p w blob pages b e = rw (e, with_update) refl

-- what is kept for the next update of a blob has a key of its own
pub next_free : (p : ℕ) (w : World) (blob : ℕ) (b : Blob) → Stands p w → blob_at w.store blob ≡ Some b → (o : Option UpdateEntry) → kept_at w.updates blob (assigned b + 1) ≡ o
    → kept_at w.updates blob (assigned b + 1) ≡ None
next_free p w blob b s is None e = e
next_free p w blob b s is (Some kept) e =
    let (x, at, le) = s.known blob (assigned b + 1) kept e in
    let same : assigned x ≡ assigned b = ap (λ (y : Blob). assigned y) (one_value (blob_at w.store blob) x b at is) in
    absurd (omega arith)

-- what isn't numbered isn't finished
not_marked : (b : Blob) (j : ℕ) → length b.finished ≡ length b.updates → assigned b < j → is_finished b j ≡ true → ⊥
not_marked b zero marks lt e = absurd (omega arith)
not_marked b (suc j) marks lt e = (let no : false ≡ true = sym (get_or_past b.finished j false (omega arith)) ∙ sym (finished_at b j) ∙ e in cc)

pub numbered : (c : Cited) (p : ℕ) (w : World) (t : Store) (blob : ℕ) (b : Blob) (u : Update) (pages : List ℕ) → Stands p w → blob_at w.store blob ≡ Some b
    → AreCut p w.pages pages → bytes_of_pages w.pages pages ≡ u.bytes → 1 ≤ length u.bytes → offset_of u.place (size_now b) ≤ size_now b
    → t ≡ with_blob w.store blob (and_update b u)
    → Stands p (record w { store = t; updates = with_update p w blob pages })
numbered c p w t blob b u pages s is cut bytes some fits store =
    let n : ℕ = assigned b in
    let new : Blob = and_update b u in
    let at : ℕ → ℕ → UpdateKey = λ id version. record { blob = id; version = version } in
    let key : UpdateKey = at blob (n + 1) in
    let kept : UpdateEntry = next_kept p b pages in
    let v : World = record w { store = with_blob w.store blob new; updates = (key, kept) ∷ w.updates } in
    let old : BlobStands p w blob b = s.blobs blob b is in
    let free : kept_at w.updates blob (n + 1) ≡ None = next_free p w blob b s is (kept_at w.updates blob (n + 1)) refl in
    let wide : Wider w v = record {
      pages = λ m b is. is;
      updates = λ id version k e. entry_kept same_update w.updates key kept (at id version) k (update_means key (at id version)) free e;
      nodes = λ k m is. is;
      folded = λ id version page x is. is;
    } in
    let agrees : Agrees p b.updates new.updates n = agree_more c p b.updates (u ∷ []) in
    let count : assigned new ≡ n + 1 = length-append b.updates (u ∷ []) in
    let here : blob_at v.store blob ≡ Some new = blob_at-with w.store blob b new is in
    let grown : published b ≤ published new = true_prefix-append b.finished (false ∷ []) in
    let within : published b ≤ n = published_within p w blob b old in
    let last : (j : ℕ) → j ≡ n + 1 → UpdateStands p v blob new j = λ j e.
    (let own : origin v blob j ≡ blob = old.own j (omega arith) in
    let after : n + 1 ≡ suc n = omega arith in
    let less : j - 1 - published b ≡ n - published b = omega arith in
    record {
      kept = kept;
      there = rw (own, e) (entry_new same_update w.updates key kept (update_itself key));
      cut = cut;
      bytes = bytes ∙ ap (λ (x : Update). x.bytes) (sym (update_next b.updates u)) ∙ ap (λ (i : ℕ). (update_at new.updates i).bytes) (sym (e ∙ after));
      before = omega arith;
      front = grown;
      waiting = rw less (sym (waiting_same (log_of p b.updates) (log_of p new.updates) (published b) (n - published b) n (omega arith) agrees.touch));
    }) in
    let m : StandsUpTo p v blob new n = moved p w v blob blob b new n wide agrees (λ j le. refl) old (omega arith) (λ m j lt le upto. omega arith) (λ j le fin. finished_next b u j fin) in
    let upto : (j : ℕ) → is_finished new j ≡ true → j ≤ n = λ j fin.
    elim (cases_lt n j) [ inl after ↦ absurd (not_marked b j old.marks (omega arith) (finished_next b u j fin)) | inr before ↦ before ] in
    rw (with_update_is p w blob pages b is, store)
    (blob_set p w v.updates blob b new s wide is agrees (omega arith)
    (λ id version k e.
    elim (entry_old same_update w.updates key kept (at id version) k (update_means key (at id version)) e) [
      | inl eq ↦
          (let P : UpdateKey → Type 0 = λ x. IsOfBlob v x.blob x.version in
          inl (subst P eq.0 (new, here, omega arith)))
      | inr was ↦ inr was
    ])
    (record {
      replay = replay_next b.updates u old.replay fits some;
      marks = length-append b.finished (false ∷ []) ∙ ap (λ (m : ℕ). m + 1) old.marks ∙ sym count;
      own = λ j lt. old.own j (omega arith);
      updates = λ j one le. elim (cases_lt n j) [ inl after ↦ last j (omega arith) | inr before ↦ m.updates j one before ];
      rows = λ j r fin has. m.rows j r (upto j fin) fin has;
      folds = λ j i fin has anew. m.folds j i (upto j fin) fin has anew;
    }))

-- ---- a new blob
blob_added : (p : ℕ) (w : World) (parent : Option Parent) (new : Blob) → Stands p w
    → BlobStands p (record w { store = and_blob w.store new; lineage = parent ∷ w.lineage }) (suc (length w.lineage)) new
    → Stands p (record w { store = and_blob w.store new; lineage = parent ∷ w.lineage })
blob_added p w parent new s stands =
    let v : World = record w { store = and_blob w.store new; lineage = parent ∷ w.lineage } in
    let wide : Wider w v = wider_same w v.store v.lineage in
    stands_on p w v wide (forward_same p w v (λ id old e. more_kept w.store new id old e)) s (omega (arith, s.lineage, length-append w.store.blobs (new ∷ []))) s.pages (λ id version kept e. inr e)
    (λ id b e.
    elim (more_was w.store new id b e) [
      | inl here ↦ (let at : id ≡ suc (length w.lineage) = omega (arith, s.lineage, here.0) in rw (at, ← here.1) stands)
      | inr old ↦ blob_kept p w v id b wide (λ j. origin_older parent w.lineage id j (omega (arith, s.lineage, (blob_some w.store id b old).1))) (s.blobs id b old)
    ])
    (λ key n e. inr e) (λ id version page bytes e. inr e)

pub created : (p : ℕ) (w : World) (t : Store) → Stands p w → t ≡ and_blob w.store (record { updates = []; finished = [] })
    → Stands p (record w { store = t; lineage = None ∷ w.lineage })
created p w t s store =
    rw store
    (blob_added p w None (record { updates = []; finished = [] }) s
    (record {
      replay = λ k lt. absurd (omega arith);
      marks = refl;
      own = λ j lt. origin_past w.lineage (suc (length w.lineage)) j (omega arith);
      updates = λ j some le. absurd (omega arith);
      rows = λ j r fin has. absurd (omega (arith, has.version.0, has.version.1, length_log p []));
      folds = λ j i fin has anew. absurd (omega (arith, has.version.0, has.version.1, length_log p []));
    }))

pub branched : (c : Cited) (p : ℕ) (w : World) (t : Store) (blob version : ℕ) (b : Blob) → Stands p w → blob_at w.store blob ≡ Some b → version ≤ published b
    → t ≡ and_blob w.store (branch_of b version)
    → Stands p (record w { store = t; lineage = Some (record { blob = blob; version = version }) ∷ w.lineage })
branched c p w t blob version b s is le store =
    let q : Parent = record { blob = blob; version = version } in
    let new : Blob = branch_of b version in
    let v : World = record w { store = and_blob w.store new; lineage = Some q ∷ w.lineage } in
    let old : BlobStands p w blob b = s.blobs blob b is in
    let within : version ≤ length b.updates = omega (arith, published_within p w blob b old) in
    let count : length new.updates ≡ version = length-take-le version b.updates within in
    let front : published new ≡ version = prefix_all version in
    let id : ℕ = suc (length w.lineage) in
    let m : StandsUpTo p v id new version = moved p w v blob id b new version (wider_same w v.store v.lineage) (agree_front c p b.updates version within)
    (λ j upto. origin_shared q w.lineage id j refl upto) old (omega arith) (λ m j lt upto was. omega arith) (λ j upto fin. published_finished b j (omega arith)) in
    rw store
    (blob_added p w (Some q) new s
    (blob_stands p v id new (replay_front new.updates _ (rw (← take-append-drop version b.updates) at old.replay)) (length-replicate version true ∙ sym count)
    (λ j lt. origin_own q w.lineage id j refl (omega arith)) (rw count m)))

-- ---- the empty world
pub none_only : (t : Bool) (b : Blob) → (if t then None else None) ≡ Some b → ⊥
none_only true b e = cc
none_only false b e = cc

pub empty_stands : (p : ℕ) (limits : Bounds) → Stands p (empty_world limits)
empty_stands p limits = record {
  lineage = refl;
  pages = λ n bytes e. absurd (none_some None bytes refl e);
  known = λ blob version kept e. absurd (none_some None kept refl e);
  blobs = λ blob b e. absurd (none_only (blob == 0) b e);
  nodes = λ key n e. absurd (none_some None n refl e);
  folds = λ blob version page bytes e. absurd (none_some None bytes refl e);
  anew = λ key n e. absurd (none_some None n refl e);
}
