-- What a longer list of updates says of the versions of the shorter one; and the laws that are cited.
use Rattle.std.proofs.Common.{◌≡◌, ℕ, ◌+◌, ◌*◌, ◌<◌, ◌≤◌, zero, suc, List, [], ◌∷◌, ◌++◌, length, take, drop, arith, inl, inr, refl, ap, sym, ◌∙◌}
use Rattle.std.proofs.lemmas.Bool.{cases_lt}
use Rattle.std.proofs.lemmas.List.{get_or_append_left, take-append-le, take-append-drop, length-take-le, length-append}
use Rattle.std.proofs.Math.Seq.{get_or-append_seam}
use Rattle.blob_model.specs.Content.{Update, content_from, size_of, offset_of}
use Rattle.tree_geom.specs.declared.range.Range.{Range}
use Rattle.tree_geom.specs.declared.touch.Touch.{Touch}
use Rattle.range_log.specs.Log.{touch_at, size_at, HasNode}
use Rattle.range_log.specs.Extents.{Extent, size_after, touches}
use Rattle.range_log.specs.Updates.{update_at, no_update, extents, page_bytes, Replayable}
use Rattle.range_log.specs.Rows.{folded_of, node_of}
use Rattle.range_log.proofs.Growth.{same_folded}
use Rattle.range_log.specs.Laws.{LinksNameNodes, LinksLead, BacksLead, BacksHaveNoHoles, ExtentsStand, LeavesFill, LeavesFit, PiecesJoin, PageBytesStay, NewestIsGreatest, RowKeysExact, BacksStep, RowsStay, ExtentsGrow}
use Rattle.range_log.specs.Walk.{RootsStand, LinksFind, ChildStands, WeaverFinds, VisitedNone, VisitedLeaf, VisitedInner, WalksAreBounded}
use Rattle.blob_core.specs.World.{log_of, waiting_after}
use Rattle.range_log.proofs.Bytes.{length-extents}
use Rattle.range_log.proofs.Grown.{length-touches, size-touches}

-- the laws of rows and walks
pub record Cited : Type 0 where
  pub name : LinksNameNodes
  pub lead : LinksLead
  pub backs_lead : BacksLead
  pub backs_hold : BacksHaveNoHoles
  pub bytes : PageBytesStay
  pub stand : ExtentsStand
  pub fill : LeavesFill
  pub fit : LeavesFit
  pub join : PiecesJoin
  pub greatest : NewestIsGreatest
  pub exact : RowKeysExact
  pub backs : BacksStep
  pub rows : RowsStay
  pub grow : ExtentsGrow
  pub roots : RootsStand
  pub find : LinksFind
  pub child : ChildStands
  pub weave : WeaverFinds
  pub apart : VisitedNone
  pub leaf : VisitedLeaf
  pub inner : VisitedInner
  pub bounded : WalksAreBounded

-- ---- where updates fall, and what they touch
pub length_log : (p : ℕ) (us : List Update) → length (log_of p us) ≡ length us
length_log p us = length-touches p (extents us) ∙ length-extents us

pub size_in_log : (p : ℕ) (us : List Update) (k : ℕ) → k ≤ length us → size_at (log_of p us) k ≡ size_after (extents us) k
size_in_log p us k h = size-touches p (extents us) k (omega (arith, length-extents us))

-- ---- updates in bounds
update_same : (us more : List Update) (k : ℕ) → k < length us → update_at (us ++ more) (suc k) ≡ update_at us (suc k)
update_same us more k lt = get_or_append_left us more no_update k lt

pub size_same : (us more : List Update) (v : ℕ) → v ≤ length us → size_of (us ++ more) v ≡ size_of us v
size_same us more v le = ap (λ (l : List Update). length (content_from [] l)) (take-append-le v us more le)

pub replay_front : (us more : List Update) → Replayable (us ++ more) → Replayable us
replay_front us more ok k lt = rw (update_same us more k lt, size_same us more k (omega arith)) at (ok k (omega (arith, length-append us more)))

pub update_next : (us : List Update) (u : Update) → update_at (us ++ u ∷ []) (suc (length us)) ≡ u
update_next us u = get_or-append_seam us u [] no_update

pub replay_next : (us : List Update) (u : Update) → Replayable us → offset_of u.place (size_of us (length us)) ≤ size_of us (length us) → 1 ≤ length u.bytes
    → Replayable (us ++ u ∷ [])
replay_next us u ok fits some k lt =
    elim (cases_lt k (length us)) [
      | inl old ↦ rw (update_same us (u ∷ []) k old, size_same us (u ∷ []) k (omega arith)) (ok k old)
      | inr new ↦
          (let here : k ≡ length us = omega (arith, length-append us (u ∷ [])) in
          rw (here, update_next us u, size_same us (u ∷ []) (length us) (omega arith)) (fits, some))
    ]

-- ---- two lists of updates that agree on the first n
pub record Agrees (p : ℕ) (old new : List Update) (n : ℕ) : Type 0 where
  pub update : (j : ℕ) → 1 ≤ j → j ≤ n → update_at new j ≡ update_at old j
  pub touch : (j : ℕ) → j ≤ n → touch_at (log_of p new) j ≡ touch_at (log_of p old) j
  pub there : (j : ℕ) (r : Range) → j ≤ n → HasNode p (log_of p old) j r → HasNode p (log_of p new) j r
  pub back : (j : ℕ) (r : Range) → j ≤ n → HasNode p (log_of p new) j r → HasNode p (log_of p old) j r
  pub node : (j : ℕ) (r : Range) → j ≤ n → node_of p (extents new) j r ≡ node_of p (extents old) j r
  pub anew : (j i : ℕ) → j ≤ n → folded_of p (extents new) j i ≡ folded_of p (extents old) j i
  pub page : (j i : ℕ) → j ≤ n → page_bytes p new j i ≡ page_bytes p old j i

pub agree_same : (p : ℕ) (us : List Update) (n : ℕ) → Agrees p us us n
agree_same p us n = record {
  update = λ j some le. refl;
  touch = λ j le. refl;
  there = λ j r le h. h;
  back = λ j r le h. h;
  node = λ j r le. refl;
  anew = λ j i le. refl;
  page = λ j i le. refl;
}

pub agree_back : (p : ℕ) (old new : List Update) (n : ℕ) → Agrees p old new n → Agrees p new old n
agree_back p old new n a = record {
  update = λ j some le. sym (a.update j some le);
  touch = λ j le. sym (a.touch j le);
  there = λ j r le h. a.back j r le h;
  back = λ j r le h. a.there j r le h;
  node = λ j r le. sym (a.node j r le);
  anew = λ j i le. sym (a.anew j i le);
  page = λ j i le. sym (a.page j i le);
}

update_same_at : (us more : List Update) (j : ℕ) → 1 ≤ j → j ≤ length us → update_at (us ++ more) j ≡ update_at us j
update_same_at us more zero some le = absurd (omega arith)
update_same_at us more (suc k) some le = update_same us more k (omega arith)

pub agree_more : (c : Cited) (p : ℕ) (us more : List Update) → Agrees p us (us ++ more) (length us)
agree_more c p us more =
    let (rest, e) = c.grow us more in
    let xs : List Extent = extents us in
    let in_list : (j : ℕ) → j ≤ length us → j ≤ length xs = λ j le. omega (arith, le, length-extents us) in
    record {
      update = λ j some le. update_same_at us more j some le;
      touch = λ j le. ap (λ (x : List Extent). touch_at (touches p x) j) e ∙ (c.rows p j xs rest (in_list j le)).0;
      there = λ j r le h. rw e (((c.rows p j xs rest (in_list j le)).2 r).0 h);
      back = λ j r le h. ((c.rows p j xs rest (in_list j le)).2 r).1 (rw e at h);
      node = λ j r le. ap (λ (x : List Extent). node_of p x j r) e ∙ (c.rows p j xs rest (in_list j le)).3 r;
      anew = λ j i le. ap (λ (x : List Extent). folded_of p x j i) e ∙ same_folded p xs rest j i (in_list j le);
      page = λ j i le. ap (λ (l : List Update). take p (drop (i * p) (content_from [] l))) (take-append-le j us more le);
    }

-- the first n updates agree with all
pub agree_front : (c : Cited) (p : ℕ) (us : List Update) (n : ℕ) → n ≤ length us → Agrees p us (take n us) n
agree_front c p us n le =
    let l : length (take n us) ≡ n = length-take-le n us le in
    let a : Agrees p (take n us) (take n us ++ drop n us) (length (take n us)) = agree_more c p (take n us) (drop n us) in
    agree_back p (take n us) us n (rw (take-append-drop n us, l) at a)

-- ---- hints
pub waiting_same : (a b : List Touch) (v n m : ℕ) → v + n ≤ m → ((j : ℕ) → j ≤ m → touch_at b j ≡ touch_at a j) → waiting_after b v n ≡ waiting_after a v n
waiting_same a b v zero m le same = refl
waiting_same a b v (suc n) m le same = rw (same (suc (v + n)) (omega arith), waiting_same a b v n m (omega arith) same) refl
