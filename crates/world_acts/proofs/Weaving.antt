-- The put of a planned node is a step.
use Rattle.std.proofs.Common.{◌≡◌, ℕ, ◌<◌, ◌≤◌, zero, suc, true, List, [], ◌∷◌, ◌++◌, length, take, drop, get_or, refl, sym, ap, subst, ◌∙◌, arith}
use Rattle.std.specs.Prelude.{Option, Some, None, map}
use Rattle.std.specs.List.{Contains}
use Rattle.std.proofs.lemmas.Bool.Decides.{nat_tests}
use Rattle.std.proofs.lemmas.List.{length-take-le, take-append-drop}
use Rattle.blob_model.specs.Content.{Update}
use Rattle.blob_model.specs.Store.{Store, Blob, blob_at}
use Rattle.blob_model.specs.History.{store_of}
use Rattle.blob_model.specs.declared.call.Event.{Event}
use Rattle.branching.specs.Parents.{origin_of}
use Rattle.branching.specs.declared.Parent.{Parent}
use Rattle.tree_geom.specs.declared.range.Range.{Range}
use Rattle.tree_geom.specs.declared.node.Node.{Node}
use Rattle.tree_geom.specs.declared.node.NodeKey.{NodeKey}
use Rattle.tree_geom.specs.Geometry.{page_range}
use Rattle.range_log.specs.Depths.{fold_number}
use Rattle.range_log.specs.Log.{HasNode}
use Rattle.range_log.specs.Extents.{Extent, InBounds}
use Rattle.range_log.specs.Updates.{extents}
use Rattle.range_log.specs.Rows.{row_of, row_keys_of, node_of, folds_of, folded_of}
use Rattle.range_log.proofs.Bytes.{length-extents, extents_stand}
use Rattle.range_log.proofs.Exact.{row_keys_exact}
use Rattle.range_log.proofs.Folds.{folds_are}
use Rattle.range_log.proofs.Growth.{rows_stay, extents_grow}
use Rattle.snapshot.proofs.Growing.{row_stays, folds_kept}
use Rattle.border_hints.specs.Numbered.{NumberedUpdate}
use Rattle.blob_core.specs.World.{World, UpdateEntry, IsKnown, node_at, fold_at, kept_at, same_key, log_of}
use Rattle.blob_core.specs.Woven.{woven, woven_by, woven_folded}
use Rattle.blob_core.specs.Steps.{IsAllowed, IsNumberedIn, IsFolded, with_node}
use Rattle.blob_core.specs.Standing.{ReachedStays, IsSound, WeavesRow, Stays}
use Rattle.blob_core.specs.Promises.{StepsHold, NodesAreRows, IsRowNode}
use Rattle.blob_core.specs.declared.step.Step.TheVariants as Moves
use Rattle.blob_core.proofs.Lists.{entry_new, one_value}
use Rattle.version_manager.specs.declared.journal.DeskFixed.{DeskFixed}
use Rattle.version_manager.specs.Desks.{IsTicketOf, updates_in, updates_or_none}
use Rattle.version_manager.specs.Log.{desk_at, events}
use Rattle.tree_geom.proofs.Spans.{page_pos}
use Rattle.world_acts.specs.Worlds.{IsWorldOf, StoresAgree}
use Rattle.world_acts.specs.Turns.{IsOwn}
use Rattle.world_acts.specs.Puts.{NodePutsAreSteps, key_of}
use Rattle.world_acts.proofs.Steps.{quiet_step, worlds_are_reached, lineages_agree}

-- ---- lists
pub unmap : {A B : Type 0} (g : A → B) (xs : List A) (k : ℕ) (y : B) → k < length (map g xs) → get_or (map g xs) k y ≡ y → (x : A) × Contains xs x × (g x ≡ y)
unmap g [] k y lt e = absurd (omega (arith, lt))
unmap g (x ∷ xs) zero y lt e = (x, (0, omega arith, refl), e)
unmap g (x ∷ xs) (suc k) y lt e =
    let (z, c, h) = unmap g xs k y (omega (arith, lt)) e in
    (z, (suc c.0, omega (arith, c.1), c.2), h)

-- ---- the updates up to the ticket's
all_extents : (us : List Update) (v : ℕ) → (rest : List Extent) × (extents us ≡ extents (take v us) ++ rest)
all_extents us v =
    let (rest, e) = extents_grow (take v us) (drop v us) in
    (rest, ap extents (sym (take-append-drop v us)) ∙ e)

row_up_to : (p : ℕ) (us : List Update) (v : ℕ) → v ≤ length us → row_of p (extents (take v us)) v ≡ row_of p (extents us) v
row_up_to p us v le =
    let (rest, e) = all_extents us v in
    let count : v ≤ length (extents (take v us)) = omega (arith, length-extents (take v us), length-take-le v us le) in
    sym (row_stays rows_stay p v (extents (take v us)) rest count) ∙ ap (λ (x : List Extent). row_of p x v) (sym e)

pub folds_up_to : (p : ℕ) (us : List Update) (v : ℕ) → v ≤ length us → folds_of p (extents (take v us)) v ≡ folds_of p (extents us) v
folds_up_to p us v le =
    let (rest, e) = all_extents us v in
    let count : v ≤ length (extents (take v us)) = omega (arith, length-extents (take v us), length-take-le v us le) in
    sym (folds_kept rows_stay p v (extents (take v us)) rest count) ∙ ap (λ (x : List Extent). folds_of p x v) (sym e)

-- ---- the blob of a ticket
pub some_blob : (o : Option Blob) (v : ℕ) → 1 ≤ v → v ≤ length (updates_or_none o) → (b : Blob) × (o ≡ Some b) × (updates_or_none o ≡ b.updates)
some_blob None v some le = absurd (omega (arith, some, le))
some_blob (Some b) v some le = (b, refl, refl)

pub record TicketBlob (f : DeskFixed) (history : List (ℕ × Event)) (w : World) (t : NumberedUpdate) : Type 0 where
  pub b : Blob
  pub updates : updates_in (desk_at f history) t.blob ≡ b.updates
  pub own : IsNumberedIn w t.blob t.version b

pub ticket_blob : StoresAgree → (f : DeskFixed) (history : List (ℕ × Event)) (w : World) (t : NumberedUpdate) → IsWorldOf f history w → IsTicketOf (desk_at f history) t → IsOwn history t
    → TicketBlob f history w t
ticket_blob agree f history w t a ticket own =
    let (b, is, same) = some_blob (blob_at (store_of f.limits (events history)) t.blob) t.version own.some ticket.numbered in
    record {
      b = b;
      updates = same;
      own = record {
        there = ap (λ (s : Store). blob_at s t.blob) (agree f history w a) ∙ is;
        some = own.some;
        upto = omega (arith, ticket.numbered, ap length same);
        own = ap (λ (l : List (Option Parent)). origin_of l t.blob t.version) (lineages_agree f history w a) ∙ own.own;
      };
    }

-- ---- one node
key_itself : (k : NodeKey) → same_key k k ≡ true
key_itself k = grind (arith, nat_tests)

module _ (p : ℕ) (w : World) (key : NodeKey) (b : Blob) (n : Node) where
  abbrev pub With : Option Node → Option Blob → Option UpdateEntry → List (NodeKey × Node)
  With o x k =
      elim o [
        | Some m ↦ w.nodes
        | None ↦ elim x [ None ↦ w.nodes | Some c ↦ elim k [ None ↦ w.nodes | Some kept ↦ (key, woven_by fold_number p w key.blob c kept key.version key.range) ∷ w.nodes ] ]
      ]

  pub node_after : (weaves : WeavesRow p w key.blob b key.version) → NodesAreRows p w → blob_at w.store key.blob ≡ Some b → HasNode p (log_of p b.updates) key.version key.range
      → n ≡ node_of p (extents b.updates) key.version key.range → (o : Option Node) → node_at w.nodes key ≡ o → node_at (with_node p w key) key ≡ Some n
  node_after weaves rows there has is None none =
      ap (λ (o : Option Node). node_at (With o (blob_at w.store key.blob) (kept_at w.updates key.blob key.version)) key) none
      ∙ ap (λ (x : Option Blob). node_at (With None x (kept_at w.updates key.blob key.version)) key) there
      ∙ ap (λ (k : Option UpdateEntry). node_at (With None (Some b) k) key) weaves.there
      ∙ entry_new same_key w.nodes key (woven p w key.blob b weaves.kept key.version key.range) (key_itself key)
      ∙ ap (λ (m : Node). Some m) (weaves.nodes key.range has ∙ sym is)
  node_after weaves rows there has is (Some m) here =
      let row : IsRowNode p w key m = rows key m here in
      let same : row.b ≡ b = one_value (blob_at w.store key.blob) row.b b row.there there in
      let m_is : m ≡ n = row.is ∙ ap (λ (x : Blob). node_of p (extents x.updates) key.version key.range) same ∙ sym is in
      ap (λ (o : Option Node). node_at (With o (blob_at w.store key.blob) (kept_at w.updates key.blob key.version)) key) here
      ∙ here
      ∙ ap (λ (x : Node). Some x) m_is

pub node_putting : StoresAgree → StepsHold → ReachedStays → NodePutsAreSteps
node_putting agree hold reached f history w t planned r n a ticket own nodes folded among there =
    let p : ℕ = f.page_size in
    let v : ℕ = t.version in
    let pos : 1 ≤ p = page_pos p a.page_size in
    let us : List Update = updates_in (desk_at f history) t.blob in
    let tb : TicketBlob f history w t = ticket_blob agree f history w t a ticket own in
    let b : Blob = tb.b in
    let stays : Stays p w = reached p w (worlds_are_reached f history w a) in
    let sound : IsSound p w t.blob b = stays.blobs t.blob b tb.own.there in
    let weaves : WeavesRow p w t.blob b v = sound.weaves v tb.own in
    let bounds : InBounds (extents b.updates) = (extents_stand b.updates sound.replay).0 in
    let long : v ≤ length (extents b.updates) = omega (arith, tb.own.upto, length-extents b.updates) in
    let row : planned.nodes ≡ row_of p (extents b.updates) v =
    nodes (extents (take v us)) ticket.stands
    ∙ ap (λ (q : ℕ). row_of q (extents (take v us)) v) ticket.page_size
    ∙ row_up_to p us v ticket.numbered
    ∙ ap (λ (l : List Update). row_of p (extents l) v) tb.updates in
    let anew : planned.folded ≡ folds_of p (extents b.updates) v =
    folded (extents (take v us)) ticket.stands
    ∙ ap (λ (q : ℕ). folds_of q (extents (take v us)) v) ticket.page_size
    ∙ folds_up_to p us v ticket.numbered
    ∙ ap (λ (l : List Update). folds_of p (extents l) v) tb.updates in
    let inside : Contains (row_of p (extents b.updates) v) (r, n) = rw row at among in
    let (q, key_there, pair) = unmap (λ (x : Range). (x, node_of p (extents b.updates) v x)) (row_keys_of p (log_of p b.updates) v) inside.0 (r, n) inside.1 inside.2 in
    let same : q ≡ r = ap (λ (x : Range × Node). x.0) pair in
    let is : n ≡ node_of p (extents b.updates) v r = sym (ap (λ (x : Range × Node). x.1) pair) ∙ ap (λ (x : Range). node_of p (extents b.updates) v x) same in
    let has : HasNode p (log_of p b.updates) v r =
    subst (λ (x : Range). HasNode p (log_of p b.updates) v x) same ((row_keys_exact p v (extents b.updates) q pos bounds tb.own.some long).0 key_there) in
    let rows : NodesAreRows p w = subst (λ (x : World). NodesAreRows p x) (sym a.is) (hold p f.limits a.steps pos a.allowed).nodes in
    let fold_there : (page : ℕ) → r ≡ page_range p page → IsFolded p w t.blob v b page → IsKnown (fold_at w.folded t.blob v page) = λ page leaf fold.
    (let kept_same : fold.kept ≡ weaves.kept = one_value (kept_at w.updates t.blob v) fold.kept weaves.kept fold.there weaves.there in
    let told : folded_of p (extents b.updates) v page ≡ true =
    sym (weaves.folded page) ∙ ap (λ (k : UpdateEntry). woven_folded fold_number p w t.blob b k v page) (sym kept_same) ∙ fold.anew in
    let one : Contains (folds_of p (extents b.updates) v) page = ((folds_are p v (extents b.updates) pos bounds tb.own.some long).0 page).1 (fold.met, told) in
    there page leaf (subst (λ (l : List ℕ). Contains l page) (sym anew) one)) in
    let allowed : IsAllowed p w (Moves.NodePut (key_of t r)) = (b, tb.own, has, fold_there) in (
      quiet_step f history w (Moves.NodePut (key_of t r)) a allowed refl,
      node_after p w (key_of t r) b n weaves rows tb.own.there has is (node_at w.nodes (key_of t r)) refl,
    )
