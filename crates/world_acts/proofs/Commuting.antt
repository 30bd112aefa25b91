-- Two puts, of which neither needs the other, lead to the same world in both orders.
use Rattle.std.proofs.Common.{◌≡◌, ◌⊎◌, ℕ, true, false, Bool, List, [], ◌∷◌, ◌++◌, refl, sym, ap, subst, ◌∙◌, arith, inl, inr, ◌+◌, length}
use Rattle.std.specs.Prelude.{Option, Some, None}
use Rattle.std.proofs.lemmas.Bool.Decides.{nat_tests}
use Rattle.blob_model.specs.Store.{Store, Blob, blob_at, assigned}
use Rattle.blob_model.specs.Answer.{answer}
use Rattle.blob_model.specs.History.{store_from, is_refused}
use Rattle.blob_model.specs.declared.call.Event.{Event}
use Rattle.blob_model.specs.declared.call.Event.TheVariants as Events
use Rattle.blob_model.specs.declared.call.Call.TheVariants as Calls
use Rattle.branching.specs.declared.Parent.{Parent}
use Rattle.branching.specs.Parents.{origin_of}
use Rattle.tree_geom.specs.declared.node.Node.{Node}
use Rattle.tree_geom.specs.declared.node.NodeKey.{NodeKey}
use Rattle.range_log.specs.Depths.{fold_number}
use Rattle.range_log.specs.Updates.{extents, page_bytes}
use Rattle.range_log.specs.Rows.{folded_of, node_of}
use Rattle.blob_core.specs.World.{World, UpdateEntry, empty_world, IsKnown, fold_at, kept_at, node_at, page_at, same_number, same_fold, same_key, entry_at, bytes_of_page, bytes_of_pages, AreCut, same_update}
use Rattle.blob_core.specs.Woven.{woven, woven_folded}
use Rattle.blob_core.specs.Steps.{IsAllowed, IsFolded, IsNumberedIn, after, folded_page, with_node, with_node_by, AllAllowed, IsTaken, events_of, events_from, next_kept, world_after}
use Rattle.blob_core.specs.Promises.{StepsHold, NodesAreRows, FoldsArePages, IsFoldPage, IsRowNode}
use Rattle.blob_core.specs.Standing.{IsReached, ReachedStays, IsSound, WeavesRow}
use Rattle.blob_core.specs.declared.world.FoldKey.{FoldKey}
use Rattle.blob_core.specs.declared.world.UpdateKey.{UpdateKey}
use Rattle.blob_core.specs.declared.step.Step.{Step}
use Rattle.blob_core.specs.declared.step.Step.TheVariants as Moves
use Rattle.blob_core.proofs.Lists.{number_means, fold_means, key_means, entry_new, entry_old, one_value, none_some, entry_kept, update_means, update_itself}
use Rattle.blob_core.proofs.Taken.{assign_done}
use Rattle.blob_core.proofs.Growing.{Cited}
use Rattle.blob_core.proofs.Keeping.{with_node_is, with_update_is, next_free}
use Rattle.world_acts.specs.Worlds.{HasAllOf}
use Rattle.world_acts.specs.Commuting.{IsPut, IsSameWorld, PutsCommute, SameWorldsGoOn}
use Rattle.world_acts.proofs.Steps.{world_append, allowed_append}
use Rattle.world_acts.proofs.Folding.{with_fold_is, known_after}
use Rattle.world_acts.proofs.Growing.{stands, step_grows}

-- ---- what no put changes
record KeepsRest (w v : World) : Type 0 where
  store : v.store ≡ w.store
  lineage : v.lineage ≡ w.lineage
  updates : v.updates ≡ w.updates

put_keeps : (p : ℕ) (w : World) (step : Step) → IsPut step → KeepsRest w (after p w step)
put_keeps p w (Moves.PagePut page bytes) put = record { store = refl; lineage = refl; updates = refl }
put_keeps p w (Moves.FoldPut blob version page) put = record { store = refl; lineage = refl; updates = refl }
put_keeps p w (Moves.NodePut key) put = record { store = refl; lineage = refl; updates = refl }
put_keeps p w step put = absurd put

reached_next : (p : ℕ) (w : World) (step : Step) → IsReached p w → IsAllowed p w step → IsReached p (after p w step)
reached_next p w step a ok =
    let e : World = empty_world a.limits in
    record {
      limits = a.limits;
      within = a.within;
      some = a.some;
      steps = a.steps ++ step ∷ [];
      allowed = allowed_append p e a.steps (step ∷ []) a.allowed (rw a.is at ok, tt);
      is = ap (λ (x : World). after p x step) a.is ∙ sym (world_append p e a.steps (step ∷ []));
    }

-- ---- pages
-- of two numbers that are new one after the other, the first is new after the second
absent_swapped : (pages : List (ℕ × List ℕ)) (k q : ℕ) (x y : List ℕ) → page_at pages k ≡ None → page_at ((k, x) ∷ pages) q ≡ None → (b : Bool) → same_number q k ≡ b
    → page_at ((q, y) ∷ pages) k ≡ None
absent_swapped pages k q x y none other true t =
    let itself : same_number k k ≡ true = grind (arith, nat_tests) in
    absurd (none_some (page_at ((k, x) ∷ pages) k) x (rw (number_means q k t) at other) (entry_new same_number pages k x itself))
absent_swapped pages k q x y none other false t = rw t none

page_new : (p : ℕ) (w : World) (page : ℕ) (bytes : List ℕ) → page_at (after p w (Moves.PagePut page bytes)).pages page ≡ Some bytes
page_new p w page bytes =
    let itself : same_number page page ≡ true = grind (arith, nat_tests) in
    entry_new same_number w.pages page bytes itself

page_was : (p : ℕ) (w : World) (step : Step) (page : ℕ) (bytes : List ℕ) → IsPut step → page_at (after p w step).pages page ≡ Some bytes
    → (step ≡ Moves.PagePut page bytes) ⊎ (page_at w.pages page ≡ Some bytes)
page_was p w (Moves.PagePut n own) page bytes put is =
    elim (entry_old same_number w.pages n own page bytes (number_means n page) is) [
      | inl new ↦ inl (ap (λ (k : ℕ). Moves.PagePut k own) new.0 ∙ ap (λ (b : List ℕ). Moves.PagePut page b) new.1)
      | inr old ↦ inr old
    ]
page_was p w (Moves.FoldPut blob version i) page bytes put is = inr is
page_was p w (Moves.NodePut key) page bytes put is = inr is
page_was p w step page bytes put is = absurd put

-- ---- pages that an update stored anew, and nodes
fold_was : (p : ℕ) (w : World) (step : Step) (blob version page : ℕ) → IsPut step → IsAllowed p w step → IsKnown (fold_at (after p w step).folded blob version page)
    → (step ≡ Moves.FoldPut blob version page) ⊎ IsKnown (fold_at w.folded blob version page)
fold_was p w (Moves.PagePut n own) blob version page put ok is = inr is
fold_was p w (Moves.FoldPut other v i) blob version page put ok is =
    let (b, own, folded, before) = ok in
    let key : FoldKey = record { blob = other; version = v; page = i } in
    let asked : FoldKey = record { blob = blob; version = version; page = page } in
    elim (with_fold_is p w other v i b folded.kept own.there folded.there (fold_at w.folded other v i) refl) [
      | inl same ↦ inr (is.0, rw same at is.1)
      | inr new ↦
          elim (entry_old same_fold w.folded key (folded_page p w other b folded.kept v i) asked is.0 (fold_means key asked) (rw new.1 at is.1)) [
            | inl here ↦ inl (ap (λ (k : FoldKey). Moves.FoldPut k.blob k.version k.page) here.0)
            | inr old ↦ inr (is.0, old)
          ]
    ]
fold_was p w (Moves.NodePut key) blob version page put ok is = inr is
fold_was p w step blob version page put ok is = absurd put

fold_new : (p : ℕ) (w : World) (blob version page : ℕ) → IsAllowed p w (Moves.FoldPut blob version page) → IsKnown (fold_at (after p w (Moves.FoldPut blob version page)).folded blob version page)
fold_new p w blob version page ok =
    let (b, own, folded, before) = ok in
    known_after p w blob version page b folded.kept own.there folded.there (fold_at w.folded blob version page) refl

-- what is kept beside an update, of which its row is woven
row_of : ReachedStays → (p : ℕ) (w : World) (blob version : ℕ) (b : Blob) → IsReached p w → IsNumberedIn w blob version b → WeavesRow p w blob b version
row_of stay p w blob version b a own =
    let sound : IsSound p w blob b = (stay p w a).blobs blob b own.there in
    sound.weaves version own

module _ (stay : ReachedStays) (p : ℕ) (w : World) (a : IsReached p w) where
  node_was : (step : Step) (key : NodeKey) → IsPut step → IsAllowed p w step → IsKnown (node_at (after p w step).nodes key)
      → (step ≡ Moves.NodePut key) ⊎ IsKnown (node_at w.nodes key)
  node_was (Moves.PagePut n own) key put ok is = inr is
  node_was (Moves.FoldPut other v i) key put ok is = inr is
  node_was (Moves.NodePut other) key put ok is =
      let (b, own, has, folded) = ok in
      let row : WeavesRow p w other.blob b other.version = row_of stay p w other.blob other.version b a own in
      elim (with_node_is p w other b row.kept own.there row.there (node_at w.nodes other) refl) [
        | inl same ↦ inr (is.0, rw same at is.1)
        | inr new ↦
            elim (entry_old same_key w.nodes other (woven p w other.blob b row.kept other.version other.range) key is.0 (key_means other key) (rw new.1 at is.1)) [
              | inl here ↦ inl (ap (λ (k : NodeKey). Moves.NodePut k) here.0)
              | inr old ↦ inr (is.0, old)
            ]
      ]
  node_was step key put ok is = absurd put

  node_new_in : (key : NodeKey) (b : Blob) (kept : UpdateEntry) → blob_at w.store key.blob ≡ Some b → kept_at w.updates key.blob key.version ≡ Some kept
      → (o : Option Node) → node_at w.nodes key ≡ o → IsKnown (node_at (with_node p w key) key)
  node_new_in key b kept there has None none =
      let itself : same_key key key ≡ true = grind (arith, nat_tests) in
      let is : with_node p w key ≡ (key, woven p w key.blob b kept key.version key.range) ∷ w.nodes = rw (none, there, has, with_node_by) refl in
      (woven p w key.blob b kept key.version key.range, rw is (entry_new same_key w.nodes key (woven p w key.blob b kept key.version key.range) itself))
  node_new_in key b kept there has (Some n) here =
      let is : with_node p w key ≡ w.nodes = rw (here, with_node_by) refl in
      (n, rw is here)

  node_new : (key : NodeKey) → IsAllowed p w (Moves.NodePut key) → IsKnown (node_at (after p w (Moves.NodePut key)).nodes key)
  node_new key ok =
      let (b, own, has, folded) = ok in
      let row : WeavesRow p w key.blob b key.version = row_of stay p w key.blob key.version b a own in
      node_new_in key b row.kept own.there row.there (node_at w.nodes key) refl

-- ---- two worlds with the same store and the same parents
module _ (stay : ReachedStays) (p : ℕ) (u v : World) (of_u : IsReached p u) (of_v : IsReached p v) (store : u.store ≡ v.store) (lineage : u.lineage ≡ v.lineage) where
  numbered_too : (blob version : ℕ) (b : Blob) → IsNumberedIn u blob version b → IsNumberedIn v blob version b
  numbered_too blob version b own = record {
    there = ap (λ (s : Store). blob_at s blob) (sym store) ∙ own.there;
    some = own.some;
    upto = own.upto;
    own = ap (λ (l : List (Option Parent)). origin_of l blob version) (sym lineage) ∙ own.own;
  }

  folded_too : (blob version : ℕ) (b : Blob) (page : ℕ) → IsNumberedIn u blob version b → IsFolded p u blob version b page → IsFolded p v blob version b page
  folded_too blob version b page own folded =
      let one : WeavesRow p u blob b version = row_of stay p u blob version b of_u own in
      let other : WeavesRow p v blob b version = row_of stay p v blob version b of_v (numbered_too blob version b own) in
      let same : one.kept ≡ folded.kept = one_value (kept_at u.updates blob version) one.kept folded.kept one.there folded.there in
      let anew : folded_of p (extents b.updates) version page ≡ true =
      sym (one.folded page) ∙ ap (λ (k : UpdateEntry). woven_folded fold_number p u blob b k version page) same ∙ folded.anew in
      record { kept = other.kept; there = other.there; met = folded.met; anew = other.folded page ∙ anew }

-- ---- what is there is the row's
holds : StepsHold → (p : ℕ) (w : World) → IsReached p w → NodesAreRows p w × FoldsArePages p w
holds hold p w a =
    let it = hold p a.limits a.steps a.some a.allowed in
    rw a.is (it.nodes, it.folds)

module _ (hold : StepsHold) (p : ℕ) (u v : World) (of_u : IsReached p u) (of_v : IsReached p v) (store : u.store ≡ v.store) where
  same_node : (key : NodeKey) (n : Node) → node_at u.nodes key ≡ Some n → IsKnown (node_at v.nodes key) → node_at v.nodes key ≡ Some n
  same_node key n is known =
      let one : IsRowNode p u key n = (holds hold p u of_u).0 key n is in
      let other : IsRowNode p v key known.0 = (holds hold p v of_v).0 key known.0 known.1 in
      let same : one.b ≡ other.b = one_value (blob_at v.store key.blob) one.b other.b (ap (λ (s : Store). blob_at s key.blob) (sym store) ∙ one.there) other.there in
      let equal : known.0 ≡ n = other.is ∙ ap (λ (b : Blob). node_of p (extents b.updates) key.version key.range) (sym same) ∙ sym one.is in
      known.1 ∙ ap (λ (m : Node). Some m) equal

  same_fold_bytes : (blob version page : ℕ) (bytes : List ℕ) → fold_at u.folded blob version page ≡ Some bytes → IsKnown (fold_at v.folded blob version page)
      → fold_at v.folded blob version page ≡ Some bytes
  same_fold_bytes blob version page bytes is known =
      let one : IsFoldPage p u blob version page bytes = (holds hold p u of_u).1 blob version page bytes is in
      let other : IsFoldPage p v blob version page known.0 = (holds hold p v of_v).1 blob version page known.0 known.1 in
      let same : one.b ≡ other.b = one_value (blob_at v.store blob) one.b other.b (ap (λ (s : Store). blob_at s blob) (sym store) ∙ one.there) other.there in
      let equal : known.0 ≡ bytes = other.is ∙ ap (λ (b : Blob). page_bytes p b.updates version page) (sym same) ∙ sym one.is in
      known.1 ∙ ap (λ (m : List ℕ). Some m) equal

-- ---- the puts change places
module _ (c : Cited) (hold : StepsHold) (stay : ReachedStays) (p : ℕ) where
  grows : (w : World) (step : Step) → IsReached p w → IsAllowed p w step → HasAllOf w (after p w step)
  grows w step a ok = step_grows p w step (stands c p w a) ok

  absent_after : (w : World) (page : ℕ) (bytes : List ℕ) (other : Step) → IsPut other → page_at w.pages page ≡ None
      → IsAllowed p (after p w (Moves.PagePut page bytes)) other → page_at (after p w other).pages page ≡ None
  absent_after w page bytes (Moves.PagePut n own) put none next = absent_swapped w.pages page n bytes own none next.0 (same_number n page) refl
  absent_after w page bytes (Moves.FoldPut blob version i) put none next = none
  absent_after w page bytes (Moves.NodePut key) put none next = none
  absent_after w page bytes step put none next = absurd put

  allowed_after : (w : World) (one other : Step) → IsReached p w → IsPut one → IsPut other → IsAllowed p w one → IsAllowed p w other
      → IsAllowed p (after p w one) other → IsAllowed p (after p w other) one
  allowed_after w (Moves.PagePut page bytes) other a put put' ok ok' next = (absent_after w page bytes other put' ok.0 next, ok.1, ok.2)
  allowed_after w (Moves.FoldPut blob version page) other a put put' ok ok' next =
      let (b, own, folded, before) = ok in
      let v : World = after p w other in
      let of_v : IsReached p v = reached_next p w other a ok' in
      let store : w.store ≡ v.store = sym (put_keeps p w other put').store in
      let lineage : w.lineage ≡ v.lineage = sym (put_keeps p w other put').lineage in (
        b,
        numbered_too stay p w v a of_v store lineage blob version b own,
        folded_too stay p w v a of_v store lineage blob version b page own folded,
        before,
      )
  allowed_after w (Moves.NodePut key) other a put put' ok ok' next =
      let (b, own, has, folded) = ok in
      let v : World = after p w other in
      let of_v : IsReached p v = reached_next p w other a ok' in
      let store : w.store ≡ v.store = sym (put_keeps p w other put').store in
      let lineage : w.lineage ≡ v.lineage = sym (put_keeps p w other put').lineage in
      let there : IsNumberedIn v key.blob key.version b = numbered_too stay p w v a of_v store lineage key.blob key.version b own in (
        b,
        there,
        has,
        λ page at anew.
            (let was : IsFolded p w key.blob key.version b page = folded_too stay p v w of_v a (sym store) (sym lineage) key.blob key.version b page there anew in
            let known : IsKnown (fold_at w.folded key.blob key.version page) = folded page at was in
            (known.0, (grows w other a ok').folded key.blob key.version page known.0 known.1)),
      )
  allowed_after w step other a put put' ok ok' next = absurd put

  -- What the world after two puts has, the world after them in the other order has.
  has_all : (w : World) (one other : Step) → IsReached p w → IsPut one → IsPut other → IsAllowed p w one → IsAllowed p w other
      → IsAllowed p (after p w one) other → IsAllowed p (after p w other) one
      → HasAllOf (after p (after p w one) other) (after p (after p w other) one)
  has_all w one other a put put' ok ok' next next' =
      let u : World = after p w one in
      let v : World = after p w other in
      let of_u : IsReached p u = reached_next p w one a ok in
      let of_v : IsReached p v = reached_next p w other a ok' in
      let x : World = after p u other in
      let y : World = after p v one in
      let of_x : IsReached p x = reached_next p u other of_u next in
      let of_y : IsReached p y = reached_next p v one of_v next' in
      let store : x.store ≡ y.store = (put_keeps p u other put').store ∙ (put_keeps p w one put).store ∙ sym ((put_keeps p v one put).store ∙ (put_keeps p w other put').store) in
      let first : HasAllOf w v = grows w other a ok' in
      let second : HasAllOf v y = grows v one of_v next' in
      let Allowed : Step → World → Type 0 = λ step z. IsAllowed p z step in
      let PageIn : World → ℕ → List ℕ → Type 0 = λ z page bytes. page_at z.pages page ≡ Some bytes in
      let FoldIn : World → ℕ → ℕ → ℕ → Type 0 = λ z blob version page. IsKnown (fold_at z.folded blob version page) in
      let NodeIn : World → NodeKey → Type 0 = λ z key. IsKnown (node_at z.nodes key) in
      let by_page : (z : World) (page : ℕ) (bytes : List ℕ) (step : Step) → step ≡ Moves.PagePut page bytes → PageIn (after p z step) page bytes =
      λ z page bytes step is. rw is (page_new p z page bytes) in
      let by_fold : (z : World) (blob version page : ℕ) (step : Step) → Allowed step z → step ≡ Moves.FoldPut blob version page → FoldIn (after p z step) blob version page =
      λ z blob version page step may is. rw is (fold_new p z blob version page (rw is at may)) in
      let by_node : (z : World) (key : NodeKey) (step : Step) → IsReached p z → Allowed step z → step ≡ Moves.NodePut key → NodeIn (after p z step) key =
      λ z key step of may is. rw is (node_new stay p z of key (rw is at may)) in
      record {
        pages = λ page bytes is.
            elim (page_was p u other page bytes put' is) [
              | inl new ↦ second.pages page bytes (by_page w page bytes other new)
              | inr old ↦
                  elim (page_was p w one page bytes put old) [
                    | inl new ↦ by_page v page bytes one new
                    | inr at ↦ second.pages page bytes (first.pages page bytes at)
                  ]
            ];
        updates = λ blob version kept is.
            ap (λ (l : List (UpdateKey × UpdateEntry)). kept_at l blob version)
            ((put_keeps p v one put).updates ∙ (put_keeps p w other put').updates ∙ sym ((put_keeps p u other put').updates ∙ (put_keeps p w one put).updates))
            ∙ is;
        folded = λ blob version page bytes is.
            (let known : FoldIn y blob version page =
            elim (fold_was p u other blob version page put' next (bytes, is)) [
              | inl new ↦ (let k = by_fold w blob version page other ok' new in (k.0, second.folded blob version page k.0 k.1))
              | inr old ↦
                  elim (fold_was p w one blob version page put ok old) [
                    | inl new ↦ by_fold v blob version page one next' new
                    | inr at ↦ (at.0, second.folded blob version page at.0 (first.folded blob version page at.0 at.1))
                  ]
            ] in
            same_fold_bytes hold p x y of_x of_y store blob version page bytes is known);
        nodes = λ key n is.
            (let known : NodeIn y key =
            elim (node_was stay p u of_u other key put' next (n, is)) [
              | inl new ↦ (let k = by_node w key other a ok' new in (k.0, second.nodes key k.0 k.1))
              | inr old ↦
                  elim (node_was stay p w a one key put ok old) [
                    | inl new ↦ by_node v key one of_v next' new
                    | inr at ↦ (at.0, second.nodes key at.0 (first.nodes key at.0 at.1))
                  ]
            ] in
            same_node hold p x y of_x of_y store key n is known);
      }

  same_world : (w : World) (one other : Step) → IsReached p w → IsPut one → IsPut other → IsAllowed p w one → IsAllowed p w other
      → IsAllowed p (after p w one) other → IsAllowed p (after p w other) one
      → IsSameWorld (after p (after p w one) other) (after p (after p w other) one)
  same_world w one other a put put' ok ok' next next' =
      let u : World = after p w one in
      let v : World = after p w other in
      record {
        store = (put_keeps p u other put').store ∙ (put_keeps p w one put).store ∙ sym ((put_keeps p v one put).store ∙ (put_keeps p w other put').store);
        lineage = (put_keeps p u other put').lineage ∙ (put_keeps p w one put).lineage ∙ sym ((put_keeps p v one put).lineage ∙ (put_keeps p w other put').lineage);
        there = has_all w one other a put put' ok ok' next next';
        back = has_all w other one a put' put ok' ok next' next;
      }

pub puts_commute : Cited → StepsHold → ReachedStays → PutsCommute
puts_commute c hold stay p w one other a put put' ok ok' next =
    let next' : IsAllowed p (after p w other) one = allowed_after c hold stay p w one other a put put' ok ok' next in
    (next', same_world c hold stay p w one other a put put' ok ok' next next')

-- ---- worlds that are the same
flip : (u v : World) → IsSameWorld u v → IsSameWorld v u
flip u v same = record { store = sym same.store; lineage = sym same.lineage; there = same.back; back = same.there }

-- of two maps, of which the second has what the first has, this is so with a new entry too
entry_both : {K V : Type 0} (same : K → K → Bool) (es fs : List (K × V)) (k : K) (x : V) (q : K) (v : V) → (same k q ≡ true → k ≡ q) → same k k ≡ true
    → (entry_at same es q ≡ Some v → entry_at same fs q ≡ Some v) → entry_at same fs k ≡ None → entry_at same ((k, x) ∷ es) q ≡ Some v → entry_at same ((k, x) ∷ fs) q ≡ Some v
entry_both {K} {V} same es fs k x q v means itself keeps none is =
    let Q : K → Type 0 = λ i. entry_at same ((k, x) ∷ fs) i ≡ Some x in
    elim (entry_old same es k x q v means is) [
      | inl new ↦ subst Q new.0 (entry_new same fs k x itself) ∙ ap (λ (y : V). Some y) new.1
      | inr old ↦ entry_kept same fs k x q v means none (keeps old)
    ]

bytes_are : (pages : List (ℕ × List ℕ)) (page : ℕ) (bytes : List ℕ) → page_at pages page ≡ Some bytes → bytes_of_page pages page ≡ bytes
bytes_are pages page bytes is = rw (is, bytes_of_page) refl

module _ (u v : World) (there : HasAllOf u v) where
  page_too : (page : ℕ) → IsKnown (page_at u.pages page) → IsKnown (page_at v.pages page) × (bytes_of_page u.pages page ≡ bytes_of_page v.pages page)
  page_too page known =
      let at : page_at v.pages page ≡ Some known.0 = there.pages page known.0 known.1 in
      ((known.0, at), bytes_are u.pages page known.0 known.1 ∙ sym (bytes_are v.pages page known.0 at))

  pages_too : (p : ℕ) (pages : List ℕ) → AreCut p u.pages pages → AreCut p v.pages pages × (bytes_of_pages u.pages pages ≡ bytes_of_pages v.pages pages)
  pages_too p [] cut = absurd cut
  pages_too p (page ∷ []) cut =
      let one = page_too page cut in
      (one.0, ap (λ (b : List ℕ). b ++ []) one.1)
  pages_too p (page ∷ next ∷ rest) cut =
      let one = page_too page cut.0 in
      let others = pages_too p (next ∷ rest) cut.2 in (
        (one.0, ap (λ (b : List ℕ). length b) (sym one.1) ∙ cut.1, others.0),
        ap (λ (b : List ℕ). b ++ bytes_of_pages u.pages (next ∷ rest)) one.1 ∙ ap (λ (b : List ℕ). bytes_of_page v.pages page ++ b) others.1,
      )

page_absent : (u v : World) (page : ℕ) → HasAllOf v u → page_at u.pages page ≡ None → (o : Option (List ℕ)) → page_at v.pages page ≡ o → page_at v.pages page ≡ None
page_absent u v page back none None e = e
page_absent u v page back none (Some bytes) e = absurd (none_some (page_at u.pages page) bytes none (back.pages page bytes e))

taken_too : (u v : World) (e : Event) → u.store ≡ v.store → IsTaken u.store e → IsTaken v.store e
taken_too u v e store taken = subst (λ (s : Store). IsTaken s e) store taken

module _ (c : Cited) (hold : StepsHold) (stay : ReachedStays) (p : ℕ) where
  allowed_too : (u v : World) (step : Step) → IsReached p u → IsReached p v → IsSameWorld u v → IsAllowed p u step → IsAllowed p v step
  allowed_too u v (Moves.PagePut page bytes) of_u of_v same ok = (page_absent u v page same.back ok.0 (page_at v.pages page) refl, ok.1, ok.2)
  allowed_too u v (Moves.Create caller) of_u of_v same ok = taken_too u v (Events.Create caller) same.store ok
  allowed_too u v (Moves.Assign caller blob place pages) of_u of_v same ok =
      let both = pages_too u v same.there p pages ok.0 in
      (both.0, rw both.1 at (taken_too u v (Events.Assign caller blob place (bytes_of_pages u.pages pages)) same.store ok.1))
  allowed_too u v (Moves.FoldPut blob version page) of_u of_v same ok =
      let (b, own, folded, before) = ok in (
        b,
        numbered_too stay p u v of_u of_v same.store same.lineage blob version b own,
        folded_too stay p u v of_u of_v same.store same.lineage blob version b page own folded,
        before,
      )
  allowed_too u v (Moves.NodePut key) of_u of_v same ok =
      let (b, own, has, folded) = ok in
      let here : IsNumberedIn v key.blob key.version b = numbered_too stay p u v of_u of_v same.store same.lineage key.blob key.version b own in (
        b,
        here,
        has,
        λ page at anew.
            (let was : IsFolded p u key.blob key.version b page = folded_too stay p v u of_v of_u (sym same.store) (sym same.lineage) key.blob key.version b page here anew in
            let known : IsKnown (fold_at u.folded key.blob key.version page) = folded page at was in
            (known.0, same.there.folded key.blob key.version page known.0 known.1)),
      )
  allowed_too u v (Moves.Finish caller blob version) of_u of_v same ok =
      let (b, own, row) = ok.1 in (
        taken_too u v (Events.Finish caller blob version) same.store ok.0,
        (
          b,
          numbered_too stay p u v of_u of_v same.store same.lineage blob version b own,
          λ r has. (let known = row r has in (known.0, same.there.nodes (record { blob = blob; version = version; range = r }) known.0 known.1)),
        ),
      )
  allowed_too u v (Moves.Branch caller blob version) of_u of_v same ok = taken_too u v (Events.Branch caller blob version) same.store ok
  allowed_too u v (Moves.Read blob version offset count) of_u of_v same ok =
      subst (λ (s : Store). is_refused (answer s 0 (Calls.Read blob version offset count)).1 ≡ false) same.store ok

  events_too : (u v : World) (step : Step) → IsSameWorld u v → IsAllowed p u step → events_of u step ≡ events_of v step
  events_too u v (Moves.Assign caller blob place pages) same ok =
      ap (λ (bytes : List ℕ). Events.Assign caller blob place bytes ∷ []) (pages_too u v same.there p pages ok.0).1
  events_too u v step same ok = refl

  store_too : (u v : World) (step : Step) → IsSameWorld u v → IsAllowed p u step → (after p u step).store ≡ (after p v step).store
  store_too u v (Moves.Create caller) same ok = ap (λ (s : Store). store_from s (Events.Create caller ∷ [])) same.store
  store_too u v (Moves.Assign caller blob place pages) same ok =
      ap (λ (s : Store). store_from s (Events.Assign caller blob place (bytes_of_pages u.pages pages) ∷ [])) same.store
      ∙ ap (λ (bytes : List ℕ). store_from v.store (Events.Assign caller blob place bytes ∷ [])) (pages_too u v same.there p pages ok.0).1
  store_too u v (Moves.Finish caller blob version) same ok = ap (λ (s : Store). store_from s (Events.Finish caller blob version ∷ [])) same.store
  store_too u v (Moves.Branch caller blob version) same ok = ap (λ (s : Store). store_from s (Events.Branch caller blob version ∷ [])) same.store
  store_too u v step same ok = same.store

  lineage_too : (u v : World) (step : Step) → IsSameWorld u v → (after p u step).lineage ≡ (after p v step).lineage
  lineage_too u v (Moves.Create caller) same = ap (λ (l : List (Option Parent)). None ∷ l) same.lineage
  lineage_too u v (Moves.Branch caller blob version) same = ap (λ (l : List (Option Parent)). Some (record { blob = blob; version = version }) ∷ l) same.lineage
  lineage_too u v step same = same.lineage

  has_too : (u v : World) (step : Step) → IsReached p u → IsReached p v → IsSameWorld u v → IsAllowed p u step → IsAllowed p v step → HasAllOf (after p u step) (after p v step)
  has_too u v (Moves.PagePut page bytes) of_u of_v same ok ok' =
      let itself : same_number page page ≡ true = grind (arith, nat_tests) in
      record {
        pages = λ n b is. entry_both same_number u.pages v.pages page bytes n b (number_means page n) itself (same.there.pages n b) ok'.0 is;
        updates = same.there.updates;
        folded = same.there.folded;
        nodes = same.there.nodes;
      }
  has_too u v (Moves.Assign caller blob place pages) of_u of_v same ok ok' =
      let (b, is, fits, store) = assign_done u.store caller blob place (bytes_of_pages u.pages pages) ok.1 in
      let too : blob_at v.store blob ≡ Some b = ap (λ (s : Store). blob_at s blob) (sym same.store) ∙ is in
      let key : UpdateKey = record { blob = blob; version = assigned b + 1 } in
      let none : kept_at v.updates blob (assigned b + 1) ≡ None = next_free p v blob b (stands c p v of_v) too (kept_at v.updates blob (assigned b + 1)) refl in
      record {
        pages = same.there.pages;
        updates = λ id n kept e.
            (let q : UpdateKey = record { blob = id; version = n } in
            rw (with_update_is p v blob pages b too)
            (entry_both same_update u.updates v.updates key (next_kept p b pages) q kept (update_means key q) (update_itself key) (same.there.updates id n kept) none
            (rw (with_update_is p u blob pages b is) at e)));
        folded = same.there.folded;
        nodes = same.there.nodes;
      }
  has_too u v (Moves.FoldPut blob version page) of_u of_v same ok ok' =
      let put : Step = Moves.FoldPut blob version page in
      record {
        pages = same.there.pages;
        updates = same.there.updates;
        folded = λ id n i bytes is.
            (let known : IsKnown (fold_at (after p v put).folded id n i) =
            elim (fold_was p u put id n i tt ok (bytes, is)) [
              | inl new ↦
                  (let F : Step → Type 0 = λ s. IsKnown (fold_at (after p v s).folded id n i) in
                  let A : Step → Type 0 = λ s. IsAllowed p v s in
                  subst F (sym new) (fold_new p v id n i (subst A new ok')))
              | inr old ↦ (old.0, (grows c hold stay p v put of_v ok').folded id n i old.0 (same.there.folded id n i old.0 old.1))
            ] in
            same_fold_bytes hold p (after p u put) (after p v put) (reached_next p u put of_u ok) (reached_next p v put of_v ok') same.store id n i bytes is known);
        nodes = same.there.nodes;
      }
  has_too u v (Moves.NodePut key) of_u of_v same ok ok' =
      let put : Step = Moves.NodePut key in
      record {
        pages = same.there.pages;
        updates = same.there.updates;
        folded = same.there.folded;
        nodes = λ k n is.
            (let known : IsKnown (node_at (after p v put).nodes k) =
            elim (node_was stay p u of_u put k tt ok (n, is)) [
              | inl new ↦
                  (let N : Step → Type 0 = λ s. IsKnown (node_at (after p v s).nodes k) in
                  let A : Step → Type 0 = λ s. IsAllowed p v s in
                  subst N (sym new) (node_new stay p v of_v k (subst A new ok')))
              | inr old ↦ (old.0, (grows c hold stay p v put of_v ok').nodes k old.0 (same.there.nodes k old.0 old.1))
            ] in
            same_node hold p (after p u put) (after p v put) (reached_next p u put of_u ok) (reached_next p v put of_v ok') same.store k n is known);
      }
  has_too u v step of_u of_v same ok ok' = record { pages = same.there.pages; updates = same.there.updates; folded = same.there.folded; nodes = same.there.nodes }

  go_on : (u v : World) (steps : List Step) → IsReached p u → IsReached p v → IsSameWorld u v → AllAllowed p u steps
      → AllAllowed p v steps × (events_from p u steps ≡ events_from p v steps) × IsSameWorld (world_after p u steps) (world_after p v steps)
  go_on u v [] of_u of_v same ok = (tt, refl, same)
  go_on u v (step ∷ steps) of_u of_v same ok =
      let ok' : IsAllowed p v step = allowed_too u v step of_u of_v same ok.0 in
      let next : IsSameWorld (after p u step) (after p v step) = record {
        store = store_too u v step same ok.0;
        lineage = lineage_too u v step same;
        there = has_too u v step of_u of_v same ok.0 ok';
        back = has_too v u step of_v of_u (flip u v same) ok' ok.0;
      } in
      let (allowed, events, at_end) = go_on (after p u step) (after p v step) steps (reached_next p u step of_u ok.0) (reached_next p v step of_v ok') next ok.1 in (
        (ok', allowed),
        ap (λ (l : List Event). l ++ events_from p (after p u step) steps) (events_too u v step same ok.0) ∙ ap (λ (l : List Event). events_of v step ++ l) events,
        at_end,
      )

pub same_worlds_go_on : Cited → StepsHold → ReachedStays → SameWorldsGoOn
same_worlds_go_on c hold stay p u v steps of_u of_v same ok = go_on c hold stay p u v steps of_u of_v same ok
