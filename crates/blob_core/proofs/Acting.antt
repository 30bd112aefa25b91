-- What an act leaves is what its step leaves.
use Rattle.std.proofs.Common.{◌≡◌, ◌⊎◌, ◌↔◌, ℕ, ◌+◌, ◌-◌, ◌<◌, ◌≤◌, Bool, true, false, inl, inr, List, [], ◌∷◌, arith, refl, ap, sym, subst, ◌∙◌}
use Rattle.std.specs.Prelude.{◌||◌, Option, Some, None, MatchOption, slice_set}
use Rattle.std.specs.List.{Contains}
use Rattle.blob_model.specs.Content.{Update}
use Rattle.blob_model.specs.Store.{Store, Blob, blob_at, assigned, published, with_blob, and_update, finish, is_finished}
use Rattle.blob_model.specs.Answer.{answer}
use Rattle.blob_model.specs.History.{store_from, is_refused}
use Rattle.blob_model.specs.declared.call.Call.TheVariants as Calls
use Rattle.blob_model.specs.declared.call.Event.TheVariants as Events
use Rattle.tree_geom.specs.declared.range.Range.{Range}
use Rattle.tree_geom.specs.declared.touch.Touch.{Touch}
use Rattle.tree_geom.specs.declared.node.Node.{Node}
use Rattle.tree_geom.specs.declared.node.NodeKey.{NodeKey}
use Rattle.tree_geom.specs.Geometry.{Meets, page_range}
use Rattle.range_log.specs.Log.{HasNode, touch_at}
use Rattle.range_log.specs.Extents.{extent_at}
use Rattle.range_log.specs.Updates.{extents, update_at}
use Rattle.range_log.specs.Rows.{folded_of, node_of, row_keys_of}
use Rattle.range_log.specs.Laws.{ExtentsStand, RowKeysExact}
use Rattle.range_log.proofs.Bytes.{length-extents}
use Rattle.blob_core.specs.World.{World, UpdateEntry, bytes_of_pages, AreCut, fold_at, kept_at, node_at, log_of}
use Rattle.blob_core.specs.Woven.{woven}
use Rattle.blob_core.specs.Steps.{IsAllowed, IsFolded, IsNumberedIn, RowIsThere, next_kept, over_page, folded_page, with_fold, with_node, with_node_by}
use Rattle.blob_core.specs.Walk.{page_walk}
use Rattle.blob_core.specs.Standing.{IsSound, Stays, WeavesRow}
use Rattle.blob_core.specs.Acts.{IsDone, IsLogOf, IsRowOf, NotNumberedIn, LacksFold, HasFold, AreThere}
use Rattle.blob_core.specs.declared.nodes.Row.{Row}
use Rattle.blob_core.specs.declared.world.FoldKey.{FoldKey}
use Rattle.blob_core.specs.declared.world.UpdateKey.{UpdateKey}
use Rattle.blob_core.specs.declared.step.Step.TheVariants as Moves
use Rattle.blob_core.proofs.Lists.{one_value, none_some}
use Rattle.blob_core.proofs.Taken.{assign_done, finish_done}
use Rattle.blob_core.proofs.Refusing.{finish_refused}
use Rattle.blob_core.proofs.Keeping.{with_update_is}

pub number_done : (p : ℕ) (w : World) (blob : ℕ) (pages : List ℕ) (b : Blob) (u : Update) (key : UpdateKey) (kept : UpdateEntry) (blobs : List Blob) (updates : List (UpdateKey × UpdateEntry))
    → blob_at w.store blob ≡ Some b → AreCut p w.pages pages → u.bytes ≡ bytes_of_pages w.pages pages
    → is_refused (answer w.store u.caller (Calls.Assign blob u.place u.bytes)).1 ≡ false
    → blobs ≡ slice_set w.store.blobs (blob - 1) (and_update b u)
    → key ≡ record { blob = blob; version = assigned b + 1 } → kept ≡ next_kept p b pages → updates ≡ (key, kept) ∷ w.updates
    → IsDone p w (Moves.Assign u.caller blob u.place pages)
    (record w { store = record { limits = w.store.limits; blobs = blobs }; updates = updates })
number_done p w blob pages b u key kept blobs updates there cut bytes taken set number beside more =
    let all : List ℕ = bytes_of_pages w.pages pages in
    let ok = rw bytes at taken in
    let (x, is, fits, store) = assign_done w.store u.caller blob u.place all ok in
    let same : x ≡ b = one_value (blob_at w.store blob) x b is there in
    let of : List ℕ → Update = λ l. record { caller = u.caller; place = u.place; bytes = l } in
    let stored : with_blob w.store blob (and_update b u) ≡ store_from w.store (Events.Assign u.caller blob u.place all ∷ []) =
    ap (λ (l : List ℕ). with_blob w.store blob (and_update b (of l))) bytes ∙ ap (λ (y : Blob). with_blob w.store blob (and_update y (of all))) (sym same) ∙ sym store in
    let W : Store → List (UpdateKey × UpdateEntry) → World = λ s l. record w { store = s; updates = l } in
    rw (set, more, number, beside)
    (record {
      allowed = (cut, ok);
      is = ap (λ (s : Store). W s ((record { blob = blob; version = assigned b + 1 }, next_kept p b pages) ∷ w.updates)) stored
          ∙ ap (W (store_from w.store (Events.Assign u.caller blob u.place all ∷ []))) (sym (with_update_is p w blob pages b there));
    })

-- ---- a node
-- what is answered of a row
abbrev pub IsFound : ℕ → World → ℕ → ℕ → Option Row → Type 0
IsFound p w blob version found = MatchOption found (NotNumberedIn w blob version) (λ (r : Row). IsRowOf p w blob version r.log.items r.keys.items)

-- what stands where a version's row was found, and its blob
pub record RowStands (p : ℕ) (w : World) (blob version : ℕ) (b : Blob) (log : List Touch) (keys : List Range) : Type 0 where
  pub sound : IsSound p w blob b
  pub own : IsNumberedIn w blob version b
  pub touches : IsLogOf p b log
  pub ranges : keys ≡ row_keys_of p (log_of p b.updates) version

pub row_stands : {p : ℕ} {w : World} {blob version : ℕ} {b : Blob} {found : Option Row} {row : Row} → Stays p w → blob_at w.store blob ≡ Some b → IsFound p w blob version found
    → found ≡ Some row → RowStands p w blob version b row.log.items row.keys.items
row_stands {p} {w} {blob} {version} {b} {found} {row} stays there is same =
    let r : IsRowOf p w blob version row.log.items row.keys.items = subst (IsFound p w blob version) same is in
    let e : r.b ≡ b = one_value (blob_at w.store blob) r.b b r.own.there there in
    record { sound = stays.blobs blob b there; own = rw e at r.own; touches = rw e at r.touches; ranges = rw e at r.ranges }

-- the range has a node in the row exactly where it is among the row's ranges
pub has_in_row : ExtentsStand → RowKeysExact → (p : ℕ) (w : World) (blob version : ℕ) (b : Blob) (log : List Touch) (keys : List Range) (r : Range) → 1 ≤ p
    → RowStands p w blob version b log keys → Contains keys r ↔ HasNode p (log_of p b.updates) version r
has_in_row stand exact p w blob version b log keys r pos row =
    rw row.ranges (exact p version (extents b.updates) r pos (stand b.updates row.sound.replay).0 row.own.some (omega (arith, row.own.upto, length-extents b.updates)))

-- a node that isn't of the row may not be put
pub not_of_row : (p : ℕ) (w : World) (key : NodeKey) (b : Blob) → blob_at w.store key.blob ≡ Some b → ¬ HasNode p (log_of p b.updates) key.version key.range
    → ¬ IsAllowed p w (Moves.NodePut key)
not_of_row p w key b there apart (x, own, has, folds) =
    let same : x ≡ b = one_value (blob_at w.store key.blob) x b own.there there in
    apart (rw same at has)

-- a page is stored anew as it is woven exactly where the row says so
folded_here : (p : ℕ) (w : World) (blob k : ℕ) (b : Blob) (i : ℕ) → WeavesRow p w blob b k → Meets p (touch_at (log_of p b.updates) k) (page_range p i)
    → folded_of p (extents b.updates) k i ≡ true → IsFolded p w blob k b i
folded_here p w blob k b i weaves met anew = record { kept = weaves.kept; there = weaves.there; met = met; anew = weaves.folded i ∙ anew }

folded_means : (p : ℕ) (w : World) (blob k : ℕ) (b : Blob) (i : ℕ) → WeavesRow p w blob b k → IsFolded p w blob k b i → folded_of p (extents b.updates) k i ≡ true
folded_means p w blob k b i weaves f =
    let same : f.kept ≡ weaves.kept = one_value (kept_at w.updates blob k) f.kept weaves.kept f.there weaves.there in
    sym (weaves.folded i) ∙ rw same at f.anew

node_allowed : (p : ℕ) (w : World) (key : NodeKey) (b : Blob) → IsSound p w key.blob b → IsNumberedIn w key.blob key.version b → HasNode p (log_of p b.updates) key.version key.range
    → HasFold p w.folded key b → IsAllowed p w (Moves.NodePut key)
node_allowed p w key b sound own has folds =
    (b, own, has, λ page e f. folds page e f.met (folded_means p w key.blob key.version b page (sound.weaves key.version own) f))

-- a leaf whose page is stored anew may not be put before the page
pub not_without_fold : (p : ℕ) (w : World) (key : NodeKey) (b : Blob) → IsSound p w key.blob b → blob_at w.store key.blob ≡ Some b → LacksFold p w.folded key b
    → ¬ IsAllowed p w (Moves.NodePut key)
not_without_fold p w key b sound there lacks (x, own, has, folds) =
    let same : x ≡ b = one_value (blob_at w.store key.blob) x b own.there there in
    let its : IsNumberedIn w key.blob key.version b = rw same at own in
    let put = rw same at folds in
    let (bytes, is) = put lacks.page lacks.leaf (folded_here p w key.blob key.version b lacks.page (sound.weaves key.version its) lacks.met lacks.anew) in
    none_some (fold_at w.folded key.blob key.version lacks.page) bytes lacks.missing is

abbrev with_nodes : World → List (NodeKey × Node) → World
with_nodes w nodes = record w { nodes = nodes }

pub node_kept : (p : ℕ) (w : World) (key : NodeKey) (b : Blob) (n : Node) → IsSound p w key.blob b → IsNumberedIn w key.blob key.version b
    → HasNode p (log_of p b.updates) key.version key.range → HasFold p w.folded key b → node_at w.nodes key ≡ Some n → IsDone p w (Moves.NodePut key) w
node_kept p w key b n sound own has folds is =
    let e : with_node p w key ≡ w.nodes = rw (is, with_node_by) refl in
    record { allowed = node_allowed p w key b sound own has folds; is = ap (λ (l : List (NodeKey × Node)). with_nodes w l) (sym e) }

pub node_done : (p : ℕ) (w : World) (key : NodeKey) (b : Blob) (n : Node) (nodes : List (NodeKey × Node)) → IsSound p w key.blob b → IsNumberedIn w key.blob key.version b
    → HasNode p (log_of p b.updates) key.version key.range → HasFold p w.folded key b → node_at w.nodes key ≡ None → n ≡ node_of p (extents b.updates) key.version key.range
    → nodes ≡ (key, n) ∷ w.nodes → IsDone p w (Moves.NodePut key) (with_nodes w nodes)
node_done p w key b n nodes sound own has folds none is more =
    let row : WeavesRow p w key.blob b key.version = sound.weaves key.version own in
    let entry : Node → List (NodeKey × Node) = λ x. (key, x) ∷ w.nodes in
    let e : with_node p w key ≡ entry (woven p w key.blob b row.kept key.version key.range) = rw (none, own.there, row.there, with_node_by) refl in
    record {
      allowed = node_allowed p w key b sound own has folds;
      is = ap (λ (l : List (NodeKey × Node)). with_nodes w l) (more ∙ ap entry (is ∙ sym (row.nodes key.range has)) ∙ sym e);
    }

-- ---- a page that is stored anew
-- the update touches the page and stores it anew, and the version before is published
pub record MayFold (p : ℕ) (w : World) (blob version page : ℕ) (b : Blob) : Type 0 where
  pub sound : IsSound p w blob b
  pub own : IsNumberedIn w blob version b
  pub met : Meets p (touch_at (log_of p b.updates) version) (page_range p page)
  pub anew : folded_of p (extents b.updates) version page ≡ true
  pub before : version - 1 ≤ published b

fold_allowed : (p : ℕ) (w : World) (blob version page : ℕ) (b : Blob) → MayFold p w blob version page b → IsAllowed p w (Moves.FoldPut blob version page)
fold_allowed p w blob version page b may = (b, may.own, folded_here p w blob version b page (may.sound.weaves version may.own) may.met may.anew, may.before)

pub not_foldable : (p : ℕ) (w : World) (blob version page : ℕ) (b : Blob) → IsSound p w blob b → blob_at w.store blob ≡ Some b
    → (¬ (Meets p (touch_at (log_of p b.updates) version) (page_range p page) × (folded_of p (extents b.updates) version page ≡ true))) ⊎ (published b < version - 1)
    → ¬ IsAllowed p w (Moves.FoldPut blob version page)
not_foldable p w blob version page b sound there not (x, own, folds, before) =
    let same : x ≡ b = one_value (blob_at w.store blob) x b own.there there in
    let its : IsNumberedIn w blob version b = rw same at own in
    let anew : IsFolded p w blob version b page = rw same at folds in
    elim not [
      | inl none ↦ none (anew.met, folded_means p w blob version b page (sound.weaves version its) anew)
      | inr early ↦ omega (arith, early, rw same at before)
    ]

abbrev with_folds : World → List (FoldKey × List ℕ) → World
with_folds w folds = record w { folded = folds }

pub fold_kept : (p : ℕ) (w : World) (blob version page : ℕ) (b : Blob) (bytes : List ℕ) → MayFold p w blob version page b → fold_at w.folded blob version page ≡ Some bytes
    → IsDone p w (Moves.FoldPut blob version page) w
fold_kept p w blob version page b bytes may is =
    let e : with_fold p w blob version page ≡ w.folded = rw (is, with_fold) refl in
    record { allowed = fold_allowed p w blob version page b may; is = ap (λ (l : List (FoldKey × List ℕ)). with_folds w l) (sym e) }

pub fold_done : (p : ℕ) (w : World) (blob version page : ℕ) (b : Blob) (bytes : List ℕ) (folds : List (FoldKey × List ℕ)) → MayFold p w blob version page b
    → fold_at w.folded blob version page ≡ None
    → bytes ≡ over_page p (extent_at (extents b.updates) version) page (update_at b.updates version).bytes (page_walk p w blob b (version - 1) page)
    → folds ≡ (record { blob = blob; version = version; page = page }, bytes) ∷ w.folded
    → IsDone p w (Moves.FoldPut blob version page) (with_folds w folds)
fold_done p w blob version page b bytes folds may none is more =
    let row : WeavesRow p w blob b version = may.sound.weaves version may.own in
    let entry : List ℕ → List (FoldKey × List ℕ) = λ l. (record { blob = blob; version = version; page = page }, l) ∷ w.folded in
    let over : List ℕ → List ℕ = λ buffer. over_page p (extent_at (extents b.updates) version) page buffer (page_walk p w blob b (version - 1) page) in
    let e : with_fold p w blob version page ≡ entry (folded_page p w blob b row.kept version page) = rw (none, may.own.there, row.there, with_fold) refl in
    record {
      allowed = fold_allowed p w blob version page b may;
      is = ap (λ (l : List (FoldKey × List ℕ)). with_folds w l) (more ∙ ap entry (is ∙ ap over (sym row.bytes)) ∙ sym e);
    }

-- ---- a finish
or_false : (b : Bool) → (b || false) ≡ b
or_false true = refl
or_false false = refl

pub finish_is_done : (p : ℕ) (w : World) (caller blob version : ℕ) (b : Blob) (blobs : List Blob) → IsNumberedIn w blob version b → RowIsThere p w blob version b
    → is_finished b version ≡ false → blobs ≡ slice_set w.store.blobs (blob - 1) (finish b version)
    → IsDone p w (Moves.Finish caller blob version)
    (record w { store = record { limits = w.store.limits; blobs = blobs } })
finish_is_done p w caller blob version b blobs own row fresh set =
    let ok : is_refused (answer w.store caller (Calls.Finish blob version)).1 ≡ false = finish_refused w.store caller blob version b own.there ∙ or_false (is_finished b version) ∙ fresh in
    let (x, is, store) = finish_done w.store caller blob version ok in
    let same : x ≡ b = one_value (blob_at w.store blob) x b is own.there in
    let stored : with_blob w.store blob (finish b version) ≡ store_from w.store (Events.Finish caller blob version ∷ []) =
    ap (λ (y : Blob). with_blob w.store blob (finish y version)) (sym same) ∙ sym store in
    let W : Store → World = λ s. record w { store = s } in
    rw set (record { allowed = (ok, (b, own, row)); is = ap W stored })

-- an update that is finished, or of whose row a node isn't there, may not be finished
pub not_finishable : (p : ℕ) (w : World) (caller blob version : ℕ) (b : Blob) → blob_at w.store blob ≡ Some b → (is_finished b version ≡ true) ⊎ (¬ RowIsThere p w blob version b)
    → ¬ IsAllowed p w (Moves.Finish caller blob version)
not_finishable p w caller blob version b there (inl fin) ok =
    let no = sym ok.0 ∙ finish_refused w.store caller blob version b there ∙ or_false (is_finished b version) ∙ fin in
    (let never : ⊥ = cc in never)
not_finishable p w caller blob version b there (inr apart) ok =
    let (x, own, row) = ok.1 in
    let same : x ≡ b = one_value (blob_at w.store blob) x b own.there there in
    apart (rw same at row)

-- the nodes for some ranges, by other names of both
pub same_there : (a b : List (NodeKey × Node)) (blob version : ℕ) (x y : List Range) → a ≡ b → x ≡ y → AreThere a blob version x → AreThere b blob version y
same_there a b blob version x y e f all = rw (← e, ← f) all
