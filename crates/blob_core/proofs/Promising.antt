-- The promises, from what every list of allowed steps keeps.
use Rattle.std.proofs.Common.{◌≡◌, ℕ, ◌≤◌, List, length, ap, sym, ◌∙◌, arith}
use Rattle.blob_model.specs.Store.{blob_at, assigned, published}
use Rattle.blob_model.specs.declared.call.Outcome.{Outcome}
use Rattle.blob_model.specs.declared.call.Outcome.TheVariants as Outcomes
use Rattle.range_log.specs.Log.{HasNode}
use Rattle.range_log.specs.Extents.{InBounds}
use Rattle.range_log.specs.Updates.{extents}
use Rattle.range_log.specs.Walk.{root_of}
use Rattle.range_log.proofs.Bytes.{length-extents}
use Rattle.range_log.specs.Rows.{node_of}
use Rattle.blob_core.specs.World.{World, empty_world, key_in, log_of}
use Rattle.blob_core.specs.Steps.{world_after}
use Rattle.blob_core.specs.Promises.{FinishedRowsAreThere, FoundIsNewest, ReachedIsThere, ReadsAreContent, StepsHold, IsRowNode}
use Rattle.blob_core.proofs.Lists.{one_value}
use Rattle.blob_core.proofs.Growing.{Cited}
use Rattle.blob_core.proofs.Finding.{found_newest}
use Rattle.blob_core.proofs.Taken.{read_done}
use Rattle.blob_core.proofs.Keeping.{Stands, BlobStands, rows_known, in_bounds, published_within, empty_stands}
use Rattle.blob_core.proofs.Running.{stands_after, store_after, legal_after}
use Rattle.blob_core.proofs.Reaching.{NoneAtZero, reached_is}
use Rattle.blob_core.proofs.Reading.{read_is}

rows_there : (c : Cited) (p : ℕ) (w : World) → 1 ≤ p → Stands p w → FinishedRowsAreThere p w
rows_there c p w pos s blob version b r there some upto fin has =
    let bs : BlobStands p w blob b = s.blobs blob b there in
    let ok : InBounds (extents b.updates) = in_bounds c b.updates bs.replay in
    let in_list : version ≤ length (extents b.updates) = omega (arith, length-extents b.updates) in
    let node : HasNode p (log_of p b.updates) version r = (c.exact p version (extents b.updates) r pos ok some in_list).0 has in
    (node_of p (extents b.updates) version r, bs.rows version r fin node)

found_there : (c : Cited) (p : ℕ) (w : World) → 1 ≤ p → Stands p w → FoundIsNewest p w
found_there c p w pos s blob version b r there upto aligned =
    let bs : BlobStands p w blob b = s.blobs blob b there in
    let within : published b ≤ assigned b = published_within p w blob b bs in
    found_newest c p w blob b.updates (published b) pos (in_bounds c b.updates bs.replay) (rows_known p w blob b (published b) bs (omega arith)) within version r upto aligned

none_at_zero : (p : ℕ) (w : World) (blob : ℕ) → Stands p w → NoneAtZero w blob
none_at_zero p w blob s r n is =
    let row : IsRowNode p w (key_in w blob 0 r) n = s.nodes (key_in w blob 0 r) n is in
    let some : 1 ≤ 0 = row.has.version.0 in
    omega arith

reached_there : (c : Cited) (p : ℕ) (w : World) → 1 ≤ p → Stands p w → ReachedIsThere p w
reached_there c p w pos s blob version b ways there some upto leads =
    let bs : BlobStands p w blob b = s.blobs blob b there in
    let within : published b ≤ assigned b = published_within p w blob b bs in
    let root : HasNode p (log_of p b.updates) version (root_of p (log_of p b.updates) version) =
    c.roots p version (extents b.updates) pos (in_bounds c b.updates bs.replay) some (omega (arith, length-extents b.updates)) in
    reached_is c p w blob b.updates (published b) pos bs.replay (rows_known p w blob b (published b) bs (omega arith)) (none_at_zero p w blob s) ways version
    (root_of p (log_of p b.updates) version) upto root leads

reads_there : (c : Cited) (p : ℕ) (w : World) → 1 ≤ p → Stands p w → ReadsAreContent p w
reads_there c p w pos s blob version offset count b ok there =
    let (x, at, upto, inside, gives) = read_done w.store 0 blob version offset count ok in
    let bs : BlobStands p w blob x = s.blobs blob x at in
    let read = read_is c p w blob x pos s bs version offset count upto inside in
    let same : x ≡ b = one_value (blob_at w.store blob) x b at there in
    let content : List ℕ → Outcome = λ l. Outcomes.Content l in
    rw (← same) (gives ∙ ap content (sym read.bytes), read.nodes)

pub steps_hold : (c : Cited) → StepsHold
steps_hold c p limits steps pos ok =
    let empty : World = empty_world limits in
    let w : World = world_after p empty steps in
    let s : Stands p w = stands_after c p empty steps pos (empty_stands p limits) ok in
    record {
      legal = legal_after c p empty steps pos (empty_stands p limits) ok;
      store = store_after p empty steps;
      nodes = s.nodes;
      folds = s.folds;
      rows = rows_there c p w pos s;
      found = found_there c p w pos s;
      reached = reached_there c p w pos s;
      reads = reads_there c p w pos s;
    }
