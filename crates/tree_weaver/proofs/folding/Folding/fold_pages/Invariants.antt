use Rattle.std.proofs.Common.{◌≡◌, ◌≤◌, [], length, map, take}
use Rattle.std.specs.Prelude.{All}
use Rattle.std.specs.List.{filter_map}
use Rattle.page_store.specs.Stored.{LieAmong}
use Rattle.tree_weaver.specs.Anew.{bytes_anew}
use Rattle.tree_weaver.specs.Folding.{CanFold, AreKept}
use Rattle.tree_weaver.specs.Put.{WasPut}
use Rattle.tree_weaver.proofs.folding.Folding.fold_pages.Given as goal

abbrev pub invariant-loop-page : goal.invariant-loop-page
invariant-loop-page g l = record {
  can : CanFold g.D.Door.is_true l.self l.doors;
  bytes : map (λ s. s.bytes) l.folds ≡ map (bytes_anew l.self.ticket.now) (filter_map (λ o. o) (take l.page-index l.page-items));
  few : length l.folds ≤ l.page-index;
  lie : LieAmong l.self.houses.now l.folds;
  put : All (WasPut g.D.Door.called g.D.Door.faults l.self.loads.now.providers l.self.loads.now.replicas l.initial.doors l.doors) l.folds;
  untouched : filter_map (λ o. o) (take l.page-index l.page-items) ≡ [] → l.doors ≡ l.initial.doors;
  kept : AreKept g.D.Door.faults l.initial.doors l.doors;
  room : length l.room ≡ length l.initial.room;
}
