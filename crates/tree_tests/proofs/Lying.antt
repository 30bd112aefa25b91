-- The nodes of the rows of a window lie in one house.
use Rattle.std.proofs.Common.{ℕ, List}
use Rattle.std.specs.Prelude.{All}
use Rattle.std.proofs.lemmas.List.Elements.{All-take}
use Rattle.boxcar.specs.Table.{Shelves}
use Rattle.node_store.specs.House.{IsIn}
use Rattle.node_store.specs.UpdateRows.{UpdateRow}
use Rattle.publisher.specs.Windows.{Numbered, leading, version_of}
use Rattle.publisher.proofs.Leading.{leading_all}
use Rattle.snapshot.specs.Versions.{older_version, NodesLieIn}
use Rattle.tree_tests.specs.Blobs.{IsRowIfAnyIn}

module _ (nodes : List Shelves) where
  pub older_lies : (w : Numbered) (version : ℕ) → All (IsRowIfAnyIn nodes) w.rows → NodesLieIn nodes (older_version (version_of w) version)
  older_lies w version h = All-take (λ (row : UpdateRow). IsIn nodes row.spot) version (leading w.rows) (leading_all (λ (row : UpdateRow). IsIn nodes row.spot) w.rows h)
