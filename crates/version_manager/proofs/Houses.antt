-- In which houses the rows of a desk lie.
use Rattle.std.proofs.Common.{◌≡◌, ℕ, ◌-◌, ◌<◌, List, [], length, get_or, sym, subst, arith}
use Rattle.std.specs.Prelude.{Option, Some, None, All, take}
use Rattle.std.proofs.lemmas.List.Elements.{All-push, All-set, All-take, All-map}
use Rattle.boxcar.specs.Table.{Shelves}
use Rattle.page_store.specs.House.{House}
use Rattle.node_store.specs.UpdateRows.{UpdateRow, IsRowIn}
use Rattle.tree_geom.specs.declared.touch.Touch.{Touch}
use Rattle.publisher.specs.Windows.{Numbered, leading, version_of, window_on, with_numbered, with_finished}
use Rattle.publisher.proofs.Leading.{leading_all}
use Rattle.snapshot.specs.Versions.{older_version, under_blob, IsVersionIn}
use Rattle.version_manager.specs.Desks.{IsRowIfAnyIn}

module _ (nodes : List Shelves) (houses : List House) where
  -- the rows of the window lie there
  abbrev pub AreRowsIn : Numbered → Type 0
  AreRowsIn w = All (IsRowIfAnyIn nodes houses) w.rows

  pub numbered_in : (w : Numbered) (touch : Touch) → AreRowsIn w → AreRowsIn (with_numbered w touch)
  numbered_in w touch h = All-push (IsRowIfAnyIn nodes houses) w.rows None h tt

  pub finished_in : (w : Numbered) (version : ℕ) (row : UpdateRow) → IsRowIn nodes houses row → AreRowsIn w → AreRowsIn (with_finished w version row)
  finished_in w version row r h = All-set (IsRowIfAnyIn nodes houses) w.rows (version - 1) (Some row) r h

  pub none_in : (w : Numbered) → w.rows ≡ [] → AreRowsIn w
  none_in w e =
      let A : List (Option UpdateRow) → Type 0 = λ l. All (IsRowIfAnyIn nodes houses) l in
      let none : A [] = λ k o lt. absurd (omega arith) in
      subst A (sym e) none

  -- a window of a desk that lies there
  pub window_lies : (ws : List Numbered) (i : ℕ) (w e : Numbered) → All AreRowsIn ws → i < length ws → w ≡ get_or ws i e → AreRowsIn w
  window_lies ws i w e h lt is = subst (λ (x : Numbered). AreRowsIn x) (sym is) (h i e lt)

  older_rows_in : (w : Numbered) (version : ℕ) → AreRowsIn w → All (IsRowIn nodes houses) (take version (leading w.rows))
  older_rows_in w version h = All-take (IsRowIn nodes houses) version (leading w.rows) (leading_all (IsRowIn nodes houses) w.rows h)

  pub older_in : (w : Numbered) (version : ℕ) → AreRowsIn w → IsVersionIn nodes houses (older_version (version_of w) version)
  older_in w version h =
      let rows = older_rows_in w version h in
      (λ k row lt. (rows k row lt).nodes_here, λ k row lt. (rows k row lt).pages_here)

  pub branch_in_houses : (w : Numbered) (version id : ℕ) → AreRowsIn w → AreRowsIn (window_on (under_blob (older_version (version_of w) version) id))
  branch_in_houses w version id h = All-map (IsRowIfAnyIn nodes houses) (λ (row : UpdateRow). Some row) (take version (leading w.rows)) (older_rows_in w version h)
