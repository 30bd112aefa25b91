-- A stored row is that of its update.
use Rattle.std.proofs.Common.{◌≡◌, List, [], ◌∷◌, refl, ap, sym, ◌∙◌}
use Rattle.std.specs.List.{zip}
use Rattle.tree_geom.specs.declared.range.Range.{Range}
use Rattle.tree_geom.specs.declared.node.Node.{Node}
use Rattle.border_hints.specs.Numbered.{NumberedUpdate}
use Rattle.tree_weaver.specs.Planned.{own_ranges, ranges_of, nodes_of}
use Rattle.range_log.specs.Laws.{EachTouchIs, SizesAre}
use Rattle.range_log.specs.Extents.{Extent}
use Rattle.range_log.specs.Updates.{extents}
use Rattle.page_store.specs.Stored.{Cut, bytes_of_pages}
use Rattle.tree_weaver.proofs.Plans.{own_touch_in}
use Rattle.tree_weaver.specs.Laws.{StoredRowsAreRows}

-- the stored row is that of the update
pub row_is : EachTouchIs → SizesAre → StoredRowsAreRows
row_is each sizes t row us is version offset touch pages st nodes bytes folds = record {
  version = version;
  offset = offset ∙ ap (λ (x : Extent). x.at) (sym st.own);
  touch = touch ∙ sym (own_touch_in each sizes t is (extents us) st);
  nodes = nodes;
  bytes = ap (λ (c : Cut). bytes_of_pages c.pages) pages ∙ bytes;
  page_size = ap (λ (c : Cut). c.page_size) pages ∙ is.page_size;
  folds = folds;
}

-- ---- the planned nodes without their ranges, and beside them again
pub zip_back : (pairs : List (Range × Node)) → zip (ranges_of pairs) (nodes_of pairs) ≡ pairs
zip_back [] = refl
zip_back (x ∷ xs) = ap (λ l. x ∷ l) (zip_back xs)

pub nodes_beside : (t : NumberedUpdate) (pairs : List (Range × Node)) (nodes : List Node) (ranges : List Range) → ranges_of pairs ≡ own_ranges t → nodes ≡ nodes_of pairs → ranges ≡ own_ranges t
    → zip ranges nodes ≡ pairs
nodes_beside t pairs nodes ranges planned are own = ap (λ l. zip l nodes) (own ∙ sym planned) ∙ ap (zip (ranges_of pairs)) are ∙ zip_back pairs
