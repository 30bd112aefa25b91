-- Spans and touches of worked sizes.
use Rattle.std.specs.Prelude.{◌≡◌, [], ◌∷◌, refl, true, false}
use Rattle.tree_geom.specs.Geometry.{span_of, height_of, doublings, touched_by}

heights : height_of 4 4 ∷ height_of 4 5 ∷ height_of 4 9 ∷ height_of 4 32 ∷ height_of 4096 1048576 ∷ [] ≡ 0 ∷ 1 ∷ 2 ∷ 3 ∷ 8 ∷ []
unfolding height_of doublings
heights = refl

spans : span_of 4 0 ∷ span_of 4 1 ∷ span_of 4 6 ∷ span_of 4 9 ∷ span_of 4096 1099511627776 ∷ [] ≡ 0 ∷ 4 ∷ 8 ∷ 16 ∷ 1099511627776 ∷ []
unfolding span_of height_of doublings
spans = refl

pages : (touched_by 4 1 31 32).first ∷ (touched_by 4 1 31 32).last ∷ (touched_by 4 1 31 32).size ∷ [] ≡ 0 ∷ 7 ∷ 32 ∷ []
pages = refl

-- 6 bytes, then 2 bytes at 3, in a blob whose pages have 4 bytes: the first update leaves nothing, the second both its pages
opened : (touched_by 4 0 6 6).open_first ∷ (touched_by 4 0 6 6).open_last ∷ (touched_by 4 3 2 6).open_first ∷ (touched_by 4 3 2 6).open_last ∷ (touched_by 4 6 2 8).open_last ∷ (touched_by 4 4 2 6).open_last ∷ []
    ≡ false ∷ false ∷ true ∷ true ∷ true ∷ false ∷ []
opened = refl
