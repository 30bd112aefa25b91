use Rattle.tree_geom.proofs.Spans.{page_pos, size_pos, half_size, page_aligned, left_aligned, right_aligned, ranges_nest}
use Rattle.tree_geom.proofs.laws.ranges_align.Goals as goal

pub returns-clause-page : goal.returns-clause-page
returns-clause-page c = page_pos

pub returns-clause-bytes : goal.returns-clause-bytes
returns-clause-bytes c = size_pos

pub returns-clause-halve : goal.returns-clause-halve
returns-clause-halve c = half_size

pub returns-clause-pages : goal.returns-clause-pages
returns-clause-pages c = page_aligned

pub returns-clause-low : goal.returns-clause-low
returns-clause-low c = left_aligned

pub returns-clause-high : goal.returns-clause-high
returns-clause-high c = right_aligned

pub returns-clause-nest : goal.returns-clause-nest
returns-clause-nest c = ranges_nest
