use Rattle.std.proofs.Common.{is_some, arith}
use Rattle.std.proofs.lemmas.List.{length-map}
use Rattle.publisher.specs.Windows.{finished_of}
use Rattle.blob_model.proofs.Marks.{prefix_within}
use Rattle.version_manager.proofs.looks.held_by.Goals as goal

pub overflow_add-result : goal.overflow_add-result
overflow_add-result c = let w = c.args.window.now.numbered in omega (arith, prefix_within (finished_of w), length-map w.rows is_some)
