-- The operations of frames to a node, while their bytes come.
use Rattle.std.specs.Prelude.{ℕ, ◌==◌, Bool, true}
use Rattle.page_node.specs.declared.asking.NodeOperation.{NodeOperation}
use Rattle.page_node.specs.declared.asking.NodeOperation.TheVariants as Operations

abbrev pub number_of : NodeOperation → ℕ
number_of Operations.Put = 32
number_of Operations.Get = 33
number_of Operations.Quit = 13

-- whether so many bytes behind the operation are whole fields, and nothing is left over
abbrev pub fits : NodeOperation → ℕ → Bool
fits Operations.Put count = true
fits Operations.Get count = count == 24
fits Operations.Quit count = count == 0
