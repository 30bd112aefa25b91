-- Leaves that are told in few numbers.
use Rattle.std.specs.Prelude.{ℕ, ◌+◌, nat_eq, if◌then◌else◌}
use Rattle.tree_geom.specs.declared.node.Node.{Node}
use Rattle.tree_geom.specs.declared.node.Node.TheVariants.{Leaf}

-- the leaf whose first piece is that one, and whose second, if there are more bytes, begins the next stored page
abbrev pub plain_leaf : ℕ → ℕ → ℕ → ℕ → ℕ → ℕ → ℕ → Node
plain_leaf start page from len more depth back =
    Leaf start (if nat_eq more 0 then 1 else 2) (record { page = page; from = from; len = len })
    (record { page = if nat_eq more 0 then 0 else page + 1; from = 0; len = more }) depth back
