-- A tree as a node table, numbered from the root on: "parents before operands, and all nodes of the first operand before those of the second".
use Rattle.std.specs.Prelude.{Bool, ◌||◌, List, [], ◌∷◌, ◌++◌, ℕ, suc, ◌+◌, ltb}
use Rattle.tree.specs.Sizes.{most_nodes, most_levels}
use Rattle.tree.specs.Trees.{Label, Tree, none, node, levels}

-- how many nodes a tree has, links included
unfoldable pub size : Tree → ℕ
size none = 0
size (node l a b) = suc (size a + size b)

-- "Operand 0 is absent."
unfoldable pub number_of : Tree → ℕ → ℕ
number_of none i = 0
number_of (node l a b) i = i

-- the six numbers of each node, where the root has number i
unfoldable pub cells_from : ℕ → Tree → List ℕ
cells_from i none = []
cells_from i (node l a b) =
    l.form ∷ l.attributes ∷ l.detail ∷ number_of a (suc i) ∷ number_of b (suc i + size a) ∷ l.symbol
    ∷ cells_from (suc i) a ++ cells_from (suc i + size a) b

unfoldable pub numbered : Tree → List ℕ
numbered t = cells_from 1 t

-- 16. "The reading needs more than 4,096 nodes, links included, or a path of more than 128, counted as in 11."
unfoldable pub too_large : Tree → Bool
too_large t = ltb most_nodes (size t) || ltb most_levels (levels t)
