-- What waits on the walk's stack. Nothing here is to be believed.
use Rattle.std.specs.Prelude.{List, ℕ, zero, suc, ◌+◌, ◌-◌, max, get_or}
use Rattle.tree.specs.Sizes.{most_levels}
use Rattle.tree.specs.Table.{second_column}
use Rattle.tree.specs.Trees.{Tree, none, node, operand_at, tree_at}
use Rattle.expr.specs.declared.Handed.{Handed}
use Rattle.expr.specs.declared.order.CalleeOrder.{CalleeOrder}
use Rattle.expr.specs.Expr.{hands_second}
use Rattle.row_pack.specs.Packs.{unpacked_of}
use Rattle.row.specs.Rows.{rows_of}
use Rattle.row_walk.specs.Stack.{within}
use Rattle.row_walk.specs.Walk.{placed}

-- the rows of node i and of what is below it that n entries reach
abbrev pub placed_within : CalleeOrder → List ℕ → ℕ → ℕ → ℕ → Handed → List ℕ → List ℕ
placed_within order cells count n i h rows = placed cells count i (within n (rows_of order h (tree_at cells count i))) rows

-- the rows once all that waits is done: the second operands of the owners on the stack, from the top
unfoldable pub finish : CalleeOrder → List ℕ → ℕ → ℕ → List ℕ → List ℕ → List ℕ → List ℕ
finish order cells count zero nodes contexts rows = rows
finish order cells count (suc d) nodes contexts rows =
    let owner = get_or nodes d 0 in
    finish order cells count d nodes contexts
    (placed_within order cells count (most_levels - d) (operand_at cells count owner second_column) (hands_second (unpacked_of (get_or contexts d 0)) (tree_at cells count owner)) rows)

-- how many nodes a tree has, and how many wait
unfoldable pub nodes_in : Tree → ℕ
nodes_in none = 0
nodes_in (node l a b) = suc (nodes_in a + nodes_in b)

unfoldable pub to_do : List ℕ → ℕ → ℕ → List ℕ → ℕ
to_do cells count zero nodes = 0
to_do cells count (suc d) nodes = nodes_in (tree_at cells count (operand_at cells count (get_or nodes d 0) second_column)) + to_do cells count d nodes

-- entries that reach all of a tree: one for each step to a first operand on a path, and one at its end
unfoldable pub waiting : Tree → ℕ
waiting none = 0
waiting (node l a b) = max (suc (waiting a)) (waiting b)
