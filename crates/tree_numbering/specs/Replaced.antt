-- Document 02, Paper 6: a tree with what stands at a named node replaced by another tree, and that numbered into a lent table.
use Rattle.std.specs.Prelude.{Bool, ◌||◌, List, ℕ, eqb, ltb, length, Option, None, Some}
use Rattle.laws.specs.Choice.{pick}
use Rattle.laws.specs.Lists.{over}
use Rattle.tree.specs.Sizes.{most_nodes}
use Rattle.tree.specs.Table.{first_column, second_column}
use Rattle.tree.specs.Trees.{Tree, none, node, operand_at, tree_at}
use Rattle.tree_numbering.specs.Numbered.{size, numbered}
use Rattle.tree_numbering.specs.Renumbering.{too_short}

-- the tree t at number i, with what stands at number j replaced by s: down by the operands' numbers
unfoldable pub replaced : List ℕ → ℕ → ℕ → Tree → ℕ → Tree → Tree
replaced cells count j s i none = none
replaced cells count j s i (node l a b) =
    pick
    (eqb i j)
    s
    (node
    l
    (replaced cells count j s (operand_at cells count i first_column) a)
    (replaced cells count j s (operand_at cells count i second_column) b))

-- "the operand at a named node is replaced by another accepted tree's root and all under it": the tree at node i so replaced
abbrev pub replaced_at : List ℕ → ℕ → ℕ → Tree → ℕ → Tree
replaced_at cells count j s i = replaced cells count j s i (tree_at cells count i)

-- what is not numbered: where the other table has no nodes, "more than 4,096 nodes", and 12 of a lent table of so many cells
unfoldable pub not_numbered : ℕ → Tree → ℕ → Bool
not_numbered nodes t cells = eqb nodes 0 || (ltb most_nodes (size t) || too_short t cells)

-- how many nodes there are, where it is numbered
unfoldable pub replaced_nodes : ℕ → Tree → ℕ → Option ℕ
replaced_nodes nodes t cells = pick (not_numbered nodes t cells) None (Some (size t))

-- the lent table afterwards: "numbered as in Paper 2" over its start, or as it was
unfoldable pub replaced_after : ℕ → Tree → List ℕ → List ℕ
replaced_after nodes t out = pick (not_numbered nodes t (length out)) out (over (numbered t) out)
