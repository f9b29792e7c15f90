-- Nodes by the path from the root, for statements that do not depend on how a tree's nodes are numbered.
use Rattle.std.specs.Prelude.{List, [], ◌∷◌, ℕ, ◌+◌, ◌*◌, ◌-◌, get_or}
use Rattle.tree.specs.Sizes.{row_cells}
use Rattle.tree.specs.Table.{first_column, second_column}
use Rattle.tree.specs.Trees.{Tree, none, node, operand_at}
use Rattle.expr.specs.declared.Handed.{Handed}
use Rattle.expr.specs.declared.order.CalleeOrder.{CalleeOrder}
use Rattle.expr.specs.Expr.{hands_first, hands_second}
use Rattle.row.specs.declared.Row.{Row}
use Rattle.row.specs.Rows.{own_context}

-- from an owner to its first or its second operand
pub data Branch : Type 0 where
  first : Branch
  second : Branch

-- the number of the node at a path below node i, 0 where there is none
abbrev pub number_at : List ℕ → ℕ → ℕ → List Branch → ℕ
number_at cells count i [] = i
number_at cells count i (first ∷ p) = number_at cells count (operand_at cells count i first_column) p
number_at cells count i (second ∷ p) = number_at cells count (operand_at cells count i second_column) p

-- the tree at a path
abbrev pub tree_by : Tree → List Branch → Tree
tree_by t [] = t
tree_by none (s ∷ p) = none
tree_by (node l a b) (first ∷ p) = tree_by a p
tree_by (node l a b) (second ∷ p) = tree_by b p

-- what the node at a path gets, where the root gets h
abbrev pub handed_by : CalleeOrder → Handed → Tree → List Branch → Handed
handed_by order h t [] = h
handed_by order h none (s ∷ p) = h
handed_by order h (node l a b) (first ∷ p) = handed_by order (hands_first order (own_context h (node l a b)) (node l a b)) a p
handed_by order h (node l a b) (second ∷ p) = handed_by order (hands_second (own_context h (node l a b)) (node l a b)) b p

-- the row in the five cells of node j
abbrev pub row_in : List ℕ → ℕ → Row
row_in rows j =
    let at = row_cells * (j - 1) in
    record {
      pair = get_or rows at 0;
      precedence = get_or rows (at + 1) 0;
      previous = get_or rows (at + 2) 0;
      next = get_or rows (at + 3) 0;
      flags = get_or rows (at + 4) 0;
    }
