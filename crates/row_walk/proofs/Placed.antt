-- The rows of a tree in the cells of its nodes, a node at a time. Assumes nothing.
use mathlib.Core.Path.{◌≡◌, refl, ◌∙◌}
use mathlib.Core.List.{List}
use Prim.Native.Nat.{ℕ, ◌≤◌}
use lib.ListN.{length, length-set}
use Rattle.tree.specs.Table.{first_column, second_column}
use Rattle.tree.specs.Trees.{none, operand_at, tree_at}
use Rattle.tree.proofs.Unfold.{unfolds}
use Rattle.expr.specs.declared.Handed.{Handed}
use Rattle.expr.specs.declared.order.CalleeOrder.{CalleeOrder}
use Rattle.expr.specs.Expr.{hands_first, hands_second}
use Rattle.row.specs.declared.Row.{Row}
use Rattle.row.specs.Rows.{Rows, row_of, own_context, rows_of}
use Rattle.row.specs.Rows as rows
use Rattle.row_walk.specs.Walk.{row_stored, placed}

-- ---- lengths

pub length_stored : (i : ℕ) (r : Row) (cells : List ℕ) → length (row_stored i r cells) ≡ length cells
unfolding row_stored
length_stored i r cells = simp length-set

pub length_placed : (cells : List ℕ) (count i : ℕ) (t : Rows) (into : List ℕ) → length (placed cells count i t into) ≡ length into
unfolding placed
length_placed cells count i rows.absent into = refl
length_placed cells count i (rows.present r a b) into =
    length_placed cells count (operand_at cells count i second_column) b _
    ∙ length_placed cells count (operand_at cells count i first_column) a _
    ∙ length_stored i r into

-- ---- one node

module _ (order : CalleeOrder) (cells : List ℕ) (count i : ℕ) (h : Handed) (into : List ℕ) where
  pub placed_none : tree_at cells count i ≡ none → placed cells count i (rows_of order h (tree_at cells count i)) into ≡ into
  unfolding placed rows_of
  placed_none e = rw e

  pub placed_node : 1 ≤ i → i ≤ count → placed cells count i (rows_of order h (tree_at cells count i)) into
      ≡ placed cells count (operand_at cells count i second_column) (rows_of order (hands_second (own_context h (tree_at cells count i)) (tree_at cells count i)) (tree_at cells count (operand_at cells count i second_column)))
      (placed cells count (operand_at cells count i first_column) (rows_of order (hands_first order (own_context h (tree_at cells count i)) (tree_at cells count i)) (tree_at cells count (operand_at cells count i first_column)))
      (row_stored i (row_of h (tree_at cells count i)) into))
  unfolding placed rows_of
  placed_node low high = rw (unfolds cells count i low high)
