-- `tree_numbering::number_from` meets its contract: with each call there are fewer numbers above the node, and none are counted where an operand is absent. Assumes nothing.
use native.Mathlib.Omega.{arith}
use borrow.Author.Rules.{rules}
use Rattle.laws.proofs.Calls.{free, given_at, given_below}
use Rattle.tree.specs.Trees.{tree_at}
use Rattle.tree.proofs.Unfold.{left, left_falls, tree_zero, tree_past, unfolds}
use Rattle.tree_numbering.proofs.Sizes.{size_node}
use Rattle.tree_numbering.proofs.Nodes.{trees_stand, written_none, written_by}
use Prim.Native.Nat.{ℕ}
use Rattle.tree_numbering.proofs.+number_from.Given as goal

abbrev pub decreases-number_from : goal.decreases-number_from
decreases-number_from l = left l.node
