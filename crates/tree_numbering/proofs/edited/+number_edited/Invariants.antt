-- `tree_numbering::edited::number_edited` meets its contract: with each call there are fewer numbers above the node, and none are counted where an operand is absent. Assumes nothing.
use mathlib.Core.Path.{ap}
use native.Mathlib.Omega.{arith}
use borrow.Author.Rules.{rules}
use Rattle.laws.proofs.Calls.{free, given_at, given_below}
use Rattle.tree.specs.Trees.{tree_at}
use Rattle.tree.proofs.Unfold.{left, left_falls}
use Rattle.tree_numbering.specs.Numbered.{size}
use Rattle.tree_numbering.proofs.Nodes.{written_none, written_by}
use Rattle.tree_numbering.specs.Replaced.{replaced_at}
use Rattle.tree_numbering.proofs.Replaced.{after_zero, after_past, after_here, after_node, after_stand, size_node, there_numbered}
use Prim.Native.Nat.{ℕ}
use Rattle.tree_numbering.proofs.edited.+number_edited.Given as goal

abbrev pub decreases-number_edited : goal.decreases-number_edited
decreases-number_edited l = left l.node
