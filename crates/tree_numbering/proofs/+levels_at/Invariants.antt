-- `tree_numbering::levels_at` meets its contract: with each call there are fewer numbers above the node, and none are counted where an operand is absent. Assumes nothing.
use mathlib.Core.Path.{◌≡◌, sym}
use native.Mathlib.Omega.{arith}
use Rattle.laws.proofs.Calls.{free, given_at, given_below}
use Rattle.tree.proofs.Unfold.{left, left_falls, tree_zero, tree_past, levels_most}
use Rattle.tree_rules.proofs.Depth.{none_levels, levels_node}
use mathlib.Core.List.{List}
use Prim.Native.Nat.{ℕ, ◌+◌, ◌≤◌, max}
use Rattle.tree.specs.Table.{form_at, first_column, second_column}
use Rattle.tree.specs.Trees.{operand_at, tree_at, own_level, levels}
use Rattle.tree_numbering.proofs.+levels_at.Given as goal

abbrev pub decreases-levels_at : goal.decreases-levels_at
decreases-levels_at l = left l.node
