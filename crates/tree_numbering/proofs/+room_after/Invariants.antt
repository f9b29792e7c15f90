-- `tree_numbering::room_after` meets its contract: with each call there are fewer numbers above the node, and none are counted where an operand is absent. Assumes nothing.
use native.Mathlib.Omega.{arith}
use Rattle.laws.proofs.Calls.{free, given_at, given_below}
use Rattle.tree.proofs.Unfold.{left, left_falls, tree_zero, tree_past}
use Rattle.tree_numbering.proofs.Sizes.{size_none, size_node}
use Prim.Native.Nat.{ℕ}
use Rattle.tree_numbering.proofs.+room_after.Given as goal

abbrev pub decreases-room_after : goal.decreases-room_after
decreases-room_after l = left l.node
