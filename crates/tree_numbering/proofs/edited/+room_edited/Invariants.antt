-- `tree_numbering::edited::room_edited` meets its contract: with each call there are fewer numbers above the node, and none are counted where an operand is absent. Assumes nothing.
use mathlib.Core.Path.{ap}
use native.Mathlib.Omega.{arith}
use Rattle.laws.proofs.Calls.{free, given_at, given_below}
use Rattle.tree.specs.Trees.{tree_at}
use Rattle.tree.proofs.Unfold.{left, left_falls}
use Rattle.tree_numbering.specs.Numbered.{size}
use Rattle.tree_numbering.proofs.Replaced.{after_zero, after_past, after_here, size_none, size_node}
use Prim.Native.Nat.{ℕ}
use Rattle.tree_numbering.proofs.edited.+room_edited.Given as goal

abbrev pub decreases-room_edited : goal.decreases-room_edited
decreases-room_edited l = left l.node
