-- `sheet_edit::levels_edited` meets its contract: with each call there are fewer numbers above the node, and none are counted where an operand is absent. Assumes nothing.
use mathlib.Core.Path.{ap, sym, ◌∙◌}
use native.Mathlib.Omega.{arith}
use Rattle.laws.proofs.Calls.{free, given_at, given_below}
use Rattle.tree.specs.Trees.{tree_at, levels}
use Rattle.tree.proofs.Unfold.{left, left_falls}
use Rattle.tree_numbering.proofs.Replaced.{after_zero, after_past, after_here}
use Rattle.sheet_edit.proofs.Results.{none_levels, levels_bound, levels_by}
use Prim.Native.Nat.{ℕ}
use Rattle.sheet_edit.proofs.+levels_edited.Given as goal

abbrev pub decreases-levels_edited : goal.decreases-levels_edited
decreases-levels_edited l = left l.node
