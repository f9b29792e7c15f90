-- `tree_one_pass::all_taken` meets its contract. The loop's invariant: no mark up to the node that it has come to is above all their bits. Assumes nothing.
use mathlib.Core.Path.{◌≡◌}
use mathlib.Core.List.{List}
use Prim.Native.Nat.{ℕ, ◌+◌, ◌-◌, ◌≤◌, ◌<◌}
use native.Mathlib.Omega.{arith}
use native.Mathlib.Decide.{dec_le}
use borrow.Author.Tests.{eqb-true}
use borrow.Author.Rules.{rules}
use lib.Bits.{bit_or, or_add_and, and_le_l, and_le_r}
use lib.ListN.{get_or}
use Rattle.tree.specs.Sizes.{most_nodes}
use Rattle.tree_one_pass.proofs.all_taken.Given as goal

abbrev pub invariant-loop-done : goal.invariant-loop-done
invariant-loop-done l = (1 ≤ l.done) × (l.done ≤ most_nodes) × ((j : ℕ) → 2 ≤ j → j ≤ l.done → get_or l.marks j 0 ≤ l.left)

abbrev pub decreases-loop-done : goal.decreases-loop-done
decreases-loop-done l = l.count - l.done
