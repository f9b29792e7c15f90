-- `row_open::join_all` meets its contract. Assumes nothing.
use mathlib.Core.Path.{◌≡◌}
use Prim.Native.Nat.{◌-◌, ◌≤◌}
use lib.ListN.{length}
use Rattle.row_open.specs.Open.{outer_in}
use Rattle.row_open.specs.Steps.{joined_to}
use Rattle.row_open.proofs.join_all.Given as goal

abbrev pub invariant-loop-done : goal.invariant-loop-done
invariant-loop-done l = (length l.answers ≡ length l.initial.answers) × (l.answers ≡ joined_to l.done (outer_in l.rows) l.initial.answers)
