-- `row_open::has_wrong_node` meets its contract. Assumes nothing.
use mathlib.Core.Path.{◌≡◌}
use Prim.Native.Nat.{◌≤◌}
use Rattle.row_open.specs.Open.{entries_in, refusal21}
use Rattle.row_open.proofs.has_wrong_node.Given as goal

abbrev pub invariant-loop-left : goal.invariant-loop-left
invariant-loop-left l = refusal21 l.table.cells.now l.table.count (entries_in l.left l.entries) ≡ refusal21 l.table.cells.now l.table.count (entries_in l.entered l.entries)
