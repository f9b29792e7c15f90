-- `tree_numbering::accepted::measure` meets its contract. The loop's invariant: the array holds the sizes at the nodes above the one that it has come to. Assumes nothing.
use mathlib.Core.Path.{◌≡◌, refl, ◌∙◌}
use Prim.Native.Nat.{◌-◌, ◌≤◌}
use native.Mathlib.Omega.{arith}
use borrow.Author.Rules.{rules}
use lib.ListN.{length, length-set}
use Rattle.tree.specs.Table.{first_column, second_column}
use Rattle.tree_one_pass.proofs.Fine.{cell_other}
use Rattle.tree_numbering.specs.Passes.{Measured}
use Rattle.tree_numbering.proofs.Spans.{first_read, second_read, cells_read, measured_none, span_most, measured_more}
use Rattle.tree_numbering.proofs.accepted.measure.Given as goal

abbrev pub invariant-loop-done : goal.invariant-loop-done
invariant-loop-done l = (length l.spans ≡ length l.initial.spans) × Measured l.table.cells.now l.table.count l.done l.spans
