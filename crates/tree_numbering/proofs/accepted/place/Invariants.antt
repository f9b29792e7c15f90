-- `tree_numbering::accepted::place` meets its contract. The loop's invariant: the operands of the nodes up to the one that it has come to have their numbers, and the cells of those nodes are stored. Assumes nothing.
use mathlib.Core.Path.{◌≡◌, refl, ◌∙◌}
use Prim.Native.Nat.{suc, ◌+◌, ◌*◌, ◌-◌, ◌≤◌}
use native.Mathlib.Omega.{arith}
use borrow.Author.Rules.{rules}
use lib.ListN.{length, get_or, length-set}
use Rattle.tree.specs.Sizes.{node_cells, most_nodes}
use Rattle.tree.specs.Table.{cell_at, first_column, second_column}
use Rattle.tree_rules.proofs.Accepted.{count_bounds}
use Rattle.tree_numbering.proofs.Spans.{first_read, second_read, cells_read, first_span, span_most}
use Rattle.tree_numbering.proofs.Placing.{Placed, Filled, placed_none, filled_none, number_range, next_node, all_filled}
use Rattle.tree_numbering.proofs.accepted.place.Given as goal

abbrev pub invariant-loop-done : goal.invariant-loop-done
invariant-loop-done l = (length l.numbers ≡ length l.initial.numbers) × Placed l.table.count l.table.cells.now l.done l.numbers × Filled l.table.count l.table.cells.now l.done l.numbers l.initial.out l.out
