-- `tree_numbering::accepted::copy` meets its contract. The loop's invariant: the nodes up to the one that it has come to are stored, and their operands have their numbers. Assumes nothing.
use mathlib.Core.Path.{◌≡◌, refl, sym, ap, ◌∙◌}
use Prim.Native.Nat.{suc, ◌-◌, ◌≤◌}
use native.Mathlib.Omega.{arith}
use borrow.Author.Rules.{rules}
use lib.ListN.{length}
use lib.Seq.{length-sets}
use Rattle.tree.specs.Table.{cell_at}
use Rattle.tree_numbering.proofs.Spans.{first_read, second_read, cells_read, first_span, span_most}
use Rattle.tree_numbering.proofs.InOrder.{Copying, copy_none, copy_more, copy_stopped, copy_whole}
use Rattle.tree_numbering.proofs.accepted.copy.Given as goal

abbrev pub invariant-loop-done : goal.invariant-loop-done
invariant-loop-done l = (length l.out ≡ length l.initial.out) × Copying l.table.count l.table.cells.now l.done l.initial.out l.out
