-- `token_writer::write_tree` meets its contract. Assumes nothing.
use lib.ListN.{length}
use Rattle.token_writer.specs.Tasks.{waiting_work}
use Rattle.token_writer.proofs.Loops.{State}
use Rattle.token_writer.proofs.write_tree.Given as goal

abbrev pub invariant-loop-depth : goal.invariant-loop-depth
invariant-loop-depth l = State l.table.cells.now l.table.count l.here l.initial.tokens (length l.initial.stack) l.stack l.tokens l.at l.pairs l.depth

abbrev pub decreases-loop-depth : goal.decreases-loop-depth
decreases-loop-depth l = waiting_work l.table.cells.now l.table.count l.stack l.depth
