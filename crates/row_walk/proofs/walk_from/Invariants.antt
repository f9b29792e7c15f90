-- `row_walk::walk_from` meets its contract. The loop keeps what the rows will be once all that waits is done; what is left are the nodes that have no row yet. Assumes nothing.
use lib.ListN.{length}
use Rattle.tree.specs.Sizes.{most_levels}
use Rattle.row.specs.Hands.{handed_of}
use Rattle.row_walk.specs.Steps.{placed_within}
use Rattle.row_walk.proofs.Turns.{heeded, State, todo}
use Rattle.row_walk.proofs.walk_from.Given as goal

abbrev pub invariant-loop-lone : goal.invariant-loop-lone
invariant-loop-lone l = State l.order l.table.cells.now l.table.count (placed_within l.order l.table.cells.now l.table.count most_levels 1 (handed_of l.initial.hand) l.initial.rows) (length l.initial.rows) l.rows l.nodes l.contexts l.depth (heeded l.order l.table.cells.now l.table.count l.lone (handed_of l.hand) l.at) l.at

abbrev pub decreases-loop-lone : goal.decreases-loop-lone
decreases-loop-lone l = todo l.order l.table.cells.now l.table.count l.nodes l.depth l.at
