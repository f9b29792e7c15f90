-- `row_walk::is_other` meets its contract. Assumes nothing.
use Rattle.row_walk.proofs.Decisions.{class_is}
use Rattle.row_walk.proofs.is_other.Goals as goal

pub returns : goal.returns
returns c = rw (← class_is c.args.table.now.cells.now c.args.table.now.count c.args.node, ← c.form_number.ensures, ← c.class_of.ensures)
