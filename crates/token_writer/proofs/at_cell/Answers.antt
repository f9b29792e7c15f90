-- `token_writer::at_cell` meets its contract. Assumes nothing.
use native.Mathlib.Omega.{arith}
use Rattle.token_writer.proofs.Shapes.{cell_is}
use Rattle.token_writer.proofs.at_cell.Goals as goal

pub overflow_add-result : goal.overflow_add-result
overflow_add-result c = record { fits = omega arith }

pub bounds-table-node : goal.bounds-table-node
bounds-table-node c = omega arith

pub returns : goal.returns
returns c = cell_is _ _ _ c.requires.0
