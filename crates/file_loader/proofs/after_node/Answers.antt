-- `file_loader::after_node` meets its contract. Assumes nothing.
use Rattle.std.proofs.Common.{arith}
use Rattle.tree.specs.Sizes.{node_cells}
use Rattle.file_loader.proofs.Several.{read_none, read_next, read_stop}
use Rattle.file_loader.proofs.after_node.Goals as goal

pub returns-in_err-attributes : goal.returns-in_err-attributes
returns-in_err-attributes c = rw c.from_residual.ensures (read_stop 0 node_cells _ _ _ (omega arith) (read_none _ _) c.in_err-attributes.ensures)

pub returns-in_err-detail : goal.returns-in_err-detail
returns-in_err-detail c = rw c.from_residual-in_err-detail.ensures (read_stop 1 node_cells _ _ _ (omega arith) (read_next 0 _ _ _ _ _ (read_none _ _) c.in_ok-attributes.ensures) c.in_err-detail.ensures)

pub returns-in_err-first : goal.returns-in_err-first
returns-in_err-first c = rw c.from_residual-in_err-first.ensures (read_stop 2 node_cells _ _ _ (omega arith) (read_next 1 _ _ _ _ _ (read_next 0 _ _ _ _ _ (read_none _ _) c.in_ok-attributes.ensures) c.in_ok-detail.ensures) c.in_err-first.ensures)

pub returns-in_err-second : goal.returns-in_err-second
returns-in_err-second c = rw c.from_residual-in_err-second.ensures (read_stop 3 node_cells _ _ _ (omega arith) (read_next 2 _ _ _ _ _ (read_next 1 _ _ _ _ _ (read_next 0 _ _ _ _ _ (read_none _ _) c.in_ok-attributes.ensures) c.in_ok-detail.ensures) c.in_ok-first.ensures) c.in_err-second.ensures)

pub returns-in_err-symbol : goal.returns-in_err-symbol
returns-in_err-symbol c = rw c.from_residual-in_err-symbol.ensures (read_stop 4 node_cells _ _ _ (omega arith) (read_next 3 _ _ _ _ _ (read_next 2 _ _ _ _ _ (read_next 1 _ _ _ _ _ (read_next 0 _ _ _ _ _ (read_none _ _) c.in_ok-attributes.ensures) c.in_ok-detail.ensures) c.in_ok-first.ensures) c.in_ok-second.ensures) c.in_err-symbol.ensures)

pub returns-in_err-end : goal.returns-in_err-end
returns-in_err-end c = rw c.from_residual-in_err-end.ensures (read_stop 5 node_cells _ _ _ (omega arith) (read_next 4 _ _ _ _ _ (read_next 3 _ _ _ _ _ (read_next 2 _ _ _ _ _ (read_next 1 _ _ _ _ _ (read_next 0 _ _ _ _ _ (read_none _ _) c.in_ok-attributes.ensures) c.in_ok-detail.ensures) c.in_ok-first.ensures) c.in_ok-second.ensures) c.in_ok-symbol.ensures) c.in_err-end.ensures)

pub returns : goal.returns
returns c = (read_next 5 _ _ _ _ _ (read_next 4 _ _ _ _ _ (read_next 3 _ _ _ _ _ (read_next 2 _ _ _ _ _ (read_next 1 _ _ _ _ _ (read_next 0 _ _ _ _ _ (read_none _ _) c.in_ok-attributes.ensures) c.in_ok-detail.ensures) c.in_ok-first.ensures) c.in_ok-second.ensures) c.in_ok-symbol.ensures) c.in_ok-end.ensures).0
