-- `file_loader::store_node` meets its contract. Assumes nothing.
use native.Mathlib.Omega.{arith}
use Rattle.tree.specs.Sizes.{node_cells}
use Rattle.file_loader.proofs.Several.{read_none, read_next}
use Rattle.file_loader.proofs.Storing.{still_formed, put_node}
use Rattle.file_loader.proofs.store_node.Goals as goal

pub known_at-form-requires : goal.known_at-form-requires
known_at-form-requires c = still_formed 0 node_cells c.args.file.now c.args.at _ (omega arith) c.requires.1 (read_none _ _)

pub known_at-attributes-requires : goal.known_at-attributes-requires
known_at-attributes-requires c = still_formed 1 node_cells c.args.file.now c.args.at _ (omega arith) c.requires.1 (read_next 0 _ _ _ _ _ (read_none _ _) c.known_at-form.ensures)

pub known_at-detail-requires : goal.known_at-detail-requires
known_at-detail-requires c = still_formed 2 node_cells c.args.file.now c.args.at _ (omega arith) c.requires.1 (read_next 1 _ _ _ _ _ (read_next 0 _ _ _ _ _ (read_none _ _) c.known_at-form.ensures) c.known_at-attributes.ensures)

pub known_at-first-requires : goal.known_at-first-requires
known_at-first-requires c = still_formed 3 node_cells c.args.file.now c.args.at _ (omega arith) c.requires.1 (read_next 2 _ _ _ _ _ (read_next 1 _ _ _ _ _ (read_next 0 _ _ _ _ _ (read_none _ _) c.known_at-form.ensures) c.known_at-attributes.ensures) c.known_at-detail.ensures)

pub known_at-second-requires : goal.known_at-second-requires
known_at-second-requires c = still_formed 4 node_cells c.args.file.now c.args.at _ (omega arith) c.requires.1 (read_next 3 _ _ _ _ _ (read_next 2 _ _ _ _ _ (read_next 1 _ _ _ _ _ (read_next 0 _ _ _ _ _ (read_none _ _) c.known_at-form.ensures) c.known_at-attributes.ensures) c.known_at-detail.ensures) c.known_at-first.ensures)

pub known_at-symbol-requires : goal.known_at-symbol-requires
known_at-symbol-requires c = still_formed 5 node_cells c.args.file.now c.args.at _ (omega arith) c.requires.1 (read_next 4 _ _ _ _ _ (read_next 3 _ _ _ _ _ (read_next 2 _ _ _ _ _ (read_next 1 _ _ _ _ _ (read_next 0 _ _ _ _ _ (read_none _ _) c.known_at-form.ensures) c.known_at-attributes.ensures) c.known_at-detail.ensures) c.known_at-first.ensures) c.known_at-second.ensures)

pub returns : goal.returns
returns c =
    record {
      read = (read_next 5 _ _ _ _ _ (read_next 4 _ _ _ _ _ (read_next 3 _ _ _ _ _ (read_next 2 _ _ _ _ _ (read_next 1 _ _ _ _ _ (read_next 0 _ _ _ _ _ (read_none _ _) c.known_at-form.ensures) c.known_at-attributes.ensures) c.known_at-detail.ensures) c.known_at-first.ensures) c.known_at-second.ensures) c.known_at-symbol.ensures).0;
      put = put_node c.args.file.now c.args.at c.args.table.now c.args.cell _ _ c.known_at-form.ensures _ _ c.known_at-attributes.ensures _ _ c.known_at-detail.ensures _ _ c.known_at-first.ensures _ _ c.known_at-second.ensures _ _ c.known_at-symbol.ensures;
    }
