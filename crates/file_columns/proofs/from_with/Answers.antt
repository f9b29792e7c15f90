-- `file_columns::from_with` meets its contract. Assumes nothing.
use Rattle.std.proofs.Common.{◌∙◌}
use Rattle.file_loader.proofs.Replied.{passed_up}
use Rattle.file_columns.proofs.Replies.{restored_table, from_refused, from_stored}
use Rattle.file_columns.proofs.from_with.Goals as goal

pub store_nodes-requires : goal.store_nodes-requires
store_nodes-requires c = restored_table c.args.columns.now c.args.held.now c.args.cells.now _ _ c.restore_file.ensures.arrays _ _ c.in_ok-loaded.ensures.value

pub returns-in_err-loaded-clause-value : goal.returns-in_err-loaded-clause-value
returns-in_err-loaded-clause-value c = passed_up _ _ c.from_residual.ensures.0 c.from_residual.ensures.1 ∙ (from_refused c.args.columns.now c.args.held.now c.args.cells.now _ _ c.restore_file.ensures.arrays c.requires.0 c.args.file.now _ c.in_err-loaded.ensures.value).0

pub returns-in_err-loaded-clause-file_after : goal.returns-in_err-loaded-clause-file_after
returns-in_err-loaded-clause-file_after c = (from_refused c.args.columns.now c.args.held.now c.args.cells.now _ _ c.restore_file.ensures.arrays c.requires.0 c.args.file.now _ c.in_err-loaded.ensures.value).1

pub returns-clause-value : goal.returns-clause-value
returns-clause-value c = (from_stored c.args.columns.now c.args.held.now c.args.cells.now _ _ c.restore_file.ensures.arrays c.requires.0 c.args.file.now _ _ c.in_ok-loaded.ensures.value _ _ c.store_nodes.ensures.value c.store_nodes.ensures.file_after).0

pub returns-clause-file_after : goal.returns-clause-file_after
returns-clause-file_after c = (from_stored c.args.columns.now c.args.held.now c.args.cells.now _ _ c.restore_file.ensures.arrays c.requires.0 c.args.file.now _ _ c.in_ok-loaded.ensures.value _ _ c.store_nodes.ensures.value c.store_nodes.ensures.file_after).1
