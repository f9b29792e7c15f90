-- `file_columns::load_in` meets its contract. Assumes nothing.
use Rattle.std.proofs.Common.{arith, ◌∙◌}
use Rattle.file_loader.proofs.Replied.{passed_up}
use Rattle.file_columns.proofs.Replies.{restored_inside, load_refused, load_stored}
use Rattle.file_columns.proofs.load_in.Goals as goal

pub copy-requires-clause-own : goal.copy-requires-clause-own
copy-requires-clause-own c = omega (arith, c.from.ensures, (restored_inside c.args.columns.now c.args.held.now c.args.cells.now _ _ c.restore_file.ensures.arrays _ _ c.in_ok-loaded.ensures.value).1, c.restore_file.ensures.arrays.too, c.requires.0)

pub copy-requires-clause-lent : goal.copy-requires-clause-lent
copy-requires-clause-lent c = omega (arith, c.from.ensures, (restored_inside c.args.columns.now c.args.held.now c.args.cells.now _ _ c.restore_file.ensures.arrays _ _ c.in_ok-loaded.ensures.value).1, c.requires.1)

pub returns-in_err-loaded-clause-value : goal.returns-in_err-loaded-clause-value
returns-in_err-loaded-clause-value c = passed_up _ _ c.from_residual.ensures.0 c.from_residual.ensures.1 ∙ (load_refused c.args.columns.now c.args.held.now c.args.cells.now _ _ c.restore_file.ensures.arrays c.args.table.now c.requires.2 _ c.in_err-loaded.ensures.value).0

pub returns-in_err-loaded-clause-table_after : goal.returns-in_err-loaded-clause-table_after
returns-in_err-loaded-clause-table_after c = (load_refused c.args.columns.now c.args.held.now c.args.cells.now _ _ c.restore_file.ensures.arrays c.args.table.now c.requires.2 _ c.in_err-loaded.ensures.value).1

pub returns-clause-value : goal.returns-clause-value
returns-clause-value c = (load_stored c.args.columns.now c.args.held.now c.args.cells.now _ _ c.restore_file.ensures.arrays c.args.table.now c.requires.2 _ _ c.in_ok-loaded.ensures.value _ (rw c.from.ensures at c.copy.ensures)).0

pub returns-clause-table_after : goal.returns-clause-table_after
returns-clause-table_after c = (load_stored c.args.columns.now c.args.held.now c.args.cells.now _ _ c.restore_file.ensures.arrays c.args.table.now c.requires.2 _ _ c.in_ok-loaded.ensures.value _ (rw c.from.ensures at c.copy.ensures)).1
