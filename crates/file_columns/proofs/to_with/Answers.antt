-- `file_columns::to_with` meets its contract. Assumes nothing.
use Rattle.std.proofs.Common.{arith, ◌∙◌}
use Rattle.file_loader.proofs.Replied.{passed_up}
use Rattle.file_columns.proofs.Replies.{to_refused, table_is_loaded, loaded_room, to_stored}
use Rattle.file_columns.proofs.to_with.Goals as goal

pub store_columns-requires : goal.store_columns-requires
store_columns-requires c =
    let r = loaded_room c.args.file.now c.args.cells.now c.requires.0 _ _ c.in_ok-loaded.ensures.reply _ c.load.ensures.table in
    (table_is_loaded c.args.file.now c.args.cells.now c.requires.0 _ _ c.in_ok-loaded.ensures.reply _ c.load.ensures.table, omega (arith, r, c.requires.1))

pub returns-in_err-loaded-clause-value : goal.returns-in_err-loaded-clause-value
returns-in_err-loaded-clause-value c = passed_up _ _ c.from_residual.ensures.0 c.from_residual.ensures.1 ∙ (to_refused c.args.file.now c.args.cells.now c.requires.0 _ c.in_err-loaded.ensures.reply c.args.columns.now).0

pub returns-in_err-loaded-clause-columns_after : goal.returns-in_err-loaded-clause-columns_after
returns-in_err-loaded-clause-columns_after c = (to_refused c.args.file.now c.args.cells.now c.requires.0 _ c.in_err-loaded.ensures.reply c.args.columns.now).1

pub returns-clause-value : goal.returns-clause-value
returns-clause-value c = (to_stored c.args.file.now c.args.cells.now c.requires.0 _ _ c.in_ok-loaded.ensures.reply _ c.load.ensures.table c.args.columns.now _ _ c.store_columns.ensures.value c.store_columns.ensures.columns_after).0

pub returns-clause-columns_after : goal.returns-clause-columns_after
returns-clause-columns_after c = (to_stored c.args.file.now c.args.cells.now c.requires.0 _ _ c.in_ok-loaded.ensures.reply _ c.load.ensures.table c.args.columns.now _ _ c.store_columns.ensures.value c.store_columns.ensures.columns_after).1
