-- `file_columns::restore_file` meets its contract. Assumes nothing.
use Rattle.std.proofs.Common.{arith, sym, ◌∙◌}
use lib.Seq.{length-take-le}
use Rattle.file_loader.proofs.Replied.{said_ok, passed_up}
use Rattle.file_columns.proofs.Files.{count_fine, held_room, held_enough, last_room, answer_numbers, answer_outside, answer_nodes, answer_accepted}
use Rattle.file_columns.proofs.restore_file.Goals as goal

pub returns-in_err-loaded-clause-value : goal.returns-in_err-loaded-clause-value
returns-in_err-loaded-clause-value c =
    passed_up _ _ c.from_residual.ensures.0 c.from_residual.ensures.1 ∙ (answer_numbers c.args.columns.now c.args.held.now c.args.cells.now _ _ c.in_err-loaded.ensures.reply c.load_numbers.ensures.table).0

pub returns-in_err-loaded-clause-arrays : goal.returns-in_err-loaded-clause-arrays
returns-in_err-loaded-clause-arrays c = (answer_numbers c.args.columns.now c.args.held.now c.args.cells.now _ _ c.in_err-loaded.ensures.reply c.load_numbers.ensures.table).1

pub slice_bounds-restore-end : goal.slice_bounds-restore-end
slice_bounds-restore-end c =
    let a = count_fine c.args.columns.now c.args.held.now _ _ _ c.in_ok-loaded.ensures.reply c.load_numbers.ensures.table in
    let b = held_room c.args.columns.now c.args.held.now _ _ _ c.in_ok-loaded.ensures.reply c.load_numbers.ensures.table in
    omega (arith, a.3, b, c.from-numbers.ensures)

pub slice_bounds-restore-end-2 : goal.slice_bounds-restore-end-2
slice_bounds-restore-end-2 c =
    let a = count_fine c.args.columns.now c.args.held.now _ _ _ c.in_ok-loaded.ensures.reply c.load_numbers.ensures.table in
    let b = held_room c.args.columns.now c.args.held.now _ _ _ c.in_ok-loaded.ensures.reply c.load_numbers.ensures.table in
    sym (length-take-le _ _ (omega (arith, a.3, b, c.from-numbers.ensures)))

pub restore-requires : goal.restore-requires
restore-requires c =
    let a = count_fine c.args.columns.now c.args.held.now _ _ _ c.in_ok-loaded.ensures.reply c.load_numbers.ensures.table in
    rw c.from-numbers.ensures (a.2, held_enough c.args.columns.now c.args.held.now _ _ _ c.in_ok-loaded.ensures.reply c.load_numbers.ensures.table, omega (arith, a.3, c.requires))

pub returns-in_err-restore-clause-value : goal.returns-in_err-restore-clause-value
returns-in_err-restore-clause-value c =
    passed_up _ _ c.from_residual-in_err-restore.ensures.0 c.from_residual-in_err-restore.ensures.1
    ∙ (answer_outside c.args.columns.now c.args.held.now c.args.cells.now _ _ _ _ c.in_ok-loaded.ensures.reply c.load_numbers.ensures.table _ (rw c.from-numbers.ensures at c.in_err-restore.ensures)).0

pub returns-in_err-restore-clause-arrays : goal.returns-in_err-restore-clause-arrays
returns-in_err-restore-clause-arrays c = (answer_outside c.args.columns.now c.args.held.now c.args.cells.now _ _ _ _ c.in_ok-loaded.ensures.reply c.load_numbers.ensures.table _ (rw c.from-numbers.ensures at c.in_err-restore.ensures)).1

pub slice_bounds-check-end : goal.slice_bounds-check-end
slice_bounds-check-end c =
    let a = count_fine c.args.columns.now c.args.held.now _ _ _ c.in_ok-loaded.ensures.reply c.load_numbers.ensures.table in
    let b = last_room c.args.columns.now c.args.held.now c.args.cells.now _ _ _ _ c.in_ok-loaded.ensures.reply c.load_numbers.ensures.table c.requires (rw c.from-numbers.ensures at c.in_ok-restore.ensures) in
    omega (arith, a.3, b, c.requires, c.from-numbers.ensures)

pub slice_bounds-check-end-2 : goal.slice_bounds-check-end-2
slice_bounds-check-end-2 c =
    let a = count_fine c.args.columns.now c.args.held.now _ _ _ c.in_ok-loaded.ensures.reply c.load_numbers.ensures.table in
    let b = last_room c.args.columns.now c.args.held.now c.args.cells.now _ _ _ _ c.in_ok-loaded.ensures.reply c.load_numbers.ensures.table c.requires (rw c.from-numbers.ensures at c.in_ok-restore.ensures) in
    sym (length-take-le _ _ (omega (arith, a.3, b, c.requires, c.from-numbers.ensures)))

pub returns-in_err-check-clause-value : goal.returns-in_err-check-clause-value
returns-in_err-check-clause-value c =
    passed_up _ _ c.from_residual-in_err-check.ensures.0 c.from_residual-in_err-check.ensures.1
    ∙ (answer_nodes c.args.columns.now c.args.held.now c.args.cells.now _ _ _ _ c.in_ok-loaded.ensures.reply c.load_numbers.ensures.table c.requires (rw c.from-numbers.ensures at c.in_ok-restore.ensures) tt _ (rw c.from-numbers.ensures at c.in_err-check.ensures)).0

pub returns-in_err-check-clause-arrays : goal.returns-in_err-check-clause-arrays
returns-in_err-check-clause-arrays c = (answer_nodes c.args.columns.now c.args.held.now c.args.cells.now _ _ _ _ c.in_ok-loaded.ensures.reply c.load_numbers.ensures.table c.requires (rw c.from-numbers.ensures at c.in_ok-restore.ensures) tt _ (rw c.from-numbers.ensures at c.in_err-check.ensures)).1

pub returns-clause-value : goal.returns-clause-value
returns-clause-value c = (answer_accepted c.args.columns.now c.args.held.now c.args.cells.now _ _ _ _ c.in_ok-loaded.ensures.reply c.load_numbers.ensures.table c.requires (rw c.from-numbers.ensures at c.in_ok-restore.ensures) (said_ok _ _ _ (rw c.from-numbers.ensures at c.in_ok-check.ensures)).0).0

pub returns-clause-arrays : goal.returns-clause-arrays
returns-clause-arrays c = (answer_accepted c.args.columns.now c.args.held.now c.args.cells.now _ _ _ _ c.in_ok-loaded.ensures.reply c.load_numbers.ensures.table c.requires (rw c.from-numbers.ensures at c.in_ok-restore.ensures) (said_ok _ _ _ (rw c.from-numbers.ensures at c.in_ok-check.ensures)).0).1
