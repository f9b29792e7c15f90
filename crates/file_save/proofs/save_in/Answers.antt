-- `file_save::save_in` meets its contract. Assumes nothing.
use Rattle.std.proofs.Common.{sym, ◌∙◌}
use Rattle.file_loader.proofs.Replied.{said_ok, passed_up}
use Rattle.file_save.proofs.Replies.{number_refused, number_room, number_length, number_saved}
use Rattle.file_save.proofs.save_in.Goals as goal

pub slice_bounds-store-end : goal.slice_bounds-store-end
slice_bounds-store-end c = rw c.from-cells.ensures (number_room _ _ _ c.args.own.now c.requires (sym (said_ok _ _ _ c.in_ok-number.ensures.reply).0) _ c.number.ensures.out)

pub slice_bounds-store-end-2 : goal.slice_bounds-store-end-2
slice_bounds-store-end-2 c = rw c.from-cells.ensures (number_length _ _ _ c.args.own.now c.requires (sym (said_ok _ _ _ c.in_ok-number.ensures.reply).0) _ c.number.ensures.out)

pub returns-in_err-number-clause-value : goal.returns-in_err-number-clause-value
returns-in_err-number-clause-value c =
    passed_up _ _ c.from_residual.ensures.0 c.from_residual.ensures.1
    ∙ (number_refused _ _ _ c.args.own.now c.requires c.args.file.now tt _ c.in_err-number.ensures.reply).0

pub returns-in_err-number-clause-file_after : goal.returns-in_err-number-clause-file_after
returns-in_err-number-clause-file_after c = (number_refused _ _ _ c.args.own.now c.requires c.args.file.now tt _ c.in_err-number.ensures.reply).1

pub returns-clause-value : goal.returns-clause-value
returns-clause-value c =
    (number_saved _ _ _ c.args.own.now c.requires (sym (said_ok _ _ _ c.in_ok-number.ensures.reply).0) _ c.number.ensures.out c.args.file.now _ _
    (rw c.from-cells.ensures at c.store.ensures.reply, rw c.from-cells.ensures at c.store.ensures.file)).0

pub returns-clause-file_after : goal.returns-clause-file_after
returns-clause-file_after c =
    (number_saved _ _ _ c.args.own.now c.requires (sym (said_ok _ _ _ c.in_ok-number.ensures.reply).0) _ c.number.ensures.out c.args.file.now _ _
    (rw c.from-cells.ensures at c.store.ensures.reply, rw c.from-cells.ensures at c.store.ensures.file)).1
