-- `sheet_edit::edit` meets its contract. Assumes nothing.
use mathlib.Core.Path.{sym, ◌∙◌}
use native.Mathlib.Omega.{arith}
use lib.ListN.{length}
use Rattle.laws.proofs.Calls.{free}
use Rattle.tree_rules.proofs.Accepted.{count_bounds}
use Rattle.row_walk.proofs.Replies.{replied_ok, passed_up}
use Rattle.tree_numbering.specs.Numbered.{size}
use Rattle.sheet_edit.specs.Edits.{edit_of, result}
use Rattle.sheet_edit.proofs.Replies.{refused, allowed, done}
use borrow.Author.Rules.{rules}
use Rattle.sheet_edit.proofs.edit.Goals as goal

pub replace-done-requires : goal.replace-done-requires
replace-done-requires c =
    let w = allowed (edit_of c.args.context c.args.count c.args.table.now c.args.node c.args.second_context c.args.second_count c.args.second.now) (length c.args.table.now) (length c.args.rows.now) (replied_ok _ tt tt c.in_ok-first_refusal.ensures) in
    let f = w.few in
    let there = count_bounds _ _ _ w.other in
    (w.most, (count_bounds _ _ _ w.sheet).1, there.1, record { there = there.0; few = f; own_room = omega arith; table_room = w.table_room })

pub returns-in_err-first_refusal : goal.returns-in_err-first_refusal
returns-in_err-first_refusal c =
    let whole = refused (edit_of c.args.context c.args.count c.args.table.now c.args.node c.args.second_context c.args.second_count c.args.second.now) (length c.args.table.now) (length c.args.rows.now) c.args.order c.args.table.now c.args.rows.now (tt {0}) (size (result (edit_of c.args.context c.args.count c.args.table.now c.args.node c.args.second_context c.args.second_count c.args.second.now))) _ c.in_err-first_refusal.ensures in
    record { reply = passed_up _ _ c.from_residual.ensures.0 c.from_residual.ensures.1 ∙ whole.0; table = whole.1; rows = whole.2 }

pub returns : goal.returns
returns c =
    let whole = done (edit_of c.args.context c.args.count c.args.table.now c.args.node c.args.second_context c.args.second_count c.args.second.now) (length c.args.table.now) (length c.args.rows.now) c.args.order c.args.table.now c.args.rows.now (replied_ok _ tt tt c.in_ok-first_refusal.ensures) (omega arith) _ _ _ c.replace-done.ensures c.walk.ensures in
    record { reply = whole.0; table = whole.1; rows = whole.2 }
