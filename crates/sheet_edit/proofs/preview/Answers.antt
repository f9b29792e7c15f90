-- `sheet_edit::preview` meets its contract. Assumes nothing.
use mathlib.Core.Path.{sym, ap, ◌∙◌}
use Prim.Native.Nat.{min}
use native.Mathlib.Omega.{arith}
use lib.ListN.{length}
use Rattle.laws.proofs.Calls.{free}
use Rattle.tree_rules.proofs.Accepted.{count_bounds}
use Rattle.tree_numbering.proofs.Replaced.{all_numbered}
use Rattle.row_walk.proofs.Replies.{replied_ok, passed_up}
use Rattle.tree_numbering.specs.Numbered.{size}
use Rattle.sheet_edit.specs.Edits.{edit_of, result}
use Rattle.sheet_edit.specs.Steps.{joined}
use Rattle.sheet_edit.proofs.Replies.{refused, allowed, done, counted_nodes}
use borrow.Author.Rules.{rules}
use Rattle.sheet_edit.proofs.preview.Goals as goal

pub returns-in_err-first_refusal : goal.returns-in_err-first_refusal
returns-in_err-first_refusal c =
    let q = rw (c.min-cells.ensures, c.min-lent.ensures) at c.in_err-first_refusal.ensures in
    let whole = refused (edit_of c.args.context c.args.count c.args.table.now c.args.node c.args.second_context c.args.second_count c.args.second.now) (min (length c.args.table.now) (length c.args.result_table.now)) (min (length c.args.rows.now) (length c.args.result_rows.now)) c.args.order c.args.result_table.now c.args.result_rows.now (tt {0}) (size (result (edit_of c.args.context c.args.count c.args.table.now c.args.node c.args.second_context c.args.second_count c.args.second.now))) _ q in
    record { reply = passed_up _ _ c.from_residual.ensures.0 c.from_residual.ensures.1 ∙ whole.0; table = whole.1; rows = whole.2 }

pub returns : goal.returns
returns c =
    let z = replied_ok _ tt tt (rw (c.min-cells.ensures, c.min-lent.ensures) at c.in_ok-first_refusal.ensures) in
    let w = allowed (edit_of c.args.context c.args.count c.args.table.now c.args.node c.args.second_context c.args.second_count c.args.second.now) (min (length c.args.table.now) (length c.args.result_table.now)) (min (length c.args.rows.now) (length c.args.result_rows.now)) z in
    let t = w.table_room in
    let m = all_numbered c.args.second_count (joined c.args.table.now c.args.count c.args.node c.args.second.now c.args.second_count) c.args.result_table.now (count_bounds _ _ _ w.other).0 w.few (omega arith) _ _ (c.number.ensures.reply, c.number.ensures.out) in
    let n = counted_nodes _ _ _ _ _ m c.unwrap_or-done.ensures in
    let whole = done (edit_of c.args.context c.args.count c.args.table.now c.args.node c.args.second_context c.args.second_count c.args.second.now) (min (length c.args.table.now) (length c.args.result_table.now)) (min (length c.args.rows.now) (length c.args.result_rows.now)) c.args.order c.args.result_table.now c.args.result_rows.now z (omega arith) _ _ _ n c.walk.ensures in
    record { reply = whole.0; table = whole.1; rows = whole.2 }
