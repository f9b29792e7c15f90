-- `sheet_carry::carry` meets its contract. Assumes nothing.
use mathlib.Core.Path.{◌∙◌}
use Prim.Native.Nat.{◌*◌, ◌≤◌}
use native.Mathlib.Omega.{arith}
use lib.ListN.{length}
use Rattle.laws.specs.Choice.{pick, lookup}
use Rattle.tree.specs.Sizes.{row_cells}
use Rattle.tree.specs.Replies.{replied, refusals}
use Rattle.row_walk.proofs.Replies.{replied_ok, passed_up}
use Rattle.sheet_carry.proofs.Replies.{takes, refused, short_rows, done}
use Rattle.sheet_carry.proofs.carry.Goals as goal

pub returns-in_err-check-clause-reply : goal.returns-in_err-check-clause-reply
returns-in_err-check-clause-reply c = passed_up _ _ c.from_residual.ensures.0 c.from_residual.ensures.1 ∙ (refused c.args.context c.args.count c.args.table.now c.args.rows.now c.args.order (tt {0}) (tt {0}) _ c.in_err-check.ensures).0

pub returns-in_err-check-clause-rows : goal.returns-in_err-check-clause-rows
returns-in_err-check-clause-rows c = (refused c.args.context c.args.count c.args.table.now c.args.rows.now c.args.order (tt {0}) (tt {0}) _ c.in_err-check.ensures).1

pub returns-then-rows-from : goal.returns-then-rows-from
unfolding replied refusals lookup pick
returns-then-rows-from c =
    let whole = short_rows c.args.context c.args.count c.args.table.now c.args.rows.now c.args.order (replied_ok _ tt tt c.in_ok-check.ensures) (omega (arith, c.from.ensures, c.if-rows-from.true)) in
    record { reply = rw (← whole.0); rows = whole.1 }

pub carry_over-requires : goal.carry_over-requires
carry_over-requires c = (replied_ok _ tt tt c.in_ok-check.ensures, omega (arith, c.from.ensures, c.if-rows-from.false))

pub returns : goal.returns
unfolding replied refusals lookup pick
returns c =
    let ok = replied_ok _ tt tt c.in_ok-check.ensures in
    let room : row_cells * c.args.count ≤ length c.args.rows.now = omega (arith, c.from.ensures, c.if-rows-from.false) in
    record { reply = rw (takes c.args.context c.args.count c.args.table.now c.args.rows.now ok room); rows = done c.args.context c.args.count c.args.table.now c.args.rows.now c.args.order ok room _ c.carry_over.ensures }
