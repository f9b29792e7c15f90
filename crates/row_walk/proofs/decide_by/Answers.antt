-- `row_walk::decide_by` meets its contract. Assumes nothing.
use mathlib.Core.Path.{◌∙◌}
use native.Mathlib.Omega.{arith}
use Rattle.tree.specs.Replies.{replied, refusals}
use Rattle.laws.specs.Choice.{pick, lookup}
use Rattle.row_walk.proofs.Replies.{replied_ok, passed_up, refused, short_rows, not_refused, done}
use Rattle.row_walk.proofs.decide_by.Goals as goal

pub returns-in_err-check-clause-reply : goal.returns-in_err-check-clause-reply
returns-in_err-check-clause-reply c =
    passed_up _ _ c.from_residual.ensures.0 c.from_residual.ensures.1
    ∙ (refused c.args.order c.args.context c.args.count c.args.table.now c.args.rows.now (tt {0}) (tt {0}) _ c.in_err-check.ensures).0

pub returns-in_err-check-clause-rows : goal.returns-in_err-check-clause-rows
returns-in_err-check-clause-rows c = (refused c.args.order c.args.context c.args.count c.args.table.now c.args.rows.now (tt {0}) (tt {0}) _ c.in_err-check.ensures).1

pub returns-then-rows-nodes : goal.returns-then-rows-nodes
unfolding replied refusals lookup pick
returns-then-rows-nodes c =
    let n = c.from-nodes.ensures in
    let whole = short_rows c.args.order c.args.context c.args.count c.args.table.now c.args.rows.now (replied_ok _ tt tt c.in_ok-check.ensures) (omega arith) in
    record { reply = rw whole.0; rows = whole.1 }

pub returns : goal.returns
unfolding replied refusals lookup pick
returns c =
    let n = c.from-nodes.ensures in
    let zero = replied_ok _ tt tt c.in_ok-check.ensures in
    record {
      reply = rw (not_refused c.args.order c.args.context c.args.count c.args.table.now c.args.rows.now zero (omega arith));
      rows = done c.args.order c.args.context c.args.count c.args.table.now c.args.rows.now zero (omega arith) _ c.walk.ensures;
    }
