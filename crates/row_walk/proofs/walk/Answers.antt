-- `row_walk::walk` meets its contract. Assumes nothing.
use mathlib.Core.Path.{ap, ◌∙◌}
use native.Mathlib.Omega.{arith}
use Rattle.row.specs.Hands.{handed_of}
use Rattle.row.proofs.Hands.{handed_back}
use Rattle.row_walk.proofs.Replies.{stays, no_nodes, walks}
use Rattle.row_walk.proofs.walk.Goals as goal

pub returns-then-rows-from : goal.returns-then-rows-from
returns-then-rows-from c = let n = c.from.ensures in stays c.args.order c.args.context c.args.count c.args.table.now c.args.rows.now (omega (arith, c.if-rows-from.true))

pub returns-then-count-eq0 : goal.returns-then-count-eq0
returns-then-count-eq0 c = no_nodes c.args.order c.args.context c.args.count c.args.table.now c.args.rows.now c.if-count-eq0.true

pub returns : goal.returns
returns c = walks c.args.order c.args.context c.args.count c.args.table.now c.args.rows.now (omega (arith, c.from.ensures, c.if-rows-from.false)) _ (ap handed_of c.root_hand-hand.ensures ∙ handed_back _) _ c.walk_from.ensures
