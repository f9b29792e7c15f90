-- `sheet_carry::carry_over` meets its contract. Assumes nothing.
use Rattle.sheet_carry.proofs.Replies.{ours, crates}
use Rattle.sheet_carry.proofs.carry_over.Goals as goal

pub returns-in_default : goal.returns-in_default
returns-in_default c = rw c.in_default.is (ours c.args.context c.args.count c.args.table.now c.args.rows.now)

pub returns : goal.returns
returns c = rw c.in-Crates.is (crates c.args.context c.args.count c.args.table.now c.args.rows.now c.requires.0 c.requires.1 _ c.walk.ensures)
