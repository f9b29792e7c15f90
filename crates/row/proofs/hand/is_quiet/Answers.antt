-- `row::hand::is_quiet` meets its contract. Assumes nothing.
use Rattle.row.proofs.Quiet.{quiet_number}
use Rattle.row.proofs.hand.is_quiet.Goals as goal

pub returns : goal.returns
returns c = quiet_number c.args.context
