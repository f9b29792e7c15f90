-- `row::row_of` meets its contract. Assumes nothing.
use Rattle.row.proofs.Hands.{hand_row}
use Rattle.row.proofs.row_of.Goals as goal

pub returns : goal.returns
returns c = hand_row _ _
