-- `token_writer::put_name` meets its contract. Assumes nothing.
use Rattle.laws.proofs.Putting.{put_two}
use native.Mathlib.Omega.{arith}
use Rattle.token_writer.proofs.put_name.Goals as goal

pub at_cell-symbol-requires : goal.at_cell-symbol-requires
at_cell-symbol-requires c = (c.requires.0, c.requires.1, omega arith)

pub returns : goal.returns
returns c = rw (← c.at_cell-symbol.ensures) (put_two _ _ _ _)
