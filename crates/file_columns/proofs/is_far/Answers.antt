-- `file_columns::is_far` meets its contract. Assumes nothing.
use native.Mathlib.Omega.{arith}
use Rattle.file_columns.proofs.Held.{far}
use Rattle.file_columns.proofs.is_far.Goals as goal

pub returns : goal.returns
returns c = far _ _ (omega arith)
