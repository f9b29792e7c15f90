-- `file_columns::leaves` meets its contract. Assumes nothing.
use native.Mathlib.Omega.{arith}
use Rattle.file_columns.proofs.Held.{leaves_up, leaves_down}
use Rattle.file_columns.proofs.leaves.Goals as goal

pub returns-then-held-eq0 : goal.returns-then-held-eq0
returns-then-held-eq0 c = leaves_up _ _ (omega arith) c.if-held-eq0.true

pub returns : goal.returns
returns c = leaves_down _ _ (omega arith) c.if-held-eq0.false
