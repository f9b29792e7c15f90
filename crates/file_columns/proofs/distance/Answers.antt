-- `file_columns::distance` meets its contract. Assumes nothing.
use mathlib.Core.Path.{sym}
use Rattle.file_columns.proofs.Held.{held_before, held_behind}
use Rattle.file_columns.proofs.distance.Goals as goal

pub returns-then-operand-owner : goal.returns-then-operand-owner
returns-then-operand-owner c = sym (held_before _ _ c.if-operand-owner.true)

pub returns : goal.returns
returns c = sym (held_behind _ _ c.if-operand-owner.false)
