-- `file_columns::difference` meets its contract. Assumes nothing.
use mathlib.Core.Path.{sym}
use Rattle.file_columns.proofs.Held.{held_up, held_down}
use Rattle.file_columns.proofs.difference.Goals as goal

pub returns-then-before-number : goal.returns-then-before-number
returns-then-before-number c = sym (held_up _ _ c.if-before-number.true)

pub returns : goal.returns
returns c = sym (held_down _ _ c.if-before-number.false)
