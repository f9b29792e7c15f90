-- `file_columns::copy` meets its contract. Assumes nothing.
use Rattle.std.proofs.Common.{◌≡◌, length}
use lib.ListN.{take}
use Rattle.laws.specs.Lists.{over}
use Rattle.file_columns.proofs.copy.Given as goal

abbrev pub invariant-loop-done : goal.invariant-loop-done
invariant-loop-done l = (length l.table ≡ length l.initial.table) × (l.table ≡ over (take l.done l.cells) l.initial.table)
