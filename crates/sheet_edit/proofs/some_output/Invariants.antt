-- `sheet_edit::some_output` meets its contract. Assumes nothing.
use mathlib.Core.Path.{◌≡◌}
use mathlib.Core.Bool.{false}
use Rattle.laws.specs.Each.{some}
use Rattle.sheet_edit.specs.Steps.{owns_output}
use Rattle.sheet_edit.proofs.some_output.Given as goal

abbrev pub invariant-loop-done : goal.invariant-loop-done
invariant-loop-done l = some (owns_output l.table.cells.now l.place) l.done ≡ false
