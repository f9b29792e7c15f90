-- `file_columns::restore` meets its contract. Assumes nothing.
use Rattle.std.proofs.Common.{◌≡◌, ◌*◌, suc}
use mathlib.Core.Bool.{false}
use Rattle.laws.specs.Each.{some}
use Rattle.laws.specs.Puts.{Put}
use Rattle.tree.specs.Sizes.{node_cells}
use Rattle.file_columns.specs.Columns.{joined, restored_node, outside}
use Rattle.file_columns.proofs.Restoring.{Stands}
use Rattle.file_columns.proofs.restore.Given as goal

abbrev pub invariant-loop-done : goal.invariant-loop-done
invariant-loop-done l = Put l.initial.cells 0 (joined (λ i. restored_node l.count l.held (suc i)) l.done) l.cells (node_cells * l.done) × Stands l.count l.held l.done l.form × (some (outside l.count l.held) l.done ≡ false)
