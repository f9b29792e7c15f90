-- `file_columns::put_column` meets its contract. Assumes nothing.
use Rattle.std.proofs.Common.{◌≡◌, ◌+◌, suc, [], ◌∷◌}
use Rattle.laws.specs.Puts.{Put}
use Rattle.file_columns.specs.Columns.{held_at, joined}
use Rattle.file_columns.proofs.put_column.Given as goal

abbrev pub invariant-loop-node : goal.invariant-loop-node
invariant-loop-node l = (l.at ≡ l.from + l.node) × Put l.initial.held l.from (joined (λ i. held_at l.cells l.column (suc i) ∷ []) l.node) l.held l.at
