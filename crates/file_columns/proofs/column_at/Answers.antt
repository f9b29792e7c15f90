-- `file_columns::column_at` meets its contract. Assumes nothing.
use mathlib.Core.Path.{refl}
use Rattle.file_columns.specs.Columns.{column_at}
use Rattle.file_columns.proofs.column_at.Goals as goal

pub returns : goal.returns
unfolding column_at
returns c = refl
