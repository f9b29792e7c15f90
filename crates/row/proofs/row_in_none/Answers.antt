-- `row::row_in_none` meets its contract. Assumes nothing.
use mathlib.Core.Path.{refl, sym}
use Rattle.row.proofs.Decisions.{equal_rows, none_flags}
use Rattle.row.proofs.row_in_none.Goals as goal

pub returns : goal.returns
returns c = equal_rows c.rank.ensures refl refl (sym none_flags)
