-- `tree_one_pass::check` meets its contract. Assumes nothing.
use mathlib.Core.Path.{refl}
use mathlib.Core.List.{[]}
use Rattle.laws.proofs.Calls.{free}
use Rattle.tree_source.proofs.Cells.{cells_table}
use borrow.Author.Rules.{rules}
use Rattle.tree_one_pass.proofs.check.Goals as goal

pub returns : goal.returns
returns c = rw (cells_table [] c.args.table.now refl) at c.check_source.ensures
