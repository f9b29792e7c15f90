-- `tree_source::Source::is_short` meets its contract. Assumes nothing.
use mathlib.Core.Path.{sym, ◌∙◌}
use borrow.Author.Tests.{eqb-true, eqb-false}
use Rattle.tree_source.proofs.Cells.{cells_table, short_file}
use borrow.Author.Rules.{rules}
use Rattle.tree_source.proofs.Source.is_short.Goals as goal

pub returns-then-is_empty : goal.returns-then-is_empty
returns-then-is_empty c = rw (cells_table _ _ (eqb-true _ _ (sym c.is_empty.ensures ∙ c.if-is_empty.true)), c.from.ensures)

pub returns : goal.returns
returns c = rw c.from-2.ensures (short_file _ _ (eqb-false _ _ (sym c.is_empty.ensures ∙ c.if-is_empty.false)) _)
