-- `tree_source::step` meets its contract. Assumes nothing.
use mathlib.Core.Path.{sym, ◌∙◌}
use Rattle.laws.proofs.Calls.{free}
use Rattle.tree_source.proofs.Nodes.{no_value, is_value}
use borrow.Author.Rules.{rules}
use Rattle.tree_source.proofs.step.Goals as goal

pub returns-in_default : goal.returns-in_default
returns-in_default c = no_value _ _ (sym c.in_default.is ∙ c.number_at.ensures)

pub returns : goal.returns
returns c = is_value _ _ _ _ (sym c.in-Some.is ∙ c.number_at.ensures)
