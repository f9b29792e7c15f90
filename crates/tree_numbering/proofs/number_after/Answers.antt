-- `tree_numbering::number_after` meets its contract. Assumes nothing.
use mathlib.Core.Path.{sym, ◌∙◌}
use native.Mathlib.Numerals.{add-one}
use borrow.Author.Rules.{rules}
use borrow.Author.Tests.{eq-eqb, ne_eqb}
use Rattle.laws.proofs.Choice.{pick_true, pick_false}
use Rattle.tree_numbering.proofs.number_after.Goals as goal

pub returns-then-operand-eq0 : goal.returns-then-operand-eq0
returns-then-operand-eq0 c = sym (pick_true _ _ (eq-eqb _ 0 c.if-operand-eq0.true))

pub returns : goal.returns
returns c = add-one _ ∙ sym (pick_false _ _ (ne_eqb _ 0 c.if-operand-eq0.false))
