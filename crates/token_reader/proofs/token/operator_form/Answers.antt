-- `token_reader::token::operator_form` meets its contract. Assumes nothing.
use mathlib.Core.Path.{sym}
use borrow.Author.Tests.{eq-eqb, ne_eqb}
use Rattle.laws.proofs.Choice.{pick_true, pick_false}
use Rattle.token_reader.specs.Tables.{operator_form}
use Rattle.token_reader.proofs.token.operator_form.Goals as goal

pub returns-then-code-eq-ASSIGN : goal.returns-then-code-eq-ASSIGN
unfolding operator_form
returns-then-code-eq-ASSIGN c = sym (pick_true _ _ (eq-eqb _ _ c.if-code-eq-ASSIGN.true))

pub returns-else-code-eq-ASSIGN : goal.returns-else-code-eq-ASSIGN
unfolding operator_form
returns-else-code-eq-ASSIGN c = sym (pick_false _ _ (ne_eqb _ _ c.if-code-eq-ASSIGN.false))
