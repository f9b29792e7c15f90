-- `token_reader::token::operator_detail` meets its contract. Assumes nothing.
use mathlib.Core.Path.{sym}
use borrow.Author.Tests.{eq-eqb, ne_eqb}
use Rattle.laws.proofs.Choice.{pick_true, pick_false}
use Rattle.token_reader.specs.Tables.{operator_detail}
use Rattle.token_reader.proofs.token.operator_detail.Goals as goal

pub returns-then-code-eq-ASSIGN : goal.returns-then-code-eq-ASSIGN
unfolding operator_detail
returns-then-code-eq-ASSIGN c = sym (pick_true _ _ (eq-eqb _ _ c.if-code-eq-ASSIGN.true))

pub returns-else-code-eq-ASSIGN : goal.returns-else-code-eq-ASSIGN
unfolding operator_detail
returns-else-code-eq-ASSIGN c = sym (pick_false _ _ (ne_eqb _ _ c.if-code-eq-ASSIGN.false))
