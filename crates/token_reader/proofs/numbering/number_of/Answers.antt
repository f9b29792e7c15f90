-- `token_reader::numbering::number_of` meets its contract. Assumes nothing.
use mathlib.Core.Path.{sym}
use borrow.Author.Tests.{eq-eqb, ne_eqb}
use Rattle.laws.proofs.Choice.{pick_true, pick_false}
use Rattle.token_reader.proofs.numbering.number_of.Goals as goal

pub returns-then-operand-eq0 : goal.returns-then-operand-eq0
returns-then-operand-eq0 c = sym (pick_true _ _ (eq-eqb _ _ c.if-operand-eq0.true))

pub returns-else-operand-eq0 : goal.returns-else-operand-eq0
returns-else-operand-eq0 c = sym (pick_false _ _ (ne_eqb _ _ c.if-operand-eq0.false))
