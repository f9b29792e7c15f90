-- `token_reader::numbering::is_due` meets its contract. Assumes nothing.
use mathlib.Core.Path.{sym}
use mathlib.Core.Logic.{inl, inr}
use borrow.Author.Tests.{leb-true}
use Rattle.laws.proofs.Choice.{true_not_false}
use Rattle.token_reader.proofs.numbering.is_due.Goals as goal

pub returns-then-operand-eq0 : goal.returns-then-operand-eq0
returns-then-operand-eq0 c e = inl c.if-operand-eq0.true

pub returns-then-operand-due : goal.returns-then-operand-due
returns-then-operand-due c e = true_not_false (sym e)

pub returns : goal.returns
returns c e = inr (c.if-operand-due.false, leb-true _ _ e)
