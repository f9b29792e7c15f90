-- `token_reader::expressions::call_form` meets its contract. Assumes nothing.
use Rattle.std.proofs.Common.{sym, ◌∙◌}
use borrow.Author.Tests.{eq-eqb, ne_eqb}
use Rattle.laws.proofs.Choice.{pick_true, pick_false}
use Rattle.token_reader.proofs.expressions.call_form.Goals as goal

pub returns-then-what-number : goal.returns-then-what-number
returns-then-what-number c = sym (pick_true _ _ (eq-eqb _ _ (c.if-what-number.true ∙ c.number.ensures)))

pub returns-else-what-number : goal.returns-else-what-number
returns-else-what-number c = sym (pick_false _ _ (ne_eqb _ _ (λ z. c.if-what-number.false (z ∙ sym c.number.ensures))))
