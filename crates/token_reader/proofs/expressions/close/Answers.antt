-- `token_reader::expressions::close` meets its contract. Assumes nothing.
use Rattle.std.proofs.Common.{sym, ◌∙◌}
use Rattle.token_reader.specs.Turns.{more, called}
use Rattle.token_reader.proofs.expressions.close.Goals as goal

pub returns-then-what-number : goal.returns-then-what-number
returns-then-what-number c = more _ (c.if-what-number.true ∙ c.number.ensures) c.store-free.ensures c.list.ensures

pub returns : goal.returns
returns c = called _ _ (λ z. c.if-what-number.false (z ∙ sym c.number.ensures)) (rw c.call_form.ensures at c.store-free-2.ensures) c.strongest.ensures c.pop.ensures
