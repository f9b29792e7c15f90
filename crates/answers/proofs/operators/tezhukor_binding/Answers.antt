-- `answers::operators::tezhukor_binding` meets its contract. Assumes nothing.
use mathlib.Core.Path.{sym, ap, ◌∙◌}
use native.Mathlib.Omega.{arith}
use borrow.Author.Tests.{le-leb, lt-leb}
use Rattle.laws.proofs.Choice.{pick_true, pick_false}
use Rattle.laws.proofs.Calls.{free}
use Rattle.answers.specs.Bindings.{in_one_number, last_operator, binding_number}
use Rattle.answers.proofs.operators.tezhukor_binding.Goals as goal

pub returns-then-operator-gt-LAST_OPERATOR : goal.returns-then-operator-gt-LAST_OPERATOR
unfolding binding_number
returns-then-operator-gt-LAST_OPERATOR c = sym (pick_false _ _ (lt-leb _ last_operator c.if-operator-gt-LAST_OPERATOR.true))

pub returns : goal.returns
unfolding binding_number
returns c = c.in_one_number.ensures ∙ ap in_one_number c.of.ensures ∙ sym (pick_true _ _ (le-leb _ last_operator c.if-operator-gt-LAST_OPERATOR.false))
