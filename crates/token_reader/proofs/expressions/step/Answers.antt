-- `token_reader::expressions::step` meets its contract. Assumes nothing.
use mathlib.Core.Path.{◌≡◌, refl, sym, subst, ◌∙◌}
use mathlib.Core.Bool.{false}
use native.Mathlib.Omega.{arith}
use Rattle.laws.specs.Choice.{is_one_of}
use Rattle.laws.proofs.Choice.{pick_false}
use Rattle.token_reader.specs.Turns.{a_call, lost, step, operates, indexes}
use Rattle.token_reader.proofs.Tables.{level_most, form_codes, no_form}
use Rattle.token_reader.proofs.ExprEnds.{step_call, step_try, step_none}
use Rattle.token_reader.proofs.expressions.step.Goals as goal

pub call-requires : goal.call-requires
call-requires c =
    let k = sym c.requires.1 ∙ c.in-35.is in
    (c.requires.0, a_call refl, sym (pick_false _ _ refl), record { from = omega arith; inside = c.requires.2; steps = λ own now r rd q. step_call _ rd k q })

pub lowest_after-least-requires : goal.lowest_after-least-requires
lowest_after-least-requires c = rw c.level_of.ensures (level_most _ c.in-0-to-28.if-code-lt29-own.true)

pub returns-in-37 : goal.returns-in-37
returns-in-37 c = indexes (sym c.requires.1 ∙ c.in-37.is) c.wait.ensures.0 c.wait.ensures.1

pub returns-in-40 : goal.returns-in-40
returns-in-40 c = step _ (step_try _ c.requires.0.ready (sym c.requires.1 ∙ c.in-40.is) c.attempt.ensures) (omega arith) (λ j q. c.attempt.ensures.below j (omega arith)) c.came.ensures

pub returns-in-0-to-28 : goal.returns-in-0-to-28
returns-in-0-to-28 c = operates _ (sym c.requires.1) c.in-0-to-28.if-code-lt29-own.true c.wait-in-0-to-28.ensures.0 (rw (c.lowest_after-least.ensures, c.level_of.ensures) at c.wait-in-0-to-28.ensures.1)

pub returns-in_default : goal.returns-in_default
returns-in_default c = lost (step_none _ c.requires.0.ready (omega (arith, c.in_default.if-code-lt29-own.false, c.requires.1)) (subst (λ n. is_one_of form_codes n ≡ false) c.requires.1 (no_form _ c.in_default.in_default-own.rest.0.0.0.0.1 c.in_default.in_default-own.rest.0.0.0.1 c.in_default.in_default-own.rest.0.0.1 c.in_default.in_default-own.rest.0.1 c.in_default.in_default-own.rest.1)) c.failed.ensures.past) c.failed.ensures
