-- `file_order::compare_numbers` meets its contract. Assumes nothing.
use Rattle.std.proofs.Common.{arith}
use Rattle.file_order.proofs.Runs.{beside_none, ended, left_not_bad, right_not_bad, smaller, larger, beside_more, ends_first, ends_too}
use Rattle.file_order.proofs.compare_numbers.Goals as goal

pub loop-done-init : goal.loop-done-init
loop-done-init c = beside_none _ _ _ _ _ _ c.requires.0 c.requires.1

pub returns-then-others-done : goal.returns-then-others-done
returns-then-others-done c = ended _ _ _ _ _ _ _ _ _ c.loop-done.invariant c.loop-done-test.true c.if-others-done.true

pub returns-in_default : goal.returns-in_default
returns-in_default c = left_not_bad _ _ _ _ _ _ _ _ _ c.loop-done.invariant c.loop-done-test.true c.in_default.ensures

pub returns-in_default-number_at : goal.returns-in_default-number_at
returns-in_default-number_at c = right_not_bad _ _ _ _ _ _ _ _ _ c.loop-done.invariant c.loop-done-test.true c.if-others-done.false c.in_default-number_at.ensures

pub returns-then-left-right : goal.returns-then-left-right
returns-then-left-right c = smaller _ _ _ _ _ _ _ _ _ c.loop-done.invariant c.loop-done-test.true c.if-others-done.false _ _ _ _ c.in-Some.ensures c.in-Some-number_at.ensures c.if-left-right.true

pub returns-then-right-left : goal.returns-then-right-left
returns-then-right-left c = larger _ _ _ _ _ _ _ _ _ c.loop-done.invariant c.loop-done-test.true c.if-others-done.false _ _ _ _ c.in-Some.ensures c.in-Some-number_at.ensures c.if-right-left.true

pub loop-done-preserved : goal.loop-done-preserved
loop-done-preserved c = beside_more _ _ _ _ _ _ _ _ _ c.loop-done.invariant c.loop-done-test.true c.if-others-done.false _ _ _ _ c.in-Some.ensures c.in-Some-number_at.ensures c.if-left-right.false c.if-right-left.false

pub returns-then-many-others : goal.returns-then-many-others
returns-then-many-others c = let d = c.loop-done.invariant.few in ends_first _ _ _ _ _ _ _ _ _ c.loop-done.invariant c.loop-done-test.false (omega (arith, d, c.if-many-others.true))

pub returns : goal.returns
returns c = ends_too _ _ _ _ _ _ _ _ _ c.loop-done.invariant c.loop-done-test.false (omega (arith, c.loop-done-test.false, c.if-many-others.false))
