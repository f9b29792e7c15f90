-- `tree_one_pass::marks::take` meets its contract. Assumes nothing.
use Rattle.tree_one_pass.specs.Marks.{absent, taken, refused}
use borrow.Author.Rules.{rules}
use Rattle.tree_one_pass.proofs.marks.take.Goals as goal

pub returns-then-operand-eq0 : goal.returns-then-operand-eq0
returns-then-operand-eq0 c = absent c.if-operand-eq0.true

pub returns-then-count-operand : goal.returns-then-count-operand
returns-then-count-operand c = refused

pub returns-then-mark-eq0 : goal.returns-then-mark-eq0
returns-then-mark-eq0 c = refused

pub returns : goal.returns
returns c = rw c.from-at.ensures (taken c.if-count-operand.false (rw c.from-at.ensures at c.if-mark-eq0.false))
