-- `token_reader::read` meets its contract. Assumes nothing.
use Rattle.laws.specs.Choice.{pick, lookup}
use Rattle.tree.specs.Replies.{refusals, replied}
use Rattle.token_reader.proofs.Whole.{answers_above, answers_none, answers_condition, answers_between}
use Rattle.token_reader.proofs.read.Goals as goal

pub returns-then-context-gt-CONDITION : goal.returns-then-context-gt-CONDITION
unfolding replied refusals lookup pick
returns-then-context-gt-CONDITION c = answers_above c.if-context-gt-CONDITION.true

pub returns-then-context-eq-NONE : goal.returns-then-context-eq-NONE
returns-then-context-eq-NONE c = answers_none c.if-context-eq-NONE.true c.read_in.ensures

pub returns-then-context-eq-CONDITION : goal.returns-then-context-eq-CONDITION
returns-then-context-eq-CONDITION c = answers_condition c.if-context-eq-CONDITION.true c.read_in-then-context-eq-CONDITION.ensures

pub returns : goal.returns
unfolding replied refusals lookup pick
returns c = answers_between c.if-context-gt-CONDITION.false c.if-context-eq-NONE.false c.if-context-eq-CONDITION.false
