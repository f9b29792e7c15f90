-- `token_writer::signs::operator_code` meets its contract. Assumes nothing.
use mathlib.Core.Path.{sym}
use Rattle.token_writer.proofs.Spelling.{operator_low, operator_high}
use Rattle.token_writer.proofs.signs.operator_code.Goals as goal

pub returns-then-detail-lt-ASSIGN : goal.returns-then-detail-lt-ASSIGN
returns-then-detail-lt-ASSIGN c = sym (operator_low _ c.if-detail-lt-ASSIGN.true)

pub returns-else-detail-lt-ASSIGN : goal.returns-else-detail-lt-ASSIGN
returns-else-detail-lt-ASSIGN c = sym (operator_high _ c.if-detail-lt-ASSIGN.false)
