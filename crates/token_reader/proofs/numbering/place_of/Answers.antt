-- `token_reader::numbering::place_of` meets its contract. Assumes nothing.
use native.Mathlib.Omega.{arith}
use Rattle.token_reader.proofs.numbering.place_of.Goals as goal

pub returns-then-operand-eq0 : goal.returns-then-operand-eq0
returns-then-operand-eq0 c = omega (arith, c.if-operand-eq0.true)

pub overflow_sub-result : goal.overflow_sub-result
overflow_sub-result c = c.requires (omega (arith, c.if-operand-eq0.false))
