-- `token_reader::expressions::expr` meets its contract. Assumes nothing.
use mathlib.Core.Path.{◌≡◌}
use lib.ListN.{length}
use Rattle.token_reader.proofs.ExprTurns.{On, left_to_do}
use Rattle.token_reader.proofs.expressions.expr.Given as goal

abbrev pub invariant-loop-own : goal.invariant-loop-own
invariant-loop-own l = (length l.own ≡ length l.initial.own) × On l.tokens l.initial.own l.at l.free l.min l.condition l.own l.s

abbrev pub decreases-loop-own : goal.decreases-loop-own
decreases-loop-own l = left_to_do l.tokens l.s
