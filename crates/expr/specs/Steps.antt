-- The two tables with the operand beside its owner, as row_walk's functions answer them. Nothing here is to be believed.
use Rattle.tree.specs.Trees.{Tree}
use Rattle.tree.specs.Walks.{at_root}
use Rattle.fixup.specs.declared.context.FixupContext.{FixupContext}
use Rattle.fixup.specs.Contexts.{none_context}
use Rattle.expr.specs.declared.Handed.{Handed}
use Rattle.expr.specs.declared.order.CalleeOrder.{CalleeOrder}
use Rattle.expr.specs.Handed.{neither}
use Rattle.expr.specs.Expr.{first_lines, second_lines}

unfoldable pub given_first : CalleeOrder → FixupContext → Tree → Tree → Handed
given_first order x t operand = at_root (λ l a b. first_lines order x l operand) (neither none_context operand) t

unfoldable pub given_second : FixupContext → Tree → Tree → Handed
given_second x t operand = at_root (λ l a b. second_lines x l operand) (neither none_context operand) t
