-- What an operand gets from its owner, expr.rs's three values: its precedence, its context, and whether its owner groups it.
use Rattle.std.specs.Prelude.{Bool, false}
use Rattle.tree.specs.Trees.{Tree}
use Rattle.precedence.specs.declared.Precedence.{Precedence}
use Rattle.fixup.specs.declared.context.FixupContext.{FixupContext}
use Rattle.fixup.specs.Contexts.{rightmost}
use Rattle.fixup.specs.Fixup.{effective}
use Rattle.fixup_scan.specs.Scans.{rightmost_precedence}
use Rattle.fixup_subexpression.specs.declared.Subexpression.{Subexpression}
use Rattle.fixup_subexpression.specs.Subexpressions.{operand}
use Rattle.expr.specs.declared.Handed.{Handed}

-- `self.subexpr(operand, needs_group, fixup)`
abbrev pub subexpr : Subexpression → Bool → Handed
subexpr s group = record { precedence = s.precedence; fixup = s.fixup; needs_group = group }

-- with a test of the operand's precedence
unfoldable pub grouped_by : Subexpression → (Precedence → Bool) → Handed
grouped_by s needs_group = subexpr s (needs_group s.precedence)

-- `self.expr(operand, fixup)`: no test
unfoldable pub ungrouped : Subexpression → Handed
ungrouped s = subexpr s false

-- rightmost_subexpression_fixup, and rightmost_subexpression_precedence in what it makes
abbrev pub at_end : FixupContext → Tree → Bool → Bool → Precedence → Subexpression
at_end x t reset optional previous =
    let y = rightmost x reset optional previous in
    operand (rightmost_precedence t y) y

-- no function of fixup.rs makes its context: it gets x, and precedence in x. No test
unfoldable pub neither : FixupContext → Tree → Handed
neither x t = ungrouped (operand (effective x t) x)
