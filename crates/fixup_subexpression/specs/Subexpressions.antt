-- prettyplease's fixup.rs: the precedence and the context of an operand, which its functions give together.
use Rattle.std.specs.Prelude.{Bool, false}
use Rattle.tree.specs.Trees.{Tree}
use Rattle.precedence.specs.declared.Precedence.{Precedence}
use Rattle.fixup.specs.declared.context.FixupContext.{FixupContext}
use Rattle.fixup.specs.Contexts.{with_operator, with_dot, rightmost}
use Rattle.fixup_scan.specs.Scans.{leftmost_precedence, rightmost_precedence}
use Rattle.fixup_subexpression.specs.declared.Subexpression.{Subexpression}

abbrev pub operand : Precedence → FixupContext → Subexpression
operand precedence fixup = record { precedence = precedence; fixup = fixup }

-- leftmost_subexpression_with_operator
abbrev pub leftmost_with_operator : FixupContext → Tree → Bool → Bool → Precedence → Subexpression
leftmost_with_operator x t begins generics next =
    let y = with_operator x begins generics next in
    operand (leftmost_precedence t y) y

-- leftmost_subexpression_with_dot
abbrev pub leftmost_with_dot : FixupContext → Tree → Subexpression
leftmost_with_dot x t = operand (leftmost_precedence t (with_dot x)) (with_dot x)

-- rightmost_subexpression
abbrev pub rightmost_operand : FixupContext → Tree → Precedence → Subexpression
rightmost_operand x t previous =
    let y = rightmost x false false previous in
    operand (rightmost_precedence t y) y
