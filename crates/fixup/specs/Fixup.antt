-- prettyplease's fixup.rs: parenthesize, precedence and scan_left, on trees.
use Rattle.std.specs.Prelude.{Bool, true, not, ◌&&◌, ◌||◌, List, [], ◌∷◌}
use Rattle.laws.specs.Choice.{pick, Line, line}
use Rattle.tree.specs.Forms.{expr_assign, expr_binary, expr_cast, expr_range}
use Rattle.tree.specs.Trees.{Label, Tree}
use Rattle.tree.specs.Walks.{is_there, at_root}
use Rattle.precedence.specs.declared.Precedence.{Precedence}
use Rattle.precedence.specs.declared.Precedence.TheVariants.{Jump, Assign, Cast, Prefix}
use Rattle.precedence.specs.Precedences.{below, at_most, same, of_binop, precedence_of}
use Rattle.classify.specs.Classify.{requires_semi, requires_comma}
use Rattle.fixup_look.specs.Looks.{is_let, is_struct, is_bare_return, is_open_ended, is_plain_block, is_bare_jump, is_open_ahead, is_cast_to_path}
use Rattle.fixup.specs.declared.context.FixupContext.{FixupContext}

-- ---- parenthesize

unfoldable pub parenthesize : FixupContext → Tree → Bool
parenthesize x t =
    (x.leftmost_subexpression_in_stmt && not (requires_semi t))
    || (((x.stmt || x.leftmost_subexpression_in_stmt) && is_let t)
    || ((x.leftmost_subexpression_in_match_arm && not (requires_comma t))
    || ((x.condition && is_struct t)
    || ((x.rightmost_subexpression_in_condition && is_bare_return t)
    || (((x.rightmost_subexpression_in_condition && not x.condition) && is_open_ended t)
    || (x.leftmost_subexpression_in_optional_operand && is_plain_block t))))))

-- ---- precedence

-- "Determines the effective precedence of a subexpression."
unfoldable pub effective : FixupContext → Tree → Precedence
effective x t =
    pick (x.next_operator_can_begin_expr && is_bare_jump t) Jump
    (pick (not x.next_operator_can_continue_expr && is_open_ahead t) Prefix
    (pick (x.next_operator_can_begin_generics && is_cast_to_path t) Jump (precedence_of t)))

-- ---- scan_left

-- Binary, by its operator's precedence
unfoldable pub left_of_binary : Precedence → Precedence → Bool
left_of_binary previous own = pick (same own Assign) (at_most previous Assign) (below previous own)

unfoldable pub scan_left_lines : FixupContext → Label → Tree → Tree → List (Line Bool)
scan_left_lines x l a b =
    line (expr_assign ∷ []) (at_most x.previous_operator Assign) ∷
    line (expr_binary ∷ []) (left_of_binary x.previous_operator (of_binop l.detail)) ∷
    line (expr_cast ∷ []) (below x.previous_operator Cast) ∷
    line (expr_range ∷ []) (not (is_there a) || below x.previous_operator Assign) ∷
    []

unfoldable pub scan_left : Tree → FixupContext → Bool
scan_left t x = at_root (scan_left_lines x) true t
