-- prettyplease's expr.rs, owner by owner: what it hands to the operand at its first place, and to the one at its second.
use Rattle.std.specs.Prelude.{Bool, true, false, ◌&&◌, ◌||◌, List, [], ◌∷◌, ℕ, eqb}
use Rattle.laws.specs.Choice.{Line, line, lookup}
use Rattle.tree.specs.Forms.{expr_assign, expr_await, expr_binary, expr_break, expr_call, expr_cast, expr_closure, expr_field, expr_group, expr_index, expr_let, expr_method_call, expr_paren, expr_range, expr_raw_addr, expr_reference, expr_return, expr_try, expr_unary, expr_yield}
use Rattle.tree.specs.Trees.{Label, Tree, none, node}
use Rattle.tree.specs.Walks.{Ask, answer, first, at_root, walk}
use Rattle.precedence.specs.declared.Precedence.{Precedence}
use Rattle.precedence.specs.declared.Precedence.TheVariants.{Jump, Range, Let, Cast, Prefix, Unambiguous}
use Rattle.precedence.specs.declared.Lean.{Lean}
use Rattle.precedence.specs.declared.Lean.TheVariants.{Left, Right, Neither}
use Rattle.precedence.specs.declared.Binding.{Binding}
use Rattle.precedence.specs.Precedences.{below, at_most, assigns, ranges, binop_binding}
use Rattle.classify.specs.Classify.{leading_label}
use Rattle.fixup.specs.declared.context.FixupContext.{FixupContext}
use Rattle.fixup.specs.Contexts.{none_context}
use Rattle.fixup_subexpression.specs.Subexpressions.{leftmost_with_operator, leftmost_with_dot, rightmost_operand}
use Rattle.expr.specs.declared.Handed.{Handed}
use Rattle.expr.specs.declared.order.CalleeOrder.{CalleeOrder}
use Rattle.expr.specs.declared.order.CalleeOrder.TheVariants.{Crates, Ours}
use Rattle.expr.specs.Handed.{grouped_by, subexpr, ungrouped, at_end, neither}

-- ---- operators, by level and lean

-- left_needs_group: '<' its level where it leans left, '<=' where it leans to neither side; where it leans right, the crate's '<= Range'
unfoldable pub left_needs_group : Lean → Precedence → Precedence → Bool
left_needs_group Left level left = below left level
left_needs_group Right level left = at_most left Range
left_needs_group Neither level left = at_most left level

-- right_needs_group: '<=' its level, but never where it leans right
unfoldable pub right_needs_group : Lean → Precedence → Precedence → Bool
right_needs_group Left level right = at_most right level
right_needs_group Right level right = false
right_needs_group Neither level right = at_most right level

-- the operand left of an operator, and the one right of it
abbrev pub left_of : FixupContext → Tree → Bool → Bool → Binding → Handed
left_of x a begins generics o = grouped_by (leftmost_with_operator x a begins generics o.level) (left_needs_group o.lean o.level)

abbrev pub right_of : FixupContext → Tree → Bool → Binding → Handed
right_of x b optional o = grouped_by (at_end x b false optional o.level) (right_needs_group o.lean o.level)

-- ---- expr_binary

-- the operators whose token can begin an expression: Sub, Mul, And, Or, BitAnd, BitOr, Shl, Lt
unfoldable pub can_begin_expr : ℕ → Bool
can_begin_expr op = lookup (line (1 ∷ 2 ∷ 5 ∷ 6 ∷ 8 ∷ 9 ∷ 10 ∷ 13 ∷ []) true ∷ []) false op

-- those whose token can begin generic arguments: Shl, Lt
unfoldable pub can_begin_generics : ℕ → Bool
can_begin_generics op = lookup (line (10 ∷ 13 ∷ []) true ∷ []) false op

unfoldable pub binary_left : FixupContext → Tree → ℕ → Handed
binary_left x a op = left_of x a (can_begin_expr op) (can_begin_generics op) (binop_binding op)

unfoldable pub binary_right : FixupContext → Tree → ℕ → Handed
binary_right x b op = right_of x b false (binop_binding op)

-- ---- expr_call, in the crate's order or in ours: document 02, Paper 9

-- "the Field rule looks through Groups", whatever attributes they have: the first node below that is none is a named Field ("Field: 0 named, 1 numbered")
unfoldable pub callee_lines : Label → Tree → Tree → List (Line (Ask Bool))
callee_lines l a b = line (expr_field ∷ []) (answer (eqb l.detail 0)) ∷ line (expr_group ∷ []) first ∷ []

unfoldable pub named_field : Tree → Bool
named_field t = walk callee_lines (λ l. false) false t

-- "the crate looks first at whether it is a Field", and goes by its member alone, "and only otherwise at precedence". "From now on precedence comes first, then the Field rule"
unfoldable pub call_needs_group : CalleeOrder → Tree → Precedence → Bool
call_needs_group Crates func left = at_root (λ l a b. line (expr_field ∷ []) (eqb l.detail 0) ∷ []) (below left Unambiguous) func
call_needs_group Ours func left = below left Unambiguous || named_field func

-- ---- the operand a at the first place. x is the owner's own context, NONE where the owner has an outer pair; only a callee sees the order

unfoldable pub first_lines : CalleeOrder → FixupContext → Label → Tree → List (Line Handed)
first_lines order x l a =
    -- expr_assign
    line (expr_assign ∷ []) (left_of x a false false assigns) ∷
    -- expr_await, expr_field, expr_method_call, expr_try
    line (expr_await ∷ expr_field ∷ expr_method_call ∷ expr_try ∷ []) (grouped_by (leftmost_with_dot x a) (λ left. below left Unambiguous)) ∷
    -- expr_binary
    line (expr_binary ∷ []) (binary_left x a l.detail) ∷
    -- expr_break: grouped where it has no label ("Break: 1 labelled") and its value's first token is one
    line (expr_break ∷ []) (subexpr (at_end x a true true Jump) (eqb l.detail 0 && leading_label a)) ∷
    -- expr_call
    line (expr_call ∷ []) (grouped_by (leftmost_with_operator x a true false Unambiguous) (call_needs_group order a)) ∷
    -- expr_cast
    line (expr_cast ∷ []) (grouped_by (leftmost_with_operator x a false false Cast) (λ left. below left Cast)) ∷
    -- expr_closure: the body, which is a plain Block where an output is written (10)
    line (expr_closure ∷ []) (ungrouped (at_end x a false false Jump)) ∷
    -- expr_group
    line (expr_group ∷ []) (neither x a) ∷
    -- expr_index
    line (expr_index ∷ []) (grouped_by (leftmost_with_operator x a true false Unambiguous) (λ left. below left Unambiguous)) ∷
    -- expr_let
    line (expr_let ∷ []) (grouped_by (rightmost_operand x a Let) (λ right. below right Let)) ∷
    -- expr_paren
    line (expr_paren ∷ []) (neither none_context a) ∷
    -- expr_range: the start
    line (expr_range ∷ []) (left_of x a true false ranges) ∷
    -- expr_raw_addr, expr_reference, expr_unary
    line (expr_raw_addr ∷ expr_reference ∷ expr_unary ∷ []) (grouped_by (rightmost_operand x a Prefix) (λ right. below right Prefix)) ∷
    -- expr_return, expr_yield
    line (expr_return ∷ expr_yield ∷ []) (ungrouped (at_end x a true false Jump)) ∷
    []

-- call_args: an item of a list. All other forms have no expression there
unfoldable pub hands_first : CalleeOrder → FixupContext → Tree → Handed
hands_first order x none = neither none_context none
hands_first order x (node l a b) = lookup (first_lines order x l a) (neither none_context a) l.form

-- ---- the operand b at the second place

unfoldable pub second_lines : FixupContext → Label → Tree → List (Line Handed)
second_lines x l b =
    -- expr_assign
    line (expr_assign ∷ []) (right_of x b false assigns) ∷
    -- expr_binary
    line (expr_binary ∷ []) (binary_right x b l.detail) ∷
    -- expr_index: the index
    line (expr_index ∷ []) (neither none_context b) ∷
    -- expr_range: the end
    line (expr_range ∷ []) (right_of x b true ranges) ∷
    []

-- all other forms have no expression there
unfoldable pub hands_second : FixupContext → Tree → Handed
hands_second x none = neither none_context none
hands_second x (node l a b) = lookup (second_lines x l b) (neither none_context b) l.form
