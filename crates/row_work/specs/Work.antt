-- How many nodes scan_right visits in a whole walk, each as often as it is visited. What is not counted goes down one path: the questions that a visit asks of its node (parenthesize, precedence, scan_left, a leading label), and the walk itself, which comes to each node once.
use Rattle.std.specs.Prelude.{not, ◌||◌, List, [], ◌∷◌, ℕ, ◌+◌}
use Rattle.laws.specs.Choice.{pick, line, lookup}
use Rattle.tree.specs.Forms.{expr_assign, expr_await, expr_binary, expr_break, expr_call, expr_cast, expr_closure, expr_field, expr_index, expr_let, expr_method_call, expr_range, expr_raw_addr, expr_reference, expr_return, expr_try, expr_unary, expr_yield}
use Rattle.tree.specs.Trees.{Label, Tree, none, node, tree_at}
use Rattle.precedence.specs.declared.Precedence.TheVariants as level
use Rattle.precedence.specs.Precedences.{same}
use Rattle.fixup.specs.declared.context.FixupContext.{FixupContext}
use Rattle.fixup_scan.specs.Linear.{right_visits_by, visits}
use Rattle.expr.specs.declared.Handed.{Handed}
use Rattle.expr.specs.declared.order.CalleeOrder.{CalleeOrder}
use Rattle.expr.specs.Expr.{hands_first, hands_second}
use Rattle.row.specs.Rows.{own_context}
use Rattle.row_walk.specs.Walk.{root_handed}

-- leftmost_subexpression_precedence scans after its first test
unfoldable pub left_visits : Tree → FixupContext → ℕ
left_visits t x = pick (not x.next_operator_can_begin_expr || same x.next_operator level.Range) (visits t x level.Jump 0 0) 0

abbrev pub right_visits : Tree → FixupContext → ℕ
right_visits t x = right_visits_by t (visits t) x

-- the precedence of an operand is asked once, by the function that its owner calls (`first_lines` and `second_lines` of crate expr); precedence itself does not scan. t is the operand, x the context that it gets
unfoldable pub first_visits : Label → Tree → FixupContext → ℕ
first_visits l t x =
    lookup
    (line (expr_assign ∷ expr_await ∷ expr_binary ∷ expr_call ∷ expr_cast ∷ expr_field ∷ expr_index ∷ expr_method_call ∷ expr_range ∷ expr_try ∷ []) (left_visits t x) ∷
    line (expr_break ∷ expr_closure ∷ expr_let ∷ expr_raw_addr ∷ expr_reference ∷ expr_return ∷ expr_unary ∷ expr_yield ∷ []) (right_visits t x) ∷
    [])
    0
    l.form

unfoldable pub second_visits : Label → Tree → FixupContext → ℕ
second_visits l t x = lookup (line (expr_assign ∷ expr_binary ∷ expr_range ∷ []) (right_visits t x) ∷ []) 0 l.form

-- the walk goes as `rows_of` of crate row; `own` are the visits for the precedence of the tree's root
unfoldable pub walk_visits : CalleeOrder → ℕ → Handed → Tree → ℕ
walk_visits order own h none = 0
walk_visits order own h (node l a b) =
    let x = own_context h (node l a b) in
    own
    + walk_visits order (first_visits l a (hands_first order x (node l a b)).fixup) (hands_first order x (node l a b)) a
    + walk_visits order (second_visits l b (hands_second x (node l a b)).fixup) (hands_second x (node l a b)) b

-- the visits of `row_walk::decide_by` on an accepted table
abbrev pub decide_visits : CalleeOrder → ℕ → ℕ → List ℕ → ℕ
decide_visits order context count cells = walk_visits order 0 (root_handed context (tree_at cells count 1)) (tree_at cells count 1)
