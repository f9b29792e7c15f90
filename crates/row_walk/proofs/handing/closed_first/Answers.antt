-- `row_walk::handing::closed_first` meets its contract. Assumes nothing.
use mathlib.Core.Path.{refl, ap, ◌∙◌}
use mathlib.Core.Bool.{true, false}
use mathlib.Core.Logic.{inl, inr}
use native.Mathlib.Omega.{arith}
use Rattle.std.specs.Prelude.{◌≡◌, ℕ, Option, Some, None, IfSome}
use Rattle.laws.specs.Choice.{pick, lookup}
use Rattle.tree.specs.Table.{detail_at}
use Rattle.tree.specs.Trees.{label_at, tree_at}
use Rattle.precedence.specs.declared.Precedence.TheVariants.{Assign, Range, Cast, Prefix, Unambiguous}
use Rattle.precedence.specs.declared.Lean.TheVariants.{Right, Neither}
use Rattle.precedence.specs.Precedences.{below, binop_binding, of_binop}
use Rattle.expr.specs.Expr.{left_needs_group, can_begin_expr, can_begin_generics, binary_left, call_needs_group, first_lines}
use Rattle.expr.specs.declared.order.CalleeOrder.{CalleeOrder}
use Rattle.expr.specs.Handed.{grouped_by}
use Rattle.expr.specs.Steps.{given_first}
use Rattle.fixup_subexpression.specs.Subexpressions.{leftmost_with_operator}
use Rattle.row_pack.specs.Packs.{unpacked_of}
use Rattle.row.specs.Hands.{hand_of}
use Rattle.row_walk.proofs.Settled.{binop_looser, left_grouped, dot_grouped, right_grouped, alone_settled, first_arm}
use Rattle.row_walk.proofs.handing.closed_first.Goals as goal

pub returns-in-ExprAssign : goal.returns-in-ExprAssign
unfolding first_lines label_at lookup pick left_needs_group
returns-in-ExprAssign c order =
    c.left_hand.ensures
    ∙ left_grouped _ c.requires.0 _ c.requires.1 (left_needs_group Right Assign) refl false false Assign
    ∙ ap hand_of (first_arm _ _ _ _ _ c.in_ok-form.ensures c.in-ExprAssign.is order _ _)

pub returns-in-ExprAwait : goal.returns-in-ExprAwait
unfolding first_lines label_at lookup pick
returns-in-ExprAwait c order =
    c.left_hand-in-ExprAwait.ensures
    ∙ dot_grouped _ c.requires.0 _ c.requires.1 (λ left. below left Unambiguous) refl
    ∙ ap hand_of
    (elim c.in-ExprAwait.is [
      | inl e ↦ first_arm _ _ _ _ _ c.in_ok-form.ensures e order _ _
      | inr f ↦
          elim f [
            | inl e ↦ first_arm _ _ _ _ _ c.in_ok-form.ensures e order _ _
            | inr g ↦
                elim g [
                  | inl e ↦ first_arm _ _ _ _ _ c.in_ok-form.ensures e order _ _
                  | inr e ↦ first_arm _ _ _ _ _ c.in_ok-form.ensures e order _ _
                ]
          ]
    ])

pub returns-in-ExprBinary : goal.returns-in-ExprBinary
unfolding first_lines label_at lookup pick binary_left of_binop
returns-in-ExprBinary c order =
    let op = detail_at c.args.table.now.cells.now c.args.node in
    let o = binop_binding op in
    c.left_hand-in-ExprBinary.ensures
    ∙ rw (c.of_binop.ensures, c.operator_flags.ensures, c.detail-op.ensures)
    (left_grouped _ c.requires.0 _ c.requires.1 (left_needs_group o.lean o.level) (binop_looser op).left_free (can_begin_expr op) (can_begin_generics op) o.level
    ∙ ap hand_of (first_arm _ _ _ _ _ c.in_ok-form.ensures c.in-ExprBinary.is order _ _))

pub returns-in-ExprCast : goal.returns-in-ExprCast
unfolding first_lines label_at lookup pick
returns-in-ExprCast c order =
    c.left_hand-in-ExprCast.ensures
    ∙ left_grouped _ c.requires.0 _ c.requires.1 (λ left. below left Cast) refl false false Cast
    ∙ ap hand_of (first_arm _ _ _ _ _ c.in_ok-form.ensures c.in-ExprCast.is order _ _)

pub returns-in-ExprIndex : goal.returns-in-ExprIndex
unfolding first_lines label_at lookup pick
returns-in-ExprIndex c order =
    c.left_hand-in-ExprIndex.ensures
    ∙ left_grouped _ c.requires.0 _ c.requires.1 (λ left. below left Unambiguous) refl true false Unambiguous
    ∙ ap hand_of (first_arm _ _ _ _ _ c.in_ok-form.ensures c.in-ExprIndex.is order _ _)

pub returns-in-ExprParen : goal.returns-in-ExprParen
unfolding first_lines label_at lookup pick
returns-in-ExprParen c order =
    alone_settled _ c.requires.1
    ∙ ap hand_of (first_arm _ _ _ _ _ c.in_ok-form.ensures c.in-ExprParen.is order _ _)

pub returns-in-ExprRange : goal.returns-in-ExprRange
unfolding first_lines label_at lookup pick left_needs_group
returns-in-ExprRange c order =
    c.left_hand-in-ExprRange.ensures
    ∙ left_grouped _ c.requires.0 _ c.requires.1 (left_needs_group Neither Range) refl true false Range
    ∙ ap hand_of (first_arm _ _ _ _ _ c.in_ok-form.ensures c.in-ExprRange.is order _ _)

pub returns-in-ExprRawAddr : goal.returns-in-ExprRawAddr
unfolding first_lines label_at lookup pick
returns-in-ExprRawAddr c order =
    c.right_hand.ensures
    ∙ right_grouped _ c.requires.0 _ c.requires.1 (λ right. below right Prefix) refl Prefix (omega arith)
    ∙ ap hand_of
    (elim c.in-ExprRawAddr.is [
      | inl e ↦ first_arm _ _ _ _ _ c.in_ok-form.ensures e order _ _
      | inr f ↦
          elim f [
            | inl e ↦ first_arm _ _ _ _ _ c.in_ok-form.ensures e order _ _
            | inr e ↦ first_arm _ _ _ _ _ c.in_ok-form.ensures e order _ _
          ]
    ])

pub returns-in-ExprCall : goal.returns-in-ExprCall
unfolding first_lines label_at lookup pick
returns-in-ExprCall c = go c.callee_hand.result c.callee_hand.ensures
  where
    go : (r : Option ℕ)
        → IfSome r (λ hand. (order : CalleeOrder) → hand ≡ hand_of (grouped_by (leftmost_with_operator (unpacked_of c.args.own) (tree_at c.args.table.now.cells.now c.args.table.now.count c.args.operand) true false Unambiguous) (call_needs_group order (tree_at c.args.table.now.cells.now c.args.table.now.count c.args.operand))))
        → IfSome r (λ hand. (order : CalleeOrder) → hand ≡ hand_of (given_first order (unpacked_of c.args.own) (tree_at c.args.table.now.cells.now c.args.table.now.count c.args.node) (tree_at c.args.table.now.cells.now c.args.table.now.count c.args.operand)))
    go None e = e
    go (Some n) e = λ order. e order ∙ ap hand_of (first_arm _ _ _ _ _ c.in_ok-form.ensures c.in-ExprCall.is order _ _)
