-- `row_walk::handing::closed_second` meets its contract. Assumes nothing.
use mathlib.Core.Path.{refl, ap, ◌∙◌}
use native.Mathlib.Omega.{arith}
use Rattle.laws.specs.Choice.{pick, lookup}
use Rattle.tree.specs.Table.{detail_at}
use Rattle.tree.specs.Trees.{label_at}
use Rattle.precedence.specs.declared.Precedence.TheVariants.{Assign}
use Rattle.precedence.specs.declared.Lean.TheVariants.{Right}
use Rattle.precedence.specs.Precedences.{binop_binding, of_binop}
use Rattle.expr.specs.Expr.{right_needs_group, binary_right, second_lines}
use Rattle.row.specs.Hands.{hand_of}
use Rattle.row_walk.proofs.Settled.{binop_looser, right_grouped, alone_settled, second_arm}
use Rattle.row_walk.proofs.handing.closed_second.Goals as goal

pub returns-in-ExprAssign : goal.returns-in-ExprAssign
unfolding second_lines label_at right_needs_group lookup pick
returns-in-ExprAssign c =
    c.right_hand.ensures
    ∙ right_grouped _ c.requires.0 _ c.requires.1 (right_needs_group Right Assign) refl Assign (omega arith)
    ∙ ap hand_of (second_arm _ _ _ _ _ c.in_ok-form.ensures c.in-ExprAssign.is _ _)

pub returns-in-ExprBinary : goal.returns-in-ExprBinary
unfolding second_lines label_at binary_right of_binop lookup pick
returns-in-ExprBinary c =
    let op = detail_at c.args.table.now.cells.now c.args.node in
    let o = binop_binding op in
    c.right_hand-in-ExprBinary.ensures
    ∙ rw (c.of_binop.ensures, c.detail.ensures)
    (right_grouped _ c.requires.0 _ c.requires.1 (right_needs_group o.lean o.level) (binop_looser op).right_free o.level (binop_looser op).looser
    ∙ ap hand_of (second_arm _ _ _ _ _ c.in_ok-form.ensures c.in-ExprBinary.is _ _))

pub returns-in-ExprIndex : goal.returns-in-ExprIndex
unfolding second_lines label_at lookup pick
returns-in-ExprIndex c =
    alone_settled _ c.requires.1
    ∙ ap hand_of (second_arm _ _ _ _ _ c.in_ok-form.ensures c.in-ExprIndex.is _ _)
