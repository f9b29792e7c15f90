-- `row_walk::handing::callee_hand` meets its contract. Assumes nothing.
use mathlib.Core.Path.{sym, ◌∙◌}
use mathlib.Core.Bool.{true, false}
use Rattle.tree.specs.Trees.{tree_at}
use Rattle.precedence.specs.declared.Precedence.TheVariants.{Unambiguous}
use Rattle.expr.specs.Expr.{call_needs_group}
use Rattle.row_walk.proofs.Settled.{left_grouped, called}
use Rattle.row_walk.proofs.handing.callee_hand.Goals as goal

pub returns : goal.returns
returns c order =
    let t = tree_at c.args.table.now.cells.now c.args.table.now.count c.args.func in
    c.left_hand.ensures
    ∙ left_grouped c.args.own c.requires.0 t c.requires.1 (call_needs_group order t) (called order t c.requires.1 (sym c.if-is_field.false ∙ c.is_field.ensures)) true false Unambiguous
