-- `row_walk::enter_alone` meets its contract. Assumes nothing.
use mathlib.Core.Path.{◌≡◌, sym, ap, ◌∙◌}
use mathlib.Core.Bool.{true, false}
use borrow.Author.Tests.{not-true, not-false}
use Rattle.tree.specs.Trees.{tree_at}
use Rattle.row.specs.declared.Row.{Row}
use Rattle.row.specs.Rows.{is_expression}
use Rattle.row.specs.Steps.{alone}
use Rattle.row_walk.specs.Walk.{row_stored}
use Rattle.row_walk.proofs.Decisions.{row_expression, row_other}
use Rattle.row_walk.proofs.enter_alone.Goals as goal

pub returns-then-is_other : goal.returns-then-is_other
returns-then-is_other c =
    let e : is_expression (tree_at c.args.table.now.cells.now c.args.table.now.count c.args.node) ≡ false = not-true _ (sym c.is_other.ensures ∙ c.if-is_other.true) in
    c.store.ensures ∙ ap (λ (r : Row). row_stored c.args.node r c.args.rows.now) (c.no_row.ensures ∙ row_other (alone _) _ e)

pub returns : goal.returns
returns c =
    let e : is_expression (tree_at c.args.table.now.cells.now c.args.table.now.count c.args.node) ≡ true = not-false _ (sym c.is_other.ensures ∙ c.if-is_other.false) in
    c.store-2.ensures ∙ ap (λ (r : Row). row_stored c.args.node r c.args.rows.now) (c.lone_row.ensures ∙ row_expression (alone _) _ e)
