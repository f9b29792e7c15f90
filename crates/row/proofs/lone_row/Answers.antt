-- `row::lone_row` meets its contract. Assumes nothing.
use mathlib.Core.Path.{refl, sym, ap, ◌∙◌}
use mathlib.Core.Bool.{false}
use Rattle.tree.specs.Trees.{tree_at}
use Rattle.precedence.specs.declared.Precedence.TheVariants.{Unambiguous}
use Rattle.fixup.specs.declared.context.FixupContext.{FixupContext}
use Rattle.fixup.specs.Contexts.{none_context}
use Rattle.fixup.specs.Fixup.{effective}
use Rattle.row.proofs.Decisions.{lone_by}
use Rattle.row.proofs.Closed.{closed_inner, closed_effective}
use Rattle.row.proofs.lone_row.Goals as goal

pub returns-then-is_closed : goal.returns-then-is_closed
returns-then-is_closed c =
    let t = tree_at c.args.table.now.cells.now c.args.table.now.count c.args.node in
    let e = sym c.is_closed.ensures ∙ c.if-is_closed.true in
    lone_by t Unambiguous (sym (closed_effective t e none_context)) false (sym (closed_inner t e)) 0 refl _ c.row_in_none.ensures

pub returns : goal.returns
returns c =
    let t = tree_at c.args.table.now.cells.now c.args.table.now.count c.args.node in
    lone_by t _ (c.precedence-precedence.ensures ∙ ap (λ (x : FixupContext). effective x t) c.none-none.ensures) _ c.has_inner_pair-inner.ensures _ c.pair.ensures _ c.row_in_none-2.ensures
