-- `row::decision_of` meets its contract. Assumes nothing.
use mathlib.Core.Path.{◌≡◌, sym, ◌∙◌}
use mathlib.Core.Bool.{◌||◌}
use Rattle.fixup.specs.Fixup.{parenthesize}
use Rattle.tree.specs.Trees.{tree_at}
use Rattle.row.specs.Hands.{handed_of}
use Rattle.row.proofs.Decisions.{decision_by}
use Rattle.row.proofs.decision_of.Goals as goal
use Rattle.row.proofs.decision_of.Goals.{then-is_grouped, else-is_grouped}

pub returns : goal.returns
unfolding handed_of
returns c =
    let h = handed_of c.args.hand in
    let t = tree_at c.args.table.now.cells.now c.args.table.now.count c.args.node in
    let e : c.if-is_grouped.outer ≡ (h.needs_group || parenthesize h.fixup t) =
    elim c.if-is_grouped.branch [
      | then-is_grouped w ↦ rw (w.outer-is, ← c.is_grouped.ensures, w.if-is_grouped.true)
      | else-is_grouped w ↦ rw (w.outer-is, ← c.is_grouped.ensures, w.if-is_grouped.false) w.is_parenthesized-outer.ensures
    ] in
    decision_by h t _ e _ c.has_inner_pair-inner.ensures _ c.pair.ensures _ c.row_of.ensures
