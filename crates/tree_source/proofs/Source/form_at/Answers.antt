-- `tree_source::Source::form_at` meets its contract. Assumes nothing.
use mathlib.Core.Path.{sym, ◌∙◌}
use native.Mathlib.Omega.{arith}
use Rattle.laws.proofs.Calls.{free}
use Rattle.tree_source.specs.Source.{skip}
use borrow.Author.Tests.{eqb-true, eqb-false}
use Rattle.tree_source.proofs.Cells.{cells_table, cell_inside, cell_outside, inside}
use Rattle.tree_source.proofs.Source.form_at.Goals as goal

pub returns-then-is_empty : goal.returns-then-is_empty
returns-then-is_empty c = rw (cells_table _ _ (eqb-true _ _ (sym c.is_empty.ensures ∙ c.if-is_empty.true))) c.cell.ensures

pub returns-then-is_outside : goal.returns-then-is_outside
returns-then-is_outside c = cell_outside _ _ (eqb-false _ _ (sym c.is_empty.ensures ∙ c.if-is_empty.false)) _ _ (sym c.is_outside.ensures ∙ c.if-is_outside.true)

pub returns : goal.returns
unfolding skip
returns c = let a = c.args.self.now in
    let i = inside a.held.now c.args.node (sym c.is_outside.ensures ∙ c.if-is_outside.false) in
    c.step-form.ensures.0 ∙ rw c.place_of.ensures (cell_inside a.file.now a.held.now (eqb-false _ _ (sym c.is_empty.ensures ∙ c.if-is_empty.false)) c.args.node 0 i.0 i.1 (omega arith))
