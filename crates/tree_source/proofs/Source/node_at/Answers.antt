-- `tree_source::Source::node_at` meets its contract. Assumes nothing.
use mathlib.Core.Path.{sym, ◌∙◌}
use Rattle.laws.proofs.Calls.{free}
use borrow.Author.Tests.{eqb-true, eqb-false}
use Rattle.tree_source.proofs.Cells.{cells_table, inside}
use Rattle.tree_source.proofs.Nodes.{file_node, no_node}
use Rattle.tree_source.proofs.Source.node_at.Goals as goal

pub returns-then-is_empty : goal.returns-then-is_empty
returns-then-is_empty c = rw (cells_table _ _ (eqb-true _ _ (sym c.is_empty.ensures ∙ c.if-is_empty.true))) c.node_in.ensures

pub returns-then-is_outside : goal.returns-then-is_outside
returns-then-is_outside c = no_node _ _ (eqb-false _ _ (sym c.is_empty.ensures ∙ c.if-is_empty.false)) _ (sym c.is_outside.ensures ∙ c.if-is_outside.true)

pub returns : goal.returns
returns c = let a = c.args.self.now in
    let i = inside a.held.now c.args.node (sym c.is_outside.ensures ∙ c.if-is_outside.false) in
    file_node a.file.now a.held.now (eqb-false _ _ (sym c.is_empty.ensures ∙ c.if-is_empty.false)) c.args.node i.0 i.1 _ (rw c.place_of.ensures at c.node_from.ensures)
