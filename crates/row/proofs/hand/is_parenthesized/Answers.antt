-- `row::hand::is_parenthesized` meets its contract. Assumes nothing.
use mathlib.Core.Path.{sym, ◌∙◌}
use Rattle.tree.specs.Trees.{tree_at}
use Rattle.row.proofs.Quiet.{quiet, no_parentheses}
use Rattle.row.proofs.hand.is_parenthesized.Goals as goal

pub returns-then-is_quiet : goal.returns-then-is_quiet
returns-then-is_quiet c = sym (no_parentheses _ (quiet _ (sym c.is_quiet.ensures ∙ c.if-is_quiet.true)) (tree_at c.args.table.now.cells.now c.args.table.now.count c.args.node))
