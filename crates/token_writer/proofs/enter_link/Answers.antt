-- `token_writer::enter_link` meets its contract. Assumes nothing.
use mathlib.Core.Path.{ap, ◌∙◌}
use native.Mathlib.Omega.{arith}
use Rattle.tree.specs.Trees.{operand_of}
use Rattle.token_writer.proofs.Shapes.{link_last, link_more}
use Rattle.token_writer.proofs.Turns.{four_free}
use Rattle.token_writer.proofs.enter_link.Goals as goal

pub at_cell-requires : goal.at_cell-requires
at_cell-requires c = (c.requires.3, omega (arith, c.requires.2, c.requires.4), omega arith)

pub at_cell-requires-2 : goal.at_cell-requires-2
at_cell-requires-2 c = (c.requires.3, omega (arith, c.requires.2, c.requires.4), omega arith)

pub push-requires : goal.push-requires
push-requires c = let f = four_free c.args.table.now.cells.now c.args.table.now.count c.args.node c.args.here c.requires.3 c.requires.4 _ _ c.requires.1 in omega arith

pub returns-then-second-eq0 : goal.returns-then-second-eq0
returns-then-second-eq0 c = link_last c.args.table.now.cells.now c.args.table.now.count c.args.node c.args.here c.requires.0 c.requires.3 c.requires.4 (omega arith) c.requires.5 c.args.stack.now c.args.depth c.requires.1 _ _ (c.operand_of-first.ensures ∙ ap (operand_of c.args.table.now.count c.args.node) c.at_cell.ensures) (c.operand_of-second.ensures ∙ ap (operand_of c.args.table.now.count c.args.node) c.at_cell-2.ensures) c.if-second-eq0.true _ c.push.ensures.0 _ c.push.ensures.1 c.args.at

pub lay_three-requires : goal.lay_three-requires
lay_three-requires c = let f = four_free c.args.table.now.cells.now c.args.table.now.count c.args.node c.args.here c.requires.3 c.requires.4 _ _ c.requires.1 in (omega arith, omega arith)

pub returns : goal.returns
returns c = link_more c.args.table.now.cells.now c.args.table.now.count c.args.node c.args.here c.requires.0 c.requires.3 c.requires.4 (omega arith) c.requires.5 c.args.stack.now c.args.depth c.requires.1 _ _ (c.operand_of-first.ensures ∙ ap (operand_of c.args.table.now.count c.args.node) c.at_cell.ensures) (c.operand_of-second.ensures ∙ ap (operand_of c.args.table.now.count c.args.node) c.at_cell-2.ensures) (λ e. omega arith) _ c.lay_three.ensures.0 _ c.lay_three.ensures.1 c.args.at
