-- `token_writer::enter_binary` meets its contract. Assumes nothing.
use mathlib.Core.Path.{ap, ◌∙◌}
use native.Mathlib.Omega.{arith}
use Rattle.tree.specs.Trees.{operand_of}
use Rattle.token_writer.proofs.Shapes.{pair_room, small_code, doubled, binary_pair, binary_plain}
use Rattle.token_writer.proofs.Turns.{four_free}
use Rattle.token_writer.proofs.enter_binary.Goals as goal

pub at_cell-detail-requires : goal.at_cell-detail-requires
at_cell-detail-requires c = (c.requires.4, omega (arith, c.requires.3, c.requires.5), omega arith)

pub at_cell-requires : goal.at_cell-requires
at_cell-requires c = (c.requires.4, omega (arith, c.requires.3, c.requires.5), omega arith)

pub at_cell-requires-2 : goal.at_cell-requires-2
at_cell-requires-2 c = (c.requires.4, omega (arith, c.requires.3, c.requires.5), omega arith)

pub put_code-next-requires : goal.put_code-next-requires
put_code-next-requires c = pair_room c.args.table.now.cells.now c.args.table.now.count c.args.node c.args.here c.requires.4 c.requires.5 _ _ (doubled c.args.table.now.cells.now c.args.table.now.count c.args.node c.args.here c.requires.0 c.requires.4 c.requires.5 (omega arith) c.requires.6 c.args.stack.now c.args.depth c.requires.1 _ c.at_cell-detail.ensures _ c.operator_code-code.ensures _ _ (c.operand_of-first.ensures ∙ ap (operand_of c.args.table.now.count c.args.node) c.at_cell.ensures) (c.operand_of-second.ensures ∙ ap (operand_of c.args.table.now.count c.args.node) c.at_cell-2.ensures) _ c.level_of.ensures.0 c.if-level_of-here.true) c.requires.2

pub overflow_add-push : goal.overflow_add-push
overflow_add-push c = record { fits = omega arith }

pub push-one-requires : goal.push-one-requires
push-one-requires c = let f = four_free c.args.table.now.cells.now c.args.table.now.count c.args.node c.args.here c.requires.4 c.requires.5 _ _ c.requires.1 in omega arith

pub lay_three-top-requires : goal.lay_three-top-requires
lay_three-top-requires c =
    let f = four_free c.args.table.now.cells.now c.args.table.now.count c.args.node c.args.here c.requires.4 c.requires.5 _ _ c.requires.1 in
    (omega (arith, c.push-one.ensures.1, c.push-one.ensures.2), small_code c.args.table.now.cells.now c.args.table.now.count c.args.node c.args.here c.requires.0 c.requires.4 c.requires.5 (omega arith) c.requires.6 c.args.stack.now c.args.depth c.requires.1 _ c.at_cell-detail.ensures _ c.operator_code-code.ensures _ _ (c.operand_of-first.ensures ∙ ap (operand_of c.args.table.now.count c.args.node) c.at_cell.ensures) (c.operand_of-second.ensures ∙ ap (operand_of c.args.table.now.count c.args.node) c.at_cell-2.ensures) _ c.level_of.ensures.0)

pub returns-then-level_of-here : goal.returns-then-level_of-here
returns-then-level_of-here c = binary_pair c.args.table.now.cells.now c.args.table.now.count c.args.node c.args.here c.requires.0 c.requires.4 c.requires.5 (omega arith) c.requires.6 c.args.stack.now c.args.depth c.requires.1 _ c.at_cell-detail.ensures _ c.operator_code-code.ensures _ _ (c.operand_of-first.ensures ∙ ap (operand_of c.args.table.now.count c.args.node) c.at_cell.ensures) (c.operand_of-second.ensures ∙ ap (operand_of c.args.table.now.count c.args.node) c.at_cell-2.ensures) _ c.level_of.ensures.0 c.if-level_of-here.true _ _ c.first_place-ahead.ensures c.second_place-after.ensures _ _ c.push-one.ensures.0 c.push-one.ensures.1 _ c.lay_three-top.ensures.0 _ c.lay_three-top.ensures.1 _ _ _ _ c.put_code-next.ensures

pub lay_three-requires : goal.lay_three-requires
lay_three-requires c =
    let f = four_free c.args.table.now.cells.now c.args.table.now.count c.args.node c.args.here c.requires.4 c.requires.5 _ _ c.requires.1 in
    (omega arith, small_code c.args.table.now.cells.now c.args.table.now.count c.args.node c.args.here c.requires.0 c.requires.4 c.requires.5 (omega arith) c.requires.6 c.args.stack.now c.args.depth c.requires.1 _ c.at_cell-detail.ensures _ c.operator_code-code.ensures _ _ (c.operand_of-first.ensures ∙ ap (operand_of c.args.table.now.count c.args.node) c.at_cell.ensures) (c.operand_of-second.ensures ∙ ap (operand_of c.args.table.now.count c.args.node) c.at_cell-2.ensures) _ c.level_of.ensures.0)

pub returns : goal.returns
returns c = binary_plain c.args.table.now.cells.now c.args.table.now.count c.args.node c.args.here c.requires.0 c.requires.4 c.requires.5 (omega arith) c.requires.6 c.args.stack.now c.args.depth c.requires.1 _ c.at_cell-detail.ensures _ c.operator_code-code.ensures _ _ (c.operand_of-first.ensures ∙ ap (operand_of c.args.table.now.count c.args.node) c.at_cell.ensures) (c.operand_of-second.ensures ∙ ap (operand_of c.args.table.now.count c.args.node) c.at_cell-2.ensures) _ c.level_of.ensures.0 c.if-level_of-here.false _ _ c.opens_in-opens.ensures c.condition_in-condition.ensures _ _ c.first_place-ahead-2.ensures c.second_place-after-2.ensures _ c.lay_three.ensures.0 _ c.lay_three.ensures.1 c.args.at c.args.tokens.now
