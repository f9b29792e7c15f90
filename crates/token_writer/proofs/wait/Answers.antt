-- `token_writer::wait` meets its contract. Assumes nothing.
use mathlib.Core.Path.{ap, ◌∙◌}
use mathlib.Core.Bool.{not, ◌&&◌}
use Rattle.token_writer.proofs.Turns.{wait_laid}
use Rattle.token_writer.proofs.wait.Goals as goal

pub lay-requires : goal.lay-requires
lay-requires c = c.requires

pub returns : goal.returns
returns c = (
  c.lay.ensures.0
      ∙ wait_laid c.args.table.now.cells.now c.args.table.now.count c.args.node c.args.here c.args.pair _ _ c.cell-form.ensures c.detail-detail.ensures _ _
      (c.kept-opens.ensures ∙ ap (λ b. b && not c.args.pair) c.opens_in.ensures)
      (c.kept-condition.ensures ∙ ap (λ b. b && not c.args.pair) c.condition_in.ensures) _ _ _ _ _
      c.operand_number-first.ensures c.operand_number-second.ensures c.first_place-ahead.ensures c.second_place-after.ensures c.last_of.ensures c.args.stack.now c.args.depth,
  c.lay.ensures.1,
)
