-- `token_writer::signs::signs_at` meets its contract. Assumes nothing.
use Rattle.token_writer.proofs.Spelling.{spells_at}
use Rattle.token_writer.proofs.signs.signs_at.Goals as goal

pub returns : goal.returns
returns c = spells_at c.args.table.now.cells.now c.args.table.now.count c.args.node _ _ _ _ c.cell-form.ensures c.detail-detail.ensures c.operand_number-second.ensures c.signs_of.ensures
