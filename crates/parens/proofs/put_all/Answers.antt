-- `parens::put_all` meets its contract. Assumes nothing.
use Prim.Native.Nat.{◌+◌, ◌*◌}
use native.Mathlib.Omega.{arith}
use Rattle.tree.specs.Sizes.{row_cells}
use Rattle.text.proofs.Growing.{grown_more, fits}
use Rattle.parens.specs.Text.{node_text, all_lines}
use Rattle.text.proofs.Rows.{page_most}
use Rattle.parens.proofs.Lines.{node_most}
use borrow.Author.Rules.{rules}
use Rattle.parens.proofs.put_all.Goals as goal

pub returns : goal.returns
unfolding all_lines
returns c =
    let line = node_most c.args.table.now.count c.args.table.now.cells.now c.args.rows.now (λ i. omega (arith, c.shared_slice_known-1.given i)) in
    let most = page_most (6 * (row_cells + 1)) (node_text c.args.table.now.count c.args.table.now.cells.now c.args.rows.now) line c.args.table.now.count (omega (arith, c.requires.0)) in
    fits (omega arith) (grown_more c.put_ok-end.ensures c.put_lines.ensures)
