-- `reading::put_table` meets its contract. Assumes nothing.
use Prim.Native.Nat.{◌+◌, ◌*◌}
use native.Mathlib.Omega.{arith}
use Rattle.tree.specs.Sizes.{node_cells}
use Rattle.text.specs.Numbers.{row_line}
use Rattle.text.proofs.Growing.{grown_more, fits}
use Rattle.reading.specs.Text.{table_text}
use Rattle.text.proofs.Rows.{row_most, page_most}
use borrow.Author.Rules.{rules}
use Rattle.reading.proofs.put_table.Goals as goal

pub returns : goal.returns
unfolding table_text
returns c =
    let row = row_most node_cells c.args.table.now (λ i. omega (arith, c.shared_slice_known-1.given i)) in
    let most = page_most (6 * (node_cells + 1)) (row_line node_cells c.args.table.now) row c.args.count (omega (arith, c.requires.0)) in
    fits (omega arith) (grown_more c.put_ok-end.ensures c.put_nodes.ensures)
