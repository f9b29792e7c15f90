-- `file_columns::put_node` meets its contract. Assumes nothing.
use mathlib.Core.Path.{◌≡◌, ◌∙◌}
use Prim.Native.Nat.{suc, ◌+◌, ◌*◌}
use native.Mathlib.Omega.{arith}
use lib.Dec.{ltb}
use lib.ListN.{length-set}
use Rattle.laws.proofs.Choice.{or_false}
use Rattle.tree.specs.Sizes.{node_cells}
use Rattle.tree.specs.Table.{first_column, second_column}
use Rattle.file_columns.specs.Columns.{operand_in, most_restored}
use Rattle.file_loader.proofs.Storing.{put_six}
use Rattle.file_columns.proofs.put_node.Goals as goal

pub bounds-cells-at-2 : goal.bounds-cells-at-2
bounds-cells-at-2 c = simp length-set (omega arith)

pub bounds-cells-at-3 : goal.bounds-cells-at-3
bounds-cells-at-3 c = simp length-set (omega arith)

pub operand-requires : goal.operand-requires
operand-requires c =
    let s : c.args.index + 1 ≡ suc c.args.index = omega arith in
    rw (c.column_at-3.ensures, s) (or_false _ _ c.requires.index_value).0

pub bounds-cells-at-4 : goal.bounds-cells-at-4
bounds-cells-at-4 c = simp length-set (omega arith)

pub operand-requires-2 : goal.operand-requires-2
operand-requires-2 c =
    let s : c.args.index + 1 ≡ suc c.args.index = omega arith in
    rw (c.column_at-4.ensures, s) (or_false (ltb most_restored (operand_in c.args.count c.args.held.now first_column (suc c.args.index))) _ c.requires.index_value).1

pub bounds-cells-at-5 : goal.bounds-cells-at-5
bounds-cells-at-5 c = simp length-set (omega arith)

pub bounds-cells-at-6 : goal.bounds-cells-at-6
bounds-cells-at-6 c = simp length-set (omega arith)

pub returns : goal.returns
returns c =
    let s : c.args.index + 1 ≡ suc c.args.index = omega arith in
    let v : c.operand.result ≡ operand_in c.args.count c.args.held.now first_column (suc c.args.index) = c.operand.ensures ∙ rw (c.column_at-3.ensures, s) in
    let w : c.operand-2.result ≡ operand_in c.args.count c.args.held.now second_column (suc c.args.index) = c.operand-2.ensures ∙ rw (c.column_at-4.ensures, s) in
    rw (← c.column_at.ensures, ← c.column_at-2.ensures, ← v, ← w, ← c.column_at-5.ensures)
    (put_six c.args.cells.now (node_cells * c.args.index) c.args.form c.column_at.result c.column_at-2.result c.operand.result c.operand-2.result c.column_at-5.result)
