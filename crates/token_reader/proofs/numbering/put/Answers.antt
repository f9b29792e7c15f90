-- `token_reader::numbering::put` meets its contract. Assumes nothing.
use native.Mathlib.Omega.{arith}
use Prim.Native.Nat.{◌*◌, ◌-◌}
use lib.ListN.{length-set}
use Rattle.tree.specs.Sizes.{node_cells}
use Rattle.tree.specs.Table.{attributes_column, detail_column, symbol_column}
use Rattle.tree_one_pass.proofs.Fine.{cell_form, cell_other}
use Rattle.tree_numbering.proofs.Stores.{six_stores}
use Rattle.token_reader.proofs.numbering.put.Goals as goal

pub bounds-out-to-2 : goal.bounds-out-to-2
bounds-out-to-2 c = simp length-set (omega arith)

pub bounds-out-to-3 : goal.bounds-out-to-3
bounds-out-to-3 c = simp length-set (omega arith)

pub bounds-out-to-4 : goal.bounds-out-to-4
bounds-out-to-4 c = simp length-set (omega arith)

pub bounds-out-to-5 : goal.bounds-out-to-5
bounds-out-to-5 c = simp length-set (omega arith)

pub bounds-out-to-6 : goal.bounds-out-to-6
bounds-out-to-6 c = simp length-set (omega arith)

pub returns : goal.returns
returns c = rw (cell_form c.args.own.now c.args.node c.requires.0, cell_other c.args.own.now c.args.node attributes_column c.requires.0, cell_other c.args.own.now c.args.node detail_column c.requires.0, cell_other c.args.own.now c.args.node symbol_column c.requires.0) (six_stores c.args.out.now (node_cells * (c.args.number - 1)) _ _ _ _ _ _)
