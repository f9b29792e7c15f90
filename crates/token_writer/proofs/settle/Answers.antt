-- `token_writer::settle` meets its contract. Assumes nothing.
use mathlib.Core.Path.{refl, ap}
use native.Mathlib.Omega.{arith}
use lib.ListN.{length, length-append}
use Rattle.laws.proofs.Putting.{put_more}
use Rattle.token_writer.proofs.Turns.{between_cells, behind_cells}
use Rattle.token_writer.proofs.settle.Goals as goal

pub put-requires : goal.put-requires
put-requires c = rw (between_cells c.args.table.now.cells.now c.args.table.now.count c.args.node _ c.symbol-symbol.ensures _ c.signs_at-signs.ensures c.args.what c.if-what-eq-BETWEEN.true) c.requires

pub returns-then-what-eq-BETWEEN : goal.returns-then-what-eq-BETWEEN
returns-then-what-eq-BETWEEN c =
    let e = between_cells c.args.table.now.cells.now c.args.table.now.count c.args.node _ c.symbol-symbol.ensures _ c.signs_at-signs.ensures c.args.what c.if-what-eq-BETWEEN.true in
    rw (← e) c.put.ensures

pub put-end-requires : goal.put-end-requires
put-end-requires c =
    let e = ap length (behind_cells c.args.table.now.cells.now c.args.table.now.count c.args.node _ c.symbol-symbol.ensures _ c.signs_at-signs.ensures c.args.what c.if-what-eq-BETWEEN.false _ refl) in
    let f = simp length-append at e in
    omega arith

pub put-requires-2 : goal.put-requires-2
put-requires-2 c =
    let e = ap length (behind_cells c.args.table.now.cells.now c.args.table.now.count c.args.node _ c.symbol-symbol.ensures _ c.signs_at-signs.ensures c.args.what c.if-what-eq-BETWEEN.false _ c.one_if.ensures) in
    let f = simp length-append at e in
    omega (arith, c.put-end.ensures.ends, c.put-end.ensures.room)

pub returns : goal.returns
returns c =
    let e = behind_cells c.args.table.now.cells.now c.args.table.now.count c.args.node _ c.symbol-symbol.ensures _ c.signs_at-signs.ensures c.args.what c.if-what-eq-BETWEEN.false _ c.one_if.ensures in
    rw e (put_more c.put-end.ensures c.put-2.ensures)
