-- `token_writer::enter_other` meets its contract. Assumes nothing.
use native.Mathlib.Omega.{arith}
use Rattle.token_writer.proofs.Turns.{turned_node, room_before, open_cells, before_cells, four_free}
use Rattle.token_writer.proofs.enter_other.Goals as goal

pub put-open-requires : goal.put-open-requires
put-open-requires c =
    let r = room_before c.args.table.now.cells.now c.args.table.now.count c.args.node c.args.here (omega arith) (omega arith) _ _ c.requires.2 in
    rw (open_cells c.args.table.now.cells.now c.args.table.now.count c.args.node c.args.here (omega arith) (omega arith) _ c.needs_pair-pair.ensures _ c.one_if.ensures c.symbol-symbol.result) (omega arith)

pub put-next-requires : goal.put-next-requires
put-next-requires c =
    let r = room_before c.args.table.now.cells.now c.args.table.now.count c.args.node c.args.here (omega arith) (omega arith) _ _ c.requires.2 in
    let p = rw (open_cells c.args.table.now.cells.now c.args.table.now.count c.args.node c.args.here (omega arith) (omega arith) _ c.needs_pair-pair.ensures _ c.one_if.ensures c.symbol-symbol.result) at c.put-open.ensures in
    rw (before_cells c.args.table.now.cells.now c.args.table.now.count c.args.node _ c.symbol-symbol.ensures _ c.signs_at-signs.ensures) (omega (arith, p.ends, p.room))

pub wait-top-requires : goal.wait-top-requires
wait-top-requires c = four_free c.args.table.now.cells.now c.args.table.now.count c.args.node c.args.here (omega arith) (omega arith) _ _ c.requires.1

pub returns : goal.returns
returns c =
    let p = rw (open_cells c.args.table.now.cells.now c.args.table.now.count c.args.node c.args.here (omega arith) (omega arith) _ c.needs_pair-pair.ensures _ c.one_if.ensures c.symbol-symbol.result) at c.put-open.ensures in
    let q = rw (before_cells c.args.table.now.cells.now c.args.table.now.count c.args.node _ c.symbol-symbol.ensures _ c.signs_at-signs.ensures) at c.put-next.ensures in
    turned_node c.args.table.now.cells.now c.args.table.now.count c.args.node c.args.here c.requires.0 (omega arith) (omega arith) (omega arith) _ _ c.requires.1 _ (rw (← c.needs_pair-pair.ensures) c.wait-top.ensures.0) _ _ _ _ _ _ _ _ p q c.wait-top.ensures.1
    (rw (← c.needs_pair-pair.ensures) c.from.ensures)
