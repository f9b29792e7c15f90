-- `file_columns::arrange` meets its contract. Assumes nothing.
use native.Mathlib.Omega.{arith}
use Rattle.file_columns.proofs.Arranging.{behind, all_columns}
use Rattle.file_columns.proofs.arrange.Goals as goal

pub put_column-attributes-requires : goal.put_column-attributes-requires
put_column-attributes-requires c = (omega arith, c.requires.1)

pub put_column-detail-requires : goal.put_column-detail-requires
put_column-detail-requires c =
    let l1 = behind c.args.count c.args.cells.now 0 c.put_column-attributes.ensures in
    (omega (arith, c.put_column-attributes.ensures.room), c.requires.1)

pub put_column-first-requires : goal.put_column-first-requires
put_column-first-requires c =
    let l1 = behind c.args.count c.args.cells.now 0 c.put_column-attributes.ensures in
    let l2 = behind c.args.count c.args.cells.now 1 c.put_column-detail.ensures in
    (omega (arith, c.put_column-attributes.ensures.room, c.put_column-detail.ensures.room), c.requires.1)

pub put_column-second-requires : goal.put_column-second-requires
put_column-second-requires c =
    let l1 = behind c.args.count c.args.cells.now 0 c.put_column-attributes.ensures in
    let l2 = behind c.args.count c.args.cells.now 1 c.put_column-detail.ensures in
    let l3 = behind c.args.count c.args.cells.now 2 c.put_column-first.ensures in
    (omega (arith, c.put_column-attributes.ensures.room, c.put_column-detail.ensures.room, c.put_column-first.ensures.room), c.requires.1)

pub put_column-symbol-requires : goal.put_column-symbol-requires
put_column-symbol-requires c =
    let l1 = behind c.args.count c.args.cells.now 0 c.put_column-attributes.ensures in
    let l2 = behind c.args.count c.args.cells.now 1 c.put_column-detail.ensures in
    let l3 = behind c.args.count c.args.cells.now 2 c.put_column-first.ensures in
    let l4 = behind c.args.count c.args.cells.now 3 c.put_column-second.ensures in
    (omega (arith, c.put_column-attributes.ensures.room, c.put_column-detail.ensures.room, c.put_column-first.ensures.room, c.put_column-second.ensures.room), c.requires.1)

pub put_column-requires : goal.put_column-requires
put_column-requires c =
    let l1 = behind c.args.count c.args.cells.now 0 c.put_column-attributes.ensures in
    let l2 = behind c.args.count c.args.cells.now 1 c.put_column-detail.ensures in
    let l3 = behind c.args.count c.args.cells.now 2 c.put_column-first.ensures in
    let l4 = behind c.args.count c.args.cells.now 3 c.put_column-second.ensures in
    let l5 = behind c.args.count c.args.cells.now 4 c.put_column-symbol.ensures in
    (omega (arith, c.put_column-attributes.ensures.room, c.put_column-detail.ensures.room, c.put_column-first.ensures.room, c.put_column-second.ensures.room, c.put_column-symbol.ensures.room), c.requires.1)

pub returns : goal.returns
returns c = all_columns c.args.count c.args.cells.now c.put_column-attributes.ensures c.put_column-detail.ensures c.put_column-first.ensures c.put_column-second.ensures c.put_column-symbol.ensures c.put_column.ensures c.requires.0
