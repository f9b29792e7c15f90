-- `sheet_edit::is_deep` meets its contract. Assumes nothing.
use mathlib.Core.Path.{sym}
use native.Mathlib.Omega.{arith}
use borrow.Author.Rules.{rules}
use borrow.Author.Tests.{lt-ltb, le-ltb}
use Rattle.laws.proofs.Calls.{free}
use Rattle.tree.specs.Sizes.{most_levels}
use Rattle.tree.specs.Trees.{tree_at, levels}
use Rattle.tree.proofs.Unfold.{levels_most}
use Rattle.tree_numbering.specs.Replaced.{replaced_at}
use Rattle.sheet_edit.proofs.Results.{levels_bound}
use Rattle.sheet_edit.proofs.is_deep.Goals as goal

pub returns-then-table-second-le-MOST_LEVELS : goal.returns-then-table-second-le-MOST_LEVELS
returns-then-table-second-le-MOST_LEVELS c =
    let s = tree_at c.args.second.now.cells.now c.args.second.now.count 1 in
    let m = levels_most c.args.second.now.cells.now c.args.second.now.count 1 in
    let b = levels_bound c.args.table.now.cells.now c.args.table.now.count c.args.place s 1 in
    let h = c.if-table-second-le-MOST_LEVELS.true in
    sym (le-ltb most_levels (levels (replaced_at c.args.table.now.cells.now c.args.table.now.count c.args.place s 1)) (omega arith))

pub levels_edited-requires : goal.levels_edited-requires
levels_edited-requires c =
    let m = levels_most c.args.second.now.cells.now c.args.second.now.count 1 in
    (c.requires.0, omega (arith, c.requires.1), c.levels_at-deep.ensures)
