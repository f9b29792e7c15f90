-- `tree_numbering::accepted::measure` meets its contract. The loop's invariant: the array holds the sizes at the nodes above the one that it has come to. Assumes nothing.
use mathlib.Core.Path.{◌≡◌, refl, ◌∙◌}
use Prim.Native.Nat.{◌+◌, ◌-◌, ◌≤◌}
use native.Mathlib.Omega.{arith}
use borrow.Author.Rules.{rules}
use lib.ListN.{length, length-set}
use Rattle.tree.specs.Table.{first_column, second_column}
use Rattle.tree_one_pass.proofs.Fine.{cell_other}
use Rattle.tree_numbering.specs.Passes.{Measured}
use Rattle.tree_numbering.proofs.Spans.{first_read, second_read, cells_read, measured_none, span_most, measured_more}
use Rattle.tree_numbering.proofs.accepted.measure.Goals as goal

pub loop-done-init : goal.loop-done-init
loop-done-init c = (refl, measured_none 0 _ _ c.requires.0 c.args.spans.now c.requires.1)

pub bounds-table-cells : goal.bounds-table-cells
bounds-table-cells c =
    let k = cells_read 0 _ _ c.requires.0 (c.loop-done.done - 1) (omega arith) in
    omega (arith, k)

pub bounds-table-cells-in-loop-done : goal.bounds-table-cells-in-loop-done
bounds-table-cells-in-loop-done c =
    let k = cells_read 0 _ _ c.requires.0 (c.loop-done.done - 1) (omega arith) in
    omega (arith, k)

pub bounds-spans-first : goal.bounds-spans-first
bounds-spans-first c =
    let f = first_read 0 _ _ c.requires.0 (c.loop-done.done - 1) (omega arith) in
    rw (c.from-first.ensures, c.from-cells.ensures) (omega (arith, f, c.loop-done.invariant.1.room))

pub bounds-spans-second : goal.bounds-spans-second
bounds-spans-second c =
    let f = second_read 0 _ _ c.requires.0 (c.loop-done.done - 1) (omega arith) in
    rw (c.from-second.ensures, c.from-cells.ensures) (omega (arith, f, c.loop-done.invariant.1.room))

pub overflow_add-spans : goal.overflow_add-spans
overflow_add-spans c =
    let k = cells_read 0 _ _ c.requires.0 (c.loop-done.done - 1) (omega arith) in
    let e = cell_other c.args.table.now.cells.now c.loop-done.done first_column (omega arith) in
    let m = span_most 0 _ _ c.requires.0 _ _ c.loop-done.invariant.1 c.loop-done.done (omega arith) (omega arith) (omega arith) in
    rw (c.from-first.ensures, c.from-cells.ensures, e) (omega (arith, k, m))

pub overflow_add-spans-in-loop-done : goal.overflow_add-spans-in-loop-done
overflow_add-spans-in-loop-done c =
    let k = cells_read 0 _ _ c.requires.0 (c.loop-done.done - 1) (omega arith) in
    let e = cell_other c.args.table.now.cells.now c.loop-done.done first_column (omega arith) in
    let f = cell_other c.args.table.now.cells.now c.loop-done.done second_column (omega arith) in
    let m = span_most 0 _ _ c.requires.0 _ _ c.loop-done.invariant.1 c.loop-done.done (omega arith) (omega arith) (omega arith) in
    rw (c.from-second.ensures, c.from-first.ensures, c.from-cells.ensures, e, f) (omega (arith, k, m))

pub loop-done-preserved : goal.loop-done-preserved
loop-done-preserved c =
    let s : c.loop-done.done - 1 + 1 ≡ c.loop-done.done = omega arith in
    let e = cell_other c.args.table.now.cells.now c.loop-done.done first_column (omega arith) in
    let f = cell_other c.args.table.now.cells.now c.loop-done.done second_column (omega arith) in
    rw (c.from-second.ensures, c.from-first.ensures, c.from-cells.ensures, c.from.ensures, s) (
      simp length-set (simp length-set at c.loop-done.invariant.0),
      measured_more 0 _ _ c.requires.0 c.loop-done.done _ c.loop-done.invariant.1 (omega arith) (omega arith) _ (rw (e, f)),
    )
