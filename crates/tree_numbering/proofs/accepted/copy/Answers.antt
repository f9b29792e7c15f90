-- `tree_numbering::accepted::copy` meets its contract. The loop's invariant: the nodes up to the one that it has come to are stored, and their operands have their numbers. Assumes nothing.
use mathlib.Core.Path.{◌≡◌, refl, sym, ap, ◌∙◌}
use Prim.Native.Nat.{suc, ◌-◌, ◌≤◌}
use native.Mathlib.Omega.{arith}
use borrow.Author.Rules.{rules}
use lib.ListN.{length}
use lib.Seq.{length-sets}
use Rattle.tree.specs.Table.{cell_at}
use Rattle.tree_numbering.proofs.Spans.{first_read, second_read, cells_read, first_span, span_most}
use Rattle.tree_numbering.proofs.InOrder.{Copying, copy_none, copy_more, copy_stopped, copy_whole}
use Rattle.tree_numbering.proofs.accepted.copy.Goals as goal

pub bounds-table-cells : goal.bounds-table-cells
bounds-table-cells c =
    let k = cells_read 0 _ _ c.requires.0 c.loop-done.done (omega arith) in
    omega arith

pub bounds-table-cells-in-loop-done : goal.bounds-table-cells-in-loop-done
bounds-table-cells-in-loop-done c =
    let k = cells_read 0 _ _ c.requires.0 c.loop-done.done (omega arith) in
    omega arith

pub bounds-spans-from : goal.bounds-spans-from
bounds-spans-from c =
    let f = first_read 0 _ _ c.requires.0 c.loop-done.done (omega arith) in
    rw (c.from.ensures, c.from-cells.ensures) (omega (arith, f, c.requires.1.room))

pub overflow_add-after-in-loop-done : goal.overflow_add-after-in-loop-done
unfolding cell_at
overflow_add-after-in-loop-done c =
    let k = cells_read 0 _ _ c.requires.0 c.loop-done.done (omega arith) in
    let m = span_most 0 _ _ c.requires.0 _ _ c.requires.1 (suc c.loop-done.done) (omega arith) (omega arith) (omega arith) in
    rw (c.from.ensures, c.from-cells.ensures) (omega (arith, k, m))

pub number_after-requires : goal.number_after-requires
number_after-requires c =
    let k = cells_read 0 _ _ c.requires.0 c.loop-done.done (omega arith) in
    omega arith

pub returns-then-number_after-first : goal.returns-then-number_after-first
returns-then-number_after-first c = copy_stopped 0 _ _ c.requires.0 c.loop-done.done _ _ c.loop-done.invariant.1 c.requires.2 (omega arith)

pub number_after-requires-in-loop-done : goal.number_after-requires-in-loop-done
unfolding cell_at
number_after-requires-in-loop-done c =
    let k = cells_read 0 _ _ c.requires.0 c.loop-done.done (omega arith) in
    let m = span_most 0 _ _ c.requires.0 _ _ c.requires.1 (suc c.loop-done.done) (omega arith) (omega arith) (omega arith) in
    rw (c.from.ensures, c.from-cells.ensures) (omega (arith, k, m))

pub returns-then-number_after-second : goal.returns-then-number_after-second
returns-then-number_after-second c = copy_stopped 0 _ _ c.requires.0 c.loop-done.done _ _ c.loop-done.invariant.1 c.requires.2 (omega arith)

pub loop-done-preserved : goal.loop-done-preserved
unfolding cell_at
loop-done-preserved c =
    let after = rw c.from-cells.ensures at c.number_after.ensures in
    let first = rw c.from-cells.ensures at c.if-number_after-first.false in
    let behind = rw (c.from.ensures, c.from-cells.ensures) at c.number_after-in-loop-done.ensures in
    let second = rw c.from-cells.ensures at c.if-number_after-second.false in
    let stored = rw c.from-cells.ensures at c.store.ensures in (
      ap length c.store.ensures ∙ simp length-sets c.loop-done.invariant.0,
      copy_more 0 _ _ c.requires.0 c.loop-done.done _ _ c.loop-done.invariant.1 c.requires.2 (omega arith) _ _ refl refl _ (first_span 0 _ _ c.requires.0 _ _ c.requires.1 (suc c.loop-done.done) (omega arith) (omega arith) (omega arith)) _ after first _ behind second _ stored,
    )

pub returns : goal.returns
returns c = copy_whole 0 _ _ c.requires.0 c.loop-done.done _ _ c.loop-done.invariant.1 c.requires.2 (omega arith)
