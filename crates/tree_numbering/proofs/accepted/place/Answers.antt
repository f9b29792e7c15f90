-- `tree_numbering::accepted::place` meets its contract. The loop's invariant: the operands of the nodes up to the one that it has come to have their numbers, and the cells of those nodes are stored. Assumes nothing.
use mathlib.Core.Path.{◌≡◌, refl, ◌∙◌}
use mathlib.Core.List.{List}
use Prim.Native.Nat.{ℕ, suc, ◌+◌, ◌*◌, ◌-◌, ◌≤◌, ◌<◌}
use native.Mathlib.Omega.{arith}
use borrow.Author.Rules.{rules}
use lib.ListN.{length, get_or, length-set}
use Rattle.tree.specs.Sizes.{node_cells, most_nodes}
use Rattle.tree.specs.Table.{cell_at, first_column, second_column}
use Rattle.tree_rules.specs.Refusals.{Accepted}
use Rattle.tree_rules.proofs.Accepted.{count_bounds}
use Rattle.tree_numbering.specs.Passes.{Measured}
use Rattle.tree_numbering.proofs.Spans.{first_read, second_read, cells_read, first_span, span_most}
use Rattle.tree_numbering.proofs.Placing.{Placed, Filled, placed_none, filled_none, number_range, next_node, all_filled}
use Rattle.tree_numbering.proofs.accepted.place.Goals as goal

-- what is known of the node that the loop has come to: its cells, its operands' numbers, its own, and how many nodes are below it
node_known : (count : ℕ) (table : List ℕ) → Accepted 0 count table → (spans numbers : List ℕ) → Measured table count 0 spans → (done : ℕ) → Placed count table done numbers → done < count
    → (let first = get_or table (node_cells * done + first_column) 0 in
    let second = get_or table (node_cells * done + second_column) 0 in
    (node_cells * done + node_cells ≤ length table) × (count ≤ most_nodes) × (first ≤ count) × (second ≤ count)
    × (1 ≤ get_or numbers (done + 1) 0) × (get_or numbers (done + 1) 0 ≤ count)
    × (1 + get_or spans first 0 + get_or spans second 0 ≤ count))
unfolding cell_at
node_known count table ok spans numbers m done p h =
    let k = cells_read 0 _ _ ok done h in
    let o = number_range 0 _ _ ok done _ p h in
    (k.0, k.1, first_read 0 _ _ ok done h, second_read 0 _ _ ok done h, o.0, o.1, span_most 0 _ _ ok _ _ m (suc done) (omega arith) (omega arith) (omega arith))

pub bounds-numbers-1 : goal.bounds-numbers-1
bounds-numbers-1 c =
    let k = count_bounds 0 _ _ c.requires.0 in
    omega (arith, c.requires.2)

pub loop-done-init : goal.loop-done-init
loop-done-init c = (refl, placed_none 0 _ _ c.requires.0 c.args.numbers.now c.requires.2, filled_none 0 _ _ c.requires.0 _ _)

pub bounds-table-cells : goal.bounds-table-cells
bounds-table-cells c =
    let n = node_known c.args.table.now.count c.args.table.now.cells.now c.requires.0 c.args.spans.now c.loop-done.numbers c.requires.1 c.loop-done.done c.loop-done.invariant.1 c.loop-done-test.true in
    omega arith

pub bounds-table-cells-in-loop-done : goal.bounds-table-cells-in-loop-done
bounds-table-cells-in-loop-done c =
    let n = node_known c.args.table.now.count c.args.table.now.cells.now c.requires.0 c.args.spans.now c.loop-done.numbers c.requires.1 c.loop-done.done c.loop-done.invariant.1 c.loop-done-test.true in
    omega arith

pub bounds-spans-one : goal.bounds-spans-one
bounds-spans-one c =
    let n = node_known c.args.table.now.count c.args.table.now.cells.now c.requires.0 c.args.spans.now c.loop-done.numbers c.requires.1 c.loop-done.done c.loop-done.invariant.1 c.loop-done-test.true in
    rw (c.from-one.ensures, c.from-cells.ensures) (omega (arith, n))

pub overflow_add-after : goal.overflow_add-after
overflow_add-after c =
    let n = node_known c.args.table.now.count c.args.table.now.cells.now c.requires.0 c.args.spans.now c.loop-done.numbers c.requires.1 c.loop-done.done c.loop-done.invariant.1 c.loop-done-test.true in
    rw (c.from-one.ensures, c.from-cells.ensures, c.from.ensures) (omega (arith, n))

pub overflow_add-numbers : goal.overflow_add-numbers
overflow_add-numbers c =
    let n = node_known c.args.table.now.count c.args.table.now.cells.now c.requires.0 c.args.spans.now c.loop-done.numbers c.requires.1 c.loop-done.done c.loop-done.invariant.1 c.loop-done-test.true in
    rw c.from.ensures (omega (arith, n))

pub bounds-numbers-one : goal.bounds-numbers-one
bounds-numbers-one c =
    let n = node_known c.args.table.now.count c.args.table.now.cells.now c.requires.0 c.args.spans.now c.loop-done.numbers c.requires.1 c.loop-done.done c.loop-done.invariant.1 c.loop-done-test.true in
    rw (c.from-one.ensures, c.from-cells.ensures) (omega (arith, n))

pub overflow_add-numbers-in-loop-done : goal.overflow_add-numbers-in-loop-done
overflow_add-numbers-in-loop-done c =
    let n = node_known c.args.table.now.count c.args.table.now.cells.now c.requires.0 c.args.spans.now c.loop-done.numbers c.requires.1 c.loop-done.done c.loop-done.invariant.1 c.loop-done-test.true in
    rw (c.from-one.ensures, c.from-cells.ensures, c.from.ensures) (omega (arith, n))

pub bounds-numbers-two : goal.bounds-numbers-two
bounds-numbers-two c =
    let n = node_known c.args.table.now.count c.args.table.now.cells.now c.requires.0 c.args.spans.now c.loop-done.numbers c.requires.1 c.loop-done.done c.loop-done.invariant.1 c.loop-done-test.true in
    rw (c.from-two.ensures, c.from-cells.ensures) (simp length-set (omega arith))

pub overflow_sub-own : goal.overflow_sub-own
overflow_sub-own c =
    let n = node_known c.args.table.now.count c.args.table.now.cells.now c.requires.0 c.args.spans.now c.loop-done.numbers c.requires.1 c.loop-done.done c.loop-done.invariant.1 c.loop-done-test.true in
    rw c.from.ensures (omega (arith, n))

pub number_after-requires : goal.number_after-requires
number_after-requires c =
    let n = node_known c.args.table.now.count c.args.table.now.cells.now c.requires.0 c.args.spans.now c.loop-done.numbers c.requires.1 c.loop-done.done c.loop-done.invariant.1 c.loop-done-test.true in
    rw c.from.ensures (omega (arith, n))

pub number_after-requires-in-loop-done : goal.number_after-requires-in-loop-done
number_after-requires-in-loop-done c =
    let n = node_known c.args.table.now.count c.args.table.now.cells.now c.requires.0 c.args.spans.now c.loop-done.numbers c.requires.1 c.loop-done.done c.loop-done.invariant.1 c.loop-done-test.true in
    rw (c.from-one.ensures, c.from-cells.ensures, c.from.ensures) (omega (arith, n))

pub store-requires : goal.store-requires
store-requires c =
    let n = node_known c.args.table.now.count c.args.table.now.cells.now c.requires.0 c.args.spans.now c.loop-done.numbers c.requires.1 c.loop-done.done c.loop-done.invariant.1 c.loop-done-test.true in
    rw c.from.ensures (omega (arith, n, c.requires.3))

pub loop-done-preserved : goal.loop-done-preserved
unfolding cell_at
loop-done-preserved c =
    let one = rw (c.from-cells.ensures, c.from.ensures) at c.number_after.ensures in
    let two = rw (c.from-one.ensures, c.from-cells.ensures, c.from.ensures) at c.number_after-in-loop-done.ensures in
    let stored = rw c.from.ensures at c.store.ensures in
    let r = next_node 0 _ _ c.requires.0 c.loop-done.done _ c.loop-done.invariant.1 (omega arith) _ _ c.loop-done.invariant.2 c.requires.3 _ _ _ _ refl refl (first_span 0 _ _ c.requires.0 _ _ c.requires.1 (suc c.loop-done.done) (omega arith) (omega arith) (omega arith)) refl _ _ one two _ stored in
    rw (c.from-two.ensures, c.from-one.ensures, c.from-cells.ensures, c.from.ensures)
    (simp length-set (simp length-set at c.loop-done.invariant.0), r.0, r.1)

pub returns : goal.returns
returns c = all_filled 0 _ _ c.requires.0 c.loop-done.done (omega arith) _ _ _ c.loop-done.invariant.1 c.loop-done.invariant.2 c.requires.3
