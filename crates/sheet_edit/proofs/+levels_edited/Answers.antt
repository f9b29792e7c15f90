-- `sheet_edit::levels_edited` meets its contract: with each call there are fewer numbers above the node, and none are counted where an operand is absent. Assumes nothing.
use mathlib.Core.Path.{ap, sym, ◌∙◌}
use native.Mathlib.Omega.{arith}
use Rattle.laws.proofs.Calls.{free, given_at, given_below}
use Rattle.tree.specs.Trees.{tree_at, levels}
use Rattle.tree.proofs.Unfold.{left, left_falls}
use Rattle.tree_numbering.proofs.Replaced.{after_zero, after_past, after_here}
use Rattle.sheet_edit.proofs.Results.{none_levels, levels_bound, levels_by}
use Prim.Native.Nat.{ℕ}
use Rattle.sheet_edit.proofs.+levels_edited.Goals as goal

pub returns-then-node-eq0 : goal.returns-then-node-eq0
returns-then-node-eq0 t c =
    let w = c.ranges in
    none_levels c.args.table.now.cells.now c.args.table.now.count c.args.place (tree_at c.args.second.now.cells.now c.args.second.now.count 1) c.args.node (after_zero c.args.table.now.cells.now c.args.table.now.count c.args.place (tree_at c.args.second.now.cells.now c.args.second.now.count 1) c.args.node c.if-node-eq0.true)

pub returns-then-table-node : goal.returns-then-table-node
returns-then-table-node t c =
    let w = c.ranges in
    none_levels c.args.table.now.cells.now c.args.table.now.count c.args.place (tree_at c.args.second.now.cells.now c.args.second.now.count 1) c.args.node (after_past c.args.table.now.cells.now c.args.table.now.count c.args.place (tree_at c.args.second.now.cells.now c.args.second.now.count 1) c.args.node c.if-table-node.true)

pub returns-then-node-place : goal.returns-then-node-place
returns-then-node-place t c =
    let u = c.if-table-node.false in
    let v = c.if-node-eq0.false in
    let w = c.ranges in
    c.requires.2 ∙ sym (ap levels (after_here c.args.table.now.cells.now c.args.table.now.count c.args.place (tree_at c.args.second.now.cells.now c.args.second.now.count 1) c.args.node (omega arith) (omega arith) c.if-node-place.true))

pub levels_edited-one-requires : goal.levels_edited-one-requires
levels_edited-one-requires t c =
    let u = c.if-table-node.false in
    let v = c.if-node-eq0.false in
    let w = c.ranges in
    (rw (← c.decreases, c.operand_number-first.ensures) (left_falls c.args.table.now.count c.args.node _ (omega arith) (omega arith) (omega arith)), c.requires)

pub levels_edited-two-requires : goal.levels_edited-two-requires
levels_edited-two-requires t c =
    let u = c.if-table-node.false in
    let v = c.if-node-eq0.false in
    let w = c.ranges in
    (rw (← c.decreases, c.operand_number-other.ensures) (left_falls c.args.table.now.count c.args.node _ (omega arith) (omega arith) (omega arith)), c.requires)

pub overflow_add-result : goal.overflow_add-result
overflow_add-result t c =
    let u = c.if-table-node.false in
    let v = c.if-node-eq0.false in
    let w = c.ranges in
    let p = c.requires in
    let m = levels_bound c.args.table.now.cells.now c.args.table.now.count c.args.place (tree_at c.args.second.now.cells.now c.args.second.now.count 1) c.args.node in
    let e = levels_by c.args.table.now.cells.now c.args.table.now.count c.args.place (tree_at c.args.second.now.cells.now c.args.second.now.count 1) c.args.node (omega arith) (omega arith) c.if-node-place.false _ c.operand_number-first.ensures _ c.operand_number-other.ensures _ c.levels_edited-one.ensures _ c.levels_edited-two.ensures _ c.own_level.ensures _ c.larger.ensures in
    record { fits = omega arith }

pub returns : goal.returns
returns t c =
    let u = c.if-table-node.false in
    let v = c.if-node-eq0.false in
    let w = c.ranges in
    levels_by c.args.table.now.cells.now c.args.table.now.count c.args.place (tree_at c.args.second.now.cells.now c.args.second.now.count 1) c.args.node (omega arith) (omega arith) c.if-node-place.false _ c.operand_number-first.ensures _ c.operand_number-other.ensures _ c.levels_edited-one.ensures _ c.levels_edited-two.ensures _ c.own_level.ensures _ c.larger.ensures
