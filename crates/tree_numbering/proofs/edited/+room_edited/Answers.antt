-- `tree_numbering::edited::room_edited` meets its contract: with each call there are fewer numbers above the node, and none are counted where an operand is absent. Assumes nothing.
use mathlib.Core.Path.{ap}
use native.Mathlib.Omega.{arith}
use Rattle.laws.proofs.Calls.{free, given_at, given_below}
use Rattle.tree.specs.Trees.{tree_at}
use Rattle.tree.proofs.Unfold.{left, left_falls}
use Rattle.tree_numbering.specs.Numbered.{size}
use Rattle.tree_numbering.proofs.Replaced.{after_zero, after_past, after_here, size_none, size_node}
use Prim.Native.Nat.{ℕ}
use Rattle.tree_numbering.proofs.edited.+room_edited.Goals as goal

pub returns-then-node-eq0 : goal.returns-then-node-eq0
returns-then-node-eq0 t c =
    let e = size_none c.args.table.now.cells.now c.args.table.now.count c.args.place (tree_at c.args.second.now.cells.now c.args.second.now.count 1) c.args.node (after_zero c.args.table.now.cells.now c.args.table.now.count c.args.place (tree_at c.args.second.now.cells.now c.args.second.now.count 1) c.args.node c.if-node-eq0.true) in
    omega arith

pub returns-then-table-node : goal.returns-then-table-node
returns-then-table-node t c =
    let e = size_none c.args.table.now.cells.now c.args.table.now.count c.args.place (tree_at c.args.second.now.cells.now c.args.second.now.count 1) c.args.node (after_past c.args.table.now.cells.now c.args.table.now.count c.args.place (tree_at c.args.second.now.cells.now c.args.second.now.count 1) c.args.node c.if-table-node.true) in
    omega arith

pub returns-then-node-place : goal.returns-then-node-place
returns-then-node-place t c =
    let e = ap size (after_here c.args.table.now.cells.now c.args.table.now.count c.args.place (tree_at c.args.second.now.cells.now c.args.second.now.count 1) c.args.node (omega arith) (omega arith) c.if-node-place.true) in
    omega arith

pub room_edited-left-requires : goal.room_edited-left-requires
room_edited-left-requires t c = (rw (← c.decreases, c.operand_number-first.ensures) (left_falls c.args.table.now.count c.args.node _ (omega arith) (omega arith) (omega arith)), tt)

pub room_edited-requires : goal.room_edited-requires
room_edited-requires t c = (rw (← c.decreases, c.operand_number-other.ensures) (left_falls c.args.table.now.count c.args.node _ (omega arith) (omega arith) (omega arith)), tt)

pub returns : goal.returns
returns t c =
    let s = size_node c.args.table.now.cells.now c.args.table.now.count c.args.place (tree_at c.args.second.now.cells.now c.args.second.now.count 1) c.args.node (omega arith) (omega arith) c.if-node-place.false in
    let e = rw c.operand_number-first.ensures at c.room_edited-left.ensures in
    let f = rw c.operand_number-other.ensures at c.room_edited.ensures in
    omega arith
