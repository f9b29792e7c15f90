-- `tree_numbering::room_after` meets its contract: with each call there are fewer numbers above the node, and none are counted where an operand is absent. Assumes nothing.
use native.Mathlib.Omega.{arith}
use Rattle.laws.proofs.Calls.{free, given_at, given_below}
use Rattle.tree.proofs.Unfold.{left, left_falls, tree_zero, tree_past}
use Rattle.tree_numbering.proofs.Sizes.{size_none, size_node}
use Prim.Native.Nat.{ℕ}
use Rattle.tree_numbering.proofs.+room_after.Goals as goal

pub returns-then-node-eq0 : goal.returns-then-node-eq0
returns-then-node-eq0 t c =
    let e = size_none c.args.table.now.cells.now c.args.table.now.count c.args.node (rw c.if-node-eq0.true (tree_zero _ _)) in
    omega arith

pub returns-then-table-node : goal.returns-then-table-node
returns-then-table-node t c =
    let e = size_none c.args.table.now.cells.now c.args.table.now.count c.args.node (tree_past _ _ _ c.if-table-node.true) in
    omega arith

pub room_after-left-requires : goal.room_after-left-requires
room_after-left-requires t c = (rw (← c.decreases, c.operand_number.ensures) (left_falls c.args.table.now.count c.args.node _ (omega arith) (omega arith) (omega arith)), tt)

pub room_after-requires : goal.room_after-requires
room_after-requires t c = (rw (← c.decreases, c.operand_number-2.ensures) (left_falls c.args.table.now.count c.args.node _ (omega arith) (omega arith) (omega arith)), tt)

pub returns : goal.returns
returns t c =
    let s = size_node c.args.table.now.cells.now c.args.table.now.count c.args.node (omega arith) (omega arith) in
    let e = rw c.operand_number.ensures at c.room_after-left.ensures in
    let f = rw c.operand_number-2.ensures at c.room_after.ensures in
    omega arith
