-- `tree_numbering::number_from` meets its contract: with each call there are fewer numbers above the node, and none are counted where an operand is absent. Assumes nothing.
use native.Mathlib.Omega.{arith}
use borrow.Author.Rules.{rules}
use Rattle.laws.proofs.Calls.{free, given_at, given_below}
use Rattle.tree.specs.Trees.{tree_at}
use Rattle.tree.proofs.Unfold.{left, left_falls, tree_zero, tree_past, unfolds}
use Rattle.tree_numbering.proofs.Sizes.{size_node}
use Rattle.tree_numbering.proofs.Nodes.{trees_stand, written_none, written_by}
use Prim.Native.Nat.{ℕ}
use Rattle.tree_numbering.proofs.+number_from.Goals as goal

pub number_from-after-requires : goal.number_from-after-requires
number_from-after-requires t c =
    let t = size_node c.args.table.now.cells.now c.args.table.now.count c.args.node (omega arith) (omega arith) in
    let f = left_falls c.args.table.now.count c.args.node _ (omega arith) (omega arith) (omega arith) in
    rw (← c.decreases, c.operand_number-first.ensures) (f, (omega arith, omega arith))

pub number_after-requires-2 : goal.number_after-requires-2
number_after-requires-2 t c =
    let t = size_node c.args.table.now.cells.now c.args.table.now.count c.args.node (omega arith) (omega arith) in
    let e = rw c.operand_number-first.ensures at c.number_from-after.ensures.nodes in
    omega arith

pub store-requires : goal.store-requires
store-requires t c =
    let t = size_node c.args.table.now.cells.now c.args.table.now.count c.args.node (omega arith) (omega arith) in
    omega arith

pub number_from-requires : goal.number_from-requires
number_from-requires t c =
    let t = size_node c.args.table.now.cells.now c.args.table.now.count c.args.node (omega arith) (omega arith) in
    let e = rw c.operand_number-first.ensures at c.number_from-after.ensures.nodes in
    let f = left_falls c.args.table.now.count c.args.node _ (omega arith) (omega arith) (omega arith) in
    rw (← c.decreases, c.operand_number-second.ensures) (f, (omega arith, omega arith))

pub returns-then-node-eq0 : goal.returns-then-node-eq0
returns-then-node-eq0 t c =
    let whole = written_none (tree_at c.args.table.now.cells.now c.args.table.now.count) c.args.table.now.cells.now c.args.table.now.count c.args.node c.args.done c.args.out.now (rw c.if-node-eq0.true (tree_zero _ _)) in
    record { nodes = whole.0; out = whole.1 }

pub returns-then-table-node : goal.returns-then-table-node
returns-then-table-node t c =
    let whole = written_none (tree_at c.args.table.now.cells.now c.args.table.now.count) c.args.table.now.cells.now c.args.table.now.count c.args.node c.args.done c.args.out.now (tree_past _ _ _ c.if-table-node.true) in
    record { nodes = whole.0; out = whole.1 }

pub returns : goal.returns
returns t c =
    let whole = written_by (tree_at c.args.table.now.cells.now c.args.table.now.count) c.args.table.now.cells.now c.args.table.now.count c.args.node c.args.done c.args.out.now (trees_stand _ _) (unfolds _ _ _ (omega arith) (omega arith)) _ c.operand_number-first.ensures _ c.operand_number-second.ensures _ _ (c.number_from-after.ensures.nodes, c.number_from-after.ensures.out) _ c.number_after.ensures _ c.number_after-2.ensures _ c.store.ensures _ _ (c.number_from.ensures.nodes, c.number_from.ensures.out) in
    record { nodes = whole.0; out = whole.1 }
