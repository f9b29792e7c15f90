-- `tree_numbering::edited::number_edited` meets its contract: with each call there are fewer numbers above the node, and none are counted where an operand is absent. Assumes nothing.
use mathlib.Core.Path.{ap}
use native.Mathlib.Omega.{arith}
use borrow.Author.Rules.{rules}
use Rattle.laws.proofs.Calls.{free, given_at, given_below}
use Rattle.tree.specs.Trees.{tree_at}
use Rattle.tree.proofs.Unfold.{left, left_falls}
use Rattle.tree_numbering.specs.Numbered.{size}
use Rattle.tree_numbering.proofs.Nodes.{written_none, written_by}
use Rattle.tree_numbering.specs.Replaced.{replaced_at}
use Rattle.tree_numbering.proofs.Replaced.{after_zero, after_past, after_here, after_node, after_stand, size_node, there_numbered}
use Prim.Native.Nat.{ℕ}
use Rattle.tree_numbering.proofs.edited.+number_edited.Goals as goal

pub number_from-requires : goal.number_from-requires
number_from-requires t c =
    let e = ap size (after_here c.args.table.now.cells.now c.args.table.now.count c.args.place (tree_at c.args.second.now.cells.now c.args.second.now.count 1) c.args.node (omega arith) (omega arith) c.if-node-place.true) in
    (omega arith, omega arith)

pub number_edited-after-requires : goal.number_edited-after-requires
number_edited-after-requires t c =
    let t = size_node c.args.table.now.cells.now c.args.table.now.count c.args.place (tree_at c.args.second.now.cells.now c.args.second.now.count 1) c.args.node (omega arith) (omega arith) c.if-node-place.false in
    let f = left_falls c.args.table.now.count c.args.node _ (omega arith) (omega arith) (omega arith) in
    rw (← c.decreases, c.operand_number-first.ensures) (f, (c.requires.0, omega arith, omega arith))

pub number_after-requires-2 : goal.number_after-requires-2
number_after-requires-2 t c =
    let t = size_node c.args.table.now.cells.now c.args.table.now.count c.args.place (tree_at c.args.second.now.cells.now c.args.second.now.count 1) c.args.node (omega arith) (omega arith) c.if-node-place.false in
    let e = rw c.operand_number-first.ensures at c.number_edited-after.ensures.reply in
    omega arith

pub store-requires : goal.store-requires
store-requires t c =
    let t = size_node c.args.table.now.cells.now c.args.table.now.count c.args.place (tree_at c.args.second.now.cells.now c.args.second.now.count 1) c.args.node (omega arith) (omega arith) c.if-node-place.false in
    omega arith

pub number_edited-requires : goal.number_edited-requires
number_edited-requires t c =
    let t = size_node c.args.table.now.cells.now c.args.table.now.count c.args.place (tree_at c.args.second.now.cells.now c.args.second.now.count 1) c.args.node (omega arith) (omega arith) c.if-node-place.false in
    let e = rw c.operand_number-first.ensures at c.number_edited-after.ensures.reply in
    let f = left_falls c.args.table.now.count c.args.node _ (omega arith) (omega arith) (omega arith) in
    rw (← c.decreases, c.operand_number-other.ensures) (f, (c.requires.0, omega arith, omega arith))

pub returns-then-node-eq0 : goal.returns-then-node-eq0
returns-then-node-eq0 t c =
    let whole = written_none (replaced_at c.args.table.now.cells.now c.args.table.now.count c.args.place (tree_at c.args.second.now.cells.now c.args.second.now.count 1)) c.args.table.now.cells.now c.args.table.now.count c.args.node c.args.done c.args.out.now (after_zero c.args.table.now.cells.now c.args.table.now.count c.args.place (tree_at c.args.second.now.cells.now c.args.second.now.count 1) c.args.node c.if-node-eq0.true) in
    record { reply = whole.0; out = whole.1 }

pub returns-then-table-node : goal.returns-then-table-node
returns-then-table-node t c =
    let whole = written_none (replaced_at c.args.table.now.cells.now c.args.table.now.count c.args.place (tree_at c.args.second.now.cells.now c.args.second.now.count 1)) c.args.table.now.cells.now c.args.table.now.count c.args.node c.args.done c.args.out.now (after_past c.args.table.now.cells.now c.args.table.now.count c.args.place (tree_at c.args.second.now.cells.now c.args.second.now.count 1) c.args.node c.if-table-node.true) in
    record { reply = whole.0; out = whole.1 }

pub returns-then-node-place : goal.returns-then-node-place
returns-then-node-place t c =
    record {
      reply = rw (after_here c.args.table.now.cells.now c.args.table.now.count c.args.place (tree_at c.args.second.now.cells.now c.args.second.now.count 1) c.args.node (omega arith) (omega arith) c.if-node-place.true) c.number_from.ensures.nodes;
      out = rw (after_here c.args.table.now.cells.now c.args.table.now.count c.args.place (tree_at c.args.second.now.cells.now c.args.second.now.count 1) c.args.node (omega arith) (omega arith) c.if-node-place.true) c.number_from.ensures.out;
    }

pub returns : goal.returns
returns t c =
    let whole = written_by (replaced_at c.args.table.now.cells.now c.args.table.now.count c.args.place (tree_at c.args.second.now.cells.now c.args.second.now.count 1)) c.args.table.now.cells.now c.args.table.now.count c.args.node c.args.done c.args.out.now (after_stand c.args.table.now.cells.now c.args.table.now.count c.args.place (tree_at c.args.second.now.cells.now c.args.second.now.count 1) (there_numbered c.args.second.now.cells.now c.args.second.now.count c.requires.0)) (after_node c.args.table.now.cells.now c.args.table.now.count c.args.place (tree_at c.args.second.now.cells.now c.args.second.now.count 1) c.args.node (omega arith) (omega arith) c.if-node-place.false) _ c.operand_number-first.ensures _ c.operand_number-other.ensures _ _ (c.number_edited-after.ensures.reply, c.number_edited-after.ensures.out) _ c.number_after.ensures _ c.number_after-2.ensures _ c.store.ensures _ _ (c.number_edited.ensures.reply, c.number_edited.ensures.out) in
    record { reply = whole.0; out = whole.1 }
