-- `tree_numbering::levels_at` meets its contract: with each call there are fewer numbers above the node, and none are counted where an operand is absent. Assumes nothing.
use mathlib.Core.Path.{◌≡◌, sym}
use native.Mathlib.Omega.{arith}
use Rattle.laws.proofs.Calls.{free, given_at, given_below}
use Rattle.tree.proofs.Unfold.{left, left_falls, tree_zero, tree_past, levels_most}
use Rattle.tree_rules.proofs.Depth.{none_levels, levels_node}
use mathlib.Core.List.{List}
use Prim.Native.Nat.{ℕ, ◌+◌, ◌≤◌, max}
use Rattle.tree.specs.Table.{form_at, first_column, second_column}
use Rattle.tree.specs.Trees.{operand_at, tree_at, own_level, levels}
use Rattle.tree_numbering.proofs.+levels_at.Goals as goal

-- the levels of a node by steps: its operands', its own, the larger
levels_by : (cells : List ℕ) (count i : ℕ) → 1 ≤ i → i ≤ count
    → (o : ℕ) → o ≡ operand_at cells count i first_column → (p : ℕ) → p ≡ operand_at cells count i second_column
    → (first : ℕ) → first ≡ levels (tree_at cells count o) → (second : ℕ) → second ≡ levels (tree_at cells count p)
    → (own : ℕ) → own ≡ own_level (form_at cells i) → (most : ℕ) → most ≡ max first second
    → own + most ≡ levels (tree_at cells count i)
levels_by cells count i low high o eo p ep first ef second es own eown most em =
    rw (em, eown, ef, es, eo, ep) (sym (levels_node cells count i low high))

pub returns-then-node-eq0 : goal.returns-then-node-eq0
returns-then-node-eq0 t c = none_levels c.args.table.now.cells.now c.args.table.now.count c.args.node (rw c.if-node-eq0.true (tree_zero _ _))

pub returns-then-table-node : goal.returns-then-table-node
returns-then-table-node t c = none_levels c.args.table.now.cells.now c.args.table.now.count c.args.node (tree_past _ _ _ c.if-table-node.true)

pub levels_at-first-requires : goal.levels_at-first-requires
levels_at-first-requires t c = (rw (← c.decreases, c.operand_number.ensures) (left_falls c.args.table.now.count c.args.node _ (omega arith) (omega arith) (omega arith)), tt)

pub levels_at-second-requires : goal.levels_at-second-requires
levels_at-second-requires t c = (rw (← c.decreases, c.operand_number-2.ensures) (left_falls c.args.table.now.count c.args.node _ (omega arith) (omega arith) (omega arith)), tt)

pub overflow_add-result : goal.overflow_add-result
overflow_add-result t c =
    let m = levels_most c.args.table.now.cells.now c.args.table.now.count c.args.node in
    let e = levels_by c.args.table.now.cells.now c.args.table.now.count c.args.node (omega arith) (omega arith) _ c.operand_number.ensures _ c.operand_number-2.ensures _ c.levels_at-first.ensures _ c.levels_at-second.ensures _ c.own_level.ensures _ c.max.ensures in
    record { fits = omega arith }

pub returns : goal.returns
returns t c = levels_by c.args.table.now.cells.now c.args.table.now.count c.args.node (omega arith) (omega arith) _ c.operand_number.ensures _ c.operand_number-2.ensures _ c.levels_at-first.ensures _ c.levels_at-second.ensures _ c.own_level.ensures _ c.max.ensures
