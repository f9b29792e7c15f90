-- A walk takes at most 258 visits of scan_right a node. Assumes nothing.
use mathlib.Core.Bool.{Bool, true, false, not, ◌&&◌, ◌||◌}
use mathlib.Core.List.{List}
use Prim.Native.Nat.{ℕ, ◌*◌, ◌≤◌}
use native.Mathlib.Omega.{arith}
use Rattle.laws.specs.Choice.{pick, lookup}
use Rattle.tree.specs.Sizes.{most_levels}
use Rattle.tree.specs.Trees.{Label, Tree, none, node, tree_at, levels}
use Rattle.tree_rules.specs.Refusals.{Accepted}
use Rattle.tree_rules.proofs.Accepted.{levels_bound}
use Rattle.precedence.specs.declared.Precedence.TheVariants as level
use Rattle.precedence.specs.Precedences.{same}
use Rattle.fixup.specs.declared.context.FixupContext.{FixupContext}
use Rattle.fixup.specs.Fixup.{effective}
use Rattle.fixup_scan.specs.Scans.{loose, scanned}
use Rattle.fixup_scan.specs.Linear.{right_visits_by, spine}
use Rattle.fixup_scan.proofs.Linear.{pick_within, visits_at_most_twice}
use Rattle.fixup_scan.proofs.Levels.{spine_levels}
use Rattle.expr.specs.declared.Handed.{Handed}
use Rattle.expr.specs.declared.order.CalleeOrder.{CalleeOrder}
use Rattle.expr.specs.Expr.{hands_first, hands_second}
use Rattle.row.specs.Rows.{own_context}
use Rattle.row_walk.specs.Walk.{root_handed}
use Rattle.tree_numbering.specs.Numbered.{size}
use Rattle.tree_numbering.proofs.Sizes.{size_accepted}
use Rattle.row_work.specs.Work.{left_visits, right_visits, first_visits, second_visits, walk_visits, decide_visits}

-- one operand
pick_either : (b : Bool) (n m k : ℕ) → n ≤ k → m ≤ k → pick b n m ≤ k
unfolding pick
pick_either true n m k h i = h
pick_either false n m k h i = i

left_visits_lem : (t : Tree) (x : FixupContext) → left_visits t x ≤ 2 * spine t
unfolding left_visits
left_visits_lem t x = pick_within (not x.next_operator_can_begin_expr || same x.next_operator level.Range) _ _ (visits_at_most_twice t x level.Jump 0 0)

right_visits_lem : (t : Tree) (x : FixupContext) → right_visits t x ≤ 2 * spine t
unfolding right_visits_by
right_visits_lem t x = pick_within (loose x (effective x t) && scanned x) _ _ (visits_at_most_twice t x x.previous_operator 1 0)

-- in a tree of at most 128 levels
within_levels : (t : Tree) → levels t ≤ most_levels → (n : ℕ) → n ≤ 2 * spine t → n ≤ 258
within_levels t d n h = let s = spine_levels t in omega arith

first_visits_lem : (l : Label) (t : Tree) (x : FixupContext) → levels t ≤ most_levels → first_visits l t x ≤ 258
unfolding first_visits lookup
first_visits_lem l t x d =
    within_levels t d _
    (pick_either _ (left_visits t x) _ _ (left_visits_lem t x) (pick_within _ (right_visits t x) _ (right_visits_lem t x)))

second_visits_lem : (l : Label) (t : Tree) (x : FixupContext) → levels t ≤ most_levels → second_visits l t x ≤ 258
unfolding second_visits lookup
second_visits_lem l t x d = within_levels t d _ (pick_within _ (right_visits t x) _ (right_visits_lem t x))

pub walk_visits_lem : (order : CalleeOrder) (own : ℕ) (h : Handed) (t : Tree) → own ≤ 258 → levels t ≤ most_levels → walk_visits order own h t ≤ 258 * size t
unfolding walk_visits size levels
walk_visits_lem order own h none o d = omega arith
walk_visits_lem order own h (node l a b) o d =
    let x = own_context h (node l a b) in
    let f = hands_first order x (node l a b) in
    let g = hands_second x (node l a b) in
    let p = walk_visits_lem order (first_visits l a f.fixup) f a (first_visits_lem l a f.fixup (omega arith)) (omega arith) in
    let q = walk_visits_lem order (second_visits l b g.fixup) g b (second_visits_lem l b g.fixup (omega arith)) (omega arith) in
    omega arith

-- In an accepted table, a walk takes at most 258 visits a node: 2 for each of 128 levels, and 2 for a node that is none.
pub bounded_work : (order : CalleeOrder) (context count : ℕ) (cells : List ℕ) → Accepted context count cells → decide_visits order context count cells ≤ 258 * count
bounded_work order context count cells ok =
    let v = walk_visits_lem order 0 (root_handed context (tree_at cells count 1)) (tree_at cells count 1) (omega arith) (levels_bound context count cells ok) in
    let s = size_accepted context count cells ok in
    omega arith
