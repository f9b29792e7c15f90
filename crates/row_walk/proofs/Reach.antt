-- What the walk reaches with so many entries, a node at a time. Assumes nothing.
use mathlib.Core.Path.{◌≡◌, refl, ◌∙◌}
use mathlib.Core.Bool.{Bool, true, false, ◌&&◌}
use mathlib.Core.List.{List}
use Prim.Native.Nat.{ℕ, ◌-◌, ◌≤◌}
use native.Mathlib.Omega.{arith}
use lib.Dec.{eqb}
use borrow.Author.Tests.{ne_eqb}
use Rattle.bools.specs.Bits.{bit_of}
use Rattle.laws.specs.Choice.{pick}
use Rattle.laws.proofs.Choice.{pick_false}
use Rattle.tree.specs.Table.{first_column, second_column}
use Rattle.tree.specs.Trees.{Tree, none, node, operand_at, tree_at}
use Rattle.tree.proofs.Unfold.{unfolds, tree_zero}
use Rattle.fixup.specs.declared.context.FixupContext.{FixupContext}
use Rattle.expr.specs.declared.Handed.{Handed}
use Rattle.expr.specs.declared.order.CalleeOrder.{CalleeOrder}
use Rattle.expr.specs.Expr.{hands_first, hands_second}
use Rattle.row.specs.declared.Row.{Row}
use Rattle.row.specs.Rows.{Rows, absent, present, row_of, own_context, rows_of}
use Rattle.row_walk.specs.Stack.{is_there, within}
use Rattle.row_walk.specs.Walk.{row_stored, placed}
use Rattle.row_walk.specs.Steps.{placed_within, waiting}

-- ---- rows

kept : (n : ℕ) → n - 0 ≡ n
kept n = omega arith

-- with an entry left
within_both : (n : ℕ) (r : Row) (a b : Rows) → is_there a ≡ true → is_there b ≡ true → (n ≡ 0 → ⊥) → within n (present r a b) ≡ present r (within (n - 1) a) (within n b)
unfolding within pick
within_both n r a b ea eb nz = rw (ea, eb, ne_eqb n 0 nz)

-- with none left
within_full : (r : Row) (a b : Rows) → is_there a ≡ true → is_there b ≡ true → within 0 (present r a b) ≡ present r (within 0 a) absent
unfolding within pick
within_full r a b ea eb = rw (ea, eb)

-- one operand at most
within_first : (n : ℕ) (r : Row) (a : Rows) → within n (present r a absent) ≡ present r (within n a) absent
unfolding within pick
within_first n r absent = refl
within_first n r (present s c d) = rw (kept n)

within_second : (n : ℕ) (r : Row) (b : Rows) → within n (present r absent b) ≡ present r absent (within n b)
unfolding within pick
within_second n r b = refl

-- ---- nodes

module _ (order : CalleeOrder) (cells : List ℕ) (count : ℕ) where
  pub rows_absent : (i : ℕ) (h : Handed) → i ≡ 0 → rows_of order h (tree_at cells count i) ≡ absent
  unfolding rows_of
  rows_absent i h e = rw (e, tree_zero cells count)

  rows_there : (i : ℕ) (h : Handed) → 1 ≤ i → i ≤ count → is_there (rows_of order h (tree_at cells count i)) ≡ true
  unfolding rows_of
  rows_there i h low high = rw (unfolds cells count i low high)

  module _ (i : ℕ) (h : Handed) (into : List ℕ) (low : 1 ≤ i) (high : i ≤ count) (own : FixupContext) (eo : own ≡ own_context h (tree_at cells count i)) (stored : List ℕ) (es : stored ≡ row_stored i (row_of h (tree_at cells count i)) into) where
    abbrev o : ℕ
    o = operand_at cells count i first_column

    abbrev p : ℕ
    p = operand_at cells count i second_column

    abbrev to_first : Handed
    to_first = hands_first order own (tree_at cells count i)

    abbrev to_second : Handed
    to_second = hands_second own (tree_at cells count i)

    rows_node : rows_of order h (tree_at cells count i) ≡ present (row_of h (tree_at cells count i)) (rows_of order to_first (tree_at cells count o)) (rows_of order to_second (tree_at cells count p))
    unfolding rows_of
    rows_node = rw (eo, unfolds cells count i low high)

    -- the node's own row, then what is reached of its operands
    by : (n : ℕ) (a b : Rows) → within n (present (row_of h (tree_at cells count i)) (rows_of order to_first (tree_at cells count o)) (rows_of order to_second (tree_at cells count p))) ≡ present (row_of h (tree_at cells count i)) a b
        → placed_within order cells count n i h into ≡ placed cells count p b (placed cells count o a stored)
    unfolding placed
    by n a b e = rw (rows_node, e, es)

    pub both_reached : (n : ℕ) → 1 ≤ o → o ≤ count → 1 ≤ p → p ≤ count → (n ≡ 0 → ⊥)
        → placed_within order cells count n i h into ≡ placed_within order cells count n p to_second (placed_within order cells count (n - 1) o to_first stored)
    both_reached n lo ho lp hp nz = by n _ _ (within_both n _ _ _ (rows_there o to_first lo ho) (rows_there p to_second lp hp) nz)

    pub first_reached : 1 ≤ o → o ≤ count → 1 ≤ p → p ≤ count → placed_within order cells count 0 i h into ≡ placed_within order cells count 0 o to_first stored
    unfolding placed
    first_reached lo ho lp hp = by 0 _ _ (within_full _ _ _ (rows_there o to_first lo ho) (rows_there p to_second lp hp))

    pub only_first : (n : ℕ) → p ≡ 0 → placed_within order cells count n i h into ≡ placed_within order cells count n o to_first stored
    unfolding placed
    only_first n z =
        by n (within n (rows_of order to_first (tree_at cells count o))) absent
        (rw (rows_absent p to_second z) (within_first n (row_of h (tree_at cells count i)) (rows_of order to_first (tree_at cells count o))))

    pub only_second : (n : ℕ) → o ≡ 0 → placed_within order cells count n i h into ≡ placed_within order cells count n p to_second stored
    unfolding placed
    only_second n z =
        by n absent (within n (rows_of order to_second (tree_at cells count p)))
        (rw (rows_absent o to_first z) (within_second n (row_of h (tree_at cells count i)) (rows_of order to_second (tree_at cells count p))))

    pub no_operand : (n : ℕ) → o ≡ 0 → p ≡ 0 → placed_within order cells count n i h into ≡ stored
    unfolding placed within
    no_operand n zo zp = only_second n zo ∙ rw (rows_absent p to_second zp)

-- ---- entries enough

none_left : (n : ℕ) (x y : Bool) → (n ≡ 0 → ⊥) → (x && y && eqb n 0) ≡ false
none_left n true true nz = ne_eqb n 0 nz
none_left n true false nz = refl
none_left n false y nz = refl

bit_most : (b : Bool) → bit_of b ≤ 1
bit_most true = omega arith
bit_most false = omega arith

pub all_reached : (order : CalleeOrder) (n : ℕ) (h : Handed) (t : Tree) → waiting t ≤ n → within n (rows_of order h t) ≡ rows_of order h t
unfolding rows_of within waiting
all_reached order n h none k = refl
all_reached order n h (node l a b) k =
    let x = hands_first order (own_context h (node l a b)) (node l a b) in
    let y = hands_second (own_context h (node l a b)) (node l a b) in
    let m = bit_most (is_there (rows_of order x a) && is_there (rows_of order y b)) in
    rw (
      all_reached order (n - bit_of (is_there (rows_of order x a) && is_there (rows_of order y b))) x a (omega arith),
      pick_false absent (within n (rows_of order y b)) (none_left n (is_there (rows_of order x a)) (is_there (rows_of order y b)) (λ z. omega arith)),
      all_reached order n y b (omega arith),
    )
