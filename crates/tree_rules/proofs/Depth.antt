-- The array that holds the levels of the nodes. Assumes nothing.
use mathlib.Core.Path.{◌≡◌, sym, ◌∙◌}
use mathlib.Core.List.{List}
use Prim.Native.Nat.{ℕ, zero, suc, ◌+◌, ◌-◌, ◌≤◌, ◌<◌, max}
use native.Mathlib.Omega.{arith}
use native.Mathlib.Decide.{ℕ_discrete}
use lib.ListN.{length, get_or, set, length-set, replicate, length-replicate, get_or-replicate}
use lib.Seq.{get_or-set_same, get_or-set_other}
use Rattle.tree.specs.Sizes.{most_nodes}
use Rattle.tree.specs.Table.{cell_at, form_at, first_column, second_column}
use Rattle.tree.specs.Trees.{none, label_at, operand_of, operand_at, tree_at, own_level, levels}
use Rattle.tree_rules.specs.Passes.{Levelled}
use Rattle.tree.proofs.Unfold.{operand_range, operand_most, tree_zero, tree_past, unfolds, levels_most}

module _ (cells : List ℕ) (count : ℕ) where
  pub none_levels : (j : ℕ) → tree_at cells count j ≡ none → 0 ≡ levels (tree_at cells count j)
  unfolding levels
  none_levels j e = rw e

  -- before the first node an array of zeros holds them: there are no trees but at 1 to the count
  pub levelled_none : (n : ℕ) → count < n → Levelled cells count count (replicate n 0)
  levelled_none n s = let l = length-replicate {A = ℕ} n 0 in record { size = omega arith; at = λ j h k. get_or-replicate n j 0 0 (omega arith) ∙ each j k }
    where
      each : (j : ℕ) → (1 ≤ j → count < j) → 0 ≡ levels (tree_at cells count j)
      each zero k = none_levels 0 (tree_zero cells count)
      each (suc j) k = none_levels (suc j) (tree_past cells count (suc j) (k (omega arith)))

  -- the levels of a node, by its operands
  pub levels_node : (i : ℕ) → 1 ≤ i → i ≤ count
      → levels (tree_at cells count i) ≡ own_level (form_at cells i) + max (levels (tree_at cells count (operand_at cells count i first_column))) (levels (tree_at cells count (operand_at cells count i second_column)))
  unfolding levels label_at
  levels_node i h k = rw (unfolds cells count i h k)

  module _ (n : ℕ) (xs : List ℕ) (l : Levelled cells count n xs) (most : count ≤ most_nodes) where
    -- an operand has a cell
    pub operand_cell : (o : ℕ) → operand_of count n o < length xs
    operand_cell o = let m = operand_most count n o in let z = l.size in omega arith

    operand_levels : (o : ℕ) → get_or xs (operand_of count n o) 0 ≡ levels (tree_at cells count (operand_of count n o))
    operand_levels o =
        let m = operand_most count n o in
        l.at (operand_of count n o) (operand_cell o) (λ p. (operand_range count n o p).0)

    module _ (low : 1 ≤ n) (high : n ≤ count) where
      -- the levels of a node, from the cells of its operands
      pub levels_from : own_level (form_at cells n) + max (get_or xs (operand_at cells count n first_column) 0) (get_or xs (operand_at cells count n second_column) 0) ≡ levels (tree_at cells count n)
      levels_from = rw (operand_levels (cell_at cells n first_column), operand_levels (cell_at cells n second_column)) (sym (levels_node n low high))

      pub levels_fit : own_level (form_at cells n) + max (get_or xs (operand_at cells count n first_column) 0) (get_or xs (operand_at cells count n second_column) 0) ≤ most_nodes
      levels_fit = let m = levels_most cells count n in rw levels_from (omega arith)

  -- one node more, downwards
  pub levelled_more : (n : ℕ) (xs : List ℕ) (v : ℕ) → Levelled cells count n xs → 1 ≤ n → n ≤ count → v ≡ levels (tree_at cells count n) → Levelled cells count (n - 1) (set xs n v)
  levelled_more n xs v l p q e = let z = length-set xs n v in let s = l.size in record { size = omega arith; at = each }
    where
      each : (j : ℕ) → j < length (set xs n v) → (1 ≤ j → n - 1 < j) → get_or (set xs n v) j 0 ≡ levels (tree_at cells count j)
      each j h k = go (ℕ_discrete j n)
        where
          go : Dec (j ≡ n) → get_or (set xs n v) j 0 ≡ levels (tree_at cells count j)
          go (yes s) = let z = l.size in rw s (get_or-set_same xs n v 0 (omega arith) ∙ e)
          go (no s) = let z = length-set xs n v in get_or-set_other xs n j v 0 s ∙ l.at j (omega arith) (λ r. let t = k r in omega arith)
