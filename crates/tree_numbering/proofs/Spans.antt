-- The array that holds the sizes of an accepted table's trees. Assumes nothing.
use mathlib.Core.Path.{◌≡◌, ◌∙◌}
use mathlib.Core.List.{List}
use Prim.Native.Nat.{ℕ, zero, suc, ◌+◌, ◌*◌, ◌-◌, ◌≤◌, ◌<◌}
use native.Mathlib.Omega.{arith}
use native.Mathlib.Decide.{ℕ_discrete}
use lib.ListN.{length, get_or, set, length-set}
use lib.Seq.{get_or-set_same, get_or-set_other}
use Rattle.tree.specs.Sizes.{node_cells, most_nodes}
use Rattle.tree.specs.Table.{cell_at, first_at, second_at, first_column, second_column}
use Rattle.tree.specs.Trees.{tree_at}
use Rattle.tree.proofs.Unfold.{tree_zero}
use Rattle.tree_rules.specs.Refusals.{Accepted}
use Rattle.tree_rules.proofs.Accepted.{count_bounds, first_most, second_most}
use Rattle.tree_numbering.specs.Numbered.{size}
use Rattle.tree_numbering.specs.Passes.{Measured}
use Rattle.tree_numbering.proofs.Sizes.{size_none, sized_node}
use Rattle.tree_numbering.proofs.Owners.{first_above, second_above, size_most}

module _ (context count : ℕ) (cells : List ℕ) (ok : Accepted context count cells) where
  -- an absent operand has no nodes
  pub size_zero : size (tree_at cells count 0) ≡ 0
  size_zero = size_none cells count 0 (tree_zero cells count)

  -- what a pass reads of node j + 1
  module _ (j : ℕ) (high : j < count) where
    pub first_read : get_or cells (node_cells * j + first_column) 0 ≤ count
    unfolding cell_at
    first_read = first_most context count cells ok (suc j) (omega arith) (omega arith)

    pub second_read : get_or cells (node_cells * j + second_column) 0 ≤ count
    unfolding cell_at
    second_read = second_most context count cells ok (suc j) (omega arith) (omega arith)

    pub cells_read : (node_cells * j + node_cells ≤ length cells) × (count ≤ most_nodes)
    cells_read = let k = count_bounds context count cells ok in (omega arith, k.1)

  -- before the last node only 0 counts
  pub measured_none : (xs : List ℕ) → count < length xs → Measured cells count count (set xs 0 0)
  measured_none xs h = record { room = simp length-set h; at = each }
    where
      each : (j : ℕ) → j ≤ count → (1 ≤ j → count < j) → get_or (set xs 0 0) j 0 ≡ size (tree_at cells count j)
      each zero p q = let z = size_zero in get_or-set_same xs 0 0 0 (omega arith) ∙ omega arith
      each (suc j) p q = absurd (let r = q (omega arith) in omega arith)

  module _ (n : ℕ) (xs : List ℕ) (m : Measured cells count n xs) (i : ℕ) (low : 1 ≤ i) (high : i ≤ count) (past : n ≤ i) where
    pub first_span : get_or xs (first_at cells i) 0 ≡ size (tree_at cells count (first_at cells i))
    first_span = m.at (first_at cells i) (first_most context count cells ok i low high) (λ h. let w = first_above context count cells ok i low high h in omega arith)

    second_span : get_or xs (second_at cells i) 0 ≡ size (tree_at cells count (second_at cells i))
    second_span = m.at (second_at cells i) (second_most context count cells ok i low high) (λ h. let w = second_above context count cells ok i low high h in omega arith)

    -- a node's size, from those of its operands
    pub span_here : 1 + get_or xs (first_at cells i) 0 + get_or xs (second_at cells i) 0 ≡ size (tree_at cells count i)
    span_here =
        let s = sized_node context count cells ok i low high in
        let a = first_span in
        let b = second_span in
        omega arith

    pub span_most : 1 + get_or xs (first_at cells i) 0 + get_or xs (second_at cells i) 0 ≤ count
    span_most = let s = span_here in let t = size_most context count cells ok i low high in omega arith

  -- one node more, downwards
  pub measured_more : (n : ℕ) (xs : List ℕ) → Measured cells count n xs → 1 ≤ n → n ≤ count → (v : ℕ) → v ≡ 1 + get_or xs (first_at cells n) 0 + get_or xs (second_at cells n) 0 → Measured cells count (n - 1) (set xs n v)
  measured_more n xs m low high v e = record { room = simp length-set m.room; at = each }
    where
      each : (j : ℕ) → j ≤ count → (1 ≤ j → n - 1 < j) → get_or (set xs n v) j 0 ≡ size (tree_at cells count j)
      each j p q = go (ℕ_discrete j n)
        where
          go : Dec (j ≡ n) → get_or (set xs n v) j 0 ≡ size (tree_at cells count j)
          go (yes s) = let z = m.room in rw s (get_or-set_same xs n v 0 (omega arith) ∙ e ∙ span_here n xs m n low high (omega arith))
          go (no s) = get_or-set_other xs n j v 0 s ∙ m.at j p (λ r. let t = q r in omega arith)
