-- The tree at a node after the edit, a node at a time: its levels. Assumes nothing.
use mathlib.Core.Path.{◌≡◌, sym}
use mathlib.Core.Bool.{Bool, true, false}
use mathlib.Core.List.{List}
use Prim.Native.Nat.{ℕ, ◌+◌, ◌≤◌, max}
use native.Mathlib.Omega.{arith}
use lib.Dec.{eqb}
use Rattle.laws.specs.Choice.{pick}
use Rattle.tree.specs.Table.{form_at, first_column, second_column}
use Rattle.tree.specs.Trees.{Tree, none, node, label_at, operand_at, tree_at, own_level, levels}
use Rattle.tree.proofs.Unfold.{levels_most}
use Rattle.tree_numbering.specs.Replaced.{replaced, replaced_at}
use Rattle.tree_numbering.proofs.Replaced.{after_node}

module _ (cells : List ℕ) (count j : ℕ) (s : Tree) where
  abbrev tree_after : ℕ → Tree
  tree_after i = replaced_at cells count j s i

  pub none_levels : (i : ℕ) → tree_after i ≡ none → 0 ≡ levels (tree_after i)
  unfolding levels
  none_levels i e = rw e

  pub levels_node : (i : ℕ) → 1 ≤ i → i ≤ count → (i ≡ j → ⊥) → levels (tree_after i) ≡ own_level (form_at cells i) + max (levels (tree_after (operand_at cells count i first_column))) (levels (tree_after (operand_at cells count i second_column)))
  unfolding levels label_at
  levels_node i low high n = rw (after_node cells count j s i low high n)

  levels_under : (t : Tree) (i : ℕ) → levels (replaced cells count j s i t) ≤ levels t + levels s
  unfolding replaced levels pick
  levels_under none i = omega arith
  levels_under (node l a b) i =
      let p = levels_under a (operand_at cells count i first_column) in
      let q = levels_under b (operand_at cells count i second_column) in
      go (eqb i j) (omega arith)
    where
      go : (c : Bool) → own_level l.form + max (levels (replaced cells count j s (operand_at cells count i first_column) a)) (levels (replaced cells count j s (operand_at cells count i second_column) b)) ≤ own_level l.form + max (levels a) (levels b) + levels s
          → levels (pick c s (node l (replaced cells count j s (operand_at cells count i first_column) a) (replaced cells count j s (operand_at cells count i second_column) b))) ≤ own_level l.form + max (levels a) (levels b) + levels s
      go true h = omega arith
      go false h = h

  pub levels_bound : (i : ℕ) → levels (tree_after i) ≤ count + levels s
  levels_bound i = let p = levels_under (tree_at cells count i) i in let q = levels_most cells count i in omega arith

-- the levels of a node by steps: its operands', its own, the larger
pub levels_by : (cells : List ℕ) (count j : ℕ) (s : Tree) (i : ℕ) → 1 ≤ i → i ≤ count → (i ≡ j → ⊥)
    → (o : ℕ) → o ≡ operand_at cells count i first_column → (p : ℕ) → p ≡ operand_at cells count i second_column
    → (first : ℕ) → first ≡ levels (replaced_at cells count j s o) → (second : ℕ) → second ≡ levels (replaced_at cells count j s p)
    → (own : ℕ) → own ≡ own_level (form_at cells i) → (most : ℕ) → most ≡ max first second
    → own + most ≡ levels (replaced_at cells count j s i)
levels_by cells count j s i low high ne o eo p ep first ef second es own eown most em =
    rw (em, eown, ef, es, eo, ep) (sym (levels_node cells count j s i low high ne))
