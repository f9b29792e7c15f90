-- A question about a node by the node's own numbers. Assumes nothing.
use mathlib.Core.Path.{◌≡◌, refl}
use mathlib.Core.List.{List}
use Prim.Native.Nat.{ℕ, ◌≤◌}
use native.Mathlib.Omega.{arith}
use native.Mathlib.Decide.{dec_le}
use lib.Dec.{leb}
use borrow.Author.Tests.{le-leb, lt-leb}
use mathlib.Core.Bool.{◌&&◌}
use Rattle.laws.specs.Choice.{Line, lookup, pick}
use Rattle.tree.specs.Table.{form_at, first_column, second_column}
use Rattle.tree.specs.Trees.{Label, Tree, label_at, operand_at, tree_at}
use Rattle.tree.specs.Walks.{at_root}
use Rattle.tree.proofs.Unfold.{unfolds, tree_zero, tree_past}

pub rooted : {A : Type 0} (lines : Label → Tree → Tree → List (Line A)) (other : A) (cells : List ℕ) (count i : ℕ) → at_root lines other (tree_at cells count i) ≡ pick (leb 1 i && leb i count) (lookup (lines (label_at cells i) (tree_at cells count (operand_at cells count i first_column)) (tree_at cells count (operand_at cells count i second_column))) other (form_at cells i)) other
unfolding at_root pick label_at
rooted {A} lines other cells count i = go (dec_le 1 i) (dec_le i count)
  where
    go : Dec (1 ≤ i) → Dec (i ≤ count) → at_root lines other (tree_at cells count i) ≡ pick (leb 1 i && leb i count) (lookup (lines (label_at cells i) (tree_at cells count (operand_at cells count i first_column)) (tree_at cells count (operand_at cells count i second_column))) other (form_at cells i)) other
    go (yes h) (yes k) = rw (unfolds cells count i h k, le-leb 1 i h, le-leb i count k) refl
    go (yes h) (no k) = rw (tree_past cells count i (omega arith), le-leb 1 i h, lt-leb i count (omega arith)) refl
    go (no h) d = rw (lt-leb 1 i (omega arith)) (let z : i ≡ 0 = omega arith in rw (z, tree_zero cells count) refl)
