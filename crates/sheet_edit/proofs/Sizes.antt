-- The result has as many nodes as the sheet and the second tree together, without those of what is replaced. Assumes nothing.
use mathlib.Core.Path.{◌≡◌, refl, sym, ap}
use mathlib.Core.List.{List, [], ◌∷◌}
use mathlib.Core.Logic.{inl, inr}
use Prim.Native.Nat.{ℕ, ◌+◌, ◌-◌, ◌≤◌}
use native.Mathlib.Omega.{arith}
use Rattle.tree.specs.Table.{first_column, second_column}
use Rattle.tree.specs.Trees.{Tree, operand_at, tree_at}
use Rattle.tree_rules.specs.Refusals.{Accepted}
use Rattle.tree_rules.proofs.Accepted.{count_bounds}
use Rattle.tree_numbering.specs.Numbered.{size}
use Rattle.tree_numbering.proofs.Sizes.{size_accepted}
use Rattle.tree_numbering.proofs.Sizes as whole
use Rattle.row_walk.specs.Paths.{Branch, first, second, number_at}
use Rattle.row_walk.proofs.Below.{owns, operand_most}
use Rattle.row_walk.proofs.Paths.{reached}
use Rattle.tree_numbering.specs.Replaced.{replaced_at}
use Rattle.sheet_edit.specs.Edits.{edited}
use Rattle.tree_numbering.proofs.Replaced.{after_here, size_node}
use Rattle.sheet_edit.proofs.Shelters.{nowhere, one, differ, here}

module _ (context count : ℕ) (cells : List ℕ) (ok : Accepted context count cells) (j : ℕ) (s : Tree) (there : 1 ≤ j) where
  along : (i : ℕ) (p : List Branch) → 1 ≤ i → i ≤ count → number_at cells count i p ≡ j → size (replaced_at cells count j s i) + size (tree_at cells count j) ≡ size (tree_at cells count i) + size s
  along i [] low high e =
      let h = ap size (after_here cells count j s i low high e) in
      let k = ap (λ (n : ℕ). size (tree_at cells count n)) e in
      omega arith
  along i (first ∷ p) low high e =
      let w = owns cells count i first_column p low high (inl refl) (rw e there) in
      let m = operand_most cells count w in
      let r = along (operand_at cells count i first_column) p w.there m.1 e in
      let n = ap size (nowhere cells count j s (tree_at cells count (operand_at cells count i second_column)) (operand_at cells count i second_column) refl (λ q z. differ cells count j s context ok there p q (one cells count j s context ok there i (first ∷ p) (second ∷ q) low high e z))) in
      let t = size_node cells count j s i low high (λ z. here cells count j s context ok there first p (one cells count j s context ok there i [] (first ∷ p) low high z e)) in
      let u = whole.size_node cells count i low high in
      omega arith
  along i (second ∷ p) low high e =
      let w = owns cells count i second_column p low high (inr refl) (rw e there) in
      let m = operand_most cells count w in
      let r = along (operand_at cells count i second_column) p w.there m.1 e in
      let n = ap size (nowhere cells count j s (tree_at cells count (operand_at cells count i first_column)) (operand_at cells count i first_column) refl (λ q z. differ cells count j s context ok there q p (sym (one cells count j s context ok there i (second ∷ p) (first ∷ q) low high e z)))) in
      let t = size_node cells count j s i low high (λ z. here cells count j s context ok there second p (one cells count j s context ok there i [] (second ∷ p) low high z e)) in
      let u = whole.size_node cells count i low high in
      omega arith

  -- what stands at a path has at most as many nodes
  part : (i : ℕ) (p : List Branch) → 1 ≤ i → i ≤ count → number_at cells count i p ≡ j → size (tree_at cells count j) ≤ size (tree_at cells count i)
  part i [] low high e = let k = ap (λ (n : ℕ). size (tree_at cells count n)) e in omega arith
  part i (first ∷ p) low high e =
      let w = owns cells count i first_column p low high (inl refl) (rw e there) in
      let r = part (operand_at cells count i first_column) p w.there (operand_most cells count w).1 e in
      let u = whole.size_node cells count i low high in
      omega arith
  part i (second ∷ p) low high e =
      let w = owns cells count i second_column p low high (inr refl) (rw e there) in
      let r = part (operand_at cells count i second_column) p w.there (operand_most cells count w).1 e in
      let u = whole.size_node cells count i low high in
      omega arith

  pub part_size : j ≤ count → size (tree_at cells count j) ≤ count
  part_size high =
      let r = reached cells count context ok j there high in
      let k = count_bounds context count cells ok in
      let t = size_accepted context count cells ok in
      let a = part 1 r.path (omega arith) k.0 r.leads in
      omega arith

  pub edited_size : j ≤ count → size (edited cells count j s) + size (tree_at cells count j) ≡ count + size s
  edited_size high =
      let r = reached cells count context ok j there high in
      let k = count_bounds context count cells ok in
      let t = size_accepted context count cells ok in
      let a = along 1 r.path (omega arith) k.0 r.leads in
      omega arith
