-- The columns of a table, and the nodes restored from them: its own. Assumes nothing.
use mathlib.Core.Path.{◌≡◌, refl, sym, ap, ◌∙◌}
use mathlib.Core.Bool.{Bool, false}
use mathlib.Core.List.{List, [], ◌∷◌}
use mathlib.Core.Logic.{◌⊎◌, inl, inr}
use Prim.Native.Nat.{ℕ, zero, suc, ◌+◌, ◌*◌, ◌-◌, ◌≤◌, ◌<◌}
use native.Mathlib.Omega.{arith}
use lib.ListN.{length, get_or}
use borrow.Author.Tests.{le-ltb}
use Rattle.laws.specs.Each.{some}
use Rattle.tree.specs.Sizes.{node_cells, most_nodes}
use Rattle.tree.specs.Table.{cell_at, form_at, first_at, second_at, form_column, attributes_column, detail_column, first_column, second_column, symbol_column}
use Rattle.tree_rules.specs.Refusals.{Accepted}
use Rattle.tree_rules.proofs.Accepted.{Within, count_bounds, first_standing, second_standing, first_most, second_most}
use Rattle.file_columns.specs.Columns.{joined, held_at, held_column, arranged, column_at, rises, falls, operand_in, restored_node, restored, most_restored, outside_form, outside, refusal19}
use Rattle.file_columns.proofs.Arranging.{in_forms, in_operands, in_seconds, in_others, column_length}
use Rattle.file_columns.proofs.Restoring.{Stands, stands_none, stands_next, is_form}
use Rattle.file_columns.proofs.Parts.{node_of, join_same, all_nodes}
use Rattle.file_columns.proofs.Bounds.{small_forms}
use Rattle.file_columns_laws.proofs.Signs.{held_restored, operand_restored}
use Rattle.file_columns_laws.proofs.Parts.{part_at}

-- what a column of a table holds for a node
pub held_there : (count : ℕ) (cells : List ℕ) (k i : ℕ) → k < node_cells → i < count → column_at count (arranged count cells) k (suc i) ≡ held_at cells k (suc i)
unfolding column_at arranged held_column
held_there count cells k i h l =
    part_at count (held_column count cells) node_cells (λ j. column_length count cells j) k i h l
    ∙ ap (λ (j : ℕ). get_or (joined (λ i. held_at cells k (suc i) ∷ []) count) j 0) one
    ∙ part_at 1 (λ i. held_at cells k (suc i) ∷ []) count (λ j. refl) i 0 l (omega arith)
  where
    one : i ≡ 1 * i + 0
    one = omega arith

none_outside : (f : ℕ → Bool) (n : ℕ) → ((i : ℕ) → i < n → f (suc i) ≡ false) → some f n ≡ false
unfolding some
none_outside f zero h = refl
none_outside f (suc n) h = rw (none_outside f n (λ i l. h i (omega arith)), h n (omega arith))

module _ (context count : ℕ) (cells : List ℕ) (ok : Accepted context count cells) (long : length cells ≡ node_cells * count) where
  abbrev held : List ℕ
  held = arranged count cells

  bounds : (1 ≤ count) × (count ≤ most_nodes) × (node_cells * count ≤ length cells)
  bounds = count_bounds context count cells ok

  -- ---- forms

  stands : (n : ℕ) → n ≤ count → Stands count held n (form_at cells n)
  unfolding cell_at
  stands zero h = stands_none count held
  stands (suc n) h =
      let z : suc n - 1 ≡ n = omega arith in
      let c = rw z at (held_there count cells form_column n (omega arith) (omega arith) ∙ in_forms cells form_column (suc n) refl) in
      stands_next count held n (form_at cells n) (stands n (omega arith)) (form_at cells (suc n)) (rw c (held_restored (form_at cells n) (form_at cells (suc n))))

  inside_form : (n : ℕ) → n < count → outside_form count held (suc n) ≡ false
  unfolding outside_form
  inside_form n h =
      let s = stands (suc n) (omega arith) in
      let f = (small_forms context count cells ok long).at (suc n) in
      rw (le-ltb (rises count held (suc n)) (falls count held (suc n)) (omega arith), le-ltb (falls count held (suc n) + most_restored) (rises count held (suc n)) (omega arith))

  -- ---- operands

  is_behind : (i o : ℕ) → (o ≡ 0) ⊎ Within count i o → (o ≡ 0) ⊎ (i < o)
  is_behind i o (inl z) = inl z
  is_behind i o (inr w) = inr w.0

  first_back : (n : ℕ) → n < count → operand_in count held first_column (suc n) ≡ first_at cells (suc n)
  first_back n h =
      let c = held_there count cells first_column n (omega arith) h ∙ in_operands cells first_column (suc n) refl in
      rw c (operand_restored (suc n) (first_at cells (suc n)) (is_behind (suc n) (first_at cells (suc n)) (first_standing context count cells ok (suc n) (omega arith) (omega arith))))

  second_back : (n : ℕ) → n < count → operand_in count held second_column (suc n) ≡ second_at cells (suc n)
  second_back n h =
      let c = held_there count cells second_column n (omega arith) h ∙ in_seconds cells second_column (suc n) refl in
      rw c (operand_restored (suc n) (second_at cells (suc n)) (is_behind (suc n) (second_at cells (suc n)) (second_standing context count cells ok (suc n) (omega arith) (omega arith))))

  -- ---- all of a node, and all nodes

  other_back : (k n : ℕ) → k < node_cells → (k ≡ form_column → ⊥) → (k ≡ first_column → ⊥) → (k ≡ second_column → ⊥) → n < count → column_at count held k (suc n) ≡ cell_at cells (suc n) k
  other_back k n l p q r h = held_there count cells k n l h ∙ in_others cells k (suc n) p q r

  node_back : (n : ℕ) → n < count → restored_node count held (suc n) ≡ node_of cells n
  unfolding restored_node
  node_back n h =
      rw (
        ← is_form count held (suc n) (form_at cells (suc n)) (stands (suc n) (omega arith)),
        other_back attributes_column n (omega arith) (λ z. omega arith) (λ z. omega arith) (λ z. omega arith) h,
        other_back detail_column n (omega arith) (λ z. omega arith) (λ z. omega arith) (λ z. omega arith) h,
        first_back n h,
        second_back n h,
        other_back symbol_column n (omega arith) (λ z. omega arith) (λ z. omega arith) (λ z. omega arith) h,
      )

  pub cells_back : restored count (arranged count cells) ≡ cells
  unfolding restored
  cells_back = join_same (λ i. restored_node count held (suc i)) (node_of cells) count node_back ∙ sym (all_nodes cells count long)

  pub none_out : refusal19 count (arranged count cells) ≡ false
  unfolding refusal19 outside
  none_out = none_outside (outside count held) count inside
    where
      inside : (n : ℕ) → n < count → outside count held (suc n) ≡ false
      inside n h =
          let k = bounds in
          let p = first_most context count cells ok (suc n) (omega arith) (omega arith) in
          let q = second_most context count cells ok (suc n) (omega arith) (omega arith) in
          rw (inside_form n h, first_back n h, second_back n h, le-ltb most_restored (first_at cells (suc n)) (omega arith), le-ltb most_restored (second_at cells (suc n)) (omega arith))
