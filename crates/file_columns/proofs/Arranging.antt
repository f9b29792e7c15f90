-- What is held of a number, by its column; columns one after the other. Assumes nothing.
use mathlib.Core.Path.{◌≡◌, refl, ◌∙◌}
use mathlib.Core.List.{List, [], ◌∷◌}
use Prim.Native.Nat.{ℕ, suc, ◌+◌, ◌*◌, ◌-◌, ◌≤◌}
use native.Mathlib.Omega.{arith}
use lib.Dec.{eqb}
use lib.ListN.{length}
use borrow.Author.Tests.{eq-eqb, ne_eqb}
use Rattle.laws.specs.Lists.{over}
use Rattle.laws.specs.Puts.{Put}
use Rattle.laws.proofs.Choice.{pick_true, pick_false, or_here, or_next}
use Rattle.laws.proofs.Putting.{put_over}
use Rattle.tree.specs.Sizes.{node_cells}
use Rattle.tree.specs.Table.{cell_at, form_at, form_column, first_column, second_column}
use Rattle.file_columns.specs.Columns.{joined, held_difference, held_form, held_operand, held_at, held_column, arranged}
use Rattle.file_columns.proofs.Joined.{join_length, join_put_none, join_put}

module _ (cells : List ℕ) (k i : ℕ) where
  pub in_forms : k ≡ form_column → held_at cells k i ≡ held_difference (form_at cells (i - 1)) (form_at cells i)
  unfolding held_at held_form
  in_forms e = pick_true _ _ (eq-eqb k form_column e)

  pub in_operands : (k ≡ first_column) → held_at cells k i ≡ held_operand i (cell_at cells i k)
  unfolding held_at
  in_operands e = pick_false _ _ (ne_eqb k form_column (λ z. omega arith)) ∙ pick_true _ _ (or_here _ (eq-eqb k first_column e))

  pub in_seconds : (k ≡ second_column) → held_at cells k i ≡ held_operand i (cell_at cells i k)
  unfolding held_at
  in_seconds e =
      pick_false _ _ (ne_eqb k form_column (λ z. omega arith))
      ∙ pick_true _ _ (or_next (eqb k second_column) (ne_eqb k first_column (λ z. omega arith)) ∙ eq-eqb k second_column e)

  pub in_others : (k ≡ form_column → ⊥) → (k ≡ first_column → ⊥) → (k ≡ second_column → ⊥) → held_at cells k i ≡ cell_at cells i k
  unfolding held_at
  in_others p q r =
      pick_false _ _ (ne_eqb k form_column p)
      ∙ pick_false _ _ (or_next (eqb k second_column) (ne_eqb k first_column q) ∙ ne_eqb k second_column r)

-- ---- a column has a number for each node

pub column_length : (count : ℕ) (cells : List ℕ) (k : ℕ) → length (held_column count cells k) ≡ count
unfolding held_column
column_length count cells k = join_length 1 _ count (λ i. refl) ∙ omega arith

pub arranged_length : (count : ℕ) (cells : List ℕ) → length (arranged count cells) ≡ node_cells * count
unfolding arranged
arranged_length count cells = join_length count _ node_cells (λ k. column_length count cells k) ∙ omega arith

-- it is whole once all its numbers are put
module _ (count : ℕ) (cells : List ℕ) (k : ℕ) where
  pub column_all : (n : ℕ) {before after : List ℕ} {from at : ℕ} → n ≡ count → Put before from (joined (λ i. held_at cells k (suc i) ∷ []) n) after at → Put before from (held_column count cells k) after at
  unfolding held_column
  column_all n e p = rw e at p

-- ---- all columns

module _ (count : ℕ) (cells : List ℕ) where
  -- the place behind a column
  pub behind : (k : ℕ) {before after : List ℕ} {from at : ℕ} → Put before from (held_column count cells k) after at → at ≡ from + count
  behind k p = let l = column_length count cells k in p.ends ∙ omega arith

  pub all_columns : {start one two three four five six : List ℕ} {a b c d e f : ℕ}
      → Put start 0 (held_column count cells 0) one a
      → Put one a (held_column count cells 1) two b
      → Put two b (held_column count cells 2) three c
      → Put three c (held_column count cells 3) four d
      → Put four d (held_column count cells 4) five e
      → Put five e (held_column count cells 5) six f
      → node_cells * count ≤ length start
      → six ≡ over (arranged count cells) start
  unfolding arranged
  all_columns {start} p q r s t u room =
      let g = held_column count cells in
      let l : length (joined g node_cells) ≡ node_cells * count = arranged_length count cells in
      put_over
      (join_put g 5 6 refl (join_put g 4 5 refl (join_put g 3 4 refl (join_put g 2 3 refl (join_put g 1 2 refl (join_put g 0 1 refl (join_put_none g start 0) p) q) r) s) t) u)
      (omega arith)
