-- A rearranged file is no longer than its tree file. Assumes nothing.
use mathlib.Core.Path.{◌≡◌, refl, ap, ◌∙◌}
use mathlib.Core.List.{List, [], ◌∷◌}
use Prim.Native.Nat.{ℕ, zero, suc, ◌+◌, ◌*◌, ◌-◌, ◌≤◌}
use native.Mathlib.Omega.{arith}
use lib.ListN.{length, length-append}
use Rattle.tree.specs.Sizes.{node_cells}
use Rattle.tree.specs.Table.{form_at, attributes_at, detail_at, first_at, second_at, symbol_at, form_column, attributes_column, detail_column, first_column, second_column, symbol_column}
use Rattle.tree_rules.specs.Refusals.{Accepted}
use Rattle.file_bytes.specs.Bytes.{bytes_of, all_bytes}
use Rattle.file_bytes.proofs.Numbers.{some_bytes, fewer_bytes}
use Rattle.file_bytes.proofs.Several.{all_append}
use Rattle.file_save.proofs.Small.{bytes_one}
use Rattle.file_columns.specs.Columns.{joined, held_difference, held_operand, held_at, held_column, arranged}
use Rattle.file_columns.proofs.Arranging.{in_forms, in_operands, in_seconds, in_others}
use Rattle.file_columns.proofs.Parts.{node_of, all_nodes}
use Rattle.file_columns.proofs.Bounds.{few_difference, short_distance, small_forms, one_number}

-- the bytes of six lists
six_columns : (g : ℕ → List ℕ) → length (all_bytes (joined g node_cells)) ≡ length (all_bytes (g form_column)) + length (all_bytes (g attributes_column)) + length (all_bytes (g detail_column)) + length (all_bytes (g first_column)) + length (all_bytes (g second_column)) + length (all_bytes (g symbol_column))
unfolding joined all_bytes
six_columns g = simp (all_append, length-append) (omega arith)

-- one number more of a column, one node more
module _ (cells : List ℕ) where
  column_long : ℕ → ℕ → ℕ
  column_long k n = length (all_bytes (joined (λ i. held_at cells k (suc i) ∷ []) n))

  nodes_long : ℕ → ℕ
  nodes_long n = length (all_bytes (joined (node_of cells) n))

  column_more : (k n : ℕ) → column_long k (suc n) ≡ column_long k n + length (bytes_of (held_at cells k (suc n)))
  unfolding column_long joined
  column_more k n =
      let o = one_number (held_at cells k (suc n)) in
      ap length (all_append (joined (λ i. held_at cells k (suc i) ∷ []) n) (held_at cells k (suc n) ∷ []))
      ∙ length-append (all_bytes (joined (λ i. held_at cells k (suc i) ∷ []) n)) (all_bytes (held_at cells k (suc n) ∷ []))
      ∙ rw o

  nodes_more : (n : ℕ) → nodes_long (suc n) ≡ nodes_long n + length (all_bytes (node_of cells n))
  unfolding nodes_long joined
  nodes_more n = ap length (all_append (joined (node_of cells) n) (node_of cells n)) ∙ length-append (all_bytes (joined (node_of cells) n)) (all_bytes (node_of cells n))

  six_bytes : (n : ℕ) → length (all_bytes (node_of cells n))
      ≡ length (bytes_of (form_at cells (suc n))) + length (bytes_of (attributes_at cells (suc n))) + length (bytes_of (detail_at cells (suc n))) + length (bytes_of (first_at cells (suc n))) + length (bytes_of (second_at cells (suc n))) + length (bytes_of (symbol_at cells (suc n)))
  unfolding all_bytes
  six_bytes n = simp length-append (omega arith)

module _ (context count : ℕ) (cells : List ℕ) (ok : Accepted context count cells) (long : length cells ≡ node_cells * count) where
  form_one : (n : ℕ) → length (bytes_of (held_at cells form_column (suc n))) ≤ length (bytes_of (form_at cells (suc n)))
  form_one n =
      let f = (small_forms context count cells ok long).at in
      let d = few_difference (form_at cells (suc n - 1)) (form_at cells (suc n)) (f (suc n - 1)) (f (suc n)) in
      let b = bytes_one (held_difference (form_at cells (suc n - 1)) (form_at cells (suc n))) (omega arith) in
      let s = some_bytes (form_at cells (suc n)) in
      rw (in_forms cells form_column (suc n) refl) (omega arith)

  node_no_longer : (n : ℕ)
      → length (bytes_of (held_at cells form_column (suc n))) + length (bytes_of (held_at cells attributes_column (suc n))) + length (bytes_of (held_at cells detail_column (suc n))) + length (bytes_of (held_at cells first_column (suc n))) + length (bytes_of (held_at cells second_column (suc n))) + length (bytes_of (held_at cells symbol_column (suc n)))
      ≤ length (all_bytes (node_of cells n))
  node_no_longer n =
      let s = six_bytes cells n in
      let a = form_one n in
      let b = ap (λ (m : ℕ). length (bytes_of m)) (in_others cells attributes_column (suc n) (λ z. omega arith) (λ z. omega arith) (λ z. omega arith)) in
      let c = ap (λ (m : ℕ). length (bytes_of m)) (in_others cells detail_column (suc n) (λ z. omega arith) (λ z. omega arith) (λ z. omega arith)) in
      let d = ap (λ (m : ℕ). length (bytes_of m)) (in_operands cells first_column (suc n) refl) in
      let e = ap (λ (m : ℕ). length (bytes_of m)) (in_seconds cells second_column (suc n) refl) in
      let f = ap (λ (m : ℕ). length (bytes_of m)) (in_others cells symbol_column (suc n) (λ z. omega arith) (λ z. omega arith) (λ z. omega arith)) in
      let p = fewer_bytes (held_operand (suc n) (first_at cells (suc n))) (first_at cells (suc n)) (short_distance (suc n) (first_at cells (suc n))) in
      let q = fewer_bytes (held_operand (suc n) (second_at cells (suc n))) (second_at cells (suc n)) (short_distance (suc n) (second_at cells (suc n))) in
      omega arith

  all_columns : (n : ℕ)
      → column_long cells form_column n + column_long cells attributes_column n + column_long cells detail_column n + column_long cells first_column n + column_long cells second_column n + column_long cells symbol_column n ≤ nodes_long cells n
  unfolding column_long nodes_long joined all_bytes
  all_columns zero = omega arith
  all_columns (suc n) =
      let r = all_columns n in
      let o = node_no_longer n in
      let a = column_more cells form_column n in
      let b = column_more cells attributes_column n in
      let c = column_more cells detail_column n in
      let d = column_more cells first_column n in
      let e = column_more cells second_column n in
      let f = column_more cells symbol_column n in
      let g = nodes_more cells n in
      omega arith

  pub numbers_no_longer : length (all_bytes (arranged count cells)) ≤ length (all_bytes cells)
  unfolding arranged held_column column_long nodes_long
  numbers_no_longer =
      let r = all_columns count in
      let e = ap (λ (l : List ℕ). length (all_bytes l)) (all_nodes cells count long) in
      let s = six_columns (held_column count cells) in
      omega arith
