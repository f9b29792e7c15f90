-- The nodes restored from columns, and their columns: those that they were restored from. Assumes nothing.
use mathlib.Core.Path.{◌≡◌, refl, sym, ◌∙◌}
use mathlib.Core.Bool.{false}
use mathlib.Core.List.{List, [], ◌∷◌}
use Prim.Native.Nat.{ℕ, zero, suc, ◌+◌, ◌*◌, ◌-◌, ◌≤◌, ◌<◌}
use native.Mathlib.Omega.{arith}
use lib.Dec.{ltb}
use lib.ListN.{length, get_or, take, drop, length-drop}
use lib.Seq.{take-length, get_or-drop}
use borrow.Author.Tests.{ltb-false}
use Rattle.laws.proofs.Choice.{or_false}
use Rattle.laws.proofs.Each.{some_none}
use Rattle.tree.specs.Sizes.{node_cells}
use Rattle.tree.specs.Table.{cell_at, form_at, form_column, first_column, second_column}
use Rattle.file_columns.specs.Columns.{held_at, held_column, arranged, column_at, rises, falls, restored_form, restored_node, restored, outside_form, outside, refusal19}
use Rattle.file_columns.proofs.Arranging.{in_forms, in_operands, in_seconds, in_others}
use Rattle.file_columns.proofs.Parts.{join_same, parts}
use Rattle.file_columns_laws.proofs.Signs.{held_again, operand_again}
use Rattle.file_columns_laws.proofs.Parts.{more_parts, part_at, singles}

module _ (count : ℕ) (held : List ℕ) (inside : refusal19 count held ≡ false) where
  abbrev rows : List ℕ
  rows = restored count held

  -- the number in column k of a restored node
  there : (i k : ℕ) → i < count → k < node_cells → cell_at rows (suc i) k ≡ get_or (restored_node count held (suc i)) k 0
  unfolding cell_at restored restored_node
  there i k h l = part_at node_cells (λ i. restored_node count held (suc i)) count (λ j. refl) i k h l

  not_outside : (i : ℕ) → 1 ≤ i → i ≤ count → outside count held i ≡ false
  unfolding refusal19
  not_outside i p q = some_none (outside count held) count inside i p q

  -- ---- forms

  stands : (i : ℕ) → i ≤ count → restored_form count held i + falls count held i ≡ rises count held i
  unfolding restored_form rises falls outside outside_form
  stands zero h = refl
  stands (suc i) h =
      let o = (or_false (outside_form count held (suc i)) _ (not_outside (suc i) (omega arith) h)).0 in
      let l = ltb-false (rises count held (suc i)) (falls count held (suc i)) (or_false (ltb (rises count held (suc i)) (falls count held (suc i))) _ o).0 in
      omega arith

  form_there : (i : ℕ) → i ≤ count → form_at rows i ≡ restored_form count held i
  unfolding cell_at restored_form rises falls restored_node
  form_there zero h = refl
  form_there (suc i) h = there i form_column (omega arith) (omega arith)

  form_again : (i : ℕ) → i < count → held_at rows form_column (suc i) ≡ column_at count held form_column (suc i)
  unfolding rises falls
  form_again i h =
      let z : suc i - 1 ≡ i = omega arith in
      let p = stands i (omega arith) in
      let q = stands (suc i) (omega arith) in
      in_forms rows form_column (suc i) refl
      ∙ rw (z, form_there i (omega arith), form_there (suc i) (omega arith))
      (held_again (restored_form count held i) (restored_form count held (suc i)) (column_at count held form_column (suc i)) (omega arith))

  -- ---- the other columns

  first_again : (i : ℕ) → i < count → held_at rows first_column (suc i) ≡ column_at count held first_column (suc i)
  unfolding restored_node
  first_again i h = in_operands rows first_column (suc i) refl ∙ rw (there i first_column h (omega arith)) (operand_again (suc i) (column_at count held first_column (suc i)) (omega arith))

  second_again : (i : ℕ) → i < count → held_at rows second_column (suc i) ≡ column_at count held second_column (suc i)
  unfolding restored_node
  second_again i h = in_seconds rows second_column (suc i) refl ∙ rw (there i second_column h (omega arith)) (operand_again (suc i) (column_at count held second_column (suc i)) (omega arith))

  again : (k i : ℕ) → k < node_cells → i < count → held_at rows k (suc i) ≡ column_at count held k (suc i)
  unfolding restored_node
  again zero i h l = form_again i l
  again (suc zero) i h l = in_others rows 1 (suc i) (λ z. omega arith) (λ z. omega arith) (λ z. omega arith) ∙ there i 1 l h
  again (suc (suc zero)) i h l = in_others rows 2 (suc i) (λ z. omega arith) (λ z. omega arith) (λ z. omega arith) ∙ there i 2 l h
  again (suc (suc (suc zero))) i h l = first_again i l
  again (suc (suc (suc (suc zero)))) i h l = second_again i l
  again (suc (suc (suc (suc (suc zero))))) i h l = in_others rows 5 (suc i) (λ z. omega arith) (λ z. omega arith) (λ z. omega arith) ∙ there i 5 l h
  again (suc (suc (suc (suc (suc (suc k)))))) i h l = absurd (omega arith)

  -- ---- all columns

  module _ (long : length held ≡ node_cells * count) where
    column : (k : ℕ) → k < node_cells → held_column count rows k ≡ take count (drop (count * k) held)
    unfolding held_column column_at
    column k h =
        let r = more_parts count k node_cells h in
        let m = length-drop (count * k) held in
        join_same (λ i. held_at rows k (suc i) ∷ []) (λ i. get_or (drop (count * k) held) i 0 ∷ []) count number
        ∙ sym (singles (drop (count * k) held) count (omega arith))
      where
        number : (i : ℕ) → i < count → held_at rows k (suc i) ∷ [] ≡ get_or (drop (count * k) held) i 0 ∷ []
        number i l = rw (again k i h l, get_or-drop (count * k) held i 0)

    pub columns_back : arranged count (restored count held) ≡ held
    unfolding arranged
    columns_back =
        let e : count * node_cells ≡ length held = omega arith in
        join_same (held_column count rows) (λ k. take count (drop (count * k) held)) node_cells column
        ∙ sym (parts count held node_cells)
        ∙ rw e (take-length held)
