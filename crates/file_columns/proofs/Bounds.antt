-- The numbers of an accepted table are small, and so are those that are held of them: what their bytes take. Assumes nothing.
use mathlib.Core.Path.{◌≡◌, refl, ap}
use mathlib.Core.List.{List, [], ◌∷◌}
use Prim.Native.Nat.{ℕ, zero, suc, ◌+◌, ◌*◌, ◌-◌, ◌≤◌, ◌<◌}
use native.Mathlib.Omega.{arith}
use native.Mathlib.Decide.{dec_le}
use lib.ListN.{length, get_or, take, length-append, length-take, get_or-eq_default}
use lib.Seq.{take_at}
use Rattle.laws.specs.Lists.{over}
use Rattle.tree.specs.Sizes.{node_cells, most_nodes, most_file_bytes}
use Rattle.tree.specs.Table.{cell_at, form_at, attributes_at, detail_at, first_at, second_at, symbol_at, attributes_column, detail_column, first_column, second_column, symbol_column}
use Rattle.tree.specs.Trees.{label_at}
use Rattle.tree_rules.specs.Refusals.{Accepted}
use Rattle.tree_rules.proofs.Accepted.{context_most, count_bounds, numbers_allowed, first_most, second_most}
use Rattle.tree_sound.proofs.Sound.{bad_label}
use Rattle.file_bytes.specs.Bytes.{bytes_of, all_bytes}
use Rattle.file_bytes.proofs.Numbers.{some_bytes}
use Rattle.file_bytes.proofs.Several.{all_append}
use Rattle.file_save.specs.Stores.{node_bytes}
use Rattle.file_save.proofs.Putting.{whole_long}
use Rattle.file_save.proofs.Small.{Small, small_label, bytes_one, bytes_two}
use Rattle.file_columns.specs.Columns.{joined, held_difference, held_operand, held_at, held_column, arranged, columns_of}
use Rattle.file_columns.specs.Steps.{FewForms}
use Rattle.file_columns.proofs.Held.{held_up, held_down, held_before, held_behind}
use Rattle.file_columns.proofs.Arranging.{in_forms, in_operands, in_seconds, in_others, arranged_length}
use Rattle.file_columns.proofs.Parts.{node_of, all_nodes}

-- ---- what is held is small too

pub few_difference : (before number : ℕ) → before < 64 → number < 64 → held_difference before number ≤ 127
few_difference before number p q = go (dec_le before number)
  where
    go : Dec (before ≤ number) → held_difference before number ≤ 127
    go (yes h) = rw (held_up before number h) (omega arith)
    go (no h) = rw (held_down before number (omega arith)) (omega arith)

pub short_distance : (owner operand : ℕ) → held_operand owner operand ≤ operand
short_distance owner operand = go (dec_le operand owner)
  where
    go : Dec (operand ≤ owner) → held_operand owner operand ≤ operand
    go (yes h) = rw (held_before owner operand h) (omega arith)
    go (no h) = rw (held_behind owner operand (omega arith)) (omega arith)

-- ---- bytes of parts

pub bytes_joined : (w : ℕ) (g : ℕ → List ℕ) (n : ℕ) → ((i : ℕ) → i < n → length (all_bytes (g i)) ≤ w) → length (all_bytes (joined g n)) ≤ w * n
unfolding joined all_bytes
bytes_joined w g zero h = omega arith
bytes_joined w g (suc n) h =
    let r = bytes_joined w g n (λ i l. h i (omega arith)) in
    let l = h n (omega arith) in
    rw (all_append (joined g n) (g n)) (simp length-append (omega arith))

pub one_number : (n : ℕ) → length (all_bytes (n ∷ [])) ≡ length (bytes_of n)
unfolding all_bytes
one_number n = simp length-append (omega arith)

-- ---- an accepted table

module _ (context count : ℕ) (cells : List ℕ) (ok : Accepted context count cells) (long : length cells ≡ node_cells * count) where
  bounds : (1 ≤ count) × (count ≤ most_nodes) × (node_cells * count ≤ length cells)
  bounds = count_bounds context count cells ok

  pub small_node : (i : ℕ) → 1 ≤ i → i ≤ count → Small (label_at cells i)
  unfolding bad_label label_at
  small_node i p q = small_label (label_at cells i) (rw (numbers_allowed context count cells ok i p q))

  pub small_forms : FewForms cells
  unfolding cell_at label_at
  small_forms = record { at = go }
    where
      behind : (i : ℕ) → count < suc i → form_at cells (suc i) < 64
      behind i h = let e : get_or cells (node_cells * i + 0) 0 ≡ 0 = get_or-eq_default cells 0 (omega arith) in omega arith

      within : (i : ℕ) → Small (label_at cells i) → form_at cells i < 64
      within i s = omega (arith, s.form)

      go : (i : ℕ) → form_at cells i < 64
      go zero = omega arith
      go (suc i) = by (dec_le (suc i) count)
        where
          by : Dec (suc i ≤ count) → form_at cells (suc i) < 64
          by (yes h) = within (suc i) (small_node (suc i) (omega arith) h)
          by (no h) = behind i (omega arith)

  -- a node's numbers, in bytes
  node_bytes_lem : (i : ℕ) → i < count → length (all_bytes (node_of cells i)) ≤ node_bytes
  unfolding all_bytes label_at
  node_bytes_lem i h =
      let k = bounds in
      let s = small_node (suc i) (omega arith) (omega arith) in
      let p = bytes_one (form_at cells (suc i)) (omega (arith, s.form)) in
      let q = bytes_one (attributes_at cells (suc i)) s.attributes in
      let r = bytes_one (detail_at cells (suc i)) s.detail in
      let a = first_most context count cells ok (suc i) (omega arith) (omega arith) in
      let b = second_most context count cells ok (suc i) (omega arith) (omega arith) in
      let u = bytes_two (first_at cells (suc i)) (omega arith) in
      let v = bytes_two (second_at cells (suc i)) (omega arith) in
      let w = some_bytes (symbol_at cells (suc i)) in
      simp length-append (omega (arith, w.1))

  pub few_cells : length (all_bytes cells) ≤ node_bytes * count
  few_cells =
      let e = ap (λ (l : List ℕ). length (all_bytes l)) (all_nodes cells count long) in
      let b = bytes_joined node_bytes (node_of cells) count node_bytes_lem in
      omega arith

  -- a column's
  held_bytes : (w k : ℕ) → ((i : ℕ) → i < count → length (bytes_of (held_at cells k (suc i))) ≤ w) → length (all_bytes (held_column count cells k)) ≤ w * count
  unfolding held_column
  held_bytes w k h = bytes_joined w (λ i. held_at cells k (suc i) ∷ []) count (λ i l. rw (one_number (held_at cells k (suc i))) (h i l))

  form_bytes : (i : ℕ) → i < count → length (bytes_of (held_at cells 0 (suc i))) ≤ 1
  form_bytes i h =
      let f = small_forms.at in
      let e = bytes_one (held_difference (form_at cells (suc i - 1)) (form_at cells (suc i))) (let d = few_difference (form_at cells (suc i - 1)) (form_at cells (suc i)) (f (suc i - 1)) (f (suc i)) in omega arith) in
      rw (in_forms cells 0 (suc i) refl) (omega arith)

  attributes_bytes : (i : ℕ) → i < count → length (bytes_of (held_at cells attributes_column (suc i))) ≤ 1
  unfolding label_at
  attributes_bytes i h =
      let s = small_node (suc i) (omega arith) (omega arith) in
      let e = bytes_one (attributes_at cells (suc i)) s.attributes in
      rw (in_others cells attributes_column (suc i) (λ z. omega arith) (λ z. omega arith) (λ z. omega arith)) (omega arith)

  detail_bytes : (i : ℕ) → i < count → length (bytes_of (held_at cells detail_column (suc i))) ≤ 1
  unfolding label_at
  detail_bytes i h =
      let s = small_node (suc i) (omega arith) (omega arith) in
      let e = bytes_one (detail_at cells (suc i)) s.detail in
      rw (in_others cells detail_column (suc i) (λ z. omega arith) (λ z. omega arith) (λ z. omega arith)) (omega arith)

  first_bytes : (i : ℕ) → i < count → length (bytes_of (held_at cells first_column (suc i))) ≤ 2
  first_bytes i h =
      let k = bounds in
      let m = first_most context count cells ok (suc i) (omega arith) (omega arith) in
      let d = short_distance (suc i) (first_at cells (suc i)) in
      rw (in_operands cells first_column (suc i) refl) (bytes_two (held_operand (suc i) (first_at cells (suc i))) (omega arith))

  second_bytes : (i : ℕ) → i < count → length (bytes_of (held_at cells second_column (suc i))) ≤ 2
  second_bytes i h =
      let k = bounds in
      let m = second_most context count cells ok (suc i) (omega arith) (omega arith) in
      let d = short_distance (suc i) (second_at cells (suc i)) in
      rw (in_seconds cells second_column (suc i) refl) (bytes_two (held_operand (suc i) (second_at cells (suc i))) (omega arith))

  pub few_columns : length (all_bytes (arranged count cells)) ≤ node_bytes * count
  unfolding arranged joined all_bytes
  few_columns =
      let p = held_bytes 1 0 form_bytes in
      let q = held_bytes 1 attributes_column attributes_bytes in
      let r = held_bytes 1 detail_column detail_bytes in
      let s = held_bytes 2 first_column first_bytes in
      let t = held_bytes 2 second_column second_bytes in
      let u = held_bytes 3 symbol_column (λ i l. (some_bytes (held_at cells symbol_column (suc i))).1) in
      simp (all_append, length-append) (omega arith)

  -- a context and a count before them
  headed : (numbers : List ℕ) → length (all_bytes numbers) ≤ node_bytes * count → length (all_bytes (context ∷ count ∷ numbers)) < most_file_bytes
  headed numbers h =
      let k = bounds in
      let m = context_most context count cells ok in
      let p = bytes_one context (omega arith) in
      let q = bytes_two count (omega arith) in
      let w = whole_long context count numbers in
      omega arith

  pub short_file : length (all_bytes (context ∷ count ∷ cells)) < most_file_bytes
  short_file = headed cells few_cells

  pub short_columns : length (columns_of context count cells) < most_file_bytes
  unfolding columns_of
  short_columns = headed (arranged count cells) few_columns

-- ---- a part of an array that is an accepted table

pub part_long : (context count : ℕ) (cells : List ℕ) → Accepted context count (take (node_cells * count) cells) → length (take (node_cells * count) cells) ≡ node_cells * count
part_long context count cells ok =
    let b = count_bounds context count (take (node_cells * count) cells) ok in
    let l = length-take (node_cells * count) cells in
    omega arith

-- the array that its columns are put into
module _ (count : ℕ) (cells held after : List ℕ) (room : node_cells * count ≤ length held) (put : after ≡ over (arranged count cells) held) where
  pub arranged_part : take (node_cells * count) after ≡ arranged count cells
  unfolding over
  arranged_part = rw put (take_at (arranged count cells) _ (node_cells * count) (arranged_length count cells))

  pub arranged_part_long : length (take (node_cells * count) after) ≡ node_cells * count
  arranged_part_long = rw arranged_part (arranged_length count cells)
