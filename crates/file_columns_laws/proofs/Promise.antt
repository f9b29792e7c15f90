-- The promise on rearranged files. Assumes nothing.
use mathlib.Core.Path.{◌≡◌, refl, sym, ◌∙◌}
use mathlib.Core.Bool.{Bool, true, false}
use mathlib.Core.List.{List, [], ◌∷◌}
use Prim.Native.Nat.{ℕ, zero, suc, ◌-◌, ◌*◌, ◌≤◌, ◌<◌}
use native.Mathlib.Omega.{arith}
use lib.ListN.{length}
use borrow.Author.Tests.{eq-eqb, le-ltb}
use Rattle.laws.specs.Lists.{over}
use Rattle.laws.proofs.Choice.{pick_true, pick_false}
use Rattle.tree.specs.Sizes.{node_cells, most_nodes}
use Rattle.tree.specs.Trees.{label_at}
use Rattle.tree.specs.Table.{cell_at, form_at, attributes_at, detail_at, first_at, second_at, symbol_at, form_column, attributes_column, detail_column, first_column, second_column, symbol_column}
use Rattle.tree_rules.specs.Refusals.{refusal4, Refusal, refuse, first_of, node_refusals, Accepted}
use Rattle.tree_rules.proofs.First.{stop, skip, no_more}
use Rattle.tree_rules.proofs.Count.{fits_count}
use Rattle.tree_rules.proofs.Accepted.{context_most, count_bounds, first_most, second_most}
use Rattle.file_loader.specs.Files.{context_in, count_in, cells_in, file_refusal, loaded, loaded_table}
use Rattle.file_loader.proofs.Files.{first_in, nodes_refusal, passes, accepted_cells}
use Rattle.file_bytes.specs.Bytes.{all_bytes}
use Rattle.file_bytes.proofs.Below.{AllBelow, below_none, below_more}
use Rattle.file_bytes.proofs.Files.{whole_numbers, whole_file}
use Rattle.file_bytes.proofs.Whole as whole
use Rattle.std.specs.Prelude.{Ok}
use Rattle.file_loader.proofs.Replied.{done_by}
use Rattle.file_save.specs.Saves.{save_refusal12, stored_after}
use Rattle.file_save.proofs.Putting.{whole_long}
use Rattle.file_save.proofs.Small.{Small}
use Rattle.file_order.specs.Orders.{most_cells, checks_of}
use Rattle.file_order.specs.Statement.{OfBytes}
use Rattle.file_columns.specs.Columns.{held_operand, held_at, held_column, arranged, columns_of}
use Rattle.file_columns.specs.Rearranged.{columns_in, restored_in, file_in, columns_refusal, answered, answered_after, to_columns, to_columns_after, from_columns, from_columns_after, columns_loaded, columns_table}
use Rattle.file_columns.proofs.Arranging.{in_forms, in_operands, in_seconds, in_others, arranged_length}
use Rattle.file_columns.proofs.Parts.{node_of, all_nodes}
use Rattle.file_columns.proofs.Bounds.{few_difference, short_distance, small_node, small_forms, short_file, short_columns}
use Rattle.file_columns.proofs.Files.{accepted_columns}
use Rattle.file_columns_laws.specs.Statement.{ToColumns, FromColumns, Promise}
use Rattle.file_columns_laws.proofs.Signs.{sign_rule}
use Rattle.file_columns_laws.proofs.Parts.{below_joined}
use Rattle.file_columns_laws.proofs.Rows.{columns_back}
use Rattle.file_columns_laws.proofs.Columns.{cells_back, none_out}
use Rattle.file_columns_laws.proofs.Lengths.{numbers_no_longer}

-- bytes into a buffer with room for them
module _ (R : ℕ) (fine : R ≡ 0) (bytes buffer : List ℕ) (room : length bytes ≤ length buffer) where
  given : (answered R bytes (length buffer) ≡ Ok (length bytes)) × (answered_after R bytes buffer ≡ over bytes buffer)
  unfolding answered answered_after stored_after save_refusal12
  given =
      let z = eq-eqb R 0 fine in
      let r = le-ltb (length buffer) (length bytes) room in
      (sym (done_by _ _ (pick_true _ _ z ∙ skip _ _ r ∙ no_more)), pick_true _ _ z ∙ pick_false _ _ r)

-- ---- an accepted table: its tree file and its rearranged file

module _ (context count : ℕ) (cells : List ℕ) (ok : Accepted context count cells) (long : length cells ≡ node_cells * count) where
  abbrev tree : List ℕ
  tree = all_bytes (context ∷ count ∷ cells)

  bounds : (1 ≤ count) × (count ≤ most_nodes) × (node_cells * count ≤ length cells)
  bounds = count_bounds context count cells ok

  low : context ≤ 3
  low = context_most context count cells ok

  -- ---- their numbers are small

  small_head : AllBelow 65536 (context ∷ count ∷ [])
  small_head =
      let k = bounds in
      let m = low in
      below_more context (omega arith) (below_more count (omega arith) (below_none (omega arith)))

  small_six : (i : ℕ) → i < count → AllBelow 65536 (node_of cells i)
  unfolding label_at
  small_six i h =
      let k = bounds in
      let s = small_node context count cells ok long (suc i) (omega arith) (omega arith) in
      let p = first_most context count cells ok (suc i) (omega arith) (omega arith) in
      let q = second_most context count cells ok (suc i) (omega arith) (omega arith) in
      below_more (form_at cells (suc i)) (omega (arith, s.form))
      (below_more (attributes_at cells (suc i)) (omega (arith, s.attributes))
      (below_more (detail_at cells (suc i)) (omega (arith, s.detail))
      (below_more (first_at cells (suc i)) (omega arith)
      (below_more (second_at cells (suc i)) (omega arith)
      (below_more (symbol_at cells (suc i)) s.symbol (below_none (omega arith)))))))

  small_cells : AllBelow 65536 cells
  small_cells = rw (sym (all_nodes cells count long)) at (below_joined (node_of cells) count (omega arith) small_six)

  small_held : (k i : ℕ) → k < node_cells → i < count → held_at cells k (suc i) < 65536
  unfolding label_at
  small_held k i l h = go k l
    where
      other : (k : ℕ) → (k ≡ form_column → ⊥) → (k ≡ first_column → ⊥) → (k ≡ second_column → ⊥) → cell_at cells (suc i) k < 65536 → held_at cells k (suc i) < 65536
      other k p q r m = rw (in_others cells k (suc i) p q r) m

      operand : (k : ℕ) → held_at cells k (suc i) ≡ held_operand (suc i) (cell_at cells (suc i) k) → cell_at cells (suc i) k ≤ count → held_at cells k (suc i) < 65536
      operand k e m = let b = bounds in let d = short_distance (suc i) (cell_at cells (suc i) k) in omega arith

      node : Small (label_at cells (suc i))
      node = small_node context count cells ok long (suc i) (omega arith) (omega arith)

      form : held_at cells form_column (suc i) < 65536
      form =
          let f = (small_forms context count cells ok long).at in
          let d = few_difference (form_at cells (suc i - 1)) (form_at cells (suc i)) (f (suc i - 1)) (f (suc i)) in
          rw (in_forms cells form_column (suc i) refl) (omega arith)

      go : (k : ℕ) → k < node_cells → held_at cells k (suc i) < 65536
      go zero l = form
      go (suc zero) l = let s = node in other attributes_column (λ z. omega arith) (λ z. omega arith) (λ z. omega arith) (omega (arith, s.attributes))
      go (suc (suc zero)) l = let s = node in other detail_column (λ z. omega arith) (λ z. omega arith) (λ z. omega arith) (omega (arith, s.detail))
      go (suc (suc (suc zero))) l = operand first_column (in_operands cells first_column (suc i) refl) (first_most context count cells ok (suc i) (omega arith) (omega arith))
      go (suc (suc (suc (suc zero)))) l = operand second_column (in_seconds cells second_column (suc i) refl) (second_most context count cells ok (suc i) (omega arith) (omega arith))
      go (suc (suc (suc (suc (suc zero))))) l = let s = node in other symbol_column (λ z. omega arith) (λ z. omega arith) (λ z. omega arith) s.symbol
      go (suc (suc (suc (suc (suc (suc k)))))) l = absurd (omega arith)

  small_columns : AllBelow 65536 (arranged count cells)
  unfolding arranged held_column
  small_columns = below_joined (held_column count cells) node_cells (omega arith) (λ k l. below_joined (λ i. held_at cells k (suc i) ∷ []) count (omega arith) (λ i h. below_more (held_at cells k (suc i)) (small_held k i l h) (below_none (omega arith))))

  -- ---- what they hold

  held_long : length (arranged count cells) ≡ node_cells * count
  held_long = arranged_length count cells

  tree_context : context_in tree ≡ context
  tree_context = whole.is_context context count cells small_head small_cells long

  tree_count : count_in tree ≡ count
  tree_count = whole.is_count context count cells small_head small_cells long

  tree_cells : cells_in tree ≡ cells
  tree_cells = whole.are_cells context count cells small_head small_cells long

  columns_context : context_in (columns_of context count cells) ≡ context
  unfolding columns_of
  columns_context = whole.is_context context count (arranged count cells) small_head small_columns held_long

  columns_count : count_in (columns_of context count cells) ≡ count
  unfolding columns_of
  columns_count = whole.is_count context count (arranged count cells) small_head small_columns held_long

  columns_cells : cells_in (columns_of context count cells) ≡ arranged count cells
  unfolding columns_of
  columns_cells = whole.are_cells context count (arranged count cells) small_head small_columns held_long

  restored_cells : restored_in (columns_of context count cells) ≡ cells
  unfolding restored_in
  restored_cells = rw (columns_count, columns_cells) (cells_back context count cells ok long)

  -- ---- they are accepted, but for 4

  abbrev only_4 : ℕ → ℕ
  only_4 lent = first_of (refuse 4 (refusal4 count lent) ∷ [])

  nodes_pass : first_of (node_refusals count cells) ≡ 0
  nodes_pass =
      let k = bounds in
      sym (nodes_refusal context count cells low (fits_count count (length cells) k.0 k.1 k.2)) ∙ ok

  four : (lent : ℕ) (others : List Refusal) → first_of others ≡ 0 → first_of (refuse 4 (refusal4 count lent) ∷ others) ≡ only_4 lent
  four lent others e = go (refusal4 count lent)
    where
      go : (b : Bool) → first_of (refuse 4 b ∷ others) ≡ first_of (refuse 4 b ∷ [])
      go true = stop _ _ refl ∙ sym (stop _ _ refl)
      go false = skip _ _ refl ∙ e ∙ sym (skip _ _ refl ∙ no_more)

  tree_refusal : (lent : ℕ) → file_refusal tree lent ≡ only_4 lent
  unfolding file_refusal
  tree_refusal lent =
      let s = short_file context count cells ok long in
      whole.only_4 context count cells small_head small_cells long (omega arith) low lent _
      ∙ four lent _ (rw (tree_count, tree_cells) nodes_pass)

  columns_first : (lent : ℕ) (others : List Refusal) → first_in (columns_of context count cells) lent others ≡ first_of (refuse 4 (refusal4 count lent) ∷ others)
  unfolding columns_of
  columns_first lent others =
      let s = short_columns context count cells ok long in
      whole.only_4 context count (arranged count cells) small_head small_columns held_long (omega arith) low lent others

  columns_refusal_lem : (lent : ℕ) → columns_refusal (columns_of context count cells) lent ≡ only_4 lent
  unfolding columns_refusal
  columns_refusal_lem lent = columns_first lent _ ∙ four lent _ (skip _ _ (rw (columns_count, columns_cells) (none_out context count cells ok long)) ∙ rw (columns_count, restored_cells) nodes_pass)

  room_4 : only_4 most_cells ≡ 0
  room_4 = let k = bounds in skip _ _ (fits_count count most_cells k.0 k.1 (omega arith)) ∙ no_more

  -- ---- there, back, and into a table

  is_columns : columns_in tree ≡ columns_of context count cells
  unfolding columns_in
  is_columns = rw (tree_context, tree_count, tree_cells)

  is_file : file_in (columns_of context count cells) ≡ tree
  unfolding file_in
  is_file = rw (columns_context, columns_count, restored_cells)

  pub there : (buffer : List ℕ) → length (columns_of context count cells) ≤ length buffer
      → (to_columns tree (length buffer) ≡ Ok (length (columns_of context count cells))) × (to_columns_after tree buffer ≡ over (columns_of context count cells) buffer)
  unfolding to_columns to_columns_after checks_of
  there buffer room = rw is_columns (given (file_refusal tree most_cells) (tree_refusal most_cells ∙ room_4) (columns_of context count cells) buffer room)

  pub back : (buffer : List ℕ) → length tree ≤ length buffer
      → (from_columns (columns_of context count cells) (length buffer) ≡ Ok (length tree)) × (from_columns_after (columns_of context count cells) buffer ≡ over tree buffer)
  unfolding from_columns from_columns_after
  back buffer room = rw is_file (given (columns_refusal (columns_of context count cells) most_cells) (columns_refusal_lem most_cells ∙ room_4) tree buffer room)

  pub loads : (table : List ℕ) → (columns_loaded (columns_of context count cells) (length table) ≡ loaded tree (length table)) × (columns_table (columns_of context count cells) table ≡ loaded_table tree table)
  unfolding columns_loaded columns_table loaded loaded_table
  loads table = (
    rw (columns_refusal_lem (length table), tree_refusal (length table), columns_context, columns_count, tree_context, tree_count),
    rw (columns_refusal_lem (length table), tree_refusal (length table), restored_cells, tree_cells),
  )

  pub no_longer : length (columns_of context count cells) ≤ length tree
  unfolding columns_of
  no_longer =
      let n = numbers_no_longer context count cells ok long in
      let p = whole_long context count (arranged count cells) in
      let q = whole_long context count cells in
      omega arith

-- ---- an accepted tree file

file_promise : (file : List ℕ) → OfBytes file → checks_of file ≡ 0 → ToColumns file
unfolding checks_of columns_in
file_promise file b e =
    let k = accepted_cells file most_cells e in
    let w = whole_file file most_cells e (record { at = b.byte }) in
    record {
      as_columns = λ buffer room. rw (← w) at (there (context_in file) (count_in file) (cells_in file) k.2 k.1 buffer room);
      columns_and_back = λ buffer room. rw (← w) at (back (context_in file) (count_in file) (cells_in file) k.2 k.1 buffer (rw w at room));
      columns_load = λ table. rw (← w) at (loads (context_in file) (count_in file) (cells_in file) k.2 k.1 table);
      columns_no_longer = rw (← w) at (no_longer (context_in file) (count_in file) (cells_in file) k.2 k.1);
    }

-- ---- an accepted rearranged file

same : (columns : List ℕ) → OfBytes columns → columns_refusal columns most_cells ≡ 0 → columns ≡ columns_of (context_in columns) (count_in columns) (restored_in columns)
unfolding columns_refusal columns_of restored_in
same columns b e =
    let k = accepted_columns columns most_cells e in
    let p = (passes columns most_cells _ e).0 in
    whole_numbers columns most_cells p (record { at = b.byte })
    ∙ rw (columns_back (count_in columns) (cells_in columns) k.4 k.2)

columns_promise : (columns : List ℕ) → OfBytes columns → columns_refusal columns most_cells ≡ 0 → FromColumns columns
unfolding file_in
columns_promise columns b e =
    let k = accepted_columns columns most_cells e in
    let h = same columns b e in
    let s = short_file (context_in columns) (count_in columns) (restored_in columns) k.5 k.3 in
    record {
      as_file = λ buffer room. rw (← h) at (back (context_in columns) (count_in columns) (restored_in columns) k.5 k.3 buffer room);
      back_and_columns = λ buffer room. rw (← h) at (there (context_in columns) (count_in columns) (restored_in columns) k.5 k.3 buffer (rw h at room));
      file_short_enough = omega arith;
    }

pub promise : Promise
promise = record { as_columns = file_promise; as_file = columns_promise; sign_rule = sign_rule }
