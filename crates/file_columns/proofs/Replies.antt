-- What is answered and stored where a file is rearranged, put back or loaded. Assumes nothing.
use mathlib.Core.Path.{◌≡◌, sym, ap, ◌∙◌}
use mathlib.Core.Bool.{false, ◌||◌}
use mathlib.Core.List.{List, [], ◌∷◌}
use Prim.Native.Nat.{ℕ, ◌*◌, ◌≤◌}
use native.Mathlib.Omega.{arith}
use native.Mathlib.Decide.{dec_le}
use lib.Dec.{eqb, ltb}
use lib.ListN.{length, take}
use lib.Seq.{take_at}
use borrow.Author.Tests.{eq-eqb, ne_eqb, lt-ltb, le-ltb}
use Rattle.laws.specs.Lists.{over}
use Rattle.laws.proofs.Choice.{pick_true, pick_false}
use Rattle.tree.specs.Sizes.{node_cells, most_nodes}
use Rattle.tree_rules.specs.Refusals.{refusal4, Accepted as Table}
use Rattle.file_loader.specs.declared.Loaded.{Loaded}
use Rattle.std.specs.Prelude.{Result, Ok, Err}
use Rattle.tree.specs.declared.refusal.Refusal.{Refusal as Refused}
use Rattle.tree.specs.Replies.{replied}
use Rattle.tree_rules.specs.Refusals.{refuse, first_of}
use Rattle.file_loader.proofs.Replied.{done_by, said_err}
use Rattle.file_loader.specs.Files.{context_in, count_in, cells_in, number_refusals, file_refusal, loaded, loaded_table}
use Rattle.file_loader.proofs.Files.{accepted_cells}
use Rattle.file_bytes.specs.Bytes.{all_bytes}
use Rattle.file_save.specs.Saves.{save_refusal12, stored, stored_after}
use Rattle.file_order.specs.Orders.{most_cells, checks_of}
use Rattle.file_columns.specs.Columns.{columns_of, refusal19}
use Rattle.file_columns.specs.Rearranged.{columns_in, restored_in, file_in, columns_refusal, answered, answered_after, to_columns, to_columns_after, from_columns, from_columns_after, columns_loaded, columns_table}
use Rattle.file_columns.specs.Steps.{Room, Arrays}
use Rattle.file_columns.proofs.Files.{was_accepted, accepted_columns}

-- ---- 4, by arrays that have room for every count that can be accepted

alike_4 : (count n m : ℕ) → (count ≤ most_nodes → node_cells * count ≤ n) → (count ≤ most_nodes → node_cells * count ≤ m) → refusal4 count n ≡ refusal4 count m
unfolding refusal4
alike_4 count n m p q = go (dec_le count most_nodes)
  where
    go : Dec (count ≤ most_nodes) → (eqb count 0 || (ltb most_nodes count || ltb n (node_cells * count))) ≡ (eqb count 0 || (ltb most_nodes count || ltb m (node_cells * count)))
    go (yes h) = let a = p h in let b = q h in rw (le-ltb n (node_cells * count) a, le-ltb m (node_cells * count) b)
    go (no h) = rw (lt-ltb most_nodes count (omega arith))

any_room : (file : List ℕ) → Room file most_cells
any_room file = λ h. omega arith

same_columns : (columns : List ℕ) (n m : ℕ) → refusal4 (count_in columns) n ≡ refusal4 (count_in columns) m → columns_refusal columns n ≡ columns_refusal columns m
unfolding columns_refusal number_refusals
same_columns columns n m e = rw e

checks_are : (file : List ℕ) (lent : ℕ) → Room file lent → file_refusal file lent ≡ checks_of file
unfolding checks_of file_refusal number_refusals
checks_are file lent room = rw (alike_4 (count_in file) lent most_cells room (any_room file))

columns_are : (columns : List ℕ) (lent : ℕ) → Room columns lent → columns_refusal columns lent ≡ columns_refusal columns most_cells
columns_are columns lent room = same_columns columns lent most_cells (alike_4 (count_in columns) lent most_cells room (any_room columns))

-- an array that is longer than the table that is lent
pub cut_4 : (columns : List ℕ) (n m : ℕ) → Room columns n → n ≤ m → refusal4 (count_in columns) n ≡ refusal4 (count_in columns) m
cut_4 columns n m room h = alike_4 (count_in columns) n m room (λ k. let r = room k in omega arith)

-- ---- bytes

module _ (bytes buffer : List ℕ) where
  -- 12, or 0
  abbrev twelve : ℕ
  twelve = first_of (refuse 12 (save_refusal12 bytes (length buffer)) ∷ [])

  answer_refused : {B : Type 0} (b : B) (R : ℕ) → (R ≡ 0 → ⊥) → (e : Refused) → Err e ≡ replied R b → (Err e ≡ answered R bytes (length buffer)) × (buffer ≡ answered_after R bytes buffer)
  unfolding answered answered_after
  answer_refused b R h e p = (rw (pick_false twelve R (ne_eqb R 0 h)) (said_err ℕ R b (length bytes) e p).0, sym (pick_false _ _ (ne_eqb R 0 h)))

  answer_stored : (R : ℕ) → R ≡ 0 → (r : Result ℕ Refused) (last : List ℕ) → r ≡ stored bytes (length buffer) → last ≡ stored_after bytes (length buffer) buffer
      → (r ≡ answered R bytes (length buffer)) × (last ≡ answered_after R bytes buffer)
  unfolding answered answered_after stored
  answer_stored R e r last p q = (p ∙ ap (λ n. replied n (length bytes)) (sym (pick_true twelve R (eq-eqb R 0 e))), q ∙ sym (pick_true _ _ (eq-eqb R 0 e)))

-- ---- a tree file to columns

module _ (file cells : List ℕ) (room : Room file (length cells)) where
  pub to_refused : (e : Refused) → Err e ≡ loaded file (length cells) → (buffer : List ℕ) → (Err e ≡ to_columns file (length buffer)) × (buffer ≡ to_columns_after file buffer)
  unfolding to_columns to_columns_after loaded
  to_refused e is buffer =
      let w = said_err ℕ (file_refusal file (length cells)) _ 0 e is in
      answer_refused (columns_in file) buffer 0 (checks_of file) (λ z. w.1 (checks_are file (length cells) room ∙ z)) e (rw (checks_are file (length cells) room) at w.0)

  module _ (context count : ℕ) (is : Ok (record { context = context; count = count }) ≡ loaded file (length cells)) (after : List ℕ) (are : after ≡ loaded_table file cells) where
    loads : (file_refusal file (length cells) ≡ 0) × (context ≡ context_in file) × (count ≡ count_in file)
    unfolding loaded
    loads = was_accepted _ _ _ context count is

    known : (count_in file ≤ most_nodes) × (length (cells_in file) ≡ node_cells * count_in file) × Table (context_in file) (count_in file) (cells_in file)
    known = accepted_cells file (length cells) loads.0

    loaded_part : take (node_cells * count) after ≡ cells_in file
    unfolding loaded_table over
    loaded_part =
        let e = are ∙ pick_true _ _ (eq-eqb _ 0 loads.0) in
        rw (e, loads.2) (take_at (cells_in file) _ (node_cells * count_in file) known.1)

    pub table_is_loaded : Table context count (take (node_cells * count) after)
    table_is_loaded = rw (loaded_part, loads.1, loads.2) known.2

    pub loaded_room : node_cells * count ≤ length cells
    loaded_room = rw loads.2 (room known.0)

    pub to_stored : (buffer : List ℕ) (r : Result ℕ Refused) (last : List ℕ) → r ≡ stored (columns_of context count (take (node_cells * count) after)) (length buffer)
        → last ≡ stored_after (columns_of context count (take (node_cells * count) after)) (length buffer) buffer → (r ≡ to_columns file (length buffer)) × (last ≡ to_columns_after file buffer)
    unfolding to_columns to_columns_after columns_in
    to_stored buffer r last p q =
        answer_stored (columns_in file) buffer (checks_of file) (sym (checks_are file (length cells) room) ∙ loads.0) r last
        (p ∙ rw (loaded_part, loads.1, loads.2)) (q ∙ rw (loaded_part, loads.1, loads.2))

-- ---- a rearranged file

module _ (columns held cells after last : List ℕ) (a : Arrays columns held cells after last) where
  not_accepted : (e : Refused) → Err e ≡ columns_loaded columns (length held) → (Err e ≡ replied {A = ℕ} (columns_refusal columns (length held)) 0) × (columns_refusal columns (length held) ≡ 0 → ⊥)
  unfolding columns_loaded
  not_accepted e is = said_err ℕ _ _ 0 e is

  module _ (context count : ℕ) (is : Ok (record { context = context; count = count }) ≡ columns_loaded columns (length held)) where
    restores : (columns_refusal columns (length held) ≡ 0) × (context ≡ context_in columns) × (count ≡ count_in columns)
    unfolding columns_loaded
    restores = was_accepted _ _ _ context count is

    -- the nodes are an accepted table, and stand in the second array
    facts : (count_in columns ≤ most_nodes) × (node_cells * count_in columns ≤ length held) × (length (cells_in columns) ≡ node_cells * count_in columns) × (length (restored_in columns) ≡ node_cells * count_in columns) × (refusal19 (count_in columns) (cells_in columns) ≡ false) × Table (context_in columns) (count_in columns) (restored_in columns)
    facts = accepted_columns columns (length held) restores.0

    pub nodes_part : take (node_cells * count) last ≡ restored_in columns
    unfolding over
    nodes_part = rw (a.are_cells restores.0, restores.2) (take_at (restored_in columns) _ (node_cells * count_in columns) facts.3)

    pub restored_table : Table context count (take (node_cells * count) last)
    restored_table = rw (nodes_part, restores.1, restores.2) facts.5

    pub restored_inside : (count ≤ most_nodes) × (node_cells * count ≤ length held)
    restored_inside = rw restores.2 (facts.0, facts.1)

  -- and back
  module _ (room : Room columns (length held)) (buffer : List ℕ) where
    pub from_refused : (e : Refused) → Err e ≡ columns_loaded columns (length held) → (Err e ≡ from_columns columns (length buffer)) × (buffer ≡ from_columns_after columns buffer)
    unfolding from_columns from_columns_after
    from_refused e is =
        let w = not_accepted e is in
        answer_refused (file_in columns) buffer 0 (columns_refusal columns most_cells) (λ z. w.1 (columns_are columns (length held) room ∙ z)) e (rw (columns_are columns (length held) room) at w.0)

    pub from_stored : (context count : ℕ) → Ok (record { context = context; count = count }) ≡ columns_loaded columns (length held) → (r : Result ℕ Refused) (end : List ℕ) → r ≡ stored (all_bytes (context ∷ count ∷ take (node_cells * count) last)) (length buffer)
        → end ≡ stored_after (all_bytes (context ∷ count ∷ take (node_cells * count) last)) (length buffer) buffer → (r ≡ from_columns columns (length buffer)) × (end ≡ from_columns_after columns buffer)
    unfolding from_columns from_columns_after file_in
    from_stored context count told r end p q =
        let w = restores context count told in
        let e = nodes_part context count told in
        answer_stored (file_in columns) buffer (columns_refusal columns most_cells) (sym (columns_are columns (length held) room) ∙ w.0) r end
        (p ∙ rw (e, w.1, w.2)) (q ∙ rw (e, w.1, w.2))

  -- into a lent table
  module _ (table : List ℕ) (same : refusal4 (count_in columns) (length held) ≡ refusal4 (count_in columns) (length table)) where
    refusal_same : columns_refusal columns (length held) ≡ columns_refusal columns (length table)
    refusal_same = same_columns columns (length held) (length table) same

    pub load_refused : (e : Refused) → Err e ≡ columns_loaded columns (length held) → (Err e ≡ columns_loaded columns (length table)) × (table ≡ columns_table columns table)
    unfolding columns_loaded columns_table
    load_refused e is =
        let w = not_accepted e is in
        let s = said_err Loaded (columns_refusal columns (length held)) 0 (record { context = context_in columns; count = count_in columns }) e w.0 in
        (rw refusal_same at s.0, sym (pick_false _ _ (ne_eqb _ 0 (λ z. w.1 (refusal_same ∙ z)))))

    load_done : columns_refusal columns (length table) ≡ 0 → Ok (record { context = context_in columns; count = count_in columns }) ≡ columns_loaded columns (length table)
    unfolding columns_loaded
    load_done e = done_by _ _ e

    pub load_stored : (context count : ℕ) → Ok (record { context = context; count = count }) ≡ columns_loaded columns (length held) → (end : List ℕ) → end ≡ over (take (node_cells * count) last) table
        → (Ok (record { context = context; count = count }) ≡ columns_loaded columns (length table)) × (end ≡ columns_table columns table)
    unfolding columns_table
    load_stored context count is end q =
        let w = restores context count is in
        let e = sym refusal_same ∙ w.0 in (
          rw (w.1, w.2) (load_done e),
          q ∙ rw (nodes_part context count is) (sym (pick_true _ _ (eq-eqb _ 0 e))),
        )
