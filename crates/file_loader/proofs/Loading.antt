-- What an accepted file leaves in the lent table. Assumes nothing.
use mathlib.Core.Path.{◌≡◌, ap}
use mathlib.Core.List.{List}
use Prim.Native.Nat.{ℕ, ◌*◌, ◌≤◌}
use native.Mathlib.Omega.{arith}
use lib.ListN.{length, take}
use lib.Seq.{take_at}
use borrow.Author.Tests.{eq-eqb}
use Rattle.laws.specs.Lists.{over}
use Rattle.laws.proofs.Choice.{pick_true}
use Rattle.laws.proofs.Lists.{length_over}
use Rattle.tree.specs.Sizes.{node_cells, most_nodes}
use Rattle.tree_rules.specs.Refusals.{refusal}
use Rattle.std.specs.Prelude.{Ok}
use Rattle.file_loader.proofs.Replied.{said_ok}
use Rattle.file_loader.specs.Files.{context_in, count_in, cells_in, file_refusal, loaded, loaded_table}
use Rattle.file_loader.proofs.Files.{accepted_cells}

-- an accepted file's context and count
pub are_header : (file : List ℕ) (lent context count : ℕ) → Ok (record { context = context; count = count }) ≡ loaded file lent → (file_refusal file lent ≡ 0) × (context ≡ context_in file) × (count ≡ count_in file)
unfolding loaded
are_header file lent context count e = let s = said_ok _ _ _ e in (s.0, ap (λ l. l.context) s.1, ap (λ l. l.count) s.1)

module _ (file table : List ℕ) (context count : ℕ) (e : Ok (record { context = context; count = count }) ≡ loaded file (length table)) (room : node_cells * most_nodes ≤ length table) where
  parts : (count ≤ most_nodes) × (length (cells_in file) ≡ node_cells * count) × (refusal context count (cells_in file) ≡ 0)
  parts =
      let h = are_header file (length table) context count e in
      rw (h.1, h.2) (accepted_cells file (length table) h.0)

  pub count_most : count ≤ most_nodes
  count_most = parts.0

  is_over : loaded_table file table ≡ over (cells_in file) table
  unfolding loaded_table
  is_over = pick_true _ _ (eq-eqb _ 0 (are_header file (length table) context count e).0)

  pub stored_room : node_cells * count ≤ length (loaded_table file table)
  stored_room = let p = parts in rw (is_over, length_over (cells_in file) table (omega arith)) (omega arith)

  pub stored_cells : take (node_cells * count) (loaded_table file table) ≡ cells_in file
  unfolding over
  stored_cells = rw is_over (take_at _ _ (node_cells * count) parts.1)

  pub not_refused : refusal context count (take (node_cells * count) (loaded_table file table)) ≡ 0
  not_refused = rw stored_cells parts.2
