-- What loading and walking leave for printing. Assumes nothing.
use mathlib.Core.Path.{◌≡◌, ◌∙◌}
use mathlib.Core.List.{List}
use Prim.Native.Nat.{ℕ, ◌*◌, ◌≤◌}
use native.Mathlib.Omega.{arith}
use lib.ListN.{length, take, replicate, length-replicate}
use Rattle.tree.specs.Sizes.{node_cells, row_cells, most_nodes}
use Rattle.tree_rules.specs.Refusals.{refusal}
use Rattle.std.specs.Prelude.{Ok, Err}
use Rattle.tree.specs.declared.refusal.Refusal.{Refusal}
use Rattle.tree.specs.Replies.{number_of}
use Rattle.file_loader.specs.Files.{loaded, loaded_table}
use Rattle.file_loader.proofs.Loading.{count_most, stored_room, stored_cells, not_refused}
use Rattle.expr.specs.declared.order.CalleeOrder.TheVariants.{Ours}
use Rattle.row_walk.specs.Walk.{rows_after}
use Rattle.row_walk.proofs.Replies.{rows_are}
use Rattle.text.specs.Numbers.{no_line}
use Rattle.parens.specs.Text.{rows_in, accepted_text, answered, printed}

-- ---- the walk of an accepted table

pub rows_placed : (context count : ℕ) (cells rows after : List ℕ) → refusal context count cells ≡ 0 → count ≤ most_nodes → rows ≡ replicate (row_cells * most_nodes) 0 → after ≡ rows_after Ours context count cells rows → after ≡ rows_in context count cells
unfolding rows_in
rows_placed context count cells rows after ok most zeros e =
    let room : length rows ≡ row_cells * most_nodes = rw zeros (length-replicate {A = ℕ} (row_cells * most_nodes) 0) in
    e ∙ rows_are Ours context count cells rows ok (omega arith) ∙ rw zeros

-- ---- the answers of the loader

-- the table as it is lent
abbrev zeros : List ℕ
zeros = replicate (node_cells * most_nodes) 0

room : length zeros ≡ node_cells * most_nodes
room = length-replicate {A = ℕ} (node_cells * most_nodes) 0

module _ (file after : List ℕ) (stores : after ≡ loaded_table file zeros) where
  pub printed_refusal : (r : Refusal) → Err r ≡ loaded file (length zeros) → no_line (number_of r) ≡ printed file
  unfolding printed answered
  printed_refusal r e = rw (← room, ← e)

  module _ (context count : ℕ) (e : Ok (record { context = context; count = count }) ≡ loaded file (length zeros)) where
    -- the file's numbers are within the table
    pub cells_within : node_cells * count ≤ length after
    cells_within = rw stores (stored_room file zeros context count e (omega (arith, room)))

    -- and are what `put_rows` requires
    pub cells_accepted : (refusal context count (take (node_cells * count) after) ≡ 0) × (count ≤ most_nodes)
    cells_accepted =
        (rw stores (not_refused file zeros context count e (omega (arith, room))), count_most file zeros context count e (omega (arith, room)))

    pub printed_rows : accepted_text context count (take (node_cells * count) after) ≡ printed file
    unfolding printed answered
    printed_rows = rw (stores, stored_cells file zeros context count e (omega (arith, room)), ← room, ← e)
