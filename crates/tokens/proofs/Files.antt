-- What loading and writing leave for printing. Assumes nothing.
use mathlib.Core.Path.{◌≡◌, refl, sym, ap, ◌∙◌}
use mathlib.Core.Bool.{Bool, true, false}
use mathlib.Core.List.{List}
use Prim.Native.Nat.{ℕ, ◌*◌, ◌≤◌}
use native.Mathlib.Omega.{arith}
use lib.Dec.{eqb}
use lib.ListN.{length, take, replicate, length-replicate}
use lib.Seq.{take_at}
use borrow.Author.Tests.{eq-eqb, eqb-true}
use Rattle.laws.specs.Choice.{pick}
use Rattle.laws.specs.Lists.{over}
use Rattle.laws.proofs.Choice.{pick_true}
use Rattle.laws.proofs.Lists.{length_over}
use Rattle.tree.specs.Sizes.{node_cells, token_cells, most_nodes, most_tokens}
use Rattle.std.specs.Prelude.{Ok, Err}
use Rattle.tree.specs.declared.refusal.Refusal.{Refusal}
use Rattle.tree.specs.Replies.{number_of}
use Rattle.file_loader.specs.Files.{loaded, loaded_table}
use Rattle.file_loader.proofs.Loading.{stored_room, stored_cells}
use Rattle.token_grammar.specs.Tokens.{cells_of}
use Rattle.std.specs.Prelude.{Result, Ok, Err}
use Rattle.tree.specs.declared.refusal.Refusal.{Refusal}
use Rattle.tree.specs.Replies.{number_of}
use Rattle.token_writer.specs.declared.Written.{Written}
use Rattle.token_writer.specs.Writes.{written, pairs_written, write_refusal, answered, tokens_after}
use Rattle.token_writer.proofs.Replied.{replied_ok, replied_value}
use Rattle.token_writer.proofs.Bounds.{accepted_first, tokens_bound}
use Rattle.token_writer.proofs.Tokens.{length_cells}
use Rattle.text.specs.Numbers.{no_line}
use Rattle.tokens.specs.Text.{listed, answer_text, table_text, loaded_text, printed}

-- ---- the answers of the writer

module _ (context count : ℕ) (cells tokens : List ℕ) (room : length tokens ≡ token_cells * most_tokens) where
  pub refused_table : (n : Refusal) → Err n ≡ answered context count cells (length tokens) → no_line (number_of n) ≡ table_text context count cells
  unfolding table_text answer_text
  refused_table n e = rw (← room, ← e)

  module _ (w : Written) (e : Ok w ≡ answered context count cells (length tokens)) where
    parts : (write_refusal context count cells (length tokens) ≡ 0) × (w.tokens ≡ length (written context count cells))
    unfolding answered
    parts = (replied_ok _ _ _ e, ap (λ (x : Written). x.tokens) (replied_value _ _ _ e))

    pub tokens_most : w.tokens ≤ most_tokens
    tokens_most = rw parts.1 (tokens_bound context count cells (accepted_first context count cells (length tokens) parts.0)).1

    -- the tokens stand at the start of the buffer
    cells_taken : take (token_cells * w.tokens) (tokens_after context count cells tokens) ≡ cells_of (written context count cells)
    unfolding tokens_after over
    cells_taken =
        rw (pick_true (over (cells_of (written context count cells)) tokens) tokens (eq-eqb _ 0 parts.0))
        (take_at (cells_of (written context count cells)) _ (token_cells * w.tokens) (length_cells (written context count cells) ∙ ap (λ m. token_cells * m) (sym parts.1)))

    -- and so lie within it
    pub tokens_within : token_cells * w.tokens ≤ length (tokens_after context count cells tokens)
    unfolding tokens_after
    tokens_within =
        let most = tokens_most in
        let codes = length_cells (written context count cells) in
        let p = parts.1 in
        rw (pick_true (over (cells_of (written context count cells)) tokens) tokens (eq-eqb _ 0 parts.0), length_over (cells_of (written context count cells)) tokens (omega arith)) (omega arith)

    pub tokens_table : listed (take (token_cells * w.tokens) (tokens_after context count cells tokens)) ≡ table_text context count cells
    unfolding table_text answer_text
    tokens_table = rw (cells_taken, ← room, ← e)

-- ---- the answers of the loader

-- the table as it is lent
abbrev zeros : List ℕ
zeros = replicate (node_cells * most_nodes) 0

room : length zeros ≡ node_cells * most_nodes
room = length-replicate {A = ℕ} (node_cells * most_nodes) 0

module _ (file after : List ℕ) (stores : after ≡ loaded_table file zeros) where
  pub refused_file : (r : Refusal) → Err r ≡ loaded file (length zeros) → no_line (number_of r) ≡ printed file
  unfolding printed loaded_text
  refused_file r e = rw (← room, ← e)

  module _ (context count : ℕ) (e : Ok (record { context = context; count = count }) ≡ loaded file (length zeros)) where
    -- the file's numbers are within the table
    pub cells_within : node_cells * count ≤ length after
    cells_within = rw stores (stored_room file zeros context count e (omega (arith, room)))

    pub accepted_file : table_text context count (take (node_cells * count) after) ≡ printed file
    unfolding printed loaded_text
    accepted_file = rw (stores, stored_cells file zeros context count e (omega (arith, room)), ← room, ← e)
