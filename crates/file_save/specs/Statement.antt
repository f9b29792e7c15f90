-- Document 02, Paper 2: what is promised of saving an accepted node table, and so of every accepted file.
use Rattle.std.specs.Prelude.{◌≡◌, List, ℕ, ◌*◌, ◌≤◌, length, Ok}
use Rattle.tree.specs.Sizes.{node_cells, most_file_bytes}
use Rattle.laws.specs.Lists.{over}
use Rattle.tree.specs.Trees.{tree_at}
use Rattle.tree_rules.specs.Refusals.{Accepted}
use Rattle.tree_numbering.specs.Numbered.{numbered}
use Rattle.file_loader.specs.Files.{context_in, count_in, cells_in, file_refusal, loaded, loaded_table}
use Rattle.file_save.specs.Saves.{file_of, saved, saved_after}

pub record OneFile (context count : ℕ) (cells : List ℕ) : Type 0 where
  -- "Two accepted files with the same context and the same tree under any numbering give the same bytes",
  pub same_file : (others : ℕ) (other : List ℕ) → Accepted context others other → tree_at other others 1 ≡ tree_at cells count 1 → (buffer : List ℕ)
      → (saved context others other (length buffer) ≡ saved context count cells (length buffer))
      × (saved_after context others other buffer ≡ saved_after context count cells buffer)
  -- "different trees give different bytes", and so do different contexts.
  pub other_file : (kind others : ℕ) (other : List ℕ) → Accepted kind others other → file_of kind others other ≡ file_of context count cells
      → (kind ≡ context) × (tree_at other others 1 ≡ tree_at cells count 1)
  -- "Loading the output" into any table with room for it gives the context, the count and the numbered tree,
  pub loads_back : (table : List ℕ) → node_cells * count ≤ length table
      → (loaded (file_of context count cells) (length table) ≡ Ok (record { context = context; count = count }))
      × (loaded_table (file_of context count cells) table ≡ over (numbered (tree_at cells count 1)) table)
  -- "and writing once more changes nothing."
  pub saved_again : (table : List ℕ) → node_cells * count ≤ length table → (buffer : List ℕ)
      → (saved context count (loaded_table (file_of context count cells) table) (length buffer) ≡ saved context count cells (length buffer))
      × (saved_after context count (loaded_table (file_of context count cells) table) buffer ≡ saved_after context count cells buffer)
  -- No output is longer than a tree file may be.
  pub file_short_enough : length (file_of context count cells) ≤ most_file_bytes

abbrev pub Promise : Type 0
Promise = (context count : ℕ) (cells : List ℕ) → Accepted context count cells → OneFile context count cells

abbrev pub FilePromise : Type 0
FilePromise = (file : List ℕ) (lent : ℕ) → file_refusal file lent ≡ 0 → OneFile (context_in file) (count_in file) (cells_in file)
