-- Document 02, Paper 11: what is promised of rearranged files.
use Rattle.std.specs.Prelude.{◌≡◌, List, ℕ, ◌+◌, ◌≤◌, length, Ok}
use Rattle.laws.specs.Lists.{over}
use Rattle.tree.specs.Sizes.{most_file_bytes}
use Rattle.file_loader.specs.Files.{loaded, loaded_table}
use Rattle.file_order.specs.Orders.{most_cells, checks_of}
use Rattle.file_order.specs.Statement.{OfBytes}
use Rattle.file_columns.specs.Columns.{held_difference, rise, fall}
use Rattle.file_columns.specs.Rearranged.{columns_in, file_in, columns_refusal, to_columns, to_columns_after, from_columns, from_columns_after, columns_loaded, columns_table}

-- of an accepted tree file
pub record ToColumns (file : List ℕ) : Type 0 where
  -- A buffer with room for the rearranged file gets it,
  pub as_columns : (buffer : List ℕ) → length (columns_in file) ≤ length buffer
      → (to_columns file (length buffer) ≡ Ok (length (columns_in file))) × (to_columns_after file buffer ≡ over (columns_in file) buffer)
  -- and "an accepted tree file rearranged and put back gives its own bytes".
  pub columns_and_back : (buffer : List ℕ) → length file ≤ length buffer
      → (from_columns (columns_in file) (length buffer) ≡ Ok (length file)) × (from_columns_after (columns_in file) buffer ≡ over file buffer)
  -- Loading the rearranged file is loading the tree file that it came from, into any table.
  pub columns_load : (table : List ℕ)
      → (columns_loaded (columns_in file) (length table) ≡ loaded file (length table)) × (columns_table (columns_in file) table ≡ loaded_table file table)
  -- It is no longer than the tree file.
  pub columns_no_longer : length (columns_in file) ≤ length file

-- of an accepted rearranged file
pub record FromColumns (columns : List ℕ) : Type 0 where
  pub as_file : (buffer : List ℕ) → length (file_in columns) ≤ length buffer
      → (from_columns columns (length buffer) ≡ Ok (length (file_in columns))) × (from_columns_after columns buffer ≡ over (file_in columns) buffer)
  -- "An accepted rearranged file does too."
  pub back_and_columns : (buffer : List ℕ) → length columns ≤ length buffer
      → (to_columns (file_in columns) (length buffer) ≡ Ok (length columns)) × (to_columns_after (file_in columns) buffer ≡ over columns buffer)
  -- No output is longer than a tree file may be.
  pub file_short_enough : length (file_in columns) ≤ most_file_bytes

-- the sign rule
pub record SignRule : Type 0 where
  -- what is held leads back from the number before to the number,
  pub held_restored : (before number : ℕ) → number + fall (held_difference before number) ≡ before + rise (held_difference before number)
  -- so that different numbers are held differently,
  pub held_differs : (before one other : ℕ) → held_difference before one ≡ held_difference before other → one ≡ other
  -- and each number that leads to another is what is held of that
  pub held_again : (before number held : ℕ) → number + fall held ≡ before + rise held → held_difference before number ≡ held

pub record Promise : Type 0 where
  pub as_columns : (file : List ℕ) → OfBytes file → checks_of file ≡ 0 → ToColumns file
  pub as_file : (columns : List ℕ) → OfBytes columns → columns_refusal columns most_cells ≡ 0 → FromColumns columns
  pub sign_rule : SignRule
