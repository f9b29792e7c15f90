-- Document 02, Paper 11: rearranging a tree file, putting it back, and loading a rearranged one: what is answered, and what lent buffers hold afterwards.
use Rattle.std.specs.Prelude.{List, [], ◌∷◌, ℕ, eqb, length, Result}
use Rattle.laws.specs.Choice.{pick}
use Rattle.laws.specs.Lists.{over}
use Rattle.tree.specs.declared.refusal.Refusal.{Refusal}
use Rattle.tree.specs.Replies.{replied}
use Rattle.tree_rules.specs.Refusals.{refuse, first_of, node_refusals}
use Rattle.file_loader.specs.declared.Loaded.{Loaded}
use Rattle.file_loader.specs.Files.{context_in, count_in, cells_in, number_refusals}
use Rattle.file_bytes.specs.Bytes.{all_bytes}
use Rattle.file_save.specs.Saves.{save_refusal12, stored_after}
use Rattle.file_order.specs.Orders.{most_cells, checks_of}
use Rattle.file_columns.specs.Columns.{columns_of, restored, refusal19}

-- ---- what files hold

-- the rearranged file of a tree file
unfoldable pub columns_in : List ℕ → List ℕ
columns_in file = columns_of (context_in file) (count_in file) (cells_in file)

-- the nodes of a rearranged file, whose body is as many numbers as a tree file's
unfoldable pub restored_in : List ℕ → List ℕ
restored_in columns = restored (count_in columns) (cells_in columns)

-- its tree file: the same header, and the nodes' numbers
unfoldable pub file_in : List ℕ → List ℕ
file_in columns = all_bytes (context_in columns ∷ count_in columns ∷ restored_in columns)

-- "Loading a rearranged file runs refusals 1 to 11 as for tree files. (.. 19 ..; its place is straight after refusal 5.)" The first that applies with a lent table of so many cells, or 0
unfoldable pub columns_refusal : List ℕ → ℕ → ℕ
columns_refusal columns lent =
    first_of
    (number_refusals columns lent
    (refuse 19 (refusal19 (count_in columns) (cells_in columns)) ∷
    node_refusals (count_in columns) (restored_in columns)))

-- ---- what is answered and stored

-- bytes into a lent buffer after a refusal, or 0 for none: "An output buffer shorter than the bytes to be written meets refusal 12."
unfoldable pub answered : ℕ → List ℕ → ℕ → Result ℕ Refusal
answered refusal bytes lent = replied (pick (eqb refusal 0) (first_of (refuse 12 (save_refusal12 bytes lent) ∷ [])) refusal) (length bytes)

unfoldable pub answered_after : ℕ → List ℕ → List ℕ → List ℕ
answered_after refusal bytes buffer = pick (eqb refusal 0) (stored_after bytes (length buffer) buffer) buffer

-- a tree file to columns: no table is lent, so that 4 speaks of the count alone
unfoldable pub to_columns : List ℕ → ℕ → Result ℕ Refusal
to_columns file lent = answered (checks_of file) (columns_in file) lent

unfoldable pub to_columns_after : List ℕ → List ℕ → List ℕ
to_columns_after file buffer = answered_after (checks_of file) (columns_in file) buffer

-- and back
unfoldable pub from_columns : List ℕ → ℕ → Result ℕ Refusal
from_columns columns lent = answered (columns_refusal columns most_cells) (file_in columns) lent

unfoldable pub from_columns_after : List ℕ → List ℕ → List ℕ
from_columns_after columns buffer = answered_after (columns_refusal columns most_cells) (file_in columns) buffer

-- a rearranged file into a lent table
unfoldable pub columns_loaded : List ℕ → ℕ → Result Loaded Refusal
columns_loaded columns lent = replied (columns_refusal columns lent) (record { context = context_in columns; count = count_in columns })

unfoldable pub columns_table : List ℕ → List ℕ → List ℕ
columns_table columns table = pick (eqb (columns_refusal columns (length table)) 0) (over (restored_in columns) table) table
