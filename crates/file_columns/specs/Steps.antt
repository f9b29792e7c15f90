-- What the private functions of rearranging say of each other. Nothing here is to be believed.
use Rattle.std.specs.Prelude.{true, false, List, Result, Ok, Err, ◌≡◌, ℕ, ◌*◌, ◌≤◌, ◌<◌, length}
use Rattle.laws.specs.Lists.{over}
use Rattle.tree.specs.Sizes.{node_cells, most_nodes}
use Rattle.tree.specs.Table.{form_at}
use Rattle.tree.specs.declared.refusal.Refusal.{Refusal}
use Rattle.tree.specs.declared.refusal.Refusal.TheVariants.{Columns}
use Rattle.file_loader.specs.Files.{count_in}
use Rattle.file_columns.specs.Columns.{restored, refusal19}
use Rattle.file_columns.specs.Rearranged.{restored_in, columns_refusal}
use Rattle.file_loader.specs.Files.{cells_in}

-- each form is below 64, so that its difference from another fits a cell
pub record FewForms (cells : List ℕ) : Type 0 where
  pub at : (i : ℕ) → form_at cells i < 64

-- an array with a cell for each number of a file, if its count can be accepted
abbrev pub Room : List ℕ → ℕ → Type 0
Room file cells = count_in file ≤ most_nodes → node_cells * count_in file ≤ cells

-- whether all nodes could be restored: then they are over the start of the array
abbrev pub RestoredIn : {A : Type 0} → ℕ → List ℕ → List ℕ → List ℕ → Result A Refusal → Type 0
RestoredIn count held before after (Ok a) = (refusal19 count held ≡ false) × (after ≡ over (restored count held) before)
RestoredIn count held before after (Err e) = (e ≡ Columns) × (refusal19 count held ≡ true) × (length after ≡ length before)

-- the arrays of a rearranged file: where it is accepted they hold its numbers and its nodes
pub record Arrays (columns : List ℕ) (held cells after_held after_cells : List ℕ) : Type 0 where
  pub same : length after_held ≡ length held
  pub too : length after_cells ≡ length cells
  pub are_held : columns_refusal columns (length held) ≡ 0 → after_held ≡ over (cells_in columns) held
  pub are_cells : columns_refusal columns (length held) ≡ 0 → after_cells ≡ over (restored_in columns) cells
