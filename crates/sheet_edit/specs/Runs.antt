-- Document 02, Paper 6: an open sheet, and what it is after any run of edits.
use Rattle.std.specs.Prelude.{List, [], ◌∷◌, ◌≡◌, ℕ, ◌*◌, ◌≤◌, eqb, length}
use Rattle.laws.specs.Choice.{pick}
use Rattle.tree.specs.Sizes.{row_cells}
use Rattle.tree.specs.Trees.{tree_at}
use Rattle.tree_rules.specs.Refusals.{Accepted}
use Rattle.tree_numbering.specs.Numbered.{size}
use Rattle.expr.specs.declared.order.CalleeOrder.{CalleeOrder}
use Rattle.row.specs.Rows.{row_of}
use Rattle.row_walk.specs.Walk.{root_handed, rows_after}
use Rattle.row_walk.specs.Paths.{Branch, number_at, tree_by, handed_by, row_in}
use Rattle.sheet_edit.specs.Edits.{Edit, edit_of, result, edit_refusal, table_after, edited_rows}

-- "a tree with its rows"; from Paper 10 on "an open sheet holds, as an enum, its callee order"
pub record Sheet : Type 0 where
  pub context : ℕ
  pub count : ℕ
  pub order : CalleeOrder
  pub table : List ℕ
  pub rows : List ℕ

-- a sheet opened in a callee order: a table, and the rows that deciding in it gives
abbrev pub opened : CalleeOrder → ℕ → ℕ → List ℕ → List ℕ → Sheet
opened order context count cells rows =
    record { context = context; count = count; order = order; table = cells; rows = rows_after order context count cells rows }

-- a node, and the second tree's context, count and table
pub record Change : Type 0 where
  pub place : ℕ
  pub second_context : ℕ
  pub second_count : ℕ
  pub second : List ℕ

abbrev pub edit_on : Sheet → Change → Edit
edit_on s c = edit_of s.context s.count s.table c.place c.second_context c.second_count c.second

-- the sheet after an edit, refused or not
unfoldable pub changed : Sheet → Change → Sheet
changed s c =
    record {
      context = s.context;
      count = pick (eqb (edit_refusal (edit_on s c) (length s.table) (length s.rows)) 0) (size (result (edit_on s c))) s.count;
      order = s.order;
      table = table_after (edit_on s c) (length s.rows);
      rows = edited_rows s.order (edit_on s c) s.rows;
    }

-- after edits one after the other
unfoldable pub ran : Sheet → List Change → Sheet
ran s [] = s
ran s (c ∷ cs) = ran (changed s c) cs

-- the tree is accepted, and each node, at whatever path it stands, has the row that the walk in the sheet's order gives it
pub record Right (s : Sheet) : Type 0 where
  pub accepted : Accepted s.context s.count s.table
  pub room : row_cells * s.count ≤ length s.rows
  pub rows_right : (q : List Branch) → 1 ≤ number_at s.table s.count 1 q
      → row_in s.rows (number_at s.table s.count 1 q) ≡ row_of (handed_by s.order (root_handed s.context (tree_at s.table s.count 1)) (tree_at s.table s.count 1) q) (tree_by (tree_at s.table s.count 1) q)
