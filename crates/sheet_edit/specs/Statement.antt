-- Document 02, Papers 6, 7 and 10: what is promised of edits of an open sheet, and of previews, in either callee order.
use Rattle.std.specs.Prelude.{true, false, List, [], ◌∷◌, ◌++◌, ◌≡◌, ℕ, ◌*◌, ◌≤◌, min, length, take}
use Rattle.laws.specs.Lists.{over}
use Rattle.tree.specs.Sizes.{node_cells, row_cells}
use Rattle.tree.specs.Trees.{tree_at}
use Rattle.tree_rules.specs.Refusals.{refuse, first_of, Accepted}
use Rattle.tree_numbering.specs.Numbered.{size, numbered}
use Rattle.expr.specs.declared.order.CalleeOrder.{CalleeOrder}
use Rattle.row_walk.specs.Walk.{decided}
use Rattle.row_walk.specs.Paths.{Branch, number_at, tree_by, row_in}
use Rattle.sheet_edit.specs.Edits.{Edit, result, refusal17, refusal18, edit_refusal12, edit_refusal, edit_reply, table_after, edited_rows}
use Rattle.sheet_edit.specs.Previews.{long, preview_reply, preview_table, preview_rows}
use Rattle.sheet_edit.specs.Shelters.{sheltered}
use Rattle.sheet_edit.specs.Runs.{Sheet, opened, Change, changed, ran, Right}

-- Where neither 17 nor 18 applies nothing else can: the result is accepted in the sheet's context, whatever lies behind it.
abbrev pub EditedAccepted : Type 0
EditedAccepted =
    (e : Edit) → Accepted e.context e.count e.cells → Accepted e.second_context e.second_count e.second
    → refusal17 e.cells e.count e.place ≡ false → refusal18 (result e) ≡ false
    → (rest : List ℕ) → Accepted e.context (size (result e)) (numbered (result e) ++ rest)

-- the node at a path is the same in two sheets, with all below it, and has the same row
pub record Stays (before after : Sheet) (q : List Branch) : Type 0 where
  pub there : 1 ≤ number_at after.table after.count 1 q
  pub tree : tree_by (tree_at before.table before.count 1) q ≡ tree_by (tree_at after.table after.count 1) q
  pub row : row_in before.rows (number_at before.table before.count 1 q) ≡ row_in after.rows (number_at after.table after.count 1 q)

-- "If those were right, rows of nodes that stay in the sheet and stand inside an index, an argument or a Paren that does not contain the edited place change
-- only in node number." p leads to the edited place, q to the node.
abbrev pub EditLocal : Type 0
EditLocal =
    (s : Sheet) (c : Change) → Right s → (p q : List Branch)
    → number_at s.table s.count 1 p ≡ c.place → 1 ≤ number_at s.table s.count 1 q → sheltered (tree_at s.table s.count 1) p q ≡ true
    → Stays s (changed s c) q

-- "After any run of edits", refused ones among them, an opened sheet is accepted, and its rows are those worked out afresh in the order in which it was opened.
abbrev pub AnyEdits : Type 0
AnyEdits =
    (order : CalleeOrder) (context count : ℕ) (cells rows : List ℕ) → decided context count cells (length rows) ≡ 0
    → (cs : List Change) → Right (ran (opened order context count cells rows) cs)

-- "Replacing node 1 is allowed.": the result is the second tree, and nothing but 12 is left to refuse it.
abbrev pub EditRoot : Type 0
EditRoot =
    (e : Edit) → Accepted e.context e.count e.cells → Accepted e.second_context e.second_count e.second → e.place ≡ 1
    → (result e ≡ tree_at e.second e.second_count 1)
    × ((table rows : ℕ) → edit_refusal e table rows ≡ first_of (refuse 12 (edit_refusal12 (result e) table rows) ∷ []))

-- A node replaced by its own tree gives the sheet's tree, "numbered as in Paper 2".
abbrev pub EditOwn : Type 0
EditOwn =
    (e : Edit) → Accepted e.context e.count e.cells → Accepted e.second_context e.second_count e.second
    → refusal17 e.cells e.count e.place ≡ false → tree_at e.second e.second_count 1 ≡ tree_at e.cells e.count e.place
    → (rows : ℕ) → row_cells * e.count ≤ rows → table_after e rows ≡ over (numbered (tree_at e.cells e.count 1)) e.cells

-- A preview gives "the rows, or the refusal, that the edit would give on a copy of the sheet in buffers as long as its own": the same answer,
abbrev pub SameReply : Type 0
SameReply = (e : Edit) (rows table lent : ℕ) → length e.cells ≤ table → rows ≤ lent → preview_reply e rows table lent ≡ edit_reply e (length e.cells) rows

-- and, in whatever buffers it is not refused, what the edit would give: it is not refused, its cells are the same, and so is the row at each path.
pub record SameResult (order : CalleeOrder) (e : Edit) (rows table lent : List ℕ) : Type 0 where
  pub taken : edit_refusal e (length e.cells) (length rows) ≡ 0
  pub same_table : take (node_cells * size (result e)) (preview_table e (length rows) table (length lent)) ≡ take (node_cells * size (result e)) (table_after e (length rows))
  pub same_rows : (q : List Branch)
      → 1 ≤ number_at (preview_table e (length rows) table (length lent)) (size (result e)) 1 q → 1 ≤ number_at (table_after e (length rows)) (size (result e)) 1 q
      → row_in (preview_rows order e (length rows) table lent) (number_at (preview_table e (length rows) table (length lent)) (size (result e)) 1 q)
      ≡ row_in (edited_rows order e rows) (number_at (table_after e (length rows)) (size (result e)) 1 q)

abbrev pub Previewed : Type 0
Previewed = (order : CalleeOrder) (e : Edit) (rows table lent : List ℕ) → edit_refusal e (long e (length table)) (min (length rows) (length lent)) ≡ 0 → SameResult order e rows table lent
