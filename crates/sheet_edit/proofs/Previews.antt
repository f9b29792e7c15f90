-- A preview gives what the edit would give on a copy of the sheet. Assumes nothing.
use mathlib.Core.Path.{◌≡◌, sym, ◌∙◌}
use mathlib.Core.List.{List}
use Prim.Native.Nat.{ℕ, ◌*◌, ◌≤◌, min}
use native.Mathlib.Omega.{arith}
use lib.ListN.{length, take}
use borrow.Author.Tests.{eq-eqb, le-ltb}
use Rattle.laws.specs.Lists.{over}
use Rattle.laws.proofs.Choice.{pick_true, or_next}
use Rattle.tree.specs.Sizes.{node_cells, row_cells}
use Rattle.tree.specs.Trees.{tree_at}
use Rattle.tree_rules.proofs.First.{skip, no_more}
use Rattle.tree_numbering.specs.Numbered.{size, numbered}
use Rattle.tree_numbering.proofs.Holds.{over_numbered}
use Rattle.expr.specs.declared.order.CalleeOrder.{CalleeOrder}
use Rattle.row_walk.specs.Paths.{Branch, number_at, row_in}
use Rattle.row_walk.proofs.Paths.{renumbered}
use Rattle.sheet_edit.specs.Edits.{edit_refusal12, Edit, result, edit_refusal, fresh_rows, result_table, result_rows, table_after, edited_rows}
use Rattle.sheet_edit.specs.Previews.{long, preview_table, preview_rows}
use Rattle.sheet_edit.specs.Statement.{SameReply, Previewed}
use Rattle.sheet_edit.proofs.Replies.{both_accepted, start, Allowed, allowed}

-- in buffers that are as long as the sheet's own, or longer, it answers what the edit answers
pub same_reply : SameReply
same_reply e rows table lent h k =
    let x : min (length e.cells) table ≡ length e.cells = omega arith in
    let y : min rows lent ≡ rows = omega arith in
    rw (x, y)

-- where it is not refused, the edit would not be, and the result's cells and rows are those that the edit gives
module _ (e : Edit) (rows table lent : List ℕ) (taken : edit_refusal e (long e (length table)) (min (length rows) (length lent)) ≡ 0) where
  may : Allowed e (long e (length table)) (min (length rows) (length lent))
  may = allowed e (long e (length table)) (min (length rows) (length lent)) taken

  edit_taken : edit_refusal e (length e.cells) (length rows) ≡ 0
  unfolding edit_refusal12
  edit_taken =
      let t = may.table_room in
      let r = may.rows_room in
      both_accepted e (length e.cells) (length rows) may.sheet may.other
      ∙ skip 17 _ may.named
      ∙ skip 18 _ may.fits
      ∙ skip 12 _ (or_next _ (le-ltb (length e.cells) (node_cells * size (result e)) (omega arith)) ∙ le-ltb (length rows) (row_cells * size (result e)) (omega arith))
      ∙ no_more

  shown : preview_table e (length rows) table (length lent) ≡ over (numbered (result e)) table
  unfolding result_table
  shown = pick_true _ _ (eq-eqb _ 0 taken)

  shown_rows : (order : CalleeOrder) → preview_rows order e (length rows) table lent ≡ fresh_rows order e.context (result e) (over (numbered (result e)) table) lent
  unfolding result_rows
  shown_rows order = pick_true _ _ (eq-eqb _ 0 taken)

  given : table_after e (length rows) ≡ over (numbered (result e)) e.cells
  unfolding result_table
  given = pick_true _ _ (eq-eqb _ 0 edit_taken)

  given_rows : (order : CalleeOrder) → edited_rows order e rows ≡ fresh_rows order e.context (result e) (over (numbered (result e)) e.cells) rows
  unfolding result_rows
  given_rows order = pick_true _ _ (eq-eqb _ 0 edit_taken)

  same_table : take (node_cells * size (result e)) (preview_table e (length rows) table (length lent)) ≡ take (node_cells * size (result e)) (table_after e (length rows))
  same_table = rw (shown, given) (start (result e) table ∙ sym (start (result e) e.cells))

  -- however the buffers go on: at each path of the result
  same_rows : (order : CalleeOrder) (q : List Branch) → 1 ≤ number_at (preview_table e (length rows) table (length lent)) (size (result e)) 1 q → 1 ≤ number_at (table_after e (length rows)) (size (result e)) 1 q
      → row_in (preview_rows order e (length rows) table lent) (number_at (preview_table e (length rows) table (length lent)) (size (result e)) 1 q)
      ≡ row_in (edited_rows order e rows) (number_at (table_after e (length rows)) (size (result e)) 1 q)
  same_rows order q = rw (shown, shown_rows order, given, given_rows order) (λ there there'. rw (whole table, whole e.cells) at (renumbered order e.context (size (result e)) (size (result e)) (over (numbered (result e)) table) (over (numbered (result e)) e.cells) (may.accepted table) (may.accepted e.cells) (whole table ∙ sym (whole e.cells)) lent rows (let r = may.rows_room in omega arith) (let r = may.rows_room in omega arith) q there there'))
    where
      whole : (cells : List ℕ) → tree_at (over (numbered (result e)) cells) (size (result e)) 1 ≡ result e
      whole cells = over_numbered (result e) cells (let f = may.few in omega arith)

pub previewed : Previewed
previewed order e rows table lent z = record { taken = edit_taken e rows table lent z; same_table = same_table e rows table lent z; same_rows = λ q. same_rows e rows table lent z order q }
