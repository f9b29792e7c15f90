-- Document 02, Paper 6: the expression at a named node of an open sheet is replaced by another accepted tree's root and all under it.
use Rattle.std.specs.Prelude.{Bool, not, ◌||◌, List, [], ◌∷◌, ℕ, ◌*◌, eqb, ltb, length, Result, Ok, Err}
use Rattle.laws.specs.Choice.{pick}
use Rattle.laws.specs.Lists.{over}
use Rattle.tree.specs.declared.refusal.Refusal.{Refusal}
use Rattle.tree.specs.Replies.{number_of, replied}
use Rattle.tree.specs.Sizes.{node_cells, row_cells, most_nodes}
use Rattle.tree.specs.Forms.{an_expression, class_of}
use Rattle.tree.specs.Operands.{form_in}
use Rattle.tree.specs.Trees.{Tree, tree_at}
use Rattle.tree_rules.specs.Refusals.{refusal10, refusal11, refuse, first_of, refusal_then}
use Rattle.tree_numbering.specs.Numbered.{size, numbered}
use Rattle.tree_numbering.specs.Replaced.{replaced_at}
use Rattle.expr.specs.declared.order.CalleeOrder.{CalleeOrder}
use Rattle.row_walk.specs.Walk.{tree_rows}

-- ---- the tree

-- "the operand at a named node is replaced by another accepted tree's root and all under it"
abbrev pub edited : List ℕ → ℕ → ℕ → Tree → Tree
edited cells count j s = replaced_at cells count j s 1

-- an edit: the sheet's context, count and table; the node; the second tree's context, count and table
pub record Edit : Type 0 where
  pub context : ℕ
  pub count : ℕ
  pub cells : List ℕ
  pub place : ℕ
  pub second_context : ℕ
  pub second_count : ℕ
  pub second : List ℕ

abbrev pub edit_of : ℕ → ℕ → List ℕ → ℕ → ℕ → ℕ → List ℕ → Edit
edit_of context count cells place second_context second_count second =
    record { context = context; count = count; cells = cells; place = place; second_context = second_context; second_count = second_count; second = second }

-- the result's tree
abbrev pub result : Edit → Tree
result e = edited e.cells e.count e.place (tree_at e.second e.second_count 1)

-- ---- the refusals

-- 17. "the named node is absent or is no expression"
unfoldable pub refusal17 : List ℕ → ℕ → ℕ → Bool
refusal17 cells count j = not (eqb (class_of (form_in cells count j)) an_expression)

-- 18. "the result would have more than 4,096 nodes or break refusal 10 or 11"
unfoldable pub refusal18 : Tree → Bool
refusal18 t = ltb most_nodes (size t) || (refusal10 (numbered t) (size t) || refusal11 (numbered t) (size t))

-- 12. "counted on the result and also given for a node table too short for it": the lengths of a table and of rows
unfoldable pub edit_refusal12 : Tree → ℕ → ℕ → Bool
edit_refusal12 t table rows = ltb table (node_cells * size t) || ltb rows (row_cells * size t)

-- the first that applies, or 0: "in that order after the checks of the sheet and then of the second tree, with refusal 12 .. last"
unfoldable pub edit_refusal : Edit → ℕ → ℕ → ℕ
edit_refusal e table rows =
    refusal_then e.context e.count e.cells
    (refusal_then e.second_context e.second_count e.second
    (first_of (
    refuse 17 (refusal17 e.cells e.count e.place) ∷
    refuse 18 (refusal18 (result e)) ∷
    refuse 12 (edit_refusal12 (result e) table rows) ∷
    [])))

-- ---- the answer, and the buffers afterwards

-- how many nodes the result has, or the refusal
abbrev pub edit_reply : Edit → ℕ → ℕ → Result ℕ Refusal
edit_reply e table rows = replied (edit_refusal e table rows) (size (result e))

-- the rows of a tree in a callee order under a context, worked out afresh, in the cells of the nodes that a table gives it
abbrev pub fresh_rows : CalleeOrder → ℕ → Tree → List ℕ → List ℕ → List ℕ
fresh_rows order context t cells rows = tree_rows order context (size t) t cells rows

-- buffers for the result, where the table and the rows count as so long. "A refused edit changes nothing."
-- Otherwise the table has "the tree .. numbered as in Paper 2" over its start; what lies behind it stays
unfoldable pub result_table : Edit → ℕ → ℕ → List ℕ → List ℕ
result_table e long wide table = pick (eqb (edit_refusal e long wide) 0) (over (numbered (result e)) table) table

-- and "all rows equal those worked out afresh, whatever rows were handed in"; "The sheet's context stays". The callee order is the one that the sheet holds (Paper 10); nothing else of an edit goes by it
unfoldable pub result_rows : CalleeOrder → Edit → ℕ → ℕ → List ℕ → List ℕ → List ℕ
result_rows order e long wide table rows =
    pick (eqb (edit_refusal e long wide) 0) (fresh_rows order e.context (result e) (over (numbered (result e)) table) rows) rows

-- the sheet's table after an edit, where its rows have so many cells, and its rows
abbrev pub table_after : Edit → ℕ → List ℕ
table_after e rows = result_table e (length e.cells) rows e.cells

abbrev pub edited_rows : CalleeOrder → Edit → List ℕ → List ℕ
edited_rows order e rows = result_rows order e (length e.cells) (length rows) e.cells rows

-- "When an answer is an enum, a definition gives this paper's number and values for each of its cases." The reply number, 0 for done, and behind it the value
abbrev pub edited_in_numbers : Result ℕ Refusal → List ℕ
edited_in_numbers (Err refusal) = number_of refusal ∷ []
edited_in_numbers (Ok n) = 0 ∷ n ∷ []
