-- Document 01, 'Decisions': what `parens` prints for a file, as ASCII codes.
use Rattle.std.specs.Prelude.{List, [], ◌++◌, ℕ, ◌*◌, eqb, replicate, Result, Ok, Err}
use Rattle.laws.specs.Choice.{pick}
use Rattle.tree.specs.Sizes.{node_cells, row_cells, most_nodes}
use Rattle.tree.specs.Forms.{an_expression, class_of}
use Rattle.tree.specs.Operands.{form_in}
use Rattle.tree.specs.Trees.{tree_at}
use Rattle.file_loader.specs.declared.Loaded.{Loaded}
use Rattle.tree.specs.declared.refusal.Refusal.{Refusal}
use Rattle.tree.specs.Replies.{number_of}
use Rattle.file_loader.specs.Files.{cells_in, loaded}
use Rattle.expr.specs.declared.order.CalleeOrder.TheVariants.{Ours}
use Rattle.row.specs.Rows.{rows_of}
use Rattle.row_walk.specs.Walk.{root_handed, placed}
use Rattle.text.specs.Numbers.{row_line, joined, ok_line, no_line}

-- "for each expression its node number and row", whose five cells stand in `rows`: nothing for a type or a link
unfoldable pub node_text : ℕ → List ℕ → List ℕ → ℕ → List ℕ
node_text count cells rows i = pick (eqb (class_of (form_in cells count i)) an_expression) (row_line row_cells rows i) []

-- the lines of nodes 1 to n
abbrev pub lines_of : ℕ → List ℕ → List ℕ → ℕ → List ℕ
lines_of count cells rows n = joined (node_text count cells rows) n

-- "prints "ok" and the count, then for each expression its node number and row"
unfoldable pub all_lines : ℕ → List ℕ → List ℕ → List ℕ
all_lines count cells rows = ok_line count ++ lines_of count cells rows count

-- the rows of the tree at node 1 in our callee order, five cells for each of up to 4,096 nodes
unfoldable pub rows_in : ℕ → ℕ → List ℕ → List ℕ
rows_in context count cells = placed cells count 1 (rows_of Ours (root_handed context (tree_at cells count 1)) (tree_at cells count 1)) (replicate (row_cells * most_nodes) 0)

unfoldable pub accepted_text : ℕ → ℕ → List ℕ → List ℕ
accepted_text context count cells = all_lines count cells (rows_in context count cells)

-- "on refusal only "no" and the number"
unfoldable pub answered : List ℕ → Result Loaded Refusal → List ℕ
answered cells (Err refusal) = no_line (number_of refusal)
answered cells (Ok loaded) = accepted_text loaded.context loaded.count cells

-- what is printed for a file, with a table of 4,096 nodes lent to the loader
unfoldable pub printed : List ℕ → List ℕ
printed file = answered (cells_in file) (loaded file (node_cells * most_nodes))
