-- The reply of `decide_by`, and what the lent rows hold afterwards; `decide` is the same in our callee order.
use Rattle.std.specs.Prelude.{Bool, List, [], ◌∷◌, ℕ, ◌+◌, ◌*◌, ◌-◌, eqb, ltb, length, set}
use Rattle.laws.specs.Choice.{pick, Line, line, lookup}
use Rattle.tree.specs.Sizes.{row_cells, most_levels}
use Rattle.tree.specs.Table.{first_column, second_column}
use Rattle.tree.specs.Trees.{Tree, operand_at, tree_at}
use Rattle.tree_rules.specs.Refusals.{refusal}
use Rattle.fixup.specs.declared.context.FixupContext.{FixupContext}
use Rattle.fixup.specs.Contexts.{none_context, new_stmt, new_match_arm, new_condition}
use Rattle.expr.specs.declared.Handed.{Handed}
use Rattle.expr.specs.declared.order.CalleeOrder.{CalleeOrder}
use Rattle.expr.specs.Handed.{neither}
use Rattle.row.specs.declared.Row.{Row}
use Rattle.row.specs.Rows.{Rows, absent, present, rows_of}
use Rattle.row_walk.specs.Stack.{within}

-- document 01, 'Tree file': "Context: 0 NONE, 1 new_stmt, 2 new_match_arm, 3 new_condition."
unfoldable pub contexts : List (Line FixupContext)
contexts = line (1 ∷ []) new_stmt ∷ line (2 ∷ []) new_match_arm ∷ line (3 ∷ []) new_condition ∷ []

unfoldable pub context_numbered : ℕ → FixupContext
context_numbered context = lookup contexts none_context context

-- the root: the header's context, precedence in it, and no owner's test
abbrev pub root_handed : ℕ → Tree → Handed
root_handed context t = neither (context_numbered context) t

-- a row in the five cells of node i
unfoldable pub row_stored : ℕ → Row → List ℕ → List ℕ
row_stored i r rows =
    let at = row_cells * (i - 1) in
    set (set (set (set (set rows at r.pair) (at + 1) r.precedence) (at + 2) r.previous) (at + 3) r.next) (at + 4) r.flags

-- the rows of the tree at node i, each in the cells of its node
unfoldable pub placed : List ℕ → ℕ → ℕ → Rows → List ℕ → List ℕ
placed cells count i absent rows = rows
placed cells count i (present r a b) rows =
    placed cells count (operand_at cells count i second_column) b (placed cells count (operand_at cells count i first_column) a (row_stored i r rows))

-- the rows of a tree under a callee order and a context, in the cells of the nodes that a table gives it
abbrev pub tree_rows : CalleeOrder → ℕ → ℕ → Tree → List ℕ → List ℕ → List ℕ
tree_rows order context count t cells rows = placed cells count 1 (rows_of order (root_handed context t) t) rows

-- those of the table's own tree, as far as the stack reaches. "Cells past the answer keep theirs"; rows that are too short are kept whole
unfoldable pub walked_after : CalleeOrder → ℕ → ℕ → List ℕ → List ℕ → List ℕ
walked_after order context count cells rows =
    let t = tree_at cells count 1 in
    pick (ltb (length rows) (row_cells * count)) rows (placed cells count 1 (within most_levels (rows_of order (root_handed context t) t)) rows)

-- 12. "A lent buffer is too short: five cells a node for rows"; document 02, Paper 13: "For the walk, refusal 12 then depends only on the buffers for rows"
unfoldable pub decide_refusal12 : ℕ → ℕ → Bool
decide_refusal12 count rows = ltb rows (row_cells * count)

-- the reply: the table's refusal, then 12, or 0
unfoldable pub decided : ℕ → ℕ → List ℕ → ℕ → ℕ
decided context count cells rows =
    pick (eqb (refusal context count cells) 0) (pick (decide_refusal12 count rows) 12 0) (refusal context count cells)

-- the rows afterwards. "Otherwise .. every lent buffer keeps its contents. On 0, cells past the answer keep theirs."
unfoldable pub rows_after : CalleeOrder → ℕ → ℕ → List ℕ → List ℕ → List ℕ
rows_after order context count cells rows =
    pick
    (eqb (decided context count cells (length rows)) 0)
    (tree_rows order context count (tree_at cells count 1) cells rows)
    rows
