-- Document 02, Paper 10: an open sheet carried from the crate's callee order to ours, the reply and its rows afterwards.
use Rattle.std.specs.Prelude.{Bool, List, [], ◌∷◌, ℕ, ◌*◌, eqb, ltb, length, Result, Ok, Err}
use Rattle.laws.specs.Choice.{pick}
use Rattle.tree.specs.declared.refusal.Refusal.{Refusal}
use Rattle.tree.specs.Replies.{number_of, replied}
use Rattle.tree.specs.Sizes.{row_cells}
use Rattle.tree.specs.Trees.{tree_at}
use Rattle.tree_rules.specs.Refusals.{refuse, first_of, refusal_then}
use Rattle.expr.specs.declared.order.CalleeOrder.{CalleeOrder}
use Rattle.expr.specs.declared.order.CalleeOrder.TheVariants.{Crates, Ours}
use Rattle.row_walk.specs.Walk.{tree_rows}

-- 12, by how many cells the rows have
unfoldable pub carry_refusal12 : ℕ → ℕ → Bool
carry_refusal12 count rows = ltb rows (row_cells * count)

-- the first that applies, or 0: "Carrying checks the sheet as an edit does, with refusal 12 last", whatever order it holds
unfoldable pub carry_refusal : ℕ → ℕ → List ℕ → ℕ → ℕ
carry_refusal context count cells rows = refusal_then context count cells (first_of (refuse 12 (carry_refusal12 count rows) ∷ []))

-- what is answered: done, or the refusal with this number
abbrev pub carry_reply : ℕ → ℕ → List ℕ → ℕ → Result (Unit {0}) Refusal
carry_reply context count cells rows = replied (carry_refusal context count cells rows) tt

-- "the rows become those of a fresh walk under the new order"; "a sheet that holds our order it then leaves as it is"
unfoldable pub carried_over : ℕ → ℕ → CalleeOrder → List ℕ → List ℕ → List ℕ
carried_over context count Crates cells rows = tree_rows Ours context count (tree_at cells count 1) cells rows
carried_over context count Ours cells rows = rows

-- the rows afterwards; the table is only read
unfoldable pub carried_rows : ℕ → ℕ → CalleeOrder → List ℕ → List ℕ → List ℕ
carried_rows context count order cells rows =
    pick (eqb (carry_refusal context count cells (length rows)) 0) (carried_over context count order cells rows) rows

-- "When an answer is an enum, a definition gives this paper's number and values for each of its cases." The reply number, 0 for done, and behind it the number of the order that the sheet now holds: 1, ours
abbrev pub carried_in_numbers : Result (Unit {0}) Refusal → List ℕ
carried_in_numbers (Err refusal) = number_of refusal ∷ []
carried_in_numbers (Ok done) = 0 ∷ 1 ∷ []
