-- Document 02, Paper 7: what an edit would give, in buffers of the caller's. The open sheet is only read.
use Rattle.std.specs.Prelude.{List, ℕ, min, length, Result}
use Rattle.expr.specs.declared.order.CalleeOrder.{CalleeOrder}
use Rattle.tree.specs.declared.refusal.Refusal.{Refusal}
use Rattle.sheet_edit.specs.Edits.{Edit, edit_reply, result_table, result_rows}

-- "the rows, or the refusal, that the edit would give on a copy of the sheet in buffers as long as its own. .. Refusal 12 is also given, last, where a buffer lent to the preview is too short":
-- by the sheet's table and the lent one, and by the lengths of the sheet's rows and of the lent ones
abbrev pub long : Edit → ℕ → ℕ
long e table = min (length e.cells) table

abbrev pub preview_reply : Edit → ℕ → ℕ → ℕ → Result ℕ Refusal
preview_reply e rows table lent = edit_reply e (long e table) (min rows lent)

-- the lent table and the lent rows afterwards, these in the sheet's callee order
abbrev pub preview_table : Edit → ℕ → List ℕ → ℕ → List ℕ
preview_table e rows table lent = result_table e (long e (length table)) (min rows lent) table

abbrev pub preview_rows : CalleeOrder → Edit → ℕ → List ℕ → List ℕ → List ℕ
preview_rows order e rows table lent = result_rows order e (long e (length table)) (min rows (length lent)) table lent
