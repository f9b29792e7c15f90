-- Rows do not look at symbols: a tree has the rows of its shape. Assumes nothing.
use mathlib.Core.Path.{◌≡◌}
use Prim.Native.Nat.{ℕ}
use Rattle.tree.specs.Trees.{Tree, none, node}
use Rattle.tree.specs.Erase.{erase}
use Rattle.expr.specs.declared.Handed.{Handed}
use Rattle.expr.specs.declared.order.CalleeOrder.{CalleeOrder}
use Rattle.row.specs.Rows.{rows_of}
use Rattle.row_walk.specs.Walk.{root_handed}
use Rattle.row_walk.proofs.Alike.{Alike, gone, kept, rows_like, all_rows_like}

alike_shape : (t : Tree) → Alike (erase t) t
unfolding erase
alike_shape none = gone
alike_shape (node l a b) = kept l.form l.attributes l.detail 0 l.symbol (alike_shape a) (alike_shape b)

pub rows_erase : (order : CalleeOrder) (h : Handed) (t : Tree) → rows_of order h (erase t) ≡ rows_of order h t
rows_erase order h t = rows_like order (alike_shape t) h

-- the rows of a whole tree, in any context of a file
pub all_rows_erase : (order : CalleeOrder) (context : ℕ) (t : Tree) → rows_of order (root_handed context (erase t)) (erase t) ≡ rows_of order (root_handed context t) t
all_rows_erase order context t = all_rows_like order context (alike_shape t)
