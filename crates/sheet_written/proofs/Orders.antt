-- A plain sheet's rows are right in either callee order. Assumes nothing.
use mathlib.Core.Path.{◌≡◌, refl, sym, ap, ◌∙◌}
use mathlib.Core.List.{List, [], ◌∷◌}
use Rattle.laws.specs.Choice.{pick}
use Rattle.tree.specs.Trees.{Tree, none, node, tree_at}
use Rattle.expr.specs.declared.Handed.{Handed}
use Rattle.expr.specs.declared.order.CalleeOrder.{CalleeOrder}
use Rattle.expr.specs.declared.order.CalleeOrder.TheVariants.{Crates, Ours}
use Rattle.row.specs.declared.Row.{Row}
use Rattle.row.specs.Rows.{Rows, absent, present, zeros, row_of, rows_of}
use Rattle.row_walk.specs.Walk.{root_handed}
use Rattle.row_walk.specs.Paths.{Branch, first, second, tree_by, handed_by}
use Rattle.token_rows.proofs.Orders.{AllPlain, plain_rows, table_plain}
use Rattle.sheet_written.specs.Statement.{EitherOrder}

-- the row at a path of a tree's rows
abbrev row_by : Rows → List Branch → Row
row_by absent p = zeros
row_by (present r a b) [] = r
row_by (present r a b) (first ∷ p) = row_by a p
row_by (present r a b) (second ∷ p) = row_by b p

row_by_lem : (order : CalleeOrder) (t : Tree) (h : Handed) (p : List Branch) → row_by (rows_of order h t) p ≡ row_of (handed_by order h t p) (tree_by t p)
unfolding rows_of row_of pick
row_by_lem order none h [] = refl
row_by_lem order none h (s ∷ p) = refl
row_by_lem order (node l a b) h [] = refl
row_by_lem order (node l a b) h (first ∷ p) = row_by_lem order a _ p
row_by_lem order (node l a b) h (second ∷ p) = row_by_lem order b _ p

-- a plain tree has the same row at a path in both
module _ (t : Tree) (plain : AllPlain t) (h : Handed) (p : List Branch) where
  abbrev row_in_order : CalleeOrder → Row
  row_in_order order = row_of (handed_by order h t p) (tree_by t p)

  both : row_in_order Crates ≡ row_in_order Ours
  both = sym (row_by_lem Crates t h p) ∙ ap (λ (r : Rows). row_by r p) (plain_rows t h plain) ∙ row_by_lem Ours t h p

  any : (one other : CalleeOrder) → row_in_order one ≡ row_in_order other
  any Crates Crates = refl
  any Crates Ours = both
  any Ours Crates = sym both
  any Ours Ours = refl

pub either_order : EitherOrder
either_order s order plain right =
    record {
      accepted = right.accepted;
      room = right.room;
      rows_right = λ q there.
          right.rows_right q there
          ∙ any (tree_at s.table s.count 1) (table_plain s.count s.table plain 1) (root_handed s.context (tree_at s.table s.count 1)) q s.order order;
    }
