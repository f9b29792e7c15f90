-- What the rows of a subtree depend on. Assumes nothing.
use mathlib.Core.Path.{◌≡◌}
use mathlib.Core.Bool.{true}
use Rattle.laws.specs.Choice.{pick, lookup}
use Rattle.laws.proofs.Choice.{pick_true}
use Rattle.tree.specs.Forms.{expr_index, expr_paren, link}
use Rattle.tree.specs.Trees.{Label, Tree, node}
use Rattle.fixup.specs.declared.context.FixupContext.{FixupContext}
use Rattle.fixup.specs.Contexts.{none_context}
use Rattle.expr.specs.declared.Handed.{Handed}
use Rattle.expr.specs.declared.order.CalleeOrder.{CalleeOrder}
use Rattle.expr.specs.Handed.{neither}
use Rattle.expr.specs.Expr.{first_lines, hands_first, second_lines, hands_second}
use Rattle.row.specs.Rows.{is_expression, outer_pair, row_of, own_context, present, rows_of}

-- what stands in NONE and is tested by nobody: an index, an item of a list, what stands in parentheses of the tree's own
module _ (l : Label) (a b : Tree) (x : FixupContext) where
  pub index_handed : l.form ≡ expr_index → hands_second x (node l a b) ≡ neither none_context b
  unfolding hands_second second_lines lookup pick
  index_handed e = rw e

  pub item_handed : (order : CalleeOrder) → l.form ≡ link → hands_first order x (node l a b) ≡ neither none_context a
  unfolding hands_first first_lines lookup pick
  item_handed order e = rw e

  pub paren_handed : (order : CalleeOrder) → l.form ≡ expr_paren → hands_first order x (node l a b) ≡ neither none_context a
  unfolding hands_first first_lines lookup pick
  paren_handed order e = rw e

module _ (h : Handed) (l : Label) (a b : Tree) where
  abbrev here : Tree
  here = node l a b

  own_reset : is_expression here ≡ true → outer_pair h here ≡ true → own_context h here ≡ none_context
  unfolding own_context
  own_reset e o = rw (pick_true (pick (outer_pair h here) none_context h.fixup) none_context e) (pick_true none_context h.fixup o)

  -- the rows inside an outer pair depend on the expression alone
  pub outer_local : (order : CalleeOrder) → is_expression here ≡ true → outer_pair h here ≡ true → rows_of order h here ≡ present (row_of h here) (rows_of order (hands_first order none_context here) a) (rows_of order (hands_second none_context here) b)
  unfolding rows_of
  outer_local order e o = rw (own_reset e o)
