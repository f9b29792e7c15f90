-- The row and the context of a node, by its class. Assumes nothing.
use mathlib.Core.Path.{◌≡◌, refl, sym, ap, ◌∙◌}
use mathlib.Core.Bool.{Bool, true, false}
use mathlib.Core.List.{List, [], ◌∷◌}
use mathlib.Core.Logic.{◌⊎◌, inl, inr}
use Prim.Native.Nat.{ℕ, ◌≤◌}
use native.Mathlib.Omega.{arith}
use native.Mathlib.Decide.{dec_le}
use lib.Dec.{T, eqb}
use borrow.Author.Tests.{ne_eqb, le-leb}
use Rattle.laws.specs.Choice.{Line, pick, lookup}
use Rattle.laws.proofs.Choice.{pick_true, pick_false, true_not_false}
use Rattle.laws.proofs.Keys.{apart_from, not_found, lines_below, past_rows}
use Rattle.tree.specs.Forms.{an_expression, class_of}
use Rattle.tree.specs.Table.{first_column, second_column}
use Rattle.tree.specs.Trees.{Label, Tree, none, node, label_at, operand_at, tree_at}
use Rattle.tree.specs.Operands.{form_in}
use Rattle.tree.proofs.Unfold.{tree_zero, tree_past, unfolds}
use Rattle.tree.proofs.Matches.{form_in_lem, form_none}
use Rattle.fixup.specs.declared.context.FixupContext.{FixupContext}
use Rattle.fixup.specs.Contexts.{none_context}
use Rattle.expr.specs.declared.Handed.{Handed}
use Rattle.expr.specs.declared.order.CalleeOrder.{CalleeOrder}
use Rattle.expr.specs.Handed.{ungrouped, neither}
use Rattle.expr.specs.Expr.{first_lines, hands_first}
use Rattle.row.specs.Rows.{outer_pair, expression_row, zeros, is_expression, row_of, own_context, rows_of}
use Rattle.row.specs.Steps.{alone}
use Rattle.row.proofs.Decisions.{no_outer}

pub row_expression : (h : Handed) (t : Tree) → is_expression t ≡ true → expression_row h t ≡ row_of h t
unfolding row_of
row_expression h t e = sym (pick_true (expression_row h t) _ e)

pub row_other : (h : Handed) (t : Tree) → is_expression t ≡ false → zeros ≡ row_of h t
unfolding row_of
row_other h t e = sym (pick_false (expression_row h t) _ e)

pub own_outer : (h : Handed) (t : Tree) → is_expression t ≡ true → outer_pair h t ≡ true → none_context ≡ own_context h t
unfolding own_context
own_outer h t e o = sym (pick_true _ _ e ∙ pick_true _ _ o)

pub own_kept : (h : Handed) (t : Tree) → is_expression t ≡ true → outer_pair h t ≡ false → h.fixup ≡ own_context h t
unfolding own_context
own_kept h t e o = sym (pick_true _ _ e ∙ pick_false _ _ o)

pub own_other : (h : Handed) (t : Tree) → is_expression t ≡ false → none_context ≡ own_context h t
unfolding own_context
own_other h t e = sym (pick_false _ _ e)

pub own_alone : (t : Tree) → is_expression t ≡ true → none_context ≡ own_context (alone t) t
unfolding neither ungrouped
own_alone t e = own_kept (alone t) t e (no_outer t)

-- what no owner tests is printed in NONE
pub own_lone : (t : Tree) → none_context ≡ own_context (alone t) t
own_lone t = go (is_expression t) refl
  where
    go : (b : Bool) → is_expression t ≡ b → none_context ≡ own_context (alone t) t
    go true e = own_alone t e
    go false e = own_other (alone t) t e

-- ---- types and links hand NONE to their operands

other_form : (form : ℕ) → eqb (class_of form) an_expression ≡ false → (form ≡ 0) ⊎ (41 ≤ form)
unfolding class_of pick
other_form form e = go (dec_le 1 form) (dec_le form 40)
  where
    go : Dec (1 ≤ form) → Dec (form ≤ 40) → (form ≡ 0) ⊎ (41 ≤ form)
    go (yes p) (yes q) = true_not_false (rw (ne_eqb form 0 (λ z. omega arith), le-leb form 40 q) at e)
    go (yes p) (no q) = inr (omega arith)
    go (no p) d = inl (omega arith)

other_row : {A : Type 0} (rows : List (Line A)) (other : A) (form : ℕ) → T (apart_from rows (0 ∷ [])) → T (lines_below 41 rows) → (form ≡ 0) ⊎ (41 ≤ form) → lookup rows other form ≡ other
other_row rows other form t u (inl e) = rw e (not_found rows other (0 ∷ []) 0 t refl)
other_row rows other form t u (inr h) = past_rows rows other 41 form u h

first_node : (order : CalleeOrder) (x : FixupContext) (l : Label) (a b : Tree) → is_expression (node l a b) ≡ false → alone a ≡ hands_first order x (node l a b)
unfolding hands_first first_lines
first_node order x l a b e = sym (other_row (first_lines order x l a) (alone a) l.form tt tt (other_form l.form e))

module _ (x : FixupContext) (cells : List ℕ) (count i : ℕ) (low : 1 ≤ i) (high : i ≤ count) (e : is_expression (tree_at cells count i) ≡ false) where
  unfolded : tree_at cells count i ≡ node (label_at cells i) (tree_at cells count (operand_at cells count i first_column)) (tree_at cells count (operand_at cells count i second_column))
  unfolded = unfolds cells count i low high

  pub first_other : (order : CalleeOrder) → alone (tree_at cells count (operand_at cells count i first_column)) ≡ hands_first order x (tree_at cells count i)
  first_other order = first_node order x _ _ _ (sym (ap is_expression unfolded) ∙ e) ∙ ap (hands_first order x) (sym unfolded)

-- what is handed to a type or a link does not matter
pub rows_other : (order : CalleeOrder) (h : Handed) (t : Tree) → is_expression t ≡ false → rows_of order (alone t) t ≡ rows_of order h t
unfolding rows_of
rows_other order h none e = refl
rows_other order h (node l a b) e =
    rw (← row_other h (node l a b) e, ← row_other (alone (node l a b)) (node l a b) e, ← own_other h (node l a b) e, ← own_other (alone (node l a b)) (node l a b) e)

-- whether a node is an expression, by its number
pub class_is : (cells : List ℕ) (count i : ℕ) → eqb (class_of (form_in cells count i)) an_expression ≡ is_expression (tree_at cells count i)
unfolding label_at class_of pick
class_is cells count i = go (dec_le 1 i) (dec_le i count)
  where
    go : Dec (1 ≤ i) → Dec (i ≤ count) → eqb (class_of (form_in cells count i)) an_expression ≡ is_expression (tree_at cells count i)
    go (yes h) (yes k) = rw (form_in_lem cells count i h k, unfolds cells count i h k)
    go (yes h) (no k) = rw (form_none cells count i (omega arith), tree_past cells count i (omega arith))
    go (no h) d = let z : i ≡ 0 = omega arith in rw (form_none cells count i (omega arith), z, tree_zero cells count)

-- an expression is a node of the table
pub there : (cells : List ℕ) (count i : ℕ) → is_expression (tree_at cells count i) ≡ true → (1 ≤ i) × (i ≤ count)
there cells count i e = go (dec_le 1 i) (dec_le i count)
  where
    go : Dec (1 ≤ i) → Dec (i ≤ count) → (1 ≤ i) × (i ≤ count)
    go (yes h) (yes k) = (h, k)
    go (yes h) (no k) = true_not_false (sym (rw (tree_past cells count i (omega arith)) at e))
    go (no h) d = let z : i ≡ 0 = omega arith in true_not_false (sym (rw (z, tree_zero cells count) at e))
