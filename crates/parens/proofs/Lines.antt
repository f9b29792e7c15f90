-- Laws of the lines of nodes. Assumes nothing.
use mathlib.Core.Path.{◌≡◌}
use mathlib.Core.Bool.{Bool, true, false}
use mathlib.Core.List.{List, []}
use Prim.Native.Nat.{ℕ, ◌+◌, ◌*◌, ◌≤◌}
use native.Mathlib.Omega.{arith}
use lib.Dec.{eqb}
use lib.ListN.{length, get_or}
use borrow.Author.Tests.{eq-eqb, ne_eqb}
use Rattle.laws.specs.Choice.{pick}
use Rattle.laws.proofs.Choice.{pick_true, pick_false}
use Rattle.tree.specs.Sizes.{row_cells}
use Rattle.tree.specs.Forms.{an_expression, class_of}
use Rattle.tree.specs.Operands.{form_in}
use Rattle.text.specs.Numbers.{row_line}
use Rattle.text.proofs.Rows.{row_most}
use Rattle.parens.specs.Text.{node_text}

module _ (count : ℕ) (cells rows : List ℕ) where
  module _ (i class : ℕ) (is : class ≡ class_of (form_in cells count i)) where
    pub no_line : (class ≡ an_expression → ⊥) → node_text count cells rows i ≡ []
    unfolding node_text
    no_line h = rw (← is) (pick_false _ _ (ne_eqb class an_expression h))

    pub a_line : class ≡ an_expression → node_text count cells rows i ≡ row_line row_cells rows i
    unfolding node_text
    a_line h = rw (← is) (pick_true _ _ (eq-eqb class an_expression h))

  -- of no more bytes than a row
  pub node_most : ((i : ℕ) → get_or rows i 0 ≤ 65535) → (i : ℕ) → i ≤ 65535 → length (node_text count cells rows i) ≤ 6 * (row_cells + 1)
  unfolding node_text pick
  node_most fit i h = go (eqb (class_of (form_in cells count i)) an_expression)
    where
      go : (b : Bool) → length (pick b (row_line row_cells rows i) []) ≤ 6 * (row_cells + 1)
      go true = row_most row_cells rows fit i h
      go false = omega arith
