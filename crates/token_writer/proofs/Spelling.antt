-- A node's signs as cells: what each arm of the `match` on its form answers. Assumes nothing.
use mathlib.Core.Path.{◌≡◌, refl, sym, ap}
use mathlib.Core.Bool.{Bool, true, false, not}
use mathlib.Core.List.{List, [], ◌∷◌}
use Prim.Native.Nat.{ℕ, zero, suc, ◌<◌, ◌≤◌}
use native.Mathlib.Omega.{arith}
use native.Mathlib.Decide.{ℕ_discrete}
use lib.ListN.{get_or-eq_default}
use lib.Dec.{eqb}
use borrow.Author.Tests.{ne_eqb}
use Rattle.laws.specs.Choice.{pick, lookup}
use Rattle.token_grammar.proofs.Tokens.{number_operator}
use Rattle.tree.specs.Table.{cell_at, form_column, detail_column, second_column, symbol_at}
use Rattle.tree.specs.Operands.{presence}
use Rattle.tree.specs.Trees.{label_at, operand_at, tree_at}
use Rattle.tree.specs.Steps.{is_present}
use Rattle.tree.proofs.Walks.{there}
use Rattle.token_grammar.specs.Tokens.{Token, assign, code, number, all_operators, operator_of, symbol_of, cells_of}
use Rattle.token_grammar.specs.Bounds.{past_operators}
use Rattle.token_plain.specs.Written.{signs, sign_lines, signs_of}
use Rattle.token_writer.specs.declared.signs.Signs.{Signs}
use Rattle.token_writer.specs.Puts.{spelled, symbol_on, cells_with, Spells, one_if}

-- ---- a choice between two tokens, or between a token and none

pub code_pick : (b : Bool) (t u : Token) → pick b (code t) (code u) ≡ code (pick b t u)
unfolding pick
code_pick true t u = refl
code_pick false t u = refl

-- the symbol that is put beside a token's code is its own
abbrev pub Beside : ℕ → Token → Type 0
Beside y t = symbol_on (code t) y ≡ symbol_of t

pub one_token : (y n : ℕ) (t : Token) → n ≡ code t → Beside y t → cells_with y (n ∷ []) ≡ cells_of (t ∷ [])
one_token y n t e h = rw (e, h)

pub one_if_lem : (y : ℕ) (b : Bool) (t : Token) → Beside y t → cells_with y (spelled (one_if b (code t))) ≡ cells_of (pick b (t ∷ []) [])
unfolding pick
one_if_lem y true t h = one_token y (code t) t refl h
one_if_lem y false t h = refl

-- ---- operators

pub operator_low : (n : ℕ) → n < number assign → number (operator_of n) ≡ n
operator_low n h = number_operator n (omega arith)

pub operator_high : (n : ℕ) → number assign ≤ n → number (operator_of n) ≡ number assign
unfolding operator_of
operator_high n h = go (ℕ_discrete n (number assign))
  where
    past : past_operators ≤ n → number (operator_of n) ≡ number assign
    past k = ap number (get_or-eq_default all_operators assign k)

    go : Dec (n ≡ number assign) → number (operator_of n) ≡ number assign
    go (yes e) = rw e
    go (no e) = past (omega arith)

-- ---- the signs of a node of a table

there_by : (p : ℕ) → is_present (presence p) ≡ not (eqb p 0)
unfolding presence
there_by zero = refl
there_by (suc p) = sym (ap not (ne_eqb (suc p) 0 (λ e. omega arith)))

module _ (cells : List ℕ) (count i : ℕ) where
  pub spells_at : (s : Signs) (form detail second : ℕ) → form ≡ cell_at cells i form_column → detail ≡ cell_at cells i detail_column → second ≡ operand_at cells count i second_column
      → ((y : ℕ) → Spells y s (lookup (sign_lines detail y (not (eqb second 0))) (signs [] [] []) form))
      → Spells (symbol_at cells i) s (signs_of (label_at cells i) (tree_at cells count (operand_at cells count i second_column)))
  unfolding signs_of label_at
  spells_at s form detail second f d o h =
      rw (there cells count i (cell_at cells i second_column), there_by (operand_at cells count i second_column), ← o, ← d, ← f) (h (symbol_at cells i))
