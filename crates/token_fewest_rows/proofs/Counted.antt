-- The rows of an accepted plain table are a way of putting pairs, and how many pairs they have. Assumes nothing.
use mathlib.Core.Path.{◌≡◌, refl, sym, ap, ◌∙◌}
use mathlib.Core.Bool.{Bool, true, false}
use mathlib.Core.List.{List, [], ◌∷◌, ◌++◌}
use Prim.Native.Nat.{ℕ, ◌+◌}
use native.Mathlib.Omega.{arith}
use Rattle.bools.specs.Bits.{bit_of}
use Rattle.tree.specs.Table.{first_column, second_column}
use Rattle.tree.specs.Trees.{Tree, none, node, operand_at, tree_at}
use Rattle.tree.specs.Walks.{is_there}
use Rattle.tree_rules.specs.Refusals.{Accepted}
use Rattle.tree_numbering.specs.Sums.{sum}
use Rattle.tree_numbering.proofs.Sizes.{weighed}
use Rattle.row_walk.specs.Paths.{Branch, first, second, number_at, tree_by}
use Rattle.token_grammar.specs.Tokens.{Token, left_paren, right_paren, cells_of}
use Rattle.token_grammar.specs.Grammar.{Context, context_number}
use Rattle.token_plain.specs.Plain.{plain_table}
use Rattle.token_plain.specs.Written.{signs_of, within, tokens_at, has_pair}
use Rattle.token_writer.specs.Writes.{rows_for, written, one_pair, pairs_written}
use Rattle.token_writer.proofs.Pairs.{as_rows}
use Rattle.token_fewest.specs.Openings.{openings}
use Rattle.token_fewest_rows.specs.Statement.{round, tokens_with, cells_with, own_openings, PairsCounted}
use Rattle.token_fewest_rows.proofs.Signs.{with_openings}

-- ---- a way of at most one pair at each node

round_within : (n : ℕ) (b : Bool) (f g : List Token → List Token) → n ≡ bit_of b → ((r : List Token) → f r ≡ g r) → (rest : List Token) → round n f rest ≡ within b g rest
round_within n b f g e h rest = ap (λ m. round m f rest) e ∙ go b
  where
    go : (b : Bool) → round (bit_of b) f rest ≡ within b g rest
    go true = ap (λ r. left_paren ∷ r) (h (right_paren ∷ rest))
    go false = h rest

module _ (cells : List ℕ) (count : ℕ) (way : ℕ → ℕ) (pair : ℕ → Bool) where
  tokens_same : (t : Tree) (i : ℕ) → ((p : List Branch) → is_there (tree_by t p) ≡ true → way (number_at cells count i p) ≡ bit_of (pair (number_at cells count i p)))
      → (rest : List Token) → tokens_with cells count way i t rest ≡ tokens_at cells count pair i t rest
  unfolding tokens_with tokens_at
  tokens_same none i k rest = refl
  tokens_same (node l a b) i k rest =
      let s = signs_of l b in
      round_within (way i) (pair i) _ _ (k [] refl)
      (λ end.
      ap (λ r. s.before ++ tokens_with cells count way (operand_at cells count i first_column) a (s.between ++ r)) (tokens_same b (operand_at cells count i second_column) (λ p e. k (second ∷ p) e) (s.behind ++ end))
      ∙ ap (λ r. s.before ++ r) (tokens_same a (operand_at cells count i first_column) (λ p e. k (first ∷ p) e) _))
      rest

-- ---- an accepted plain table

module _ (k : Context) (count : ℕ) (cells : List ℕ) (ok : Accepted (context_number k) count cells) (plain : plain_table count cells ≡ true) where
  abbrev context : ℕ
  context = context_number k

  abbrev root : Tree
  root = tree_at cells count 1

  abbrev rows : List ℕ
  rows = rows_for context count cells

  -- ---- the rows' way is what is written

  pub among : cells_with count cells (one_pair rows) ≡ cells_of (written context count cells)
  unfolding written
  among = ap cells_of (tokens_same cells count (one_pair rows) (has_pair rows) root 1 (as_rows k count cells ok plain) [])

  -- ---- counted

  pub way_openings : (way : ℕ → ℕ) → openings (cells_with count cells way) ≡ sum way count + own_openings root
  way_openings way = omega (arith, with_openings cells count way root 1 [], weighed context count cells ok way)

  pub counted : openings (cells_of (written context count cells)) ≡ pairs_written context count cells + own_openings root
  unfolding pairs_written
  counted = sym (ap openings among) ∙ way_openings (one_pair rows)

pub pairs_counted : PairsCounted
pairs_counted = counted
