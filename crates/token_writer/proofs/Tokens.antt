-- The tokens of a tree, a node at a time. Assumes nothing.
use mathlib.Core.Path.{◌≡◌, refl, sym, ap, ◌∙◌}
use mathlib.Core.Bool.{Bool, true, false}
use mathlib.Core.List.{List, [], ◌∷◌, ◌++◌, append_assoc, append-nil}
use Prim.Native.Nat.{ℕ, ◌+◌, ◌*◌, ◌≤◌}
use native.Mathlib.Omega.{arith}
use lib.ListN.{length}
use Rattle.bools.specs.Bits.{bit_of}
use Rattle.laws.specs.Choice.{pick}
use Rattle.tree.specs.Sizes.{token_cells}
use Rattle.tree.specs.Table.{first_column, second_column}
use Rattle.tree.specs.Trees.{Label, Tree, none, node, label_at, operand_at, tree_at}
use Rattle.tree.proofs.Unfold.{unfolds}
use Rattle.tree_numbering.specs.Numbered.{size}
use Rattle.token_grammar.specs.Tokens.{Token, code, left_paren, right_paren, symbol_of, cells_of}
use Rattle.token_plain.specs.Written.{Signs, within, signs_of, tokens_at}
use Rattle.token_writer.specs.Levels.{needs, first_from, second_from, tokens_by, pairs_by}
use Rattle.token_writer.specs.Tasks.{signs_at, cells_by, pairs_at, closing, enter_work}

-- ---- cells

pub cells_append : (s t : List Token) → cells_of (s ++ t) ≡ cells_of s ++ cells_of t
cells_append [] t = refl
cells_append (x ∷ s) t = ap (λ (r : List ℕ). code x ∷ symbol_of x ∷ r) (cells_append s t)

pub length_cells : (s : List Token) → length (cells_of s) ≡ token_cells * length s
length_cells [] = refl
length_cells (x ∷ s) = omega (arith, length_cells s)

-- ---- tokens

-- a token where a test holds
abbrev pub one_of : Bool → Token → List Token
one_of b t = pick b (t ∷ []) []

within_by : (b : Bool) (inside : List Token → List Token) (rest : List Token) → within b inside rest ≡ one_of b left_paren ++ inside (one_of b right_paren ++ rest)
unfolding pick
within_by true inside rest = refl
within_by false inside rest = refl

-- the parts of a node's tokens, in a row: f and g write its operands
abbrev in_row_of : Bool → Signs → List Token → List Token → List Token → List Token
in_row_of pair s f g rest =
    one_of pair left_paren ++ (s.before ++ (f ++ (s.between ++ (g ++ (s.behind ++ (one_of pair right_paren ++ rest))))))

-- what follows stands behind it
abbrev Last : (List Token → List Token) → Type 0
Last f = (rest : List Token) → f rest ≡ f [] ++ rest

in_row_of_lem : (pair : Bool) (s : Signs) (f g : List Token → List Token) → Last f → Last g → (rest : List Token)
    → within pair (λ end. s.before ++ f (s.between ++ g (s.behind ++ end))) rest ≡ in_row_of pair s (f []) (g []) rest
in_row_of_lem pair s f g first second rest =
    within_by pair _ rest
    ∙ ap (λ r. one_of pair left_paren ++ (s.before ++ f (s.between ++ r))) (second (s.behind ++ (one_of pair right_paren ++ rest)))
    ∙ ap (λ r. one_of pair left_paren ++ (s.before ++ r)) (first (s.between ++ (g [] ++ (s.behind ++ (one_of pair right_paren ++ rest)))))

last_of : (pair : Bool) (s : Signs) (f g : List Token → List Token) → Last f → Last g → Last (within pair (λ end. s.before ++ f (s.between ++ g (s.behind ++ end))))
last_of pair s f g first second rest =
    in_row_of_lem pair s f g first second rest ∙ sym (ap (λ (r : List Token). r ++ rest) (in_row_of_lem pair s f g first second []) ∙ simp append_assoc)

-- by the pairs of node numbers
module _ (cells : List ℕ) (count : ℕ) (pair : ℕ → Bool) where
  pub rest_last : (i : ℕ) (t : Tree) (rest : List Token) → tokens_at cells count pair i t rest ≡ tokens_at cells count pair i t [] ++ rest
  unfolding tokens_at
  rest_last i none rest = refl
  rest_last i (node l a b) rest = last_of (pair i) (signs_of l b) _ _ (rest_last (operand_at cells count i first_column) a) (rest_last (operand_at cells count i second_column) b) rest

  abbrev pub in_row : ℕ → Label → Tree → Tree → List Token → List Token
  in_row i l a b rest =
      in_row_of (pair i) (signs_of l b) (tokens_at cells count pair (operand_at cells count i first_column) a []) (tokens_at cells count pair (operand_at cells count i second_column) b []) rest

  pub in_row_lem : (i : ℕ) (l : Label) (a b : Tree) → tokens_at cells count pair i (node l a b) [] ≡ in_row i l a b []
  unfolding tokens_at
  in_row_lem i l a b = in_row_of_lem (pair i) (signs_of l b) _ _ (rest_last (operand_at cells count i first_column) a) (rest_last (operand_at cells count i second_column) b) []

-- by places
rest_by : (t : Tree) (p : ℕ) → Last (tokens_by p t)
unfolding tokens_by
rest_by none p rest = refl
rest_by (node l a b) p rest = last_of (needs p l b) (signs_of l b) _ _ (rest_by a (first_from p (needs p l b) l)) (rest_by b (second_from p (needs p l b) l)) rest

row_by : (p : ℕ) (l : Label) (a b : Tree)
    → tokens_by p (node l a b) [] ≡ in_row_of (needs p l b) (signs_of l b) (tokens_by (first_from p (needs p l b) l) a []) (tokens_by (second_from p (needs p l b) l) b []) []
unfolding tokens_by
row_by p l a b = in_row_of_lem (needs p l b) (signs_of l b) _ _ (rest_by a (first_from p (needs p l b) l)) (rest_by b (second_from p (needs p l b) l)) []

-- ---- the tree at a node

module _ (cells : List ℕ) (count p i : ℕ) where
  pub cells_none : tree_at cells count i ≡ none → cells_by cells count p i ≡ []
  unfolding cells_by tokens_by
  cells_none e = rw e

  pub pairs_none : tree_at cells count i ≡ none → pairs_at cells count p i ≡ 0
  unfolding pairs_by
  pairs_none e = rw e

  module _ (low : 1 ≤ i) (high : i ≤ count) where
    -- its label, its pair, and its operands
    abbrev pub own : Label
    own = label_at cells i

    abbrev pub paired : Bool
    paired = needs p own (tree_at cells count (operand_at cells count i second_column))

    abbrev pub first_cells : List ℕ
    first_cells = cells_by cells count (first_from p paired own) (operand_at cells count i first_column)

    abbrev pub second_cells : List ℕ
    second_cells = cells_by cells count (second_from p paired own) (operand_at cells count i second_column)

    pub cells_parts : cells_by cells count p i
        ≡ cells_of (one_of paired left_paren)
        ++ (cells_of (signs_at cells count i).before
        ++ (first_cells ++ (cells_of (signs_at cells count i).between ++ (second_cells ++ (cells_of (signs_at cells count i).behind ++ cells_of (closing paired))))))
    unfolding cells_by
    cells_parts =
        ap (λ (t : Tree). cells_of (tokens_by p t [])) (unfolds cells count i low high)
        ∙ ap cells_of (row_by p own (tree_at cells count (operand_at cells count i first_column)) (tree_at cells count (operand_at cells count i second_column)))
        ∙ simp (cells_append, append-nil)

    pub pairs_parts : pairs_at cells count p i
        ≡ bit_of paired
        + (pairs_at cells count (first_from p paired own) (operand_at cells count i first_column) + pairs_at cells count (second_from p paired own) (operand_at cells count i second_column))
    unfolding pairs_by
    pairs_parts = ap (pairs_by p) (unfolds cells count i low high)

    pub work_parts : enter_work cells count i ≡ enter_work cells count (operand_at cells count i first_column) + (enter_work cells count (operand_at cells count i second_column) + 3)
    unfolding enter_work size
    work_parts = rw (unfolds cells count i low high) (omega arith)
