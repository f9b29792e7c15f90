-- A node writes at most six tokens, its pair included: tokens written never pass 24,576. Assumes nothing.
use mathlib.Core.Path.{◌≡◌, refl}
use mathlib.Core.Bool.{Bool, true, false}
use mathlib.Core.List.{List, [], ◌∷◌}
use Prim.Native.Nat.{ℕ, ◌+◌, ◌*◌, ◌≤◌}
use native.Mathlib.Omega.{arith}
use lib.Dec.{eqb}
use lib.ListN.{length, length-append}
use borrow.Author.Tests.{eqb-true}
use Rattle.bools.specs.Bits.{bit_of}
use Rattle.laws.specs.Choice.{pick, Line, line, lookup, is_one_of}
use Rattle.tree.specs.Sizes.{tokens_per_node, most_tokens}
use Rattle.tree.specs.Table.{first_column, second_column}
use Rattle.tree.specs.Trees.{Label, Tree, none, node, operand_at, tree_at}
use Rattle.tree_rules.specs.Refusals.{refusal, Accepted}
use Rattle.tree.specs.Walks.{is_there}
use Rattle.tree_rules.proofs.Accepted.{count_bounds}
use Rattle.token_grammar.specs.Tokens.{Token, left_paren, right_paren, comma_token}
use Rattle.tree_numbering.specs.Numbered.{size}
use Rattle.tree_numbering.proofs.Sizes.{size_accepted}
use Rattle.token_plain.specs.Written.{Signs, signs, comma, sign_lines, signs_of, tokens_at, has_pair}
use Rattle.token_writer.specs.Levels.{needs, first_from, second_from, pairs_by}
use Rattle.token_writer.specs.Writes.{rows_for, written, write_refusal}
use Rattle.token_writer.proofs.Tokens.{one_of, in_row_lem}

-- ---- what holds of all that a table gives

module _ {A : Type 0} (P : A → Type 0) where
  by_test : (b : Bool) (x y : A) → P x → P y → P (pick b x y)
  unfolding pick
  by_test true x y p q = p
  by_test false x y p q = q

  abbrev pub Each : List (Line A) → Type 0
  Each [] = Unit {0}
  Each (line ks a ∷ rows) = P a × Each rows

  pub in_table : (rows : List (Line A)) (other : A) (n : ℕ) → Each rows → P other → P (lookup rows other n)
  unfolding lookup
  in_table [] other n e o = o
  in_table (line ks a ∷ rows) other n e o = by_test (is_one_of ks n) a (lookup rows other n) e.0 (in_table rows other n e.1 o)

-- ---- a node

few : Signs → ℕ
few s = length s.before + (length s.between + length s.behind)

-- a node's own tokens are at most four
four : (l : Label) (b : Tree) → few (signs_of l b) ≤ 4
unfolding signs_of sign_lines few
four l b =
    in_table (λ (s : Signs). few s ≤ 4) (sign_lines l.detail l.symbol (is_there b)) (signs [] [] []) l.form
    (omega arith, (omega arith, (omega arith, (omega arith, (omega arith, (omega arith, (omega arith, (omega arith, (omega arith, (omega arith, (omega arith, (omega arith, (omega arith, (omega arith, (by_test (λ (s : Signs). few s ≤ 4) _ _ _ (omega arith) (omega arith), (omega arith, (omega arith, (omega arith, (link (is_there b), (omega arith, tt))))))))))))))))))))
    (omega arith)
  where
    link : (b : Bool) → few (signs [] (comma b) []) ≤ 4
    link b = by_test (λ (s : List Token). few (signs [] s []) ≤ 4) b (comma_token ∷ []) [] (omega arith) (omega arith)

one_most : (b : Bool) (t : Token) → length (one_of b t) ≤ 1
one_most b t = by_test (λ (s : List Token). length s ≤ 1) b (t ∷ []) [] (omega arith) (omega arith)

-- ---- a tree

module _ (cells : List ℕ) (count : ℕ) (pair : ℕ → Bool) where
  pub six_a_node : (i : ℕ) (t : Tree) → length (tokens_at cells count pair i t []) ≤ tokens_per_node * size t
  unfolding tokens_at size few
  six_a_node i none = omega arith
  six_a_node i (node l a b) =
      let first = six_a_node (operand_at cells count i first_column) a in
      let second = six_a_node (operand_at cells count i second_column) b in
      let own = four l b in
      let start = one_most (pair i) left_paren in
      let end = one_most (pair i) right_paren in
      rw (in_row_lem cells count pair i l a b) (simp length-append (omega arith))

-- at most one pair a node
pub pairs_most : (t : Tree) (p : ℕ) → pairs_by p t ≤ size t
unfolding pairs_by size
pairs_most none p = omega arith
pairs_most (node l a b) p =
    let first = pairs_most a (first_from p (needs p l b) l) in
    let second = pairs_most b (second_from p (needs p l b) l) in
    let own = bit_most (needs p l b) in
    omega arith
  where
    bit_most : (b : Bool) → bit_of b ≤ 1
    bit_most true = omega arith
    bit_most false = omega arith

-- ---- an accepted table

pub accepted_first : (context count : ℕ) (cells : List ℕ) (lent : ℕ) → write_refusal context count cells lent ≡ 0 → Accepted context count cells
unfolding write_refusal pick
accepted_first context count cells lent e = go (eqb (refusal context count cells) 0) refl _ e
  where
    go : (b : Bool) → eqb (refusal context count cells) 0 ≡ b → (n : ℕ) → pick b n (refusal context count cells) ≡ 0 → Accepted context count cells
    go true p n q = eqb-true _ 0 p
    go false p n q = q

written_most : (context count : ℕ) (cells : List ℕ) → size (tree_at cells count 1) ≤ count → length (written context count cells) ≤ tokens_per_node * count
unfolding written
written_most context count cells h =
    let most = six_a_node cells count (has_pair (rows_for context count cells)) 1 (tree_at cells count 1) in
    omega arith

-- "Tokens written never pass 24,576.": six for each of at most 4,096 nodes
pub tokens_bound : (context count : ℕ) (cells : List ℕ) → Accepted context count cells → (length (written context count cells) ≤ tokens_per_node * count) × (length (written context count cells) ≤ most_tokens)
tokens_bound context count cells ok =
    let nodes = size_accepted context count cells ok in
    let bounds = count_bounds context count cells ok in
    let most = written_most context count cells (omega arith) in
    (most, omega arith)
