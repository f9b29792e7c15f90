-- Leaving out a node's pair removes its two tokens, between which the node's own stand, and no other. Assumes nothing.
use mathlib.Core.Path.{◌≡◌, refl, sym, subst, ap, ◌∙◌}
use mathlib.Core.Bool.{Bool, true, false}
use mathlib.Core.List.{List, [], ◌∷◌, ◌++◌, append_assoc}
use Prim.Native.Nat.{ℕ}
use native.Mathlib.Omega.{arith}
use borrow.Author.Tests.{ne_eqb, eq-eqb}
use Rattle.laws.proofs.Choice.{true_not_false}
use Rattle.tree.specs.Table.{first_column, second_column}
use Rattle.tree.specs.Trees.{Tree, none, node, operand_at}
use Rattle.tree.specs.Walks.{is_there}
use Rattle.row_walk.specs.Paths.{Branch, first, second, number_at, tree_by}
use Rattle.token_grammar.specs.Tokens.{Token, left_paren, right_paren}
use Rattle.token_plain.specs.Written.{signs_of, within, tokens_at, but_at}
use Rattle.token_rows.proofs.Tokens.{inside}
use Rattle.token_rows.proofs.Numbers.{within_by, inside_by, differ, behind}
use Rattle.token_writer.proofs.Tokens.{rest_last}
use Rattle.token_theorem.specs.Statement.{Removed}

-- ---- behind other tokens, and within another pair

after_tokens : {own x y : List Token} (s : List Token) → Removed own x y → Removed own (s ++ x) (s ++ y)
after_tokens s r =
    record {
      front = s ++ r.front;
      behind = r.behind;
      had = append_assoc s r.front _ ∙ ap (λ z. s ++ z) r.had;
      has = append_assoc s r.front _ ∙ ap (λ z. s ++ z) r.has;
    }

in_pair : {own : List Token} (c : Bool) (f g : List Token → List Token) → ((r : List Token) → Removed own (f r) (g r)) → (rest : List Token) → Removed own (within c f rest) (within c g rest)
in_pair true f g h rest = after_tokens (left_paren ∷ []) (h (right_paren ∷ rest))
in_pair false f g h rest = h rest

-- ---- along the path to the node

module _ (cells : List ℕ) (count : ℕ) (pair : ℕ → Bool) (j : ℕ) where
  abbrev full : ℕ → Tree → List Token → List Token
  full i t rest = tokens_at cells count pair i t rest

  abbrev but : ℕ → Tree → List Token → List Token
  but i t rest = tokens_at cells count (but_at j pair) i t rest

  but_other : (i : ℕ) → (i ≡ j → ⊥) → but_at j pair i ≡ pair i
  unfolding but_at
  but_other i n = rw (ne_eqb i j n)

  but_own : but_at j pair j ≡ false
  unfolding but_at
  but_own = rw (eq-eqb j j refl)

  -- trees without the node
  abbrev Apart : ℕ → Tree → Type 0
  Apart i t = (p : List Branch) → is_there (tree_by t p) ≡ true → number_at cells count i p ≡ j → ⊥

  same : (t : Tree) (i : ℕ) → Apart i t → (rest : List Token) → but i t rest ≡ full i t rest
  unfolding tokens_at
  same none i n rest = refl
  same (node l a b) i n rest =
      within_by (but_other i (n [] refl))
      (inside_by (signs_of l b) (same a (operand_at cells count i first_column) (λ p e. n (first ∷ p) e)) (same b (operand_at cells count i second_column) (λ p e. n (second ∷ p) e)))
      rest

  after_tree : {own x y : List Token} (i : ℕ) (t : Tree) → Removed own x y → Removed own (full i t x) (full i t y)
  after_tree {own} {x} {y} i t r = rw (rest_last cells count pair i t x, rest_last cells count pair i t y) (after_tokens (full i t []) r)

  module _ (has : pair j ≡ true) where
    -- the node is at this path only
    abbrev Only : List Branch → ℕ → Tree → Type 0
    Only path i t = (p : List Branch) → is_there (tree_by t p) ≡ true → number_at cells count i p ≡ j → p ≡ path

    pub removed : (path : List Branch) (t : Tree) (i : ℕ) → is_there (tree_by t path) ≡ true → number_at cells count i path ≡ j → Only path i t
        → (rest : List Token) → Removed (but j (tree_by t path) []) (full i t rest) (but i t rest)
    unfolding tokens_at
    removed [] none i e leads only rest = true_not_false (sym e)
    removed (s ∷ path) none i e leads only rest = true_not_false (sym e)
    removed [] (node l a b) i e leads only rest = record { front = []; behind = rest; had = sym opened; has = ap (λ n. but n (node l a b) [] ++ rest) (sym leads) ∙ sym (rest_last cells count (but_at j pair) i (node l a b) rest) }
      where
        apart : (s : Branch) (p : List Branch) → is_there (tree_by (node l a b) (s ∷ p)) ≡ true → number_at cells count i (s ∷ p) ≡ j → ⊥
        apart first p f z = differ _ _ (λ z. omega arith) (only (first ∷ p) f z)
        apart second p f z = differ _ _ (λ z. omega arith) (only (second ∷ p) f z)

        opened : full i (node l a b) rest ≡ left_paren ∷ (but j (node l a b) [] ++ (right_paren ∷ rest))
        opened =
            within_by (ap pair leads ∙ has)
            (inside_by (signs_of l b) (λ r. sym (same a (operand_at cells count i first_column) (apart first) r)) (λ r. sym (same b (operand_at cells count i second_column) (apart second) r)))
            rest
            ∙ ap (λ r. left_paren ∷ r)
            (sym (within_by (ap (but_at j pair) leads ∙ but_own) (λ r. refl) (right_paren ∷ rest))
            ∙ rest_last cells count (but_at j pair) i (node l a b) (right_paren ∷ rest)
            ∙ ap (λ n. but n (node l a b) [] ++ (right_paren ∷ rest)) leads)
    removed (first ∷ path) (node l a b) i e leads only rest =
        subst (Removed (but j (tree_by a path) []) (full i (node l a b) rest))
        (sym (within_by (but_other i (λ z. differ _ _ (λ w. omega arith) (only [] refl z)))
        (inside_by (signs_of l b) {f = but (operand_at cells count i first_column) a} (λ r. refl) (same b (operand_at cells count i second_column) (λ p f z. differ _ _ (λ w. omega arith) (only (second ∷ p) f z))))
        rest))
        (in_pair (pair i) (inside (signs_of l b) (full (operand_at cells count i first_column) a) (full (operand_at cells count i second_column) b)) (inside (signs_of l b) (but (operand_at cells count i first_column) a) (full (operand_at cells count i second_column) b))
        (λ end. after_tokens (signs_of l b).before (removed path a (operand_at cells count i first_column) e leads (λ p f z. ap behind (only (first ∷ p) f z)) _))
        rest)
    removed (second ∷ path) (node l a b) i e leads only rest =
        subst (Removed (but j (tree_by b path) []) (full i (node l a b) rest))
        (sym (within_by (but_other i (λ z. differ _ _ (λ w. omega arith) (only [] refl z)))
        (inside_by (signs_of l b) {g = but (operand_at cells count i second_column) b} (same a (operand_at cells count i first_column) (λ p f z. differ _ _ (λ w. omega arith) (only (first ∷ p) f z))) (λ r. refl))
        rest))
        (in_pair (pair i) (inside (signs_of l b) (full (operand_at cells count i first_column) a) (full (operand_at cells count i second_column) b)) (inside (signs_of l b) (full (operand_at cells count i first_column) a) (but (operand_at cells count i second_column) b))
        (λ end.
        after_tokens (signs_of l b).before
        (after_tree (operand_at cells count i first_column) a
        (after_tokens (signs_of l b).between (removed path b (operand_at cells count i second_column) e leads (λ p f z. ap behind (only (second ∷ p) f z)) ((signs_of l b).behind ++ end)))))
        rest)
