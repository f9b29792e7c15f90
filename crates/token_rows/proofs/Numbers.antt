-- The tokens by node numbers and the rows in a buffer are the tokens by what is handed down, and so without one node's pair. Assumes nothing.
use mathlib.Core.Path.{◌≡◌, refl, sym, ap, ◌∙◌}
use mathlib.Core.Bool.{Bool, true, false}
use mathlib.Core.List.{List, [], ◌∷◌, ◌++◌}
use Prim.Native.Nat.{ℕ, ◌*◌, ◌≤◌}
use native.Mathlib.Omega.{arith}
use lib.ListN.{length}
use borrow.Author.Tests.{ne_eqb, eq-eqb}
use Rattle.laws.specs.Choice.{pick, lookup, is_one_of}
use Rattle.laws.proofs.Choice.{true_not_false}
use Rattle.tree.specs.Sizes.{row_cells}
use Rattle.tree.specs.Table.{first_column, second_column}
use Rattle.tree.specs.Trees.{Tree, none, node, operand_at, tree_at}
use Rattle.tree.specs.Walks.{is_there}
use Rattle.tree_rules.specs.Refusals.{Accepted}
use Rattle.tree_rules.proofs.Accepted.{count_bounds}
use Rattle.expr.specs.declared.Handed.{Handed}
use Rattle.expr.specs.Handed.{neither}
use Rattle.expr.specs.declared.order.CalleeOrder.TheVariants.{Ours}
use Rattle.expr.specs.Expr.{hands_first, hands_second}
use Rattle.row.specs.Rows.{own_context, rows_of}
use Rattle.row_walk.specs.Walk.{contexts, context_numbered, root_handed, placed}
use Rattle.row_walk.specs.Paths.{Branch, first, second, number_at, tree_by, handed_by}
use Rattle.row_walk.proofs.Paths.{there_at, row_on_path, one_path}
use Rattle.token_grammar.specs.Tokens.{Token, left_paren, right_paren}
use Rattle.token_grammar.specs.Grammar.{Context, CONDITION, context_number}
use Rattle.token_grammar.specs.Grammar as grammar
use Rattle.token_plain.specs.Written.{Signs, signs_of, within, tokens_at, has_pair, but_at}
use Rattle.token_rows.proofs.Contexts.{begun}
use Rattle.token_rows.proofs.Tokens.{marked, inside, tokens_for, inside_for}
use Rattle.token_rows.proofs.LeftOut.{inside_but, tokens_but, marked_at}

-- ---- the same inside and out

pub within_by : {c d : Bool} {f g : List Token → List Token} → c ≡ d → ((r : List Token) → f r ≡ g r) → (rest : List Token) → within c f rest ≡ within d g rest
within_by {c} {d} {f} {g} e h rest = ap (λ b. within b f rest) e ∙ go d
  where
    go : (b : Bool) → within b f rest ≡ within b g rest
    go true = ap (λ r. left_paren ∷ r) (h (right_paren ∷ rest))
    go false = h rest

pub inside_by : (s : Signs) {f f' g g' : List Token → List Token} → ((r : List Token) → f r ≡ f' r) → ((r : List Token) → g r ≡ g' r) → (end : List Token) → inside s f g end ≡ inside s f' g' end
inside_by s {f} {f'} {g} {g'} u v end = ap (λ r. s.before ++ f (s.between ++ r)) (v (s.behind ++ end)) ∙ ap (λ r. s.before ++ r) (u (s.between ++ g' (s.behind ++ end)))

-- ---- paths that differ

abbrev pub starts : List Branch → ℕ
starts [] = 0
starts (first ∷ p) = 1
starts (second ∷ p) = 2

abbrev pub behind : List Branch → List Branch
behind [] = []
behind (s ∷ p) = p

pub differ : (p q : List Branch) → (starts p ≡ starts q → ⊥) → p ≡ q → ⊥
differ p q h e = h (ap starts e)

-- ---- from numbers to paths

module _ (cells : List ℕ) (count : ℕ) (pair : ℕ → Bool) where
  -- the pairs of the tree t at node i, which gets h, are those of its rows at every path that leads to a node
  abbrev Agrees : ℕ → Handed → Tree → Type 0
  Agrees i h t = (p : List Branch) → is_there (tree_by t p) ≡ true → pair (number_at cells count i p) ≡ marked_at h t p

  pub tokens_agree : (t : Tree) (i : ℕ) (h : Handed) → Agrees i h t → (rest : List Token) → tokens_at cells count pair i t rest ≡ tokens_for h t rest
  unfolding tokens_at tokens_for marked_at
  tokens_agree none i h k rest = refl
  tokens_agree (node l a b) i h k rest =
      let x = own_context h (node l a b) in
      within_by (k [] refl)
      (inside_by (signs_of l b)
      (tokens_agree a (operand_at cells count i first_column) (hands_first Ours x (node l a b)) (λ p e. k (first ∷ p) e))
      (tokens_agree b (operand_at cells count i second_column) (hands_second x (node l a b)) (λ p e. k (second ∷ p) e)))
      rest

  -- the same at every path but one, where there is no pair
  abbrev AgreesBut : List Branch → ℕ → Handed → Tree → Type 0
  AgreesBut but i h t =
      ((p : List Branch) → is_there (tree_by t p) ≡ true → (p ≡ but → ⊥) → pair (number_at cells count i p) ≡ marked_at h t p) × (pair (number_at cells count i but) ≡ false)

  pub tokens_but_lem : (but : List Branch) (t : Tree) (i : ℕ) (h : Handed) → is_there (tree_by t but) ≡ true → AgreesBut but i h t
      → (rest : List Token) → tokens_at cells count pair i t rest ≡ tokens_but but h t rest
  unfolding tokens_at tokens_for inside_for inside_but tokens_but marked_at
  tokens_but_lem [] none i h e k rest = true_not_false (sym e)
  tokens_but_lem (s ∷ p) none i h e k rest = true_not_false (sym e)
  tokens_but_lem [] (node l a b) i h e k rest =
      let x = own_context h (node l a b) in
      within_by k.1
      (inside_by (signs_of l b)
      (tokens_agree a (operand_at cells count i first_column) (hands_first Ours x (node l a b)) (λ p e. k.0 (first ∷ p) e (differ _ _ (λ z. omega arith))))
      (tokens_agree b (operand_at cells count i second_column) (hands_second x (node l a b)) (λ p e. k.0 (second ∷ p) e (differ _ _ (λ z. omega arith)))))
      rest
  tokens_but_lem (first ∷ but) (node l a b) i h e k rest =
      let x = own_context h (node l a b) in
      within_by (k.0 [] refl (differ _ _ (λ z. omega arith)))
      (inside_by (signs_of l b)
      (tokens_but_lem but a (operand_at cells count i first_column) (hands_first Ours x (node l a b)) e ((λ p e n. k.0 (first ∷ p) e (λ z. n (ap behind z))), k.1))
      (tokens_agree b (operand_at cells count i second_column) (hands_second x (node l a b)) (λ p e. k.0 (second ∷ p) e (differ _ _ (λ z. omega arith)))))
      rest
  tokens_but_lem (second ∷ but) (node l a b) i h e k rest =
      let x = own_context h (node l a b) in
      within_by (k.0 [] refl (differ _ _ (λ z. omega arith)))
      (inside_by (signs_of l b)
      (tokens_agree a (operand_at cells count i first_column) (hands_first Ours x (node l a b)) (λ p e. k.0 (first ∷ p) e (differ _ _ (λ z. omega arith))))
      (tokens_but_lem but b (operand_at cells count i second_column) (hands_second x (node l a b)) e ((λ p e n. k.0 (second ∷ p) e (λ z. n (ap behind z))), k.1)))
      rest

-- ---- the rows in a buffer

begun_at : (k : Context) (t : Tree) → root_handed (context_number k) t ≡ neither (begun k) t
unfolding context_numbered contexts lookup pick
begun_at grammar.NONE t = refl
begun_at CONDITION t = refl

module _ (k : Context) (count : ℕ) (cells : List ℕ) (ok : Accepted (context_number k) count cells) (into : List ℕ) (room : row_cells * count ≤ length into) where
  abbrev root : Tree
  root = tree_at cells count 1

  -- the rows in the context
  abbrev rows : List ℕ
  rows = placed cells count 1 (rows_of Ours (root_handed (context_number k) root) root) into

  pub pair_at : (p : List Branch) → is_there (tree_by root p) ≡ true → has_pair rows (number_at cells count 1 p) ≡ marked_at (neither (begun k) root) root p
  unfolding has_pair marked_at marked
  pair_at p e =
      let b = count_bounds (context_number k) count cells ok in
      ap (λ r. is_one_of (1 ∷ 3 ∷ []) r.pair) (row_on_path cells count (context_number k) ok Ours 1 p (root_handed (context_number k) root) into (omega arith) b.0 room (there_at cells count 1 p e))
      ∙ ap (λ h. marked (handed_by Ours h root p) (tree_by root p)) (begun_at k root)

  -- The tokens of the table are those by what is handed down.
  pub tokens_from : (rest : List Token) → tokens_at cells count (has_pair rows) 1 root rest ≡ tokens_for (neither (begun k) root) root rest
  tokens_from rest = tokens_agree cells count (has_pair rows) root 1 (neither (begun k) root) pair_at rest

  -- So without the pair of the node at a path.
  pub tokens_leaving : (p : List Branch) → is_there (tree_by root p) ≡ true → (rest : List Token)
      → tokens_at cells count (but_at (number_at cells count 1 p) (has_pair rows)) 1 root rest ≡ tokens_but p (neither (begun k) root) root rest
  unfolding but_at
  tokens_leaving p e rest =
      tokens_but_lem cells count (but_at (number_at cells count 1 p) (has_pair rows)) p root 1 (neither (begun k) root) e
      ((λ q there n. rw (ne_eqb (number_at cells count 1 q) (number_at cells count 1 p) (λ z. n (one q there z))) (pair_at q there)), rw (eq-eqb (number_at cells count 1 p) (number_at cells count 1 p) refl))
      rest
    where
      one : (q : List Branch) → is_there (tree_by root q) ≡ true → number_at cells count 1 q ≡ number_at cells count 1 p → q ≡ p
      one q there z = one_path cells count (context_number k) ok 1 q p (omega arith) (count_bounds (context_number k) count cells ok).0 (there_at cells count 1 q there) z
