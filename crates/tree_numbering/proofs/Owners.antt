-- An accepted table node by node: from owners to operands, and from operands to owners. Assumes nothing.
use mathlib.Core.Path.{◌≡◌, refl, sym, ◌∙◌}
use mathlib.Core.List.{List}
use mathlib.Core.Logic.{◌⊎◌, inl, inr}
use Prim.Native.Nat.{ℕ, zero, suc, ◌+◌, ◌≤◌, ◌<◌}
use native.Mathlib.Omega.{arith}
use native.Mathlib.Decide.{dec_le}
use lib.Dec.{eqb}
use borrow.Author.Tests.{le-ltb}
use Rattle.laws.specs.Choice.{pick}
use Rattle.tree.specs.Table.{cell_at, first_at, second_at, first_column, second_column}
use Rattle.tree.specs.Trees.{node, label_at, tree_at}
use Rattle.tree.proofs.Unfold.{unfolds}
use Rattle.tree_rules.specs.Refusals.{refusal3, refusal, Accepted}
use Rattle.tree_rules.proofs.First.{skip, passed}
use Rattle.tree_rules.proofs.Owned.{OwnedOnce}
use Rattle.tree_rules.proofs.Accepted.{Within, count_bounds, first_standing, second_standing, first_operand, second_operand, one_owner, owner_smaller}
use Rattle.tree_numbering.specs.Numbered.{size, number_of}
use Rattle.tree_numbering.proofs.Sizes.{sized_node, size_accepted}
use Rattle.tree_numbering.proofs.Nodes.{number_operand}

-- the rules of a table are the same in each context
pub in_context_0 : (context count : ℕ) (cells : List ℕ) → Accepted context count cells → Accepted 0 count cells
unfolding refusal refusal3
in_context_0 context count cells ok = skip 3 _ (le-ltb 3 0 (omega arith)) ∙ (passed 3 _ _ (omega arith) ok).1

module _ (context count : ℕ) (cells : List ℕ) (ok : Accepted context count cells) where
  -- ---- a node and its operands

  above : (i o : ℕ) → (o ≡ 0) ⊎ Within count i o → 1 ≤ o → Within count i o
  above i o (inl z) h = absurd (omega arith)
  above i o (inr w) h = w

  module _ (i : ℕ) (low : 1 ≤ i) (high : i ≤ count) where
    -- a present operand stands above its owner
    pub first_above : 1 ≤ first_at cells i → Within count i (first_at cells i)
    first_above h = above i (first_at cells i) (first_standing context count cells ok i low high) h

    pub second_above : 1 ≤ second_at cells i → Within count i (second_at cells i)
    second_above h = above i (second_at cells i) (second_standing context count cells ok i low high) h

    pub node_tree : tree_at cells count i ≡ node (label_at cells i) (tree_at cells count (first_at cells i)) (tree_at cells count (second_at cells i))
    node_tree = unfolds cells count i low high ∙ rw (first_operand context count cells ok i low high, second_operand context count cells ok i low high)

    -- an operand's number is 0 where there is no node
    pub number_first : (n : ℕ) → pick (eqb (first_at cells i) 0) 0 n ≡ number_of (tree_at cells count (first_at cells i)) n
    number_first n = rw (first_operand context count cells ok i low high) at (number_operand cells count i (cell_at cells i first_column) n)

    pub number_second : (n : ℕ) → pick (eqb (second_at cells i) 0) 0 n ≡ number_of (tree_at cells count (second_at cells i)) n
    number_second n = rw (second_operand context count cells ok i low high) at (number_operand cells count i (cell_at cells i second_column) n)

  -- no two places hold the same node
  pub same_owner : (i k m l : ℕ) → 1 ≤ i → i ≤ count → 1 ≤ m → m ≤ count → (k ≡ first_column) ⊎ (k ≡ second_column) → (l ≡ first_column) ⊎ (l ≡ second_column)
      → 2 ≤ cell_at cells i k → cell_at cells i k ≤ count → cell_at cells m l ≡ cell_at cells i k → (m ≡ i) × (l ≡ k)
  same_owner i k m l a b c d p q low high e =
      let o = one_owner context count cells ok (cell_at cells i k) low high in
      let u = o.only i k a b p refl in
      let v = o.only m l c d q e in
      (v.0 ∙ sym u.0, v.1 ∙ sym u.1)

  -- ---- all nodes

  -- what holds of node 1, and of a node's operands where it holds of the node
  pub each_owned : (P : ℕ → Type 0) → P 1
      → ((i : ℕ) → 1 ≤ i → i ≤ count → 1 ≤ first_at cells i → P i → P (first_at cells i))
      → ((i : ℕ) → 1 ≤ i → i ≤ count → 1 ≤ second_at cells i → P i → P (second_at cells i))
      → (j : ℕ) → 1 ≤ j → j ≤ count → P j
  each_owned P root one two j p q = go j j (omega arith) p q
    where
      owned : (i : ℕ) → 2 ≤ i → (o : OwnedOnce cells count i) → P o.owner → P i
      owned i h o r = at o.place o.is_place o.owns
        where
          at : (k : ℕ) → (k ≡ first_column) ⊎ (k ≡ second_column) → cell_at cells o.owner k ≡ i → P i
          at k (inl e) s = let f : first_at cells o.owner ≡ i = rw e at s in rw f at (one o.owner o.owner_low o.owner_high (omega arith) r)
          at k (inr e) s = let f : second_at cells o.owner ≡ i = rw e at s in rw f at (two o.owner o.owner_low o.owner_high (omega arith) r)

      here : (m i : ℕ) → i ≤ suc m → 1 ≤ i → i ≤ count → Dec (i ≤ 1) → ((k : ℕ) → k ≤ m → 1 ≤ k → k ≤ count → P k) → P i
      here m i h a b (yes e) r = let z : i ≡ 1 = omega arith in rw z root
      here m i h a b (no e) r =
          let o = one_owner context count cells ok i (omega arith) b in
          let l = owner_smaller context count cells ok i o (omega arith) in
          owned i (omega arith) o (r o.owner (omega arith) o.owner_low o.owner_high)

      go : (m i : ℕ) → i ≤ m → 1 ≤ i → i ≤ count → P i
      go zero i h a b = absurd (omega arith)
      go (suc m) i h a b = here m i h a b (dec_le i 1) (λ k. go m k)

  -- what holds of a node where it holds of its operands
  pub each_owner : (P : ℕ → Type 0)
      → ((i : ℕ) → 1 ≤ i → i ≤ count → (1 ≤ first_at cells i → P (first_at cells i)) → (1 ≤ second_at cells i → P (second_at cells i)) → P i)
      → (j : ℕ) → 1 ≤ j → j ≤ count → P j
  each_owner P step j p q = go count j (omega arith) p q
    where
      go : (m i : ℕ) → count < i + m → 1 ≤ i → i ≤ count → P i
      go zero i h a b = absurd (omega arith)
      go (suc m) i h a b =
          step i a b
          (λ r. let w = first_above i a b r in go m (first_at cells i) (omega arith) r w.1)
          (λ r. let w = second_above i a b r in go m (second_at cells i) (omega arith) r w.1)

  -- ---- sizes

  -- no tree is larger than the whole: each is a part of its owner's
  pub size_most : (j : ℕ) → 1 ≤ j → j ≤ count → size (tree_at cells count j) ≤ count
  size_most =
      each_owned (λ j. size (tree_at cells count j) ≤ count)
      (let s = size_accepted context count cells ok in omega arith)
      (λ i a b h r. let s = sized_node context count cells ok i a b in omega arith)
      (λ i a b h r. let s = sized_node context count cells ok i a b in omega arith)
