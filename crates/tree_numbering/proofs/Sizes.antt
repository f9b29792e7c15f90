-- A sum over the nodes of an accepted table's tree is the sum over its node numbers; so the tree has as many nodes as the table. Assumes nothing.
use mathlib.Core.Path.{◌≡◌, refl, sym, ◌∙◌}
use mathlib.Core.List.{List}
use Prim.Native.Nat.{ℕ, zero, suc, ◌+◌, ◌*◌, ◌≤◌, ◌<◌}
use native.Mathlib.Omega.{arith}
use native.Mathlib.Decide.{dec_le}
use lib.Dec.{eqb}
use borrow.Author.Tests.{eq-eqb, ne_eqb}
use Rattle.laws.specs.Choice.{pick}
use Rattle.tree.specs.Table.{first_at, second_at, first_column, second_column}
use Rattle.tree.specs.Trees.{Tree, none, node, operand_at, tree_at}
use Rattle.tree_rules.specs.Refusals.{owners, Accepted}
use Rattle.tree.proofs.Unfold.{tree_zero, unfolds}
use Rattle.tree_rules.proofs.Accepted.{count_bounds, first_most, second_most, first_operand, second_operand, counted_once}
use Rattle.tree_numbering.specs.Numbered.{size}
use Rattle.tree_numbering.specs.Sums.{sum}

-- ---- sums

sum_same : (f h : ℕ → ℕ) (n : ℕ) → ((j : ℕ) → 1 ≤ j → j ≤ n → f j ≡ h j) → sum f n ≡ sum h n
sum_same f h zero e = refl
sum_same f h (suc n) e =
    let r = sum_same f h n (λ j p q. e j p (omega arith)) in
    let s = e (suc n) (omega arith) (omega arith) in
    omega arith

-- two sums that differ in the first summand alone
sum_but_first : (f h : ℕ → ℕ) (n : ℕ) → 1 ≤ n → ((j : ℕ) → 2 ≤ j → j ≤ n → f j ≡ h j) → sum f n + h 1 ≡ sum h n + f 1
sum_but_first f h zero p e = absurd (omega arith)
sum_but_first f h (suc zero) p e = omega arith
sum_but_first f h (suc (suc n)) p e =
    let r = sum_but_first f h (suc n) (omega arith) (λ j a b. e j a (omega arith)) in
    let s = e (suc (suc n)) (omega arith) (omega arith) in
    omega arith

sum_add : (f h : ℕ → ℕ) (n : ℕ) → sum (λ j. f j + h j) n ≡ sum f n + sum h n
sum_add f h zero = refl
sum_add f h (suc n) = let r = sum_add f h n in omega arith

sum_ones : (n : ℕ) → sum (λ j. 1) n ≡ n
sum_ones zero = refl
sum_ones (suc n) = let r = sum_ones n in omega arith

sum_zeros : (g : ℕ → ℕ) (n : ℕ) → sum (λ j. 0 * g j) n ≡ 0
sum_zeros g zero = refl
sum_zeros g (suc n) = let r = sum_zeros g n in omega arith

-- ---- a sum over all operands, and over all nodes as often as they are operands

module _ (g : ℕ → ℕ) where
  -- g at those of 1 to m that are o
  abbrev at : ℕ → ℕ → ℕ
  at o j = pick (eqb o j) 1 0 * g j

  at_past : (o m : ℕ) → m < o → sum (at o) m ≡ 0
  unfolding pick
  at_past o zero h = refl
  at_past o (suc m) h = let r = at_past o m (omega arith) in rw (ne_eqb o (suc m) (λ e. omega arith)) (omega arith)

  at_one : g 0 ≡ 0 → (o m : ℕ) → o ≤ m → sum (at o) m ≡ g o
  unfolding pick
  at_one e o zero h = let z : o ≡ 0 = omega arith in rw z (sym e)
  at_one e o (suc m) h = go (dec_le o m) (λ p. at_one e o m p)
    where
      go : Dec (o ≤ m) → (o ≤ m → sum (at o) m ≡ g o) → sum (at o) (suc m) ≡ g o
      go (yes p) r = let s = r p in rw (ne_eqb o (suc m) (λ q. omega arith)) (omega arith)
      go (no p) r =
          let z : o ≡ suc m = omega arith in
          let s : sum (at o) m ≡ 0 = at_past o m (omega arith) in
          rw (s, z, eq-eqb (suc m) (suc m) refl) (omega arith)

  by_owners : g 0 ≡ 0 → (cells : List ℕ) (count n : ℕ) → ((i : ℕ) → 1 ≤ i → i ≤ n → (first_at cells i ≤ count) × (second_at cells i ≤ count))
      → sum (λ i. g (first_at cells i) + g (second_at cells i)) n ≡ sum (λ j. owners cells n j * g j) count
  unfolding owners
  by_owners e cells count zero h = sym (sum_zeros g count)
  by_owners e cells count (suc n) h =
      let r = by_owners e cells count n (λ i p q. h i p (omega arith)) in
      let k = h (suc n) (omega arith) (omega arith) in
      let a = at_one e (first_at cells (suc n)) count k.0 in
      let b = at_one e (second_at cells (suc n)) count k.1 in
      let s = sum_same
      (λ j. (owners cells n j + pick (eqb (first_at cells (suc n)) j) 1 0 + pick (eqb (second_at cells (suc n)) j) 1 0) * g j)
      (λ j. owners cells n j * g j + (at (first_at cells (suc n)) j + at (second_at cells (suc n)) j))
      count
      (λ j p q. omega arith) in
      let t = sum_add (λ j. owners cells n j * g j) (λ j. at (first_at cells (suc n)) j + at (second_at cells (suc n)) j) count in
      let u = sum_add (at (first_at cells (suc n))) (at (second_at cells (suc n))) count in
      omega arith

-- ---- sizes

module _ (cells : List ℕ) (count i : ℕ) where
  pub size_none : tree_at cells count i ≡ none → size (tree_at cells count i) ≡ 0
  unfolding size
  size_none e = rw e

  pub size_node : 1 ≤ i → i ≤ count → size (tree_at cells count i) ≡ suc (size (tree_at cells count (operand_at cells count i first_column)) + size (tree_at cells count (operand_at cells count i second_column)))
  unfolding size
  size_node p q = rw (unfolds cells count i p q)

-- the weights of the nodes of the tree at node i, by their numbers
unfoldable pub weigh : List ℕ → ℕ → (ℕ → ℕ) → ℕ → Tree → ℕ
weigh cells count w i none = 0
weigh cells count w i (node l a b) = w i + (weigh cells count w (operand_at cells count i first_column) a + weigh cells count w (operand_at cells count i second_column) b)

weigh_ones : (cells : List ℕ) (count : ℕ) (t : Tree) (i : ℕ) → weigh cells count (λ j. 1) i t ≡ size t
unfolding weigh size
weigh_ones cells count none i = refl
weigh_ones cells count (node l a b) i =
    omega (arith, weigh_ones cells count a (operand_at cells count i first_column), weigh_ones cells count b (operand_at cells count i second_column))

unowned : (n o s : ℕ) → 1 ≤ n → n + o * s ≡ s → o ≡ 0
unowned n zero s p h = refl
unowned n (suc o) s p h = absurd (omega arith)

module _ (context count : ℕ) (cells : List ℕ) (ok : Accepted context count cells) where
  abbrev pub sized : ℕ → ℕ
  sized i = size (tree_at cells count i)

  pub sized_node : (i : ℕ) → 1 ≤ i → i ≤ count → sized i ≡ 1 + (sized (first_at cells i) + sized (second_at cells i))
  sized_node i p q =
      rw (size_node cells count i p q, first_operand context count cells ok i p q, second_operand context count cells ok i p q) (omega arith)

  -- ---- weights

  module _ (w : ℕ → ℕ) where
    abbrev heavy : ℕ → ℕ
    heavy i = weigh cells count w i (tree_at cells count i)

    heavy_none : heavy 0 ≡ 0
    unfolding weigh
    heavy_none = rw (tree_zero cells count)

    heavy_node : (i : ℕ) → 1 ≤ i → i ≤ count → heavy i ≡ w i + (heavy (first_at cells i) + heavy (second_at cells i))
    unfolding weigh
    heavy_node i p q = rw (unfolds cells count i p q, first_operand context count cells ok i p q, second_operand context count cells ok i p q)

    once : (j : ℕ) → 2 ≤ j → j ≤ count → heavy j ≡ owners cells count j * heavy j
    once j p q = rw (counted_once context count cells ok j p q) (omega arith)

    -- each node's weight is its own and its operands', and each node but 1 is an operand once
    balance : sum w count + owners cells count 1 * heavy 1 ≡ heavy 1
    balance =
        let k = count_bounds context count cells ok in
        let a = sum_same heavy (λ i. w i + (heavy (first_at cells i) + heavy (second_at cells i))) count heavy_node in
        let b = sum_add w (λ i. heavy (first_at cells i) + heavy (second_at cells i)) count in
        let d = by_owners heavy heavy_none cells count count (λ i p q. (first_most context count cells ok i p q, second_most context count cells ok i p q)) in
        let e = sum_but_first heavy (λ j. owners cells count j * heavy j) count k.0 once in
        omega arith

  root_unowned : owners cells count 1 ≡ 0
  root_unowned = unowned count (owners cells count 1) (heavy (λ j. 1) 1) (count_bounds context count cells ok).0 (let s = sum_ones count in omega (arith, balance (λ j. 1)))

  pub weighed : (w : ℕ → ℕ) → weigh cells count w 1 (tree_at cells count 1) ≡ sum w count
  weighed w = let b : sum w count + 0 * heavy w 1 ≡ heavy w 1 = rw root_unowned at (balance w) in omega arith

  pub size_accepted : size (tree_at cells count 1) ≡ count
  size_accepted = sym (weigh_ones cells count (tree_at cells count 1) 1) ∙ weighed (λ j. 1) ∙ sum_ones count
