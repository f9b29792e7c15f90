-- A tree unfolds by one node, on every table. Assumes nothing.
use mathlib.Core.Path.{◌≡◌, refl, sym, ap₂}
use mathlib.Core.Bool.{Bool, true, false}
use mathlib.Core.List.{List}
use Prim.Native.Nat.{ℕ, zero, suc, ◌+◌, ◌-◌, ◌≤◌, ◌<◌}
use native.Mathlib.Omega.{arith}
use native.Mathlib.Decide.{dec_le}
use lib.Dec.{eqb}
use borrow.Author.Tests.{lt-ltb, le-ltb, le-leb, lt-leb}
use Rattle.laws.specs.Choice.{pick}
use Rattle.tree.specs.Forms.{class_of, a_link}
use Rattle.tree.specs.Table.{first_column, second_column}
use Rattle.tree.specs.Trees.{none, node, label_at, operand_of, operand_at, tree_to, tree_at, own_level, levels}

-- ---- operands

pub operand_in : (count i o : ℕ) → i < o → o ≤ count → operand_of count i o ≡ o
unfolding operand_of pick
operand_in count i o h k = rw (lt-ltb i o h, le-leb o count k)

operand_low : (count i o : ℕ) → o ≤ i → operand_of count i o ≡ 0
unfolding operand_of pick
operand_low count i o h = rw (le-ltb i o h)

pub operand_zero : (count i : ℕ) → operand_of count i 0 ≡ 0
operand_zero count i = operand_low count i 0 (omega arith)

operand_high : (count i o : ℕ) → i < o → count < o → operand_of count i o ≡ 0
unfolding operand_of pick
operand_high count i o h k = rw (lt-ltb i o h, lt-leb o count k)

-- a number as an operand: absent, or itself, above the owner and at most the count
pub data Standing (count i o : ℕ) : ℕ → Type 0 where
  absent : Standing count i o 0
  present : i < o → o ≤ count → Standing count i o o

pub standing : (count i o : ℕ) → Standing count i o (operand_of count i o)
standing count i o = low (dec_le o i)
  where
    high : i < o → Dec (o ≤ count) → Standing count i o (operand_of count i o)
    high h (yes k) = rw (operand_in count i o h k) (present h k)
    high h (no k) = rw (operand_high count i o h (omega arith)) absent

    low : Dec (o ≤ i) → Standing count i o (operand_of count i o)
    low (yes h) = rw (operand_low count i o h) absent
    low (no h) = high (omega arith) (dec_le o count)

-- a present operand is above its owner and at most the count
pub operand_range : (count i o : ℕ) → 0 < operand_of count i o → (i < operand_of count i o) × (operand_of count i o ≤ count)
operand_range count i o = go (operand_of count i o) (standing count i o)
  where
    go : (p : ℕ) → Standing count i o p → 0 < p → (i < p) × (p ≤ count)
    go p absent h = absurd (omega arith)
    go p (present a b) h = (a, b)

pub operand_most : (count i o : ℕ) → operand_of count i o ≤ count
operand_most count i o = go (operand_of count i o) (standing count i o)
  where
    go : (p : ℕ) → Standing count i o p → p ≤ count
    go p absent = omega arith
    go p (present a b) = b

-- what is an operand of some node can be the root
operand_root : (count i o : ℕ) → operand_of count 0 (operand_of count i o) ≡ operand_of count i o
operand_root count i o = go (operand_of count i o) (standing count i o)
  where
    go : (p : ℕ) → Standing count i o p → operand_of count 0 p ≡ p
    go p absent = operand_zero count 0
    go p (present a b) = operand_in count 0 p (omega arith) b

-- ---- numbers that are left above a node; none where an operand is absent: a recursion over a node's operands ends

abbrev pub left : ℕ → ℕ
left zero = 0
left (suc n) = 65535 - n

pub left_falls : (count i o : ℕ) → 1 ≤ i → i ≤ count → count ≤ 65535 → left (operand_of count i o) < left i
left_falls count i o h k l = go (operand_of count i o) (standing count i o)
  where
    above : (n m : ℕ) → 1 ≤ n → n < m → m ≤ 65535 → left m < left n
    above zero m h k l = absurd (omega arith)
    above (suc n) zero h k l = absurd (omega arith)
    above (suc n) (suc m) h k l = omega arith

    below : (n : ℕ) → 1 ≤ n → n ≤ 65535 → 0 < left n
    below zero h k = absurd (omega arith)
    below (suc n) h k = omega arith

    go : (p : ℕ) → Standing count i o p → left p < left i
    go p absent = below i h (omega arith)
    go p (present a b) = above i p h a (omega arith)

-- ---- trees

no_tree : (cells : List ℕ) (count n : ℕ) → tree_to cells count n 0 ≡ none
unfolding tree_to
no_tree cells count zero = refl
no_tree cells count (suc n) = refl

-- bounds beyond every path give the same tree
same : (cells : List ℕ) (count n m i : ℕ) → (0 < i → (i ≤ count) × (count < i + n) × (count < i + m)) → tree_to cells count n i ≡ tree_to cells count m i
unfolding tree_to
same cells count zero m zero h = sym (no_tree cells count m)
same cells count zero m (suc i) h = absurd (let f = h (omega arith) in omega arith)
same cells count (suc n) m zero h = sym (no_tree cells count m)
same cells count (suc n) zero (suc i) h = absurd (let f = h (omega arith) in omega arith)
same cells count (suc n) (suc m) (suc i) h =
    let f = h (omega arith) in
    ap₂ (node (label_at cells (suc i)))
    (same cells count n m (operand_at cells count (suc i) first_column) (λ p. let q = operand_range count (suc i) _ p in omega arith))
    (same cells count n m (operand_at cells count (suc i) second_column) (λ p. let q = operand_range count (suc i) _ p in omega arith))

pub tree_zero : (cells : List ℕ) (count : ℕ) → tree_at cells count 0 ≡ none
unfolding tree_at
tree_zero cells count = rw (operand_zero count 0) (no_tree cells count count)

pub tree_past : (cells : List ℕ) (count i : ℕ) → count < i → tree_at cells count i ≡ none
unfolding tree_at
tree_past cells count i h = rw (operand_high count 0 i (omega arith) h) (no_tree cells count count)

-- the operands of a present node, one step further down
below : (cells : List ℕ) (n i o : ℕ) → i ≤ n → tree_to cells (suc n) n (operand_of (suc n) (suc i) o) ≡ tree_at cells (suc n) (operand_of (suc n) (suc i) o)
unfolding tree_at
below cells n i o h =
    rw (operand_root (suc n) (suc i) o)
    (same cells (suc n) n (suc n) (operand_of (suc n) (suc i) o) (λ p. let q = operand_range (suc n) (suc i) o p in omega arith))

pub unfolds : (cells : List ℕ) (count i : ℕ) → 1 ≤ i → i ≤ count
    → tree_at cells count i ≡ node (label_at cells i) (tree_at cells count (operand_at cells count i first_column)) (tree_at cells count (operand_at cells count i second_column))
unfolding tree_at tree_to
unfolds cells zero i h k = absurd (omega arith)
unfolds cells (suc n) zero h k = absurd (omega arith)
unfolds cells (suc n) (suc i) h k =
    rw (operand_in (suc n) 0 (suc i) h k)
    (ap₂ (node (label_at cells (suc i))) (below cells n i _ (omega arith)) (below cells n i _ (omega arith)))

-- ---- the longest path

own_most : (form : ℕ) → own_level form ≤ 1
unfolding own_level pick
own_most form = go (eqb (class_of form) a_link)
  where
    go : (b : Bool) → pick b 0 1 ≤ 1
    go true = omega arith
    go false = omega arith

levels_to : (cells : List ℕ) (count n i : ℕ) → levels (tree_to cells count n i) ≤ n
unfolding tree_to levels
levels_to cells count zero i = omega arith
levels_to cells count (suc n) zero = omega arith
levels_to cells count (suc n) (suc i) =
    let a = levels_to cells count n (operand_at cells count (suc i) first_column) in
    let b = levels_to cells count n (operand_at cells count (suc i) second_column) in
    let o = own_most (label_at cells (suc i)).form in
    omega arith

-- no path is longer than the count
pub levels_most : (cells : List ℕ) (count i : ℕ) → levels (tree_at cells count i) ≤ count
unfolding tree_at
levels_most cells count i = levels_to cells count count (operand_of count 0 i)
