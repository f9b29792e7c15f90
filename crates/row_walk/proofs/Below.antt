-- In an accepted table, no two paths lead to one node. Assumes nothing.
use mathlib.Core.Path.{◌≡◌, refl, sym, ◌∙◌}
use mathlib.Core.List.{List, [], ◌∷◌}
use mathlib.Core.Logic.{◌⊎◌, inl, inr}
use Prim.Native.Nat.{ℕ, zero, suc, ◌≤◌, ◌<◌}
use native.Mathlib.Omega.{arith}
use Rattle.tree.specs.Table.{cell_at, first_column, second_column}
use Rattle.tree.specs.Trees.{operand_at}
use Rattle.tree_rules.specs.Refusals.{Accepted}
use Rattle.tree.proofs.Unfold.{Standing, absent, present, standing, operand_range, operand_zero}
use Rattle.tree_rules.proofs.Accepted.{one_owner}
use Rattle.row_walk.specs.Paths.{Branch, first, second, number_at}

module _ (cells : List ℕ) (count : ℕ) where
  -- node j is the operand of node o at a place
  pub record Owns (o k j : ℕ) : Type 0 where
    pub low : 1 ≤ o
    pub high : o ≤ count
    pub place : (k ≡ first_column) ⊎ (k ≡ second_column)
    pub operand : operand_at cells count o k ≡ j
    pub there : 1 ≤ j

  -- node j is node i or stands below it
  pub data Below : ℕ → ℕ → Type 0 where
    same : {i : ℕ} → 1 ≤ i → Below i i
    under : {i o j : ℕ} (k : ℕ) → Below i o → Owns o k j → Below i j

  owned_range : {o k j : ℕ} → Owns o k j → (o < j) × (j ≤ count)
  owned_range {o} {k} {j} w = rw w.operand at (operand_range count o (cell_at cells o k) (rw w.operand w.there))

  pub below_least : {i j : ℕ} → Below i j → (1 ≤ i) × (i ≤ j)
  below_least (same h) = (h, omega arith)
  below_least (under k b w) = let r = below_least b in let s = owned_range w in (r.0, omega arith)

  pub below_first : {i m j : ℕ} (k : ℕ) → Owns i k m → Below m j → Below i j
  below_first k w (same h) = under k (same w.low) w
  below_first k w (under n b v) = under n (below_first k w b) v

  -- a present operand is the number in its cell
  owned_cell : {o k j : ℕ} → Owns o k j → cell_at cells o k ≡ j
  owned_cell {o} {k} {j} w = go _ (standing count o (cell_at cells o k)) w.operand
    where
      go : (p : ℕ) → Standing count o (cell_at cells o k) p → p ≡ j → cell_at cells o k ≡ j
      go p absent e = absurd (let t = w.there in omega arith)
      go p (present a b) e = e

  module _ (context : ℕ) (ok : Accepted context count cells) where
    -- an owner is the only one
    owner_is : {o k q m j : ℕ} → Owns o k j → Owns q m j → (o ≡ q) × (k ≡ m)
    owner_is {o} {k} {q} {m} {j} w v =
        let r = owned_range w in
        let l = w.low in
        let u = one_owner context count cells ok j (omega arith) r.1 in
        let a = u.only o k w.low w.high w.place (owned_cell w) in
        let b = u.only q m v.low v.high v.place (owned_cell v) in
        (a.0 ∙ sym b.0, a.1 ∙ sym b.1)

    -- of two nodes above a third, one is above the other
    split : {p q j : ℕ} → Below p j → Below q j → Below p q ⊎ Below q p
    split (same h) d = inr d
    split (under k b w) (same h) = inl (under k b w)
    split (under k b w) (under m d v) = split b (rw (owner_is w v).0 d)

    -- an operand is not below its owner's other operand
    beside : {i k m l n : ℕ} → Owns i k m → Owns i l n → (k ≡ l → ⊥) → Below m n → ⊥
    beside w v ne (same h) = ne (owner_is w v).1
    beside w v ne (under k b u) =
        let e = (owner_is u v).0 in
        let r = below_least b in
        let s = owned_range w in
        omega arith

    -- no node is below both operands of a node
    pub apart : {i m n j : ℕ} → Owns i first_column m → Owns i second_column n → Below m j → Below n j → ⊥
    apart {i} {m} {n} {j} w v b d = go (split b d)
      where
        go : Below m n ⊎ Below n m → ⊥
        go (inl x) = beside w v (λ e. omega arith) x
        go (inr x) = beside v w (λ e. omega arith) x

  -- ---- paths

  number_zero : (p : List Branch) → number_at cells count 0 p ≡ 0
  unfolding cell_at
  number_zero [] = refl
  number_zero (first ∷ p) = rw (operand_zero count 0) (number_zero p)
  number_zero (second ∷ p) = rw (operand_zero count 0) (number_zero p)

  -- a number that a path leads to from an operand: the operand is there
  pub owns : (i k : ℕ) (p : List Branch) → 1 ≤ i → i ≤ count → (k ≡ first_column) ⊎ (k ≡ second_column) → 1 ≤ number_at cells count (operand_at cells count i k) p → Owns i k (operand_at cells count i k)
  owns i k p low high place h = go (operand_at cells count i k) refl
    where
      go : (o : ℕ) → operand_at cells count i k ≡ o → Owns i k (operand_at cells count i k)
      go zero e = absurd (let z = number_zero p in let y = rw e at h in omega arith)
      go (suc n) e = record { low = low; high = high; place = place; operand = refl; there = rw e (omega arith) }

  pub path_below : (i : ℕ) (p : List Branch) → 1 ≤ i → i ≤ count → 1 ≤ number_at cells count i p → Below i (number_at cells count i p)
  path_below i [] low high h = same low
  path_below i (first ∷ p) low high h =
      let w = owns i first_column p low high (inl refl) h in
      below_first first_column w (path_below (operand_at cells count i first_column) p w.there (owned_range w).1 h)
  path_below i (second ∷ p) low high h =
      let w = owns i second_column p low high (inr refl) h in
      below_first second_column w (path_below (operand_at cells count i second_column) p w.there (owned_range w).1 h)

  pub operand_most : {o k j : ℕ} → Owns o k j → (o < j) × (j ≤ count)
  operand_most w = owned_range w
