-- A node that is counted once has one owner. Assumes nothing.
use mathlib.Core.Path.{◌≡◌, refl, sym}
use mathlib.Core.Bool.{Bool, true, false}
use mathlib.Core.List.{List}
use mathlib.Core.Logic.{◌⊎◌, inl, inr}
use Prim.Native.Nat.{ℕ, zero, suc, ◌+◌, ◌≤◌}
use native.Mathlib.Omega.{arith}
use native.Mathlib.Decide.{dec_le}
use lib.Dec.{eqb}
use borrow.Author.Tests.{eqb-true, eqb-false}
use Rattle.laws.specs.Choice.{pick}
use Rattle.tree.specs.Table.{cell_at, first_at, second_at, first_column, second_column}
use Rattle.tree_rules.specs.Refusals.{owners}

-- node j is the operand of one node, at one place
pub record OwnedOnce (cells : List ℕ) (n j : ℕ) : Type 0 where
  pub owner : ℕ
  pub place : ℕ
  pub is_place : (place ≡ 3) ⊎ (place ≡ 4)
  pub owner_low : 1 ≤ owner
  pub owner_high : owner ≤ n
  pub owns : cell_at cells owner place ≡ j
  pub only : (i k : ℕ) → 1 ≤ i → i ≤ n → (k ≡ first_column) ⊎ (k ≡ second_column) → cell_at cells i k ≡ j → (i ≡ owner) × (k ≡ place)

module _ (cells : List ℕ) (j : ℕ) where
  -- whether an operand is j
  data Is (o : ℕ) : ℕ → Type 0 where
    is : o ≡ j → Is o 1
    isnt : (o ≡ j → ⊥) → Is o 0

  is_j : (o : ℕ) → Is o (pick (eqb o j) 1 0)
  unfolding pick
  is_j o = go (eqb o j) refl
    where
      go : (b : Bool) → eqb o j ≡ b → Is o (pick b 1 0)
      go true e = is (eqb-true o j e)
      go false e = isnt (eqb-false o j e)

  -- no operand of the nodes 1 to n is j
  abbrev None : ℕ → Type 0
  None n = (i k : ℕ) → 1 ≤ i → i ≤ n → (k ≡ first_column) ⊎ (k ≡ second_column) → cell_at cells i k ≡ j → ⊥

  at_place : (n k : ℕ) → (k ≡ first_column) ⊎ (k ≡ second_column) → (first_at cells n ≡ j → ⊥) → (second_at cells n ≡ j → ⊥) → cell_at cells n k ≡ j → ⊥
  at_place n k (inl e) p q h = p (rw e at h)
  at_place n k (inr e) p q h = q (rw e at h)

  none_more : (n : ℕ) → None n → (first_at cells (suc n) ≡ j → ⊥) → (second_at cells (suc n) ≡ j → ⊥) → None (suc n)
  none_more n h p q i k a b c e = go (dec_le i n)
    where
      go : Dec (i ≤ n) → ⊥
      go (yes d) = h i k a d c e
      go (no d) = let s : i ≡ suc n = omega arith in at_place (suc n) k c p q (rw s at e)

  none_owned : (n : ℕ) → owners cells n j ≡ 0 → None n
  unfolding owners
  none_owned zero e = nobody
    where
      nobody : None 0
      nobody i k a b c h = omega arith
  none_owned (suc n) e = go _ _ (is_j (first_at cells (suc n))) (is_j (second_at cells (suc n))) e (none_owned n)
    where
      go : (a b : ℕ) → Is (first_at cells (suc n)) a → Is (second_at cells (suc n)) b → owners cells n j + a + b ≡ 0 → (owners cells n j ≡ 0 → None n) → None (suc n)
      go a b (is p) q h r = absurd (omega arith)
      go a b (isnt p) (is q) h r = absurd (omega arith)
      go a b (isnt p) (isnt q) h r = none_more n (r (omega arith)) p q

  -- the owner is one of the first n nodes, or the next one at one of its places
  earlier : (n : ℕ) → OwnedOnce cells n j → (first_at cells (suc n) ≡ j → ⊥) → (second_at cells (suc n) ≡ j → ⊥) → OwnedOnce cells (suc n) j
  earlier n o p q =
      let h = o.owner_high in
      record { owner = o.owner; place = o.place; is_place = o.is_place; owner_low = o.owner_low; owner_high = omega arith; owns = o.owns; only = each }
    where
      each : (i k : ℕ) → 1 ≤ i → i ≤ suc n → (k ≡ first_column) ⊎ (k ≡ second_column) → cell_at cells i k ≡ j → (i ≡ o.owner) × (k ≡ o.place)
      each i k a b c e = go (dec_le i n)
        where
          go : Dec (i ≤ n) → (i ≡ o.owner) × (k ≡ o.place)
          go (yes d) = o.only i k a d c e
          go (no d) = absurd (let s : i ≡ suc n = omega arith in at_place (suc n) k c p q (rw s at e))

  here : (n k : ℕ) → (k ≡ first_column) ⊎ (k ≡ second_column) → None n → cell_at cells (suc n) k ≡ j → ((m : ℕ) → (m ≡ 3) ⊎ (m ≡ 4) → cell_at cells (suc n) m ≡ j → m ≡ k) → OwnedOnce cells (suc n) j
  here n k c h e u = record { owner = suc n; place = k; is_place = c; owner_low = omega arith; owner_high = omega arith; owns = e; only = each }
    where
      each : (i m : ℕ) → 1 ≤ i → i ≤ suc n → (m ≡ 3) ⊎ (m ≡ 4) → cell_at cells i m ≡ j → (i ≡ suc n) × (m ≡ k)
      each i m a b d f = go (dec_le i n)
        where
          go : Dec (i ≤ n) → (i ≡ suc n) × (m ≡ k)
          go (yes g) = absurd (h i m a g d f)
          go (no g) = let s : i ≡ suc n = omega arith in (s, u m d (rw s at f))

  only_first : (n m : ℕ) → (second_at cells n ≡ j → ⊥) → (m ≡ 3) ⊎ (m ≡ 4) → cell_at cells n m ≡ j → m ≡ 3
  only_first n m q (inl e) h = e
  only_first n m q (inr e) h = absurd (q (rw e at h))

  only_second : (n m : ℕ) → (first_at cells n ≡ j → ⊥) → (m ≡ 3) ⊎ (m ≡ 4) → cell_at cells n m ≡ j → m ≡ 4
  only_second n m q (inl e) h = absurd (q (rw e at h))
  only_second n m q (inr e) h = e

  pub owned_once : (n : ℕ) → owners cells n j ≡ 1 → OwnedOnce cells n j
  unfolding owners
  owned_once zero e = absurd (omega arith)
  owned_once (suc n) e = go _ _ (is_j (first_at cells (suc n))) (is_j (second_at cells (suc n))) e (owned_once n)
    where
      go : (a b : ℕ) → Is (first_at cells (suc n)) a → Is (second_at cells (suc n)) b → owners cells n j + a + b ≡ 1 → (owners cells n j ≡ 1 → OwnedOnce cells n j) → OwnedOnce cells (suc n) j
      go a b (is p) (is q) h r = absurd (omega arith)
      go a b (is p) (isnt q) h r = here n 3 (inl refl) (none_owned n (omega arith)) p (λ m. only_first (suc n) m q)
      go a b (isnt p) (is q) h r = here n 4 (inr refl) (none_owned n (omega arith)) q (λ m. only_second (suc n) m p)
      go a b (isnt p) (isnt q) h r = earlier n (r (omega arith)) p q
