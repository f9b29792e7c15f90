-- Laws of tests over every number of a range. Assumes nothing.
use mathlib.Core.Path.{◌≡◌, refl, sym, ◌∙◌}
use mathlib.Core.Bool.{Bool, true, false, ◌&&◌, ◌||◌}
use Prim.Native.Nat.{ℕ, zero, suc, ◌+◌, ◌≤◌, ◌<◌}
use native.Mathlib.Omega.{arith}
use native.Mathlib.Decide.{dec_le}
use lib.Dec.{T}
use Rattle.laws.specs.Each.{some}
use Rattle.laws.proofs.Choice.{true_not_false, true_of, of_true, and_true, or_false}

-- none up to n and not at n + 1: none up to n + 1
pub some_more : (f : ℕ → Bool) (n : ℕ) → some f n ≡ false → f (n + 1) ≡ false → some f (n + 1) ≡ false
unfolding some
some_more f n e p = let s : n + 1 ≡ suc n = omega arith in rw s (rw (e, rw s at p))

-- one number more
pub some_next : (f : ℕ → Bool) (n : ℕ) (b : Bool) → b ≡ f (n + 1) → (some f n || b) ≡ some f (n + 1)
unfolding some
some_next f n b e = let s : n + 1 ≡ suc n = omega arith in rw (e, s)

-- tests that agree in the range
pub some_same : (f g : ℕ → Bool) (n : ℕ) → ((j : ℕ) → j ≤ n → f j ≡ g j) → some f n ≡ some g n
unfolding some
some_same f g zero e = refl
some_same f g (suc n) e = rw (some_same f g n (λ j h. e j (omega arith)), e (suc n) (omega arith))

-- none in the range: not at a number of it
pub some_none : (f : ℕ → Bool) (n : ℕ) → some f n ≡ false → (i : ℕ) → 1 ≤ i → i ≤ n → f i ≡ false
unfolding some
some_none f zero e i p q = absurd (omega arith)
some_none f (suc n) e i p q = go (dec_le i n) (or_false (some f n) (f (suc n)) e) (λ r h. some_none f n r i p h)
  where
    go : Dec (i ≤ n) → (some f n ≡ false) × (f (suc n) ≡ false) → (some f n ≡ false → i ≤ n → f i ≡ false) → f i ≡ false
    go (yes h) d r = r d.0 h
    go (no h) d r = let s : i ≡ suc n = omega arith in rw s d.1

-- at a number of the range: at one of them
pub some_found : (f : ℕ → Bool) (n i : ℕ) → 1 ≤ i → i ≤ n → f i ≡ true → some f n ≡ true
some_found f n i p q e = go (some f n) refl
  where
    go : (b : Bool) → some f n ≡ b → some f n ≡ true
    go true h = h
    go false h = true_not_false (sym e ∙ some_none f n h i p q)

-- whether a test holds at each of 0, .., n - 1; it computes where n is a numeral
abbrev pub all : (ℕ → Bool) → ℕ → Bool
all f zero = true
all f (suc n) = f n && all f n

-- a test that holds at each of 0, .., n - 1 holds at k: one computed test gives the rule at each entry of a table
pub all_at : (f : ℕ → Bool) (n : ℕ) → T (all f n) → (k : ℕ) → k < n → T (f k)
all_at f zero t k h = absurd (omega arith)
all_at f (suc n) t k h =
    let d = and_true (f n) (all f n) (true_of t) in
    go (dec_le n k) (of_true d.0) (λ p. all_at f n (of_true d.1) k p)
  where
    go : Dec (n ≤ k) → T (f n) → (k < n → T (f k)) → T (f k)
    go (yes p) t r = let e : k ≡ n = omega arith in rw e t
    go (no p) t r = r (omega arith)
