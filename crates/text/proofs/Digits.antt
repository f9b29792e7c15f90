-- Laws of decimal digits. Assumes nothing.
use mathlib.Core.Path.{◌≡◌, sym, ap, ◌∙◌}
use mathlib.Core.List.{[], ◌∷◌, ◌++◌}
use Prim.Native.Nat.{ℕ, zero, suc, ◌+◌, ◌/◌, ◌%◌, ◌≤◌, ◌<◌}
use native.Mathlib.Omega.{arith}
use native.Mathlib.Decide.{dec_le}
use lib.ListN.{length, length-append}
use borrow.Author.Tests.{lt-ltb, le-ltb}
use Rattle.laws.proofs.Choice.{pick_true, pick_false}
use Rattle.text.specs.Numbers.{decimal_to, decimal}

-- any two bounds above a number give the same digits
same_digits : (j k n : ℕ) → n < j → n < k → decimal_to j n ≡ decimal_to k n
unfolding decimal_to
same_digits zero k n h i = absurd (omega arith)
same_digits (suc j) zero n h i = absurd (omega arith)
same_digits (suc j) (suc k) n h i = go (dec_le 10 n) (λ p q. same_digits j k (n / 10) p q)
  where
    go : Dec (10 ≤ n) → (n / 10 < j → n / 10 < k → decimal_to j (n / 10) ≡ decimal_to k (n / 10)) → decimal_to (suc j) n ≡ decimal_to (suc k) n
    go (yes l) r = rw (le-ltb n 10 l, r (omega arith) (omega arith))
    go (no l) r = pick_true _ _ (lt-ltb n 10 (omega arith)) ∙ sym (pick_true _ _ (lt-ltb n 10 (omega arith)))

pub decimal_one : (n : ℕ) → n < 10 → decimal n ≡ (48 + n) ∷ []
unfolding decimal decimal_to
decimal_one n h = pick_true _ _ (lt-ltb n 10 h)

pub decimal_more : (n : ℕ) → 10 ≤ n → decimal n ≡ decimal (n / 10) ++ ((48 + n % 10) ∷ [])
unfolding decimal decimal_to
decimal_more n h = pick_false _ _ (le-ltb n 10 h) ∙ rw (same_digits n (suc (n / 10)) (n / 10) (omega arith) (omega arith))

-- ---- how many there are

pub length_one : (n : ℕ) → n < 10 → length (decimal n) ≡ 1
length_one n h = ap length (decimal_one n h)

pub length_more : (n : ℕ) → 10 ≤ n → length (decimal n) ≡ length (decimal (n / 10)) + 1
length_more n h = ap length (decimal_more n h) ∙ simp length-append

length_next : (n k : ℕ) → 1 ≤ k → length (decimal (n / 10)) ≤ k → length (decimal n) ≤ suc k
length_next n k h l = go (dec_le 10 n)
  where
    go : Dec (10 ≤ n) → length (decimal n) ≤ suc k
    go (yes i) = omega (arith, length_more n i)
    go (no i) = omega (arith, length_one n (omega arith))

-- a number of 16 bits has at most five
pub length_decimal : (n : ℕ) → n ≤ 65535 → length (decimal n) ≤ 5
length_decimal n h =
    let last = length_one (n / 10 / 10 / 10 / 10) (omega arith) in
    length_next n 4 (omega arith)
    (length_next (n / 10) 3 (omega arith)
    (length_next (n / 10 / 10) 2 (omega arith)
    (length_next (n / 10 / 10 / 10) 1 (omega arith) (omega arith))))
