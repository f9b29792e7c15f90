-- Laws of the rows of a table and of texts one behind the other. Assumes nothing.
use mathlib.Core.Path.{◌≡◌, sym, ◌∙◌}
use mathlib.Core.List.{List, [], ◌++◌}
use Prim.Native.Nat.{ℕ, zero, suc, ◌+◌, ◌*◌, ◌-◌, ◌≤◌, ◌<◌}
use native.Mathlib.Nat.{mul-suc}
use native.Mathlib.Omega.{arith}
use lib.ListN.{length, take, drop, get_or, length-append, length-drop, drop_of_length-le}
use lib.Seq.{take_all, take-nil}
use Rattle.text.specs.Numbers.{row_line, joined, ok_line}
use Rattle.text.specs.Growth.{Grown}
use Rattle.text.proofs.Growing.{grown_more}
use Rattle.text.proofs.Spaces.{line_most, ok_most}

-- ---- a part of a list

module _ (l : List ℕ) (from most : ℕ) where
  pub none_left : length l < from → [] ≡ take most (drop from l)
  none_left h = sym (rw (drop_of_length-le l {i = from} (omega arith)) (take-nil most))

  rest : take (length l - from) (drop from l) ≡ drop from l
  rest = take_all (length l - from) (drop from l) (rw length-drop (omega arith))

  pub few_left : length l - from < most → take (length l - from) (drop from l) ≡ take most (drop from l)
  few_left h = rest ∙ sym (take_all most (drop from l) (rw length-drop (omega arith)))

  pub more_left : take most (take (length l - from) (drop from l)) ≡ take most (drop from l)
  more_left = rw rest

-- ---- texts one behind the other

module _ (f : ℕ → List ℕ) where
  joined_next : (n : ℕ) → joined f (n + 1) ≡ joined f n ++ f (n + 1)
  unfolding joined
  joined_next n = let e : n + 1 ≡ suc n = omega arith in rw e

  -- a text that has grown by the first n of them grows by the next
  pub grown_next : (n : ℕ) {before after last : List ℕ} {end mid r : ℕ} → Grown before end (joined f n) after mid → Grown after mid (f (n + 1)) last r → Grown before end (joined f (n + 1)) last r
  grown_next n a b = rw (joined_next n) (grown_more a b)

-- ---- how many bytes

-- a row of so many cells of 16 bits
pub row_most : (width : ℕ) (cells : List ℕ) → ((i : ℕ) → get_or cells i 0 ≤ 65535) → (n : ℕ) → n ≤ 65535 → length (row_line width cells n) ≤ 6 * (width + 1)
unfolding row_line
row_most width cells fit n h = line_most width n cells (width * (n - 1)) h fit

-- texts of so many bytes at most
module _ (most : ℕ) (f : ℕ → List ℕ) (few : (n : ℕ) → n ≤ 65535 → length (f n) ≤ most) where
  joined_most : (n : ℕ) → n ≤ 65535 → length (joined f n) ≤ most * n
  unfolding joined
  joined_most zero h = omega arith
  joined_most (suc n) h =
      let others = joined_most n (omega arith) in
      let last = few (suc n) h in
      rw (length-append, mul-suc most n) (omega arith)

  -- behind a first line
  pub page_most : (n : ℕ) → n ≤ 65535 → length (ok_line n ++ joined f n) ≤ 9 + most * n
  page_most n h =
      let head = ok_most n h in
      let lines = joined_most n h in
      rw length-append (omega arith)
