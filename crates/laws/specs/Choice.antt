-- Choice by a test, and tables whose lines stand for sets of numbers.
use Rattle.std.specs.Prelude.{Bool, true, false, List, [], ◌∷◌, ℕ}
use mir.Val.{has_key}

-- the first where the test holds, otherwise the second
unfoldable pub pick : {A : Type 0} → Bool → A → A → A
pick true a b = a
pick false a b = b

-- whether a number is one of those listed
abbrev pub is_one_of : List ℕ → ℕ → Bool
is_one_of ns n = has_key ns n

-- a line of a table: what it gives for each of the numbers listed
pub data Line (A : Type 0) : Type 0 where
  line : List ℕ → A → Line A

-- what the first line with n among its numbers gives; without such a line, `other`
unfoldable pub lookup : {A : Type 0} → List (Line A) → A → ℕ → A
lookup [] other n = other
lookup (line ns a ∷ lines) other n = pick (is_one_of ns n) a (lookup lines other n)
