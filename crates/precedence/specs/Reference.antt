-- The Rust Reference, 'Expression precedence': the operators from strong to weak and their associativity, by document 01's numbers.
-- `=` is 28, and Range's operators are 29.
use Rattle.std.specs.Prelude.{Bool, List, [], ◌∷◌, ℕ, suc, ltb}
use Rattle.laws.specs.Choice.{pick, is_one_of, Line, line, lookup}
use Rattle.precedence.specs.declared.Lean.{Lean}
use Rattle.precedence.specs.declared.Lean.TheVariants.{Left, Right, Neither}

-- "left to right" leans left, "right to left" leans right, and "require parentheses" leans to neither side
unfoldable pub strong_first : List (Line Lean)
strong_first =
    -- * / %
    line (2 ∷ 3 ∷ 4 ∷ []) Left ∷
    -- + -
    line (0 ∷ 1 ∷ []) Left ∷
    -- << >>
    line (10 ∷ 11 ∷ []) Left ∷
    -- &
    line (8 ∷ []) Left ∷
    -- ^
    line (7 ∷ []) Left ∷
    -- |
    line (9 ∷ []) Left ∷
    -- == != < > <= >=
    line (12 ∷ 15 ∷ 13 ∷ 17 ∷ 14 ∷ 16 ∷ []) Neither ∷
    -- &&
    line (5 ∷ []) Left ∷
    -- ||
    line (6 ∷ []) Left ∷
    -- .. ..=
    line (29 ∷ []) Neither ∷
    -- = += -= *= /= %= &= |= ^= <<= >>=
    line (28 ∷ 18 ∷ 19 ∷ 20 ∷ 21 ∷ 22 ∷ 24 ∷ 25 ∷ 23 ∷ 26 ∷ 27 ∷ []) Right ∷
    []

-- the place of an operator's level, from 0, the strongest; past the levels, their number
unfoldable pub place_in : List (Line Lean) → ℕ → ℕ
place_in [] op = 0
place_in (line ops lean ∷ levels) op = pick (is_one_of ops op) 0 (suc (place_in levels op))

-- a binds less strongly than b
unfoldable pub weaker : ℕ → ℕ → Bool
weaker a b = ltb (place_in strong_first b) (place_in strong_first a)

unfoldable pub associativity : ℕ → Lean
associativity op = lookup strong_first Left op
