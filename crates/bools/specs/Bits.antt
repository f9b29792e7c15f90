-- A test as a number.
use Rattle.std.specs.Prelude.{Bool, true, false, ℕ}

-- 1 where the test holds, otherwise 0
abbrev pub bit_of : Bool → ℕ
bit_of true = 1
bit_of false = 0
