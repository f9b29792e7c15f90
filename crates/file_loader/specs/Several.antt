-- Document 01, 'Tree file': the numbers of a file, one after the other.
use Rattle.std.specs.Prelude.{Bool, true, false, List, [], ◌∷◌, ℕ, zero, suc}
use Rattle.laws.specs.Choice.{pick}
use Rattle.file_numbers.specs.Numbers.{value_of, rest_of, malformed}

-- the numbers at the start of a list of bytes, with the bytes after them; or that one of them is malformed
pub data Numbers : Type 0 where
  broken : Numbers
  numbers : List ℕ → List ℕ → Numbers

unfoldable pub prepend : ℕ → Numbers → Numbers
prepend n broken = broken
prepend n (numbers ns bytes) = numbers (n ∷ ns) bytes

unfoldable pub numbers_of : ℕ → List ℕ → Numbers
numbers_of zero bytes = numbers [] bytes
numbers_of (suc n) bytes = pick (malformed bytes) broken (prepend (value_of bytes) (numbers_of n (rest_of bytes)))

unfoldable pub is_broken : Numbers → Bool
is_broken broken = true
is_broken (numbers ns bytes) = false

-- the numbers, none where one is malformed
unfoldable pub values_in : Numbers → List ℕ
values_in broken = []
values_in (numbers ns bytes) = ns

-- the bytes after them
unfoldable pub bytes_after : Numbers → List ℕ
bytes_after broken = []
bytes_after (numbers ns bytes) = bytes
