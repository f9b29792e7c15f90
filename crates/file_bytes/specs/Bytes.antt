-- Document 01, 'Tree file': numbers as the bytes of a file.
use Rattle.std.specs.Prelude.{List, [], ◌∷◌, ◌++◌, ℕ, ◌+◌, ◌/◌, ◌%◌, ltb}
use Rattle.laws.specs.Choice.{pick}

-- "A number is groups of seven bits, lowest group first; the high bit of a byte says another follows." A number up to 65,535 has at most three groups, and the last of several is not zero
unfoldable pub bytes_of : ℕ → List ℕ
bytes_of n =
    pick (ltb n 128) (n ∷ [])
    (pick (ltb n 16384) ((128 + n % 128) ∷ (n / 128) ∷ [])
    ((128 + n % 128) ∷ (128 + n / 128 % 128) ∷ (n / 16384) ∷ []))

-- one number after the other
unfoldable pub all_bytes : List ℕ → List ℕ
all_bytes [] = []
all_bytes (n ∷ ns) = bytes_of n ++ all_bytes ns
