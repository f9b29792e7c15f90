-- Numbers as they are printed: ASCII codes.
use Rattle.std.specs.Prelude.{List, [], ◌∷◌, ◌++◌, ℕ, zero, suc, ◌+◌, ◌*◌, ◌-◌, ◌/◌, ◌%◌, ltb, take, drop}
use Rattle.laws.specs.Choice.{pick}

abbrev pub space : ℕ
space = 32

abbrev pub newline : ℕ
newline = 10

-- the last k decimal digits of n, or all where it has fewer; 48 is the code of `0`
unfoldable pub decimal_to : ℕ → ℕ → List ℕ
decimal_to zero n = []
decimal_to (suc k) n = pick (ltb n 10) ((48 + n) ∷ []) (decimal_to k (n / 10) ++ ((48 + n % 10) ∷ []))

-- the decimal digits of n, of which there are no more than n + 1
unfoldable pub decimal : ℕ → List ℕ
decimal n = decimal_to (suc n) n

-- numbers with a space before each
unfoldable pub spaced : List ℕ → List ℕ
spaced [] = []
spaced (n ∷ ns) = space ∷ decimal n ++ spaced ns

-- a line: a number, and more with a space before each
unfoldable pub line : ℕ → List ℕ → List ℕ
line n ns = decimal n ++ (spaced ns ++ (newline ∷ []))

-- the line of row n, counted from 1, of a table that has so many cells in each row: the number and the cells
unfoldable pub row_line : ℕ → List ℕ → ℕ → List ℕ
row_line width cells n = line n (take width (drop (width * (n - 1)) cells))

-- the texts of 1 to n, one behind the other
unfoldable pub joined : (ℕ → List ℕ) → ℕ → List ℕ
joined f zero = []
joined f (suc n) = joined f n ++ f (suc n)

-- a first line: two letters and a number
unfoldable pub headed : ℕ → ℕ → ℕ → List ℕ
headed a b n = a ∷ b ∷ space ∷ decimal n ++ (newline ∷ [])

-- "ok" and a number
abbrev pub ok_line : ℕ → List ℕ
ok_line n = headed 111 107 n

-- "no" and the number of a refusal
abbrev pub no_line : ℕ → List ℕ
no_line n = headed 110 111 n
