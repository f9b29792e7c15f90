-- How many `(` the cells of a token list have.
use Rattle.std.specs.Prelude.{List, [], ◌∷◌, ℕ, ◌+◌, eqb}
use Rattle.bools.specs.Bits.{bit_of}
use Rattle.token_grammar.specs.Tokens.{left_paren, code}

-- "35 to 38 `( ) [ ]`"; two cells a token, code and symbol
abbrev pub openings : List ℕ → ℕ
openings [] = 0
openings (n ∷ []) = 0
openings (n ∷ y ∷ cells) = bit_of (eqb n (code left_paren)) + openings cells
