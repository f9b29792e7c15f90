-- What the reader asks of tokens. Nothing here is to be believed: proofs/Tables says that it is what the parser asks.
use Rattle.std.specs.Prelude.{Bool, ◌&&◌, List, ℕ, ◌+◌, eqb}
use Rattle.laws.specs.Choice.{pick}
use Rattle.tree.specs.Forms.{expr_assign, expr_binary}
use Rattle.token_grammar.specs.Tokens.{assign, number, comma_token, code}
use Rattle.token_grammar.specs.Codes.{sign_of, code_at}
use Rattle.token_grammar.specs.Levels.{assignments, level}
use Rattle.token_grammar.specs.Next.{next_of, level_at}
use Rattle.token_follow.specs.Follow.{goes_on_by}

-- ---- after an item of a list

-- the place `at`, or the next one where a comma stands at `at` and behind it the sign that closes the list
unfoldable pub past_comma : List ℕ → ℕ → ℕ → ℕ
past_comma tokens at close = pick (eqb (code_at tokens at) (code comma_token) && eqb (code_at tokens (at + 1)) close) (at + 1) at

-- ---- after an expression

-- the level of what a token makes there
abbrev pub level_of : ℕ → ℕ
level_of code = level_at (next_of (sign_of code))

-- the lowest level of an operand that stands after
unfoldable pub after_of : ℕ → ℕ
after_of n = pick (eqb n (level assignments)) (level assignments) (n + 1)

-- whether an expression goes on with a token
abbrev pub goes_on_with : ℕ → ℕ → Bool → Bool → ℕ → Bool
goes_on_with least level type_name dot_name code = goes_on_by least level type_name dot_name (next_of (sign_of code))

-- ---- Binary and Assign

unfoldable pub operator_form : ℕ → ℕ
operator_form code = pick (eqb code (number assign)) expr_assign expr_binary

unfoldable pub operator_detail : ℕ → ℕ
operator_detail code = pick (eqb code (number assign)) 0 code
