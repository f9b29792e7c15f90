-- Where the codes of the operators end, and the levels: proofs and private contracts cite it. Nothing here is to be believed.
use Rattle.std.specs.Prelude.{ℕ}
use Rattle.token_grammar.specs.Tokens.{bang, code}
use Rattle.token_grammar.specs.Levels.{assignments, postfixes, level}

-- the first code behind those of the operators
abbrev pub past_operators : ℕ
past_operators = code bang

-- the lowest level, which any expression has at least
abbrev pub loosest : ℕ
loosest = level assignments

abbrev pub highest : ℕ
highest = level postfixes
