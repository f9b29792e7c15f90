-- What a token makes that stands straight after an expression.
use Rattle.std.specs.Prelude.{ℕ}
use Rattle.token_grammar.specs.Tokens.{Operator, Token, operator, bang, and_mut, as_token, name_token, literal_token, dot, left_paren, right_paren, left_bracket, right_bracket, comma_token, question, star_const, star_mut, underscore, numbered_member, await, struct_token}
use Rattle.token_grammar.specs.Levels.{casts, postfixes, kind, level}

pub data Next : Type 0 where
  stops : Next
  operates : Operator → Next
  casts_to dots calls indexes tries : Next

abbrev pub next_of : Token → Next
next_of (operator o) = operates o
next_of bang = stops
next_of and_mut = stops
next_of as_token = casts_to
next_of (name_token y) = stops
next_of (literal_token y) = stops
next_of dot = dots
next_of left_paren = calls
next_of right_paren = stops
next_of left_bracket = indexes
next_of right_bracket = stops
next_of comma_token = stops
next_of question = tries
next_of star_const = stops
next_of star_mut = stops
next_of underscore = stops
next_of (numbered_member y) = stops
next_of await = stops
next_of struct_token = stops

-- its level
abbrev pub level_at : Next → ℕ
level_at stops = 0
level_at (operates o) = level (kind o)
level_at casts_to = level casts
level_at dots = level postfixes
level_at calls = level postfixes
level_at indexes = level postfixes
level_at tries = level postfixes
