-- Whether an expression goes on with a token, by the expression's level and its last tokens: the grammar's rules as far as these two tell.
use Rattle.std.specs.Prelude.{Bool, false, not, ◌&&◌, ℕ, leb}
use Rattle.token_grammar.specs.Levels.{casts, postfixes, kind, before}
use Rattle.token_grammar.specs.Grammar.{opens_arguments}
use Rattle.token_grammar.specs.Next.{Next, stops, operates, casts_to, dots, calls, indexes, tries, level_at}

-- the lowest level of an expression before it
abbrev pub before_at : Next → ℕ
before_at stops = 0
before_at (operates o) = before (kind o)
before_at casts_to = before casts
before_at dots = before postfixes
before_at calls = before postfixes
before_at indexes = before postfixes
before_at tries = before postfixes

-- the two special rules: `<` and `<<` after a type name, a call of what ends in a dot and a name
abbrev pub barred_at : Bool → Bool → Next → Bool
barred_at type_name dot_name stops = false
barred_at type_name dot_name (operates o) = opens_arguments o && type_name
barred_at type_name dot_name casts_to = false
barred_at type_name dot_name dots = false
barred_at type_name dot_name calls = dot_name
barred_at type_name dot_name indexes = false
barred_at type_name dot_name tries = false

unfoldable pub goes_on_by : ℕ → ℕ → Bool → Bool → Next → Bool
goes_on_by least level type_name dot_name x = leb least (level_at x) && (leb (before_at x) level && not (barred_at type_name dot_name x))
