-- What the tables of the code give for codes. Nothing here is to be believed: proofs/Tables says that it is what the grammar gives.
use Rattle.std.specs.Prelude.{Bool, false, List, [], ◌∷◌, ℕ, suc}
use Rattle.laws.specs.Choice.{Line, line, lookup}
use Rattle.token_grammar.specs.Tokens.{add, sub, mul, div, rem, and, or, bit_xor, bit_and, bit_or, shl, shr, eq, lt, le, ne, ge, gt, add_assign, sub_assign, mul_assign, div_assign, rem_assign, bit_xor_assign, bit_and_assign, bit_or_assign, shl_assign, shr_assign, assign, number, as_token, dot, left_paren, left_bracket, question, code}
use Rattle.token_grammar.specs.Levels.{assignments, ors, ands, comparisons, bit_ors, bit_xors, bit_ands, shifts, sums, products, casts, postfixes, level}

-- the level of what a token makes there
unfoldable pub level_lines : List (Line ℕ)
level_lines =
    line (number add ∷ number sub ∷ []) (level sums) ∷
    line (number mul ∷ number div ∷ number rem ∷ []) (level products) ∷
    line (number and ∷ []) (level ands) ∷
    line (number or ∷ []) (level ors) ∷
    line (number bit_xor ∷ []) (level bit_xors) ∷
    line (number bit_and ∷ []) (level bit_ands) ∷
    line (number bit_or ∷ []) (level bit_ors) ∷
    line (number shl ∷ number shr ∷ []) (level shifts) ∷
    line (number eq ∷ number lt ∷ number le ∷ number ne ∷ number ge ∷ number gt ∷ []) (level comparisons) ∷
    line (number add_assign ∷ number sub_assign ∷ number mul_assign ∷ number div_assign ∷ number rem_assign ∷ number bit_xor_assign ∷ number bit_and_assign ∷ number bit_or_assign ∷ number shl_assign ∷ number shr_assign ∷ number assign ∷ []) (level assignments) ∷
    []

unfoldable pub past_lines : List (Line ℕ)
past_lines =
    line (code as_token ∷ []) (level casts) ∷
    line (code dot ∷ []) (level postfixes) ∷
    line (code left_paren ∷ []) (level postfixes) ∷
    line (code left_bracket ∷ code question ∷ []) (level postfixes) ∷
    []

unfoldable pub level_past : ℕ → ℕ
level_past n = lookup past_lines 0 n

unfoldable pub level_of : ℕ → ℕ
level_of n = lookup level_lines (level_past n) n

-- the lowest level of an operand that stands before
abbrev pub before_lines : List (Line ℕ)
before_lines = line (level assignments ∷ []) (suc (level assignments)) ∷ line (level comparisons ∷ []) (suc (level comparisons)) ∷ []

unfoldable pub before_of : ℕ → ℕ
before_of n = lookup before_lines n n

-- whether one of the two special rules forbids a token, after a type name or not, after a dot and a name or not
abbrev pub barred_lines : Bool → Bool → List (Line Bool)
barred_lines type_name dot_name = line (number shl ∷ number lt ∷ []) type_name ∷ line (code left_paren ∷ []) dot_name ∷ []

unfoldable pub barred : Bool → Bool → ℕ → Bool
barred type_name dot_name n = lookup (barred_lines type_name dot_name) false n
