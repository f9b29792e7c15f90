-- How strongly the forms of the plain grammar bind: a level and a lean for each kind, and what an operand must have.
use Rattle.std.specs.Prelude.{Bool, true, false, not, List, [], ◌∷◌, ℕ, suc}
use Rattle.laws.specs.Choice.{Line, line, lookup, is_one_of}
use Rattle.token_grammar.specs.Tokens.{Operator, add, sub, mul, div, rem, and, or, bit_xor, bit_and, bit_or, shl, shr, eq, lt, le, ne, ge, gt, number}

-- the kinds of document 01's list; `postfixes` are "the dot, call, index and `?` forms"
pub data Kind : Type 0 where
  assignments ors ands comparisons bit_ors bit_xors bit_ands shifts sums products casts prefixes postfixes : Kind

abbrev pub kinds : List (Line Kind)
kinds =
    line (number add ∷ number sub ∷ []) sums ∷
    line (number mul ∷ number div ∷ number rem ∷ []) products ∷
    line (number and ∷ []) ands ∷
    line (number or ∷ []) ors ∷
    line (number bit_xor ∷ []) bit_xors ∷
    line (number bit_and ∷ []) bit_ands ∷
    line (number bit_or ∷ []) bit_ors ∷
    line (number shl ∷ number shr ∷ []) shifts ∷
    line (number eq ∷ number lt ∷ number le ∷ number ne ∷ number ge ∷ number gt ∷ []) comparisons ∷
    []

-- all others, `=` among them, assign
unfoldable pub kind : Operator → Kind
kind o = lookup kinds assignments (number o)

-- "Loosest first: assignment (right operand first), `||`, `&&`, comparison (no chains), `|`, `^`, `&`, shifts, sums, products,
-- `as` (all so far but assignment and comparison lean left), prefixes, then the dot, call, index and `?` forms."
-- Only the order matters. The numbers leave out 2 and 5, the crate's Range and Let, so that a level is the crate's precedence.
abbrev pub level : Kind → ℕ
level assignments = 1
level ors = 3
level ands = 4
level comparisons = 6
level bit_ors = 7
level bit_xors = 8
level bit_ands = 9
level shifts = 10
level sums = 11
level products = 12
level casts = 13
level prefixes = 14
level postfixes = 15

-- The same sentence: "right operand first" leans right, "no chains" to neither side. A prefix has an operand after it only, which may
-- be another prefix's expression: right. A postfix form has one before it: left.
abbrev pub leans_left : Kind → Bool
leans_left k = not (is_one_of (level assignments ∷ level comparisons ∷ level prefixes ∷ []) (level k))

abbrev pub leans_right : Kind → Bool
leans_right k = is_one_of (level assignments ∷ level prefixes ∷ []) (level k)

-- The lowest level of an operand that stands before, or after: one of the same level may stand on the side to which the form leans.
abbrev pub lowest : Bool → ℕ → ℕ
lowest true n = n
lowest false n = suc n

abbrev pub before : Kind → ℕ
before k = lowest (leans_left k) (level k)

abbrev pub after : Kind → ℕ
after k = lowest (leans_right k) (level k)
