-- The plain grammar: which parse trees it allows.
use Rattle.std.specs.Prelude.{◌≡◌, Bool, false, ◌&&◌, [], ◌∷◌, ℕ, ◌≤◌}
use Rattle.laws.specs.Choice.{is_one_of}
use Rattle.token_grammar.specs.Tokens.{Operator, shl, lt, number}
use Rattle.token_grammar.specs.Levels.{casts, prefixes, postfixes, kind, level, before, after}
use Rattle.token_grammar.specs.Types.{Sort, one}
use Rattle.token_grammar.specs.Expressions.{Expr, atom, paren, prefix, binary, cast, member, try, index, call, method, no_arguments, arguments, last_argument, more_arguments, kind_of, ends_in_type_name, ends_in_dot_name, is_struct}

-- Where an expression stands, of the contexts that writer and reader take. "Context: 0 NONE, .. 3 new_condition."
pub data Context : Type 0 where
  NONE CONDITION : Context

abbrev pub context_number : Context → ℕ
context_number NONE = 0
context_number CONDITION = 3

-- an operand's level is at least n
abbrev pub AtLeast : ℕ → Expr one → Type 0
AtLeast n a = n ≤ level (kind_of a)

-- the operators `<` and `<<`
unfoldable pub opens_arguments : Operator → Bool
opens_arguments o = is_one_of (number lt ∷ number shl ∷ []) (number o)

-- "`<` or `<<` straight after a type name never is an operator"
abbrev pub OperatorMayFollow : Operator → Expr one → Type 0
OperatorMayFollow o a = (opens_arguments o && ends_in_type_name a) ≡ false

-- "Dot, name, `(` is always a method call."
abbrev pub CallMayFollow : Expr one → Type 0
CallMayFollow a = ends_in_dot_name a ≡ false

-- Document 02, Paper 5: "In context 3 a Struct outside every parenthesis, bracket and argument list has no reading, as the Reference excludes it from conditions."
abbrev pub excluded : Context → Expr one → Bool
excluded NONE e = false
excluded CONDITION e = is_struct e

-- Each operand has the level that its place asks for, the two rules hold, and no Struct stands where it is excluded.
-- What stands in parentheses, in brackets or in an argument list may have any level, and its context is NONE.
abbrev pub Fits : {s : Sort} → Context → Expr s → Type 0
Fits c (atom x) = excluded c (atom x) ≡ false
Fits c (paren a) = Fits NONE a
Fits c (prefix p a) = AtLeast (after prefixes) a × Fits c a
Fits c (binary o a b) = AtLeast (before (kind o)) a × AtLeast (after (kind o)) b × OperatorMayFollow o a × Fits c a × Fits c b
Fits c (cast a t) = AtLeast (before casts) a × Fits c a
Fits c (member m a) = AtLeast (before postfixes) a × Fits c a
Fits c (try a) = AtLeast (before postfixes) a × Fits c a
Fits c (index a b) = AtLeast (before postfixes) a × Fits c a × Fits NONE b
Fits c (call a l) = AtLeast (before postfixes) a × CallMayFollow a × Fits c a × Fits c l
Fits c (method y a l) = AtLeast (before postfixes) a × Fits c a × Fits c l
Fits c no_arguments = Unit {0}
Fits c (arguments l) = Fits c l
Fits c (last_argument comma a) = Fits NONE a
Fits c (more_arguments a l) = Fits NONE a × Fits c l
