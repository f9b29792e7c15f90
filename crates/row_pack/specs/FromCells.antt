-- The context that three cells hold: the ranks of its two precedences, and its flags.
use Rattle.std.specs.Prelude.{Bool, List, [], ◌∷◌, ℕ, ◌/◌, ◌%◌, ◌^◌, eqb}
use Rattle.laws.specs.Choice.{Line, line, lookup}
use Rattle.precedence.specs.declared.Precedence.{Precedence}
use Rattle.precedence.specs.declared.Precedence.TheVariants.{Jump, Assign, Range, Or, And, Let, Compare, BitOr, BitXor, BitAnd, Shift, Sum, Product, Cast, Prefix, Unambiguous}
use Rattle.fixup.specs.declared.context.FixupContext.{FixupContext}

-- document 01: "Precedence numbers follow the enum's order: Jump 0 to Unambiguous 15."
unfoldable pub ranks : List (Line Precedence)
ranks =
    line (1 ∷ []) Assign ∷
    line (2 ∷ []) Range ∷
    line (3 ∷ []) Or ∷
    line (4 ∷ []) And ∷
    line (5 ∷ []) Let ∷
    line (6 ∷ []) Compare ∷
    line (7 ∷ []) BitOr ∷
    line (8 ∷ []) BitXor ∷
    line (9 ∷ []) BitAnd ∷
    line (10 ∷ []) Shift ∷
    line (11 ∷ []) Sum ∷
    line (12 ∷ []) Product ∷
    line (13 ∷ []) Cast ∷
    line (14 ∷ []) Prefix ∷
    line (15 ∷ []) Unambiguous ∷
    []

-- the precedence with a rank; Jump for 0, and for a number above 15
unfoldable pub of_rank : ℕ → Precedence
of_rank rank = lookup ranks Jump rank

-- bit k of a number
abbrev pub bit_at : ℕ → ℕ → Bool
bit_at k number = eqb (number / 2 ^ k % 2) 1

unfoldable pub context_of : ℕ → ℕ → ℕ → FixupContext
context_of previous next flags = record {
  previous_operator = of_rank previous;
  next_operator = of_rank next;
  stmt = bit_at 0 flags;
  leftmost_subexpression_in_stmt = bit_at 1 flags;
  match_arm = bit_at 2 flags;
  leftmost_subexpression_in_match_arm = bit_at 3 flags;
  condition = bit_at 4 flags;
  rightmost_subexpression_in_condition = bit_at 5 flags;
  leftmost_subexpression_in_optional_operand = bit_at 6 flags;
  next_operator_can_begin_expr = bit_at 7 flags;
  next_operator_can_continue_expr = bit_at 8 flags;
  next_operator_can_begin_generics = bit_at 9 flags;
}
