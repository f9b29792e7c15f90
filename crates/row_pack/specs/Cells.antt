-- A context's flags in one cell of a row.
use Rattle.std.specs.Prelude.{Bool, List, [], ◌∷◌, ℕ, ◌+◌, ◌*◌}
use Rattle.bools.specs.Bits.{bit_of}
use Rattle.fixup.specs.declared.context.FixupContext.{FixupContext}

-- the number with these bits, bit 0 first
unfoldable pub of_bits : List Bool → ℕ
of_bits [] = 0
of_bits (bit ∷ bits) = bit_of bit + 2 * of_bits bits

-- "the ten booleans of FixupContext in source order"
abbrev pub booleans : FixupContext → List Bool
booleans x =
    x.stmt ∷
    x.leftmost_subexpression_in_stmt ∷
    x.match_arm ∷
    x.leftmost_subexpression_in_match_arm ∷
    x.condition ∷
    x.rightmost_subexpression_in_condition ∷
    x.leftmost_subexpression_in_optional_operand ∷
    x.next_operator_can_begin_expr ∷
    x.next_operator_can_continue_expr ∷
    x.next_operator_can_begin_generics ∷
    []

-- "Flags, bit 0 up"
unfoldable pub flags_of : FixupContext → ℕ
flags_of x = of_bits (booleans x)
