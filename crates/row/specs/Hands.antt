-- What an owner hands to an operand in one number, as the walk keeps it: eighteen bits for the context, four for the rank of the operand's precedence, one where its owner groups it.
use Rattle.std.specs.Prelude.{Bool, not, ◌||◌, ℕ, ◌+◌, ◌*◌, ◌/◌, ◌%◌, eqb}
use Rattle.bools.specs.Bits.{bit_of}
use Rattle.precedence.specs.Precedences.{rank_of}
use Rattle.fixup.specs.declared.context.FixupContext.{FixupContext}
use Rattle.expr.specs.declared.Handed.{Handed}
use Rattle.row_pack.specs.FromCells.{of_rank}
use Rattle.row_pack.specs.Packs.{packed_of, unpacked_of}

-- how many contexts there are in numbers, and the bit of a group
abbrev pub context_numbers : ℕ
context_numbers = 262144

abbrev pub group_bit : ℕ
group_bit = 4194304

unfoldable pub hand_of : Handed → ℕ
hand_of h = packed_of h.fixup + context_numbers * rank_of h.precedence + group_bit * bit_of h.needs_group

unfoldable pub handed_of : ℕ → Handed
handed_of n = record { precedence = of_rank (n / context_numbers % 16); fixup = unpacked_of n; needs_group = eqb (n / group_bit % 2) 1 }

-- whether a context has none of the seven flags that fixup.rs's parenthesize looks at, or that its leftmost_subexpression_* and rightmost_subexpression* move about; the other three speak of the operator behind
unfoldable pub is_quiet : FixupContext → Bool
is_quiet x =
    not (x.stmt
    || (x.leftmost_subexpression_in_stmt
    || (x.match_arm
    || (x.leftmost_subexpression_in_match_arm
    || (x.condition
    || (x.rightmost_subexpression_in_condition
    || x.leftmost_subexpression_in_optional_operand))))))
