-- The hands of closed operands in quiet contexts, as numbers. Nothing here is to be believed.
use Rattle.std.specs.Prelude.{Bool, true, false, [], ◌∷◌, ℕ, ◌+◌, ◌*◌, ◌/◌, ◌%◌, ◌^◌}
use Rattle.bools.specs.Bits.{bit_of}
use Rattle.laws.specs.Choice.{line}
use Rattle.tree.specs.Forms.{expr_field}
use Rattle.tree.specs.Trees.{Tree}
use Rattle.tree.specs.Walks.{at_root}
use Rattle.precedence.specs.declared.Precedence.{Precedence}
use Rattle.precedence.specs.declared.Precedence.TheVariants.{Unambiguous}
use Rattle.precedence.specs.Precedences.{rank_of}
use Rattle.fixup.specs.declared.context.FixupContext.{FixupContext}
use Rattle.expr.specs.declared.Handed.{Handed}
use Rattle.row.specs.Hands.{context_numbers}

-- Unambiguous, and not grouped
abbrev pub settled_in : FixupContext → Handed
settled_in x = record { precedence = Unambiguous; fixup = x; needs_group = false }

-- the flags of what stands before an operator, bits 7 to 9: it can begin an expression, it goes on with one, it can begin generic arguments
abbrev pub flags_before : Bool → Bool → ℕ
flags_before begins generics = 2 ^ 7 * bit_of begins + 2 ^ 8 + 2 ^ 9 * bit_of generics

-- in NONE
abbrev pub settled_number : ℕ
settled_number = context_numbers * 15

-- left of an operator: the owner's operator before, this one behind
abbrev pub left_number : ℕ → ℕ → Precedence → ℕ
left_number own flags level = own % 16 + 16 * rank_of level + 256 * flags + settled_number

-- right of an operator: this one before, what the owner has behind
abbrev pub right_number : ℕ → Precedence → ℕ
right_number own level = rank_of level + 16 * (own / 16 % 16384) + settled_number

abbrev pub is_field : Tree → Bool
is_field t = at_root (λ l a b. line (expr_field ∷ []) true ∷ []) false t
