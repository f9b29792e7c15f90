-- Contexts, and what an operand gets from its owner, a cell at a time; 65535 for a number that is no question's or no cell's.
use Rattle.std.specs.Prelude.{Bool, List, [], ◌∷◌, ℕ}
use Rattle.bools.specs.Bits.{bit_of}
use Rattle.laws.specs.Choice.{Line, line, lookup}
use Rattle.tree.specs.Trees.{Tree}
use Rattle.precedence.specs.declared.Precedence.{Precedence}
use Rattle.precedence.specs.Precedences.{rank_of}
use Rattle.fixup.specs.declared.context.FixupContext.{FixupContext}
use Rattle.fixup.specs.Contexts.{none_context, new_stmt, new_match_arm, new_condition, with_operator, with_dot, rightmost}
use Rattle.expr.specs.declared.Handed.{Handed}
use Rattle.expr.specs.declared.order.CalleeOrder.TheVariants.{Crates, Ours}
use Rattle.expr.specs.Expr.{hands_first, hands_second}
use Rattle.row_pack.specs.Cells.{flags_of}

-- ---- fixup.rs: the contexts themselves

-- a context's cells: previous operator, next operator, flags
unfoldable pub cells : FixupContext → List (Line ℕ)
cells x =
    line (0 ∷ []) (rank_of x.previous_operator) ∷
    line (1 ∷ []) (rank_of x.next_operator) ∷
    line (2 ∷ []) (flags_of x) ∷
    []

unfoldable pub cell_of : ℕ → FixupContext → ℕ
cell_of cell x = lookup (cells x) 65535 cell

-- the first four by document 01's numbers; the others have the context, their two booleans in source order, and a precedence
unfoldable pub context_questions : ℕ → FixupContext → Bool → Bool → Precedence → List (Line ℕ)
context_questions cell x first second p =
    line (0 ∷ []) (cell_of cell none_context) ∷
    line (1 ∷ []) (cell_of cell new_stmt) ∷
    line (2 ∷ []) (cell_of cell new_match_arm) ∷
    line (3 ∷ []) (cell_of cell new_condition) ∷
    line (4 ∷ []) (cell_of cell (with_operator x first second p)) ∷
    line (5 ∷ []) (cell_of cell (with_dot x)) ∷
    line (6 ∷ []) (cell_of cell (rightmost x first second p)) ∷
    []

unfoldable pub context_answered : ℕ → ℕ → FixupContext → Bool → Bool → Precedence → ℕ
context_answered question cell x first second p = lookup (context_questions cell x first second p) 65535 question

-- ---- expr.rs: what an operand gets from its owner

-- cells 0 to 2 are those of the context; then the precedence, and 1 where the owner groups it, otherwise 0
unfoldable pub handed_cells : Handed → List (Line ℕ)
handed_cells h =
    line (3 ∷ []) (rank_of h.precedence) ∷
    line (4 ∷ []) (bit_of h.needs_group) ∷
    []

unfoldable pub handed_cell : ℕ → Handed → ℕ
handed_cell cell h = lookup (handed_cells h) (cell_of cell h.fixup) cell

-- the operand at the first place in the crate's callee order, the one at the second, and the one at the first in ours
unfoldable pub handed_questions : ℕ → FixupContext → Tree → List (Line ℕ)
handed_questions cell x t =
    line (0 ∷ []) (handed_cell cell (hands_first Crates x t)) ∷
    line (1 ∷ []) (handed_cell cell (hands_second x t)) ∷
    line (2 ∷ []) (handed_cell cell (hands_first Ours x t)) ∷
    []

unfoldable pub handed_answered : ℕ → ℕ → FixupContext → Tree → ℕ
handed_answered question cell x t = lookup (handed_questions cell x t) 65535 question
