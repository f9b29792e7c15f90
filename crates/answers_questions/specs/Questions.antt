-- What the functions of precedence.rs, classify.rs and fixup.rs say, by the number of the question; 65535 for a number that is no question's.
use Rattle.std.specs.Prelude.{List, [], ◌∷◌, ℕ}
use Rattle.bools.specs.Bits.{bit_of}
use Rattle.laws.specs.Choice.{Line, line, lookup}
use Rattle.tree.specs.Trees.{Tree}
use Rattle.precedence.specs.Precedences.{rank_of, precedence_of}
use Rattle.classify.specs.Classify.{requires_semi, requires_comma, leading_label, trailing_path}
use Rattle.classify_braces.specs.Braces.{trailing_brace, type_trailing_brace}
use Rattle.fixup.specs.declared.context.FixupContext.{FixupContext}
use Rattle.fixup.specs.Fixup.{parenthesize, effective, scan_left}
use Rattle.fixup_scan.specs.Scans.{leftmost_precedence, rightmost_precedence}

-- ---- precedence.rs and classify.rs: a tree without a context

unfoldable pub questions : Tree → List (Line ℕ)
questions t =
    line (0 ∷ []) (rank_of (precedence_of t)) ∷
    line (1 ∷ []) (bit_of (requires_semi t)) ∷
    line (2 ∷ []) (bit_of (requires_comma t)) ∷
    line (3 ∷ []) (bit_of (leading_label t)) ∷
    line (4 ∷ []) (bit_of (trailing_brace t)) ∷
    line (5 ∷ []) (bit_of (trailing_path t)) ∷
    line (6 ∷ []) (bit_of (type_trailing_brace t)) ∷
    []

unfoldable pub answered : ℕ → Tree → ℕ
answered question t = lookup (questions t) 65535 question

-- ---- fixup.rs: a tree in a context

unfoldable pub fixup_questions : FixupContext → Tree → List (Line ℕ)
fixup_questions x t =
    line (0 ∷ []) (bit_of (parenthesize x t)) ∷
    line (1 ∷ []) (rank_of (effective x t)) ∷
    line (2 ∷ []) (bit_of (scan_left t x)) ∷
    line (3 ∷ []) (rank_of (leftmost_precedence t x)) ∷
    line (4 ∷ []) (rank_of (rightmost_precedence t x)) ∷
    []

unfoldable pub fixup_answered : ℕ → FixupContext → Tree → ℕ
fixup_answered question x t = lookup (fixup_questions x t) 65535 question
