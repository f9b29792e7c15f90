-- Calls of scan_right that stand open at one time.
use Rattle.std.specs.Prelude.{◌≡◌, List, [], ◌∷◌, ℕ}
use Rattle.std.specs.Prelude.{Some}
use Rattle.tree.specs.Trees.{tree_at}
use Rattle.tree.specs.Operands.{presence}
use Rattle.fixup_scan.specs.Arms.{arm_of, operand_number}

-- scan_right of node i calls scan_right of node j, the operand that its arm goes on with (`operand_of` of the code), and of no other: by itself, or by way of rightmost_subexpression_precedence of j
abbrev pub CallsOn : List ℕ → ℕ → ℕ → ℕ → Type 0
CallsOn cells count i j = presence (operand_number (arm_of (tree_at cells count i)) cells count i) ≡ Some j

-- scan_right of node i, and within it those of the nodes listed, each within the one before
abbrev pub Nested : List ℕ → ℕ → ℕ → List ℕ → Type 0
Nested cells count i [] = Unit {0}
Nested cells count i (j ∷ js) = CallsOn cells count i j × Nested cells count j js
