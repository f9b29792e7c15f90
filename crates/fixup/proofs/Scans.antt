-- scan_left by the numbers of a node. Assumes nothing.
use mathlib.Core.Path.{◌≡◌, refl}
use mathlib.Core.Bool.{true}
use mathlib.Core.List.{List}
use Prim.Native.Nat.{ℕ, ◌≤◌, ◌<◌}
use native.Mathlib.Omega.{arith}
use native.Mathlib.Decide.{dec_le}
use Rattle.std.proofs.Common.{◌⊎◌}
use Rattle.std.proofs.lemmas.Grind.{common_steps}
use Rattle.laws.specs.Choice.{pick, lookup}
use Rattle.tree.specs.Forms.{expr_range}
use Rattle.tree.specs.Table.{first_column, second_column}
use Rattle.tree.specs.Trees.{label_at, operand_at, tree_at}
use Rattle.tree.specs.Operands.{presence, form_in}
use Rattle.tree.specs.Walks.{at_root}
use Rattle.tree.proofs.Unfold.{unfolds, tree_zero, tree_past}
use Rattle.tree.proofs.Matches.{form_in_lem, form_none}
use Rattle.tree_shapes.specs.Shapes.{shape_lines, shape_at, first_in_shape}
use Rattle.fixup.specs.declared.context.FixupContext.{FixupContext}
use Rattle.fixup.specs.Fixup.{scan_left_lines, scan_left}

-- where there is no node, its form is 0, which has no line
pub scanned : (cells : List ℕ) (count i : ℕ) (x : FixupContext) → scan_left (tree_at cells count i) x ≡ lookup (scan_left_lines x (label_at cells i) (tree_at cells count (operand_at cells count i first_column)) (tree_at cells count (operand_at cells count i second_column))) true (form_in cells count i)
unfolding scan_left scan_left_lines at_root lookup pick label_at
scanned cells count i x = go (dec_le 1 i) (dec_le i count)
  where
    go : Dec (1 ≤ i) → Dec (i ≤ count) → scan_left (tree_at cells count i) x ≡ lookup (scan_left_lines x (label_at cells i) (tree_at cells count (operand_at cells count i first_column)) (tree_at cells count (operand_at cells count i second_column))) true (form_in cells count i)
    go (yes h) (yes k) = rw (unfolds cells count i h k, form_in_lem cells count i h k) refl
    go (yes h) (no k) = rw (tree_past cells count i (omega arith), form_none cells count i (λ a b. absurd (k b))) refl
    go (no h) d = rw (form_none cells count i (λ a b. absurd (h a))) (let z : i ≡ 0 = omega arith in rw (z, tree_zero cells count) refl)

-- a node without a form
pub unlisted : (cells : List ℕ) (count i : ℕ) (x : FixupContext) → (form_in cells count i ≡ 0) ⊎ (56 < form_in cells count i) → true ≡ scan_left (tree_at cells count i) x
unfolding scan_left_lines lookup pick
unlisted cells count i x e = rw (scanned cells count i x) (grind (arith, common_steps, e))

-- the start of a Range, by its shape
pub start : (cells : List ℕ) (count i : ℕ) → form_in cells count i ≡ expr_range → first_in_shape (shape_at cells count i) ≡ presence (operand_at cells count i first_column)
unfolding shape_at shape_lines first_in_shape lookup pick
start cells count i e = rw e refl
