-- A node whose number is no form's is one of the closed forms. Assumes nothing.
use mathlib.Core.Path.{◌≡◌}
use mathlib.Core.List.{List}
use Prim.Native.Nat.{ℕ, ◌≤◌, ◌<◌}
use native.Mathlib.Omega.{arith}
use native.Mathlib.Decide.{dec_le}
use Rattle.std.proofs.Common.{◌⊎◌}
use Rattle.std.proofs.lemmas.Grind.{common_steps}
use Rattle.laws.specs.Choice.{pick, lookup}
use Rattle.tree.specs.Trees.{label_at, tree_at}
use Rattle.tree.specs.Operands.{form_in}
use Rattle.tree.specs.Walks.{at_root}
use Rattle.tree.proofs.Unfold.{unfolds, tree_zero, tree_past}
use Rattle.tree.proofs.Matches.{form_in_lem}
use Rattle.fixup_scan.specs.declared.arm.Arm.TheVariants.{Closed}
use Rattle.fixup_scan.specs.Arms.{arm_lines, arm_of}

-- no line of the table has a number that is no form's
pub unlisted : (cells : List ℕ) (count i : ℕ) → (form_in cells count i ≡ 0) ⊎ (56 < form_in cells count i) → Closed ≡ arm_of (tree_at cells count i)
unfolding arm_of arm_lines at_root lookup pick label_at
unlisted cells count i e = go (dec_le 1 i) (dec_le i count)
  where
    go : Dec (1 ≤ i) → Dec (i ≤ count) → Closed ≡ arm_of (tree_at cells count i)
    go (yes h) (yes k) = let q = form_in_lem cells count i h k in rw (unfolds cells count i h k) (grind (arith, common_steps, q, e))
    go (yes h) (no k) = rw (tree_past cells count i (omega arith))
    go (no h) d = let z : i ≡ 0 = omega arith in rw (z, tree_zero cells count)
