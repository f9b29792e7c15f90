-- `tree_numbering::accepted::fill_as_needed` meets its contract. Assumes nothing.
use native.Mathlib.Omega.{arith}
use Rattle.tree_rules.proofs.Accepted.{count_bounds}
use Rattle.tree_numbering.proofs.accepted.fill_as_needed.Goals as goal

pub fill_by-requires-in_default-clause-nodes : goal.fill_by-requires-in_default-clause-nodes
fill_by-requires-in_default-clause-nodes c =
    let k = count_bounds 0 _ _ c.requires.0 in
    (c.requires.0, omega (arith, k.1), c.requires.1)
