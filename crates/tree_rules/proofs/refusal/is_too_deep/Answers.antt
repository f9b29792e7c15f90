-- `tree_rules::refusal::is_too_deep` meets its contract. Assumes nothing.
use mathlib.Core.Path.{◌≡◌, refl, ap}
use Prim.Native.Nat.{◌-◌, ◌≤◌}
use native.Mathlib.Omega.{arith}
use borrow.Author.Rules.{rules}
use lib.Dec.{ltb}
use lib.ListN.{length, length-set}
use Rattle.tree.specs.Sizes.{most_levels}
use Rattle.tree_source.specs.Source.{cells_of}
use Rattle.tree_rules.specs.Refusals.{refusal11}
use Rattle.tree_rules.specs.Passes.{Levelled}
use Rattle.tree_rules.proofs.Depth.{levelled_more}
use Rattle.tree_rules.proofs.refusal.is_too_deep.Goals as goal

pub returns : goal.returns
unfolding refusal11
returns c = ap (ltb most_levels) (c.loop-done.invariant.1.at 1 (omega arith) (λ q. omega arith))
