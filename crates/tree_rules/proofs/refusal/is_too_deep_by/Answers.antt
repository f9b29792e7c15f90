-- `tree_rules::refusal::is_too_deep_by` meets its contract. Assumes nothing.
use native.Mathlib.Omega.{arith}
use Rattle.tree_rules.proofs.Depth.{levelled_none}
use borrow.Author.Rules.{rules}
use Rattle.tree_rules.proofs.refusal.is_too_deep_by.Goals as goal

pub is_too_deep-requires : goal.is_too_deep-requires
is_too_deep-requires c d = (search rules, search rules, levelled_none _ _ _ (search rules))
