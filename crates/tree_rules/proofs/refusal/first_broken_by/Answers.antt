-- `tree_rules::refusal::first_broken_by` meets its contract. Assumes nothing.
use Rattle.tree_rules.proofs.Owners.{counted_none}
use borrow.Author.Rules.{rules}
use Rattle.tree_rules.proofs.refusal.first_broken_by.Goals as goal

pub first_broken-requires : goal.first_broken-requires
first_broken-requires c d = (search rules, search rules, counted_none _ _)
