-- `tree_one_pass::levels_by` meets its contract. Assumes nothing.
use Rattle.tree_one_pass.proofs.Fine.{none_yet}
use borrow.Author.Rules.{rules}
use Rattle.tree_one_pass.proofs.levels_by.Goals as goal

pub sound_levels-requires : goal.sound_levels-requires
sound_levels-requires c d = (search rules, search rules, search rules, search rules, none_yet _)
