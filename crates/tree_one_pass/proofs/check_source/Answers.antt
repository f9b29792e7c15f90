-- `tree_one_pass::check_source` meets its contract. Assumes nothing.
use mathlib.Core.Path.{sym, ◌∙◌}
use borrow.Author.Rules.{rules}
use borrow.Author.Tests.{lt-ltb, le-ltb}
use Rattle.laws.specs.Choice.{pick, lookup}
use Rattle.laws.proofs.Choice.{pick_true, pick_false}
use Rattle.tree.specs.Replies.{replied, refusals}
use Rattle.tree_rules.proofs.Replied.{says}
use Rattle.tree_one_pass.specs.Marks.{by_levels}
use Rattle.tree_one_pass.proofs.check_source.Goals as goal

pub returns-then-levels-gt-MOST_LEVELS : goal.returns-then-levels-gt-MOST_LEVELS
unfolding by_levels replied refusals lookup pick
returns-then-levels-gt-MOST_LEVELS c = says 11 tt (sym (c.in-Some.ensures ∙ pick_true _ _ (lt-ltb _ _ c.if-levels-gt-MOST_LEVELS.true)))

pub returns : goal.returns
unfolding by_levels replied refusals lookup pick
returns c = says 0 tt (sym (c.in-Some.ensures ∙ pick_false _ _ (le-ltb _ _ c.if-levels-gt-MOST_LEVELS.false)))
