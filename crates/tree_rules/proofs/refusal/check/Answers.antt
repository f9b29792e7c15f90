-- `tree_rules::refusal::check` meets its contract. Assumes nothing.
use native.Mathlib.Omega.{arith}
use mathlib.Core.Path.{sym, ◌∙◌}
use borrow.Author.Tests.{lt-ltb, le-ltb}
use Rattle.laws.proofs.Calls.{free}
use Rattle.tree_rules.specs.Refusals.{refusal3, refusal}
use Rattle.tree_rules.proofs.Count.{count_fits}
use Rattle.laws.specs.Choice.{pick, lookup}
use Rattle.tree.specs.Replies.{replied, refusals}
use Rattle.tree_rules.proofs.Replied.{says}
use Rattle.tree_rules.proofs.First.{stop, skip}
use Rattle.tree_rules.proofs.refusal.check.Goals as goal

pub returns-then-context-gt3 : goal.returns-then-context-gt3
unfolding refusal refusal3 replied refusals lookup pick
returns-then-context-gt3 c = says 3 tt (sym (stop _ _ (lt-ltb _ _ c.if-context-gt3.true)))

pub returns-then-has_bad_count : goal.returns-then-has_bad_count
unfolding refusal refusal3 replied refusals lookup pick
returns-then-has_bad_count c = says 4 tt (sym (skip _ _ (le-ltb 3 c.args.context (omega arith)) ∙ stop _ _ (sym c.has_bad_count.ensures ∙ c.if-has_bad_count.true)))

pub find_refusal-requires : goal.find_refusal-requires
unfolding refusal refusal3
find_refusal-requires c = let f = count_fits _ _ (sym c.has_bad_count.ensures ∙ c.if-has_bad_count.false) in (f.0, f.1)

pub returns : goal.returns
unfolding refusal refusal3
returns c = c.find_refusal.ensures ∙ says _ tt (sym (skip _ _ (le-ltb 3 c.args.context (omega arith)) ∙ skip _ _ (sym c.has_bad_count.ensures ∙ c.if-has_bad_count.false)))
