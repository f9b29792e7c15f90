-- `tree_rules::refusal::find_refusal` meets its contract. Assumes nothing.
use mathlib.Core.Path.{◌≡◌, sym, ◌∙◌}
use mathlib.Core.List.{List}
use lib.ListN.{drop}
use Rattle.tree_source.specs.Source.{cells_of}
use Rattle.tree_rules.specs.Refusals.{Refusal, first_of, node_refusals}
use Rattle.tree_rules.specs.Passes.{ruled}
use Rattle.std.proofs.lemmas.Result.{err_from_is_err_and}
use Rattle.laws.specs.Choice.{pick, lookup}
use Rattle.tree.specs.Replies.{replied, refusals}
use Rattle.tree_rules.proofs.Replied.{says, replied_ok, replied_err}
use Rattle.tree_rules.proofs.First.{stop, skip, no_more, first_taken, none_taken}
use borrow.Author.Rules.{rules}
use Rattle.tree_rules.proofs.refusal.find_refusal.Goals as goal

pub returns-then-are_too_deep : goal.returns-then-are_too_deep
unfolding node_refusals replied refusals lookup pick
returns-then-are_too_deep c =
    let past_10 : (first_of ((node_refusals c.args.count (cells_of c.args.source.now.file.now c.args.source.now.held.now))) ≡ first_of (drop ruled ((node_refusals c.args.count (cells_of c.args.source.now.file.now c.args.source.now.held.now))))) =
    none_taken _ _ _ _ _ _ (replied_ok _ tt _ c.in_ok-first_broken_of_nodes.ensures) in
    says 11 tt (sym (past_10 ∙ stop _ _ (sym c.are_too_deep.ensures ∙ c.if-are_too_deep.true)))

pub returns : goal.returns
unfolding node_refusals replied refusals lookup pick
returns c =
    let past_10 : (first_of ((node_refusals c.args.count (cells_of c.args.source.now.file.now c.args.source.now.held.now))) ≡ first_of (drop ruled ((node_refusals c.args.count (cells_of c.args.source.now.file.now c.args.source.now.held.now))))) =
    none_taken _ _ _ _ _ _ (replied_ok _ tt _ c.in_ok-first_broken_of_nodes.ensures) in
    says 0 tt (sym (past_10 ∙ skip _ _ (sym c.are_too_deep.ensures ∙ c.if-are_too_deep.false) ∙ no_more))

pub returns-in_err-first_broken_of_nodes : goal.returns-in_err-first_broken_of_nodes
returns-in_err-first_broken_of_nodes c =
    let p = err_from_is_err_and c.from_residual.result c.from_residual.ensures.1 in
    rw (p.1, p.2)
    (c.in_err-first_broken_of_nodes.ensures
    ∙ says _ tt (sym (first_taken ruled _ (replied_err _ tt _ c.in_err-first_broken_of_nodes.ensures))))
