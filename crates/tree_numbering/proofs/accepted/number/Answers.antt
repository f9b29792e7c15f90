-- `tree_numbering::accepted::number` meets its contract. Assumes nothing.
use native.Mathlib.Omega.{arith}
use mathlib.Core.Path.{◌≡◌, refl, sym, ◌∙◌}
use Rattle.std.proofs.lemmas.Result.{err_from_is_err_and}
use Rattle.laws.specs.Choice.{pick, lookup}
use Rattle.tree.specs.Replies.{replied, refusals}
use Rattle.tree_rules.specs.Refusals.{refusal}
use Rattle.tree_rules.proofs.Replied.{says, replied_ok, replied_err}
use Rattle.tree_numbering.proofs.Owners.{in_context_0}
use Rattle.tree_numbering.proofs.Accepting.{refused, short, stored}
use borrow.Author.Rules.{rules}
use Rattle.tree_numbering.proofs.accepted.number.Goals as goal

pub returns-in_err-check : goal.returns-in_err-check
returns-in_err-check c =
    let p = err_from_is_err_and c.from_residual.result c.from_residual.ensures.1 in
    let e = c.in_err-check.ensures in
    let whole = refused _ _ _ _ (refusal c.args.context c.args.table.now.count c.args.table.now.cells.now) refl (replied_err _ tt _ e) in
    record { reply = rw (p.1, p.2) (e ∙ says _ tt whole.0); out = whole.1 }

pub returns-then-out-from : goal.returns-then-out-from
unfolding replied refusals lookup pick
returns-then-out-from c =
    let whole = short _ _ _ _ (replied_ok _ tt _ c.in_ok-check.ensures) (rw c.from.ensures at c.if-out-from.true) in
    record { reply = says 12 tt whole.0; out = whole.1 }

pub fill_as_needed-requires : goal.fill_as_needed-requires
fill_as_needed-requires c = (in_context_0 _ _ _ (replied_ok _ tt _ c.in_ok-check.ensures), search rules)

pub returns : goal.returns
unfolding replied refusals lookup pick
returns c =
    let whole = stored _ _ _ _ (replied_ok _ tt _ c.in_ok-check.ensures) (rw c.from.ensures at c.if-out-from.false) _ c.fill_as_needed.ensures in
    record { reply = says 0 tt whole.0; out = whole.1 }
