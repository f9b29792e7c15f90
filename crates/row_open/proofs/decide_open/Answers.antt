-- `row_open::decide_open` meets its contract. Assumes nothing.
use mathlib.Core.Path.{◌≡◌, sym, ◌∙◌}
use native.Mathlib.Omega.{arith}
use Rattle.laws.specs.Choice.{pick, lookup}
use Rattle.tree.specs.Replies.{replied, refusals}
use Rattle.row_walk.proofs.Replies.{replied_ok, passed_up}
use Rattle.row_open.proofs.Replies.{refused, wrong, opened, not_refused, told_fits, all_taken}
use Rattle.row_open.proofs.decide_open.Goals as goal

pub returns-in_err-check-clause-reply : goal.returns-in_err-check-clause-reply
returns-in_err-check-clause-reply c = passed_up _ _ c.from_residual.ensures.0 c.from_residual.ensures.1 ∙ (refused c.args.order c.args.context c.args.count c.args.table.now c.args.entered c.args.entries.now c.args.answers.now (tt {0}) (tt {0}) _ c.in_err-check.ensures).0

pub returns-in_err-check-clause-answers : goal.returns-in_err-check-clause-answers
returns-in_err-check-clause-answers c = (refused c.args.order c.args.context c.args.count c.args.table.now c.args.entered c.args.entries.now c.args.answers.now (tt {0}) (tt {0}) _ c.in_err-check.ensures).1

pub returns-in_err-refused_entries-clause-reply : goal.returns-in_err-refused_entries-clause-reply
returns-in_err-refused_entries-clause-reply c =
    let ok = replied_ok _ tt tt c.in_ok-check.ensures in
    passed_up _ _ c.from_residual-in_err-refused_entries.ensures.0 c.from_residual-in_err-refused_entries.ensures.1
    ∙ (wrong c.args.order c.args.context c.args.count c.args.table.now c.args.entered c.args.entries.now c.args.answers.now ok (tt {0}) (tt {0}) _ c.in_err-refused_entries.ensures).0

pub returns-in_err-refused_entries-clause-answers : goal.returns-in_err-refused_entries-clause-answers
returns-in_err-refused_entries-clause-answers c =
    let ok = replied_ok _ tt tt c.in_ok-check.ensures in
    (wrong c.args.order c.args.context c.args.count c.args.table.now c.args.entered c.args.entries.now c.args.answers.now ok (tt {0}) (tt {0}) _ c.in_err-refused_entries.ensures).1

pub tell_by-requires : goal.tell_by-requires
tell_by-requires c =
    let ok = replied_ok _ tt tt c.in_ok-check.ensures in
    let right = replied_ok _ tt tt c.in_ok-refused_entries.ensures in
    let taken = all_taken c.args.order c.args.context c.args.count c.args.table.now c.args.entered c.args.entries.now c.args.answers.now ok right in
    let few = taken.few in
    (omega (arith, few), omega (arith, few), omega arith, omega arith, told_fits c.args.order c.args.context c.args.count c.args.table.now c.args.entered c.args.entries.now c.args.answers.now ok right, taken)

pub returns-then-count-lt64 : goal.returns-then-count-lt64
unfolding replied refusals lookup pick
returns-then-count-lt64 c =
    let ok = replied_ok _ tt tt c.in_ok-check.ensures in
    let right = replied_ok _ tt tt c.in_ok-refused_entries.ensures in
    record { reply = rw (not_refused c.args.order c.args.context c.args.count c.args.table.now c.args.entered c.args.entries.now c.args.answers.now ok right); answers = opened c.args.order c.args.context c.args.count c.args.table.now c.args.entered c.args.entries.now c.args.answers.now ok right _ c.tell_by.ensures }

pub tell_by-requires-then-count-lt512 : goal.tell_by-requires-then-count-lt512
tell_by-requires-then-count-lt512 c =
    let ok = replied_ok _ tt tt c.in_ok-check.ensures in
    let right = replied_ok _ tt tt c.in_ok-refused_entries.ensures in
    let taken = all_taken c.args.order c.args.context c.args.count c.args.table.now c.args.entered c.args.entries.now c.args.answers.now ok right in
    let few = taken.few in
    (omega (arith, few), omega (arith, few), omega arith, omega arith, told_fits c.args.order c.args.context c.args.count c.args.table.now c.args.entered c.args.entries.now c.args.answers.now ok right, taken)

pub returns-then-count-lt512 : goal.returns-then-count-lt512
unfolding replied refusals lookup pick
returns-then-count-lt512 c =
    let ok = replied_ok _ tt tt c.in_ok-check.ensures in
    let right = replied_ok _ tt tt c.in_ok-refused_entries.ensures in
    record { reply = rw (not_refused c.args.order c.args.context c.args.count c.args.table.now c.args.entered c.args.entries.now c.args.answers.now ok right); answers = opened c.args.order c.args.context c.args.count c.args.table.now c.args.entered c.args.entries.now c.args.answers.now ok right _ c.tell_by-then-count-lt512.ensures }

pub tell_by-requires-2 : goal.tell_by-requires-2
tell_by-requires-2 c =
    let ok = replied_ok _ tt tt c.in_ok-check.ensures in
    let right = replied_ok _ tt tt c.in_ok-refused_entries.ensures in
    let taken = all_taken c.args.order c.args.context c.args.count c.args.table.now c.args.entered c.args.entries.now c.args.answers.now ok right in
    let few = taken.few in
    (omega (arith, few), omega (arith, few), omega arith, omega arith, told_fits c.args.order c.args.context c.args.count c.args.table.now c.args.entered c.args.entries.now c.args.answers.now ok right, taken)

pub returns : goal.returns
unfolding replied refusals lookup pick
returns c =
    let ok = replied_ok _ tt tt c.in_ok-check.ensures in
    let right = replied_ok _ tt tt c.in_ok-refused_entries.ensures in
    record { reply = rw (not_refused c.args.order c.args.context c.args.count c.args.table.now c.args.entered c.args.entries.now c.args.answers.now ok right); answers = opened c.args.order c.args.context c.args.count c.args.table.now c.args.entered c.args.entries.now c.args.answers.now ok right _ c.tell_by-2.ensures }
