-- `tree_numbering::renumber` meets its contract. Assumes nothing.
use native.Mathlib.Omega.{arith}
use Rattle.laws.proofs.Calls.{free}
use Rattle.tree.specs.Trees.{tree_at}
use Rattle.tree_numbering.proofs.Replies.{too_many, too_deep, renumbers_too_short, all_stored}
use borrow.Author.Rules.{rules}
use Rattle.tree_numbering.proofs.renumber.Goals as goal

pub returns-then-left-eq0 : goal.returns-then-left-eq0
returns-then-left-eq0 c =
    let whole = too_many (tree_at c.args.table.now.cells.now c.args.table.now.count c.args.node) c.args.out.now (omega arith) in
    record { reply = whole.0; out = whole.1 }

pub returns-then-levels_at-gt-MOST_LEVELS : goal.returns-then-levels_at-gt-MOST_LEVELS
returns-then-levels_at-gt-MOST_LEVELS c =
    let whole = too_deep (tree_at c.args.table.now.cells.now c.args.table.now.count c.args.node) c.args.out.now (omega arith) (omega arith) in
    record { reply = whole.0; out = whole.1 }

pub returns-then-out-from : goal.returns-then-out-from
returns-then-out-from c =
    let whole = renumbers_too_short (tree_at c.args.table.now.cells.now c.args.table.now.count c.args.node) c.args.out.now (omega arith) (omega arith) (omega arith) in
    record { reply = whole.0; out = whole.1 }

pub returns : goal.returns
returns c =
    let whole = all_stored (tree_at c.args.table.now.cells.now c.args.table.now.count c.args.node) c.args.out.now (omega arith) (omega arith) (omega arith) _ _ (c.number_from.ensures.nodes, c.number_from.ensures.out) in
    record { reply = whole.0; out = whole.1 }
