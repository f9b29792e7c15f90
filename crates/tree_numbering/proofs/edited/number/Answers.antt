-- `tree_numbering::edited::number` meets its contract. Assumes nothing.
use native.Mathlib.Omega.{arith}
use Rattle.laws.proofs.Calls.{free}
use Rattle.tree.specs.Trees.{tree_at}
use Rattle.tree_numbering.specs.Replaced.{replaced_at}
use Rattle.tree_numbering.proofs.Replaced.{no_nodes, many_nodes, few_cells, numbers}
use borrow.Author.Rules.{rules}
use Rattle.tree_numbering.proofs.edited.number.Goals as goal

pub returns-then-second-eq0 : goal.returns-then-second-eq0
returns-then-second-eq0 c =
    let whole = no_nodes c.args.second.now.count (replaced_at c.args.table.now.cells.now c.args.table.now.count c.args.place (tree_at c.args.second.now.cells.now c.args.second.now.count 1) 1) c.args.out.now c.if-second-eq0.true in
    record { reply = whole.0; out = whole.1 }

pub returns-then-left-eq0 : goal.returns-then-left-eq0
returns-then-left-eq0 c =
    let whole = many_nodes c.args.second.now.count (replaced_at c.args.table.now.cells.now c.args.table.now.count c.args.place (tree_at c.args.second.now.cells.now c.args.second.now.count 1) 1) c.args.out.now (omega arith) (omega arith) in
    record { reply = whole.0; out = whole.1 }

pub returns-then-out-from : goal.returns-then-out-from
returns-then-out-from c =
    let whole = few_cells c.args.second.now.count (replaced_at c.args.table.now.cells.now c.args.table.now.count c.args.place (tree_at c.args.second.now.cells.now c.args.second.now.count 1) 1) c.args.out.now (omega arith) (omega arith) (omega arith) in
    record { reply = whole.0; out = whole.1 }

pub returns : goal.returns
returns c =
    let whole = numbers c.args.second.now.count (replaced_at c.args.table.now.cells.now c.args.table.now.count c.args.place (tree_at c.args.second.now.cells.now c.args.second.now.count 1) 1) c.args.out.now (omega arith) (omega arith) (omega arith) _ _ (c.number_edited.ensures.reply, c.number_edited.ensures.out) in
    record { reply = whole.0; out = whole.1 }
