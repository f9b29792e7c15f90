-- `file_columns::put_column` meets its contract. Assumes nothing.
use Rattle.std.proofs.Common.{arith, ◌≡◌, ◌+◌, suc, [], ◌∷◌}
use Rattle.laws.proofs.Putting.{put_one}
use Rattle.file_columns.specs.Columns.{held_at}
use Rattle.file_columns.proofs.Joined.{join_put_none, join_put}
use Rattle.file_columns.proofs.Arranging.{column_all}
use Rattle.file_columns.proofs.put_column.Goals as goal

pub loop-node-init : goal.loop-node-init
loop-node-init c = (omega arith, join_put_none (λ i. held_at c.args.cells.now c.args.column (suc i) ∷ []) _ _)

pub held_at-requires : goal.held_at-requires
held_at-requires c = (omega arith, c.requires.1)

pub bounds-held-at : goal.bounds-held-at
bounds-held-at c = omega (arith, c.loop-node.invariant.0, c.loop-node.invariant.1.room, c.loop-node-test.true, c.requires.0)

pub loop-node-preserved : goal.loop-node-preserved
loop-node-preserved c =
    let s : c.loop-node.node + 1 ≡ suc c.loop-node.node = omega arith in
    let v = rw s at c.held_at.ensures in
    let a = c.loop-node.invariant.0 in
    (omega arith, join_put (λ i. held_at c.args.cells.now c.args.column (suc i) ∷ []) c.loop-node.node (c.loop-node.node + 1) s c.loop-node.invariant.1 (rw (← v) (put_one c.loop-node.held c.loop-node.at c.held_at.result)))

pub returns : goal.returns
returns c = column_all c.args.count c.args.cells.now c.args.column c.loop-node.node (omega (arith, c.loop-node-test.false, c.loop-node.auto.node-end)) c.loop-node.invariant.1
