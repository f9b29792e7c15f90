-- `file_loader::store` meets its contract. Assumes nothing.
use Rattle.std.proofs.Common.{arith, ◌≡◌}
use Rattle.file_loader.proofs.Storing.{stored_none, next_formed, stored_more, stored_all}
use Rattle.file_loader.proofs.store.Goals as goal

pub loop-done-init : goal.loop-done-init
loop-done-init c = stored_none _ _ _

pub store_node-at-requires : goal.store_node-at-requires
store_node-at-requires c =
    let r = c.loop-done.invariant.put.room in
    let p = c.requires.0 in
    let t = c.loop-done-test.true in
    (omega (arith, c.loop-done.auto.table), next_formed _ _ _ _ _ _ c.loop-done.invariant _ t c.requires.1)

pub loop-done-preserved : goal.loop-done-preserved
loop-done-preserved c = stored_more _ _ _ _ _ _ c.loop-done.invariant _ _ c.store_node-at.ensures

pub returns : goal.returns
returns c =
    let p = c.requires.0 in
    let t = c.loop-done-test.false in
    let e : c.loop-done.done ≡ c.args.nodes = omega (arith, c.loop-done.auto.done-end) in
    rw e at (stored_all _ _ _ _ _ _ c.loop-done.invariant (omega (arith, c.loop-done.auto.done-end)))
