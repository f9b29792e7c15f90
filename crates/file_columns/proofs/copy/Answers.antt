-- `file_columns::copy` meets its contract. Assumes nothing.
use Rattle.std.proofs.Common.{arith, ◌≡◌, ◌+◌, ◌<◌, length}
use mathlib.Core.Path.{refl, sym}
use Prim.Native.Nat.{suc}
use lib.ListN.{length-set}
use Rattle.laws.proofs.Lists.{over_none, over_more}
use Rattle.file_columns.proofs.copy.Goals as goal

pub loop-done-init : goal.loop-done-init
loop-done-init c = (refl, sym (over_none c.args.cells.now c.args.table.now))

pub loop-done-preserved : goal.loop-done-preserved
loop-done-preserved c =
    let t = c.loop-done-test.true in
    let e : c.loop-done.done + 1 ≡ suc c.loop-done.done = omega arith in
    let n : c.loop-done.done < length c.args.cells.now = omega (arith, t, c.requires.own) in
    let m : c.loop-done.done < length c.args.table.now = omega (arith, t, c.requires.lent) in
    (simp length-set c.loop-done.invariant.0, rw e (rw c.loop-done.invariant.1 (over_more _ _ c.loop-done.done 0 n m)))
