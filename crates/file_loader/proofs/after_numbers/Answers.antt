-- `file_loader::after_numbers` meets its contract. Assumes nothing.
use Rattle.std.proofs.Common.{arith, ◌≡◌, suc, ◌+◌}
use Rattle.file_loader.proofs.Several.{read_none, read_next, read_stop}
use Rattle.file_loader.proofs.after_numbers.Goals as goal

pub loop-done-init : goal.loop-done-init
loop-done-init c = read_none _ _

pub returns-in_err-next : goal.returns-in_err-next
returns-in_err-next c = rw c.from_residual.ensures (read_stop c.loop-done._done _ _ _ _ c.loop-done-test.true c.loop-done.invariant c.in_err-next.ensures)

pub loop-done-preserved : goal.loop-done-preserved
loop-done-preserved c =
    let e : c.loop-done._done + 1 ≡ suc c.loop-done._done = omega arith in
    rw e (read_next c.loop-done._done _ _ _ _ _ c.loop-done.invariant c.in_ok-next.ensures)

pub returns : goal.returns
returns c =
    let t = c.loop-done-test.false in
    let e : c.loop-done._done ≡ c.args.numbers = omega (arith, c.loop-done.auto._done-end) in
    rw e at c.loop-done.invariant.0
