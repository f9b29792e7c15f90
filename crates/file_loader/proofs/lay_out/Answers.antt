-- `file_loader::lay_out` meets its contract. Assumes nothing.
use Rattle.std.proofs.Common.{arith, refl, ◌≡◌, suc, ◌+◌, ◌*◌}
use lib.ListN.{take, length-set}
use lib.Seq.{take-suc-set}
use Rattle.tree.specs.Sizes.{node_cells}
use Rattle.file_loader.proofs.Several.{broken_more, numbers_break, some_left, runs_first, runs_next}
use Rattle.file_loader.proofs.lay_out.Goals as goal

pub returns-in_err-at-clause-laid_out : goal.returns-in_err-at-clause-laid_out
returns-in_err-at-clause-laid_out c = rw c.from_residual.ensures (broken_more node_cells (node_cells * suc c.args.others) _ (omega arith) c.in_err-at.ensures)

pub loop-done-init : goal.loop-done-init
loop-done-init c = (refl, runs_first _ _ c.args.places.now _ c.in_ok-at.ensures)

pub returns-in_err-next-clause-laid_out : goal.returns-in_err-next-clause-laid_out
returns-in_err-next-clause-laid_out c =
    let t = c.loop-done-test.true in
    rw c.from_residual-in_err-next.ensures
    (numbers_break (node_cells * suc c.loop-done.done) node_cells (node_cells * suc c.args.others) _ _ _ (omega arith) c.loop-done.invariant.1 c.in_err-next.ensures)

pub overflow_cast-places : goal.overflow_cast-places
overflow_cast-places c =
    let p = c.requires in
    let h = some_left node_cells c.loop-done.at c.args.file.now _ _ (omega arith) c.in_ok-next.ensures in
    record { fits = omega arith }

pub loop-done-preserved : goal.loop-done-preserved
loop-done-preserved c =
    let e : c.loop-done.done + 1 ≡ suc c.loop-done.done = omega arith in
    let p = c.requires in
    let l = c.loop-done.invariant.0 in
    let t = c.loop-done-test.true in (
      simp length-set l,
      rw (e, take-suc-set c.loop-done.places c.loop-done.done c.loop-done.at (omega arith))
          (runs_next c.loop-done.done _ c.args.from c.loop-done.at (take c.loop-done.done c.loop-done.places) _ c.loop-done.invariant.1 c.in_ok-next.ensures),
    )
