-- `row_open::join_all` meets its contract. Assumes nothing.
use mathlib.Core.Path.{◌≡◌, refl}
use mathlib.Core.Bool.{Bool}
use mathlib.Core.List.{List}
use Prim.Native.Nat.{ℕ, suc, ◌+◌, ◌-◌}
use native.Mathlib.Omega.{arith}
use lib.ListN.{get_or, set, length-set}
use Rattle.row_open.specs.Open.{outer_in}
use Rattle.row_open.specs.Steps.{joined, joined_to}
use Rattle.row_open.proofs.join_all.Goals as goal

-- one node more
more : (n : ℕ) (outer : ℕ → Bool) (s before : List ℕ) → before ≡ joined_to n outer s → set before n (joined (get_or before n 0) (outer (suc n))) ≡ joined_to (suc n) outer s
unfolding joined_to
more n outer s before e = rw e

pub loop-done-init : goal.loop-done-init
unfolding joined_to
loop-done-init c = (refl, refl)

pub bounds-answers-done : goal.bounds-answers-done
bounds-answers-done c = omega (arith, c.from-nodes.ensures, c.loop-done.invariant.0, c.loop-done-test.true)

pub overflow_mul-done : goal.overflow_mul-done
overflow_mul-done c = omega (arith, c.from-nodes.ensures, c.loop-done-test.true)

pub bounds-rows-done : goal.bounds-rows-done
bounds-rows-done c = omega (arith, c.from-nodes.ensures, c.loop-done.invariant.0, c.loop-done-test.true)

pub bounds-answers-done-in-loop-done : goal.bounds-answers-done-in-loop-done
bounds-answers-done-in-loop-done c = omega (arith, c.from-nodes.ensures, c.loop-done.invariant.0, c.loop-done-test.true)

pub loop-done-preserved : goal.loop-done-preserved
loop-done-preserved c =
    let e : c.loop-done.done + 1 ≡ suc c.loop-done.done = omega arith in
    let d : suc c.loop-done.done - 1 ≡ c.loop-done.done = omega arith in
    (simp length-set c.loop-done.invariant.0, rw e (rw c.join.ensures (rw d at (more c.loop-done.done (outer_in c.args.rows.now) c.args.answers.now c.loop-done.answers c.loop-done.invariant.1))))

pub returns : goal.returns
returns c =
    let e : c.loop-done.done ≡ c.args.count = omega (arith, c.from-nodes.ensures) in
    rw e at c.loop-done.invariant.1
