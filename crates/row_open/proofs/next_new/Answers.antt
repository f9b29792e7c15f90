-- `row_open::next_new` meets its contract. Assumes nothing.
use mathlib.Core.Path.{◌≡◌, sym, ◌∙◌}
use Prim.Native.Nat.{suc, ◌+◌}
use native.Mathlib.Omega.{arith}
use Rattle.row_open.proofs.Tried.{news_skip}
use Rattle.row_open.proofs.next_new.Goals as goal

pub loop-next-init : goal.loop-next-init
loop-next-init c = let e : c.args.op + 1 ≡ suc c.args.op = omega arith in (omega arith, rw e)

pub returns-then-is_new : goal.returns-then-is_new
returns-then-is_new c = record { above = c.loop-next.invariant.0; within = omega (arith, c.loop-next-test.true); new = λ h. sym c.is_new.ensures ∙ c.if-is_new.true; rest = c.loop-next.invariant.1 }

pub loop-next-preserved : goal.loop-next-preserved
loop-next-preserved c =
    let e : c.loop-next.next + 1 ≡ suc c.loop-next.next = omega arith in
    (omega (arith, c.loop-next.invariant.0), c.loop-next.invariant.1 ∙ rw e (news_skip c.args.lowest c.args.highest c.loop-next.next (omega (arith, c.loop-next-test.true)) (sym c.is_new.ensures ∙ c.if-is_new.false)))

pub returns : goal.returns
returns c =
    let e : c.loop-next.next ≡ c.args.highest + 1 = omega arith in
    record { above = omega (arith, c.requires.0); within = omega arith; new = λ h. absurd (omega (arith, h)); rest = rw e at c.loop-next.invariant.1 }
