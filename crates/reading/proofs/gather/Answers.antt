-- `reading::gather` meets its contract. Assumes nothing.
use mathlib.Core.Path.{◌≡◌, refl, sym, ◌∙◌}
use Prim.Native.Nat.{◌-◌, ◌≤◌}
use native.Mathlib.Omega.{arith}
use borrow.Author.Rules.{rules}
use lib.ListN.{length, length-set}
use Rattle.laws.proofs.Calls.{free}
use Rattle.reading.proofs.Gathering.{Until, further, until_start, until_next, gathered, gathered_bad}
use Rattle.reading.proofs.gather.Goals as goal

pub returns-in-None : goal.returns-in-None
returns-in-None c = gathered_bad c.loop-at.invariant.2 c.loop-at-test.true (omega arith) (sym c.in-None.is ∙ c.number_at.ensures)

pub loop-at-smaller : goal.loop-at-smaller
loop-at-smaller c = let f = further _ _ _ _ (sym c.in-Some.is ∙ c.number_at.ensures) in omega arith

pub loop-at-preserved : goal.loop-at-preserved
loop-at-preserved c =
    let e = sym c.in-Some.is ∙ c.number_at.ensures in
    let f = further _ _ _ _ e in
    (omega arith, simp length-set c.loop-at.invariant.1, until_next c.loop-at.invariant.2 _ _ (omega arith) (omega arith) e)

pub returns : goal.returns
returns c = gathered c.loop-at.invariant.2 (omega arith)
