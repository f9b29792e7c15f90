-- `tokens::put_every` meets its contract. Assumes nothing.
use Prim.Native.Nat.{◌+◌, ◌-◌, ◌≤◌}
use native.Mathlib.Omega.{arith}
use borrow.Author.Rules.{rules}
use lib.ListN.{length}
use Rattle.tokens.proofs.Lines.{Every, every_start, every_next, every_end}
use Rattle.tokens.proofs.put_every.Goals as goal

pub loop-done-preserved : goal.loop-done-preserved
loop-done-preserved c = (omega arith, every_next c.loop-done.invariant.1 (omega arith) c.put_byte-next.ensures c.put_number-at.ensures)

pub returns : goal.returns
returns c = every_end c.loop-done.invariant.1 (omega arith)
