-- `tokens::put_every` meets its contract. Assumes nothing.
use Prim.Native.Nat.{◌+◌, ◌-◌, ◌≤◌}
use native.Mathlib.Omega.{arith}
use borrow.Author.Rules.{rules}
use lib.ListN.{length}
use Rattle.tokens.proofs.Lines.{Every, every_start, every_next, every_end}
use Rattle.tokens.proofs.put_every.Given as goal

abbrev pub invariant-loop-done : goal.invariant-loop-done
invariant-loop-done l = (l.done ≤ length l.numbers + 3) × Every l.initial.out l.end l.numbers l.from l.done l.out l.at

abbrev pub decreases-loop-done : goal.decreases-loop-done
decreases-loop-done l = length l.numbers - l.done
