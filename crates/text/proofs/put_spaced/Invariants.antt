-- `text::put_spaced` meets its contract. Assumes nothing.
use Prim.Native.Nat.{◌-◌, ◌≤◌}
use native.Mathlib.Omega.{arith}
use borrow.Author.Rules.{rules}
use lib.ListN.{length, take}
use lib.Seq.{take_all}
use Rattle.text.specs.Numbers.{spaced}
use Rattle.text.specs.Growth.{Grown}
use Rattle.text.proofs.Growing.{grown_none, grown_more}
use Rattle.text.proofs.Spaces.{spaced_next}
use Rattle.text.proofs.put_spaced.Given as goal

abbrev pub invariant-loop-number : goal.invariant-loop-number
invariant-loop-number l = Grown l.initial.out l.end (spaced (take l.number-index l.numbers)) l.out l.at
