-- `reading::gather` meets its contract. Assumes nothing.
use mathlib.Core.Path.{◌≡◌, refl, sym, ◌∙◌}
use Prim.Native.Nat.{◌-◌, ◌≤◌}
use native.Mathlib.Omega.{arith}
use borrow.Author.Rules.{rules}
use lib.ListN.{length, length-set}
use Rattle.laws.proofs.Calls.{free}
use Rattle.reading.proofs.Gathering.{Until, further, until_start, until_next, gathered, gathered_bad}
use Rattle.reading.proofs.gather.Given as goal

abbrev pub invariant-loop-at : goal.invariant-loop-at
invariant-loop-at l = (l.count ≤ l.at) × (length l.cells ≡ length l.initial.cells) × Until l.file l.start l.initial.cells l.cells l.at l.count

abbrev pub decreases-loop-at : goal.decreases-loop-at
decreases-loop-at l = length l.file - l.at
