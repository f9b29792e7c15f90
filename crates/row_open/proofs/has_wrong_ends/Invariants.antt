-- `row_open::has_wrong_ends` meets its contract. Assumes nothing.
use mathlib.Core.Path.{◌≡◌}
use Prim.Native.Nat.{◌≤◌}
use Rattle.row_open.specs.Open.{entries_in, refusal22}
use Rattle.row_open.proofs.has_wrong_ends.Given as goal

abbrev pub invariant-loop-left : goal.invariant-loop-left
invariant-loop-left l = refusal22 (entries_in l.left l.entries) ≡ refusal22 (entries_in l.entered l.entries)
