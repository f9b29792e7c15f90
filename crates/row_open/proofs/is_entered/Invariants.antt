-- `row_open::is_entered` meets its contract. Assumes nothing.
use mathlib.Core.Path.{◌≡◌}
use Prim.Native.Nat.{◌≤◌}
use Rattle.laws.specs.Choice.{is_one_of}
use Rattle.row_open.specs.Open.{entries_in, nodes_of}
use Rattle.row_open.proofs.is_entered.Given as goal

abbrev pub invariant-loop-left : goal.invariant-loop-left
invariant-loop-left l = is_one_of (nodes_of (entries_in l.left l.entries)) l.node ≡ is_one_of (nodes_of (entries_in l.entered l.entries)) l.node
