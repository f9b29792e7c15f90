-- `row_open::next_new` meets its contract. Assumes nothing.
use mathlib.Core.Path.{◌≡◌}
use Prim.Native.Nat.{suc, ◌-◌, ◌≤◌, ◌<◌}
use Rattle.row_open.specs.Steps.{news}
use Rattle.row_open.proofs.next_new.Given as goal

abbrev pub invariant-loop-next : goal.invariant-loop-next
invariant-loop-next l = (l.op < l.next) × (news l.lowest (suc l.op) (suc l.highest - suc l.op) ≡ news l.lowest l.next (suc l.highest - l.next))
