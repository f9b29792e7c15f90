-- `tree_rules::refusal::some_badly_owned` meets its contract. Assumes nothing.
use mathlib.Core.Path.{◌≡◌, refl, sym, ◌∙◌}
use mathlib.Core.Bool.{false}
use Prim.Native.Nat.{◌+◌, ◌-◌, ◌≤◌}
use native.Mathlib.Omega.{arith}
use Rattle.laws.specs.Each.{some}
use Rattle.laws.proofs.Each.{some_more, some_found}
use Rattle.tree_rules.specs.Passes.{badly_owned}
use Rattle.tree_rules.proofs.refusal.some_badly_owned.Given as goal

abbrev pub invariant-loop-done : goal.invariant-loop-done
invariant-loop-done l = (some (badly_owned l.owners) l.done ≡ false)
