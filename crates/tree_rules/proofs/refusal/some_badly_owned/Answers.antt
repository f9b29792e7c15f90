-- `tree_rules::refusal::some_badly_owned` meets its contract. Assumes nothing.
use mathlib.Core.Path.{◌≡◌, refl, sym, ◌∙◌}
use mathlib.Core.Bool.{false}
use Prim.Native.Nat.{◌+◌, ◌-◌, ◌≤◌}
use native.Mathlib.Omega.{arith}
use Rattle.laws.specs.Each.{some}
use Rattle.laws.proofs.Each.{some_more, some_found}
use Rattle.tree_rules.specs.Passes.{badly_owned}
use Rattle.tree_rules.proofs.refusal.some_badly_owned.Goals as goal

pub loop-done-init : goal.loop-done-init
unfolding some
loop-done-init c = refl

pub returns-then-is_badly_owned : goal.returns-then-is_badly_owned
returns-then-is_badly_owned c = sym (some_found _ _ (c.loop-done.done + 1) (omega arith) (omega arith) (sym c.is_badly_owned.ensures ∙ c.if-is_badly_owned.true))

pub loop-done-preserved : goal.loop-done-preserved
loop-done-preserved c = some_more _ c.loop-done.done c.loop-done.invariant (sym c.is_badly_owned.ensures ∙ c.if-is_badly_owned.false)
