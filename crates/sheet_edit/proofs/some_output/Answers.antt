-- `sheet_edit::some_output` meets its contract. Assumes nothing.
use mathlib.Core.Path.{sym, ◌∙◌}
use Prim.Native.Nat.{◌+◌}
use native.Mathlib.Omega.{arith}
use Rattle.laws.proofs.Each.{some_found}
use Rattle.sheet_edit.proofs.some_output.Goals as goal

pub returns-then-owns_output : goal.returns-then-owns_output
returns-then-owns_output c = sym (some_found _ c.args.table.now.count (c.loop-done.done + 1) (omega arith) (omega (arith, c.loop-done-test.true)) (sym c.owns_output.ensures ∙ c.if-owns_output.true))
