-- `file_columns::has_far_operand` meets its contract. Assumes nothing.
use mathlib.Core.Path.{◌≡◌, sym, ◌∙◌}
use Prim.Native.Nat.{suc, ◌+◌}
use native.Mathlib.Omega.{arith}
use Rattle.laws.proofs.Choice.{or_here, or_next}
use Rattle.file_columns.proofs.has_far_operand.Goals as goal

pub returns-then-is_far : goal.returns-then-is_far
returns-then-is_far c =
    let s : c.args.index + 1 ≡ suc c.args.index = omega arith in
    sym (or_here _ (rw (c.column_at.ensures, s) at (sym c.is_far.ensures ∙ c.if-is_far.true)))

pub returns : goal.returns
returns c =
    let s : c.args.index + 1 ≡ suc c.args.index = omega arith in
    c.is_far-2.ensures ∙ rw (c.column_at-2.ensures, s) (sym (or_next _ (rw (c.column_at.ensures, s) at (sym c.is_far.ensures ∙ c.if-is_far.false))))
