-- `file_columns::operand` meets its contract. Assumes nothing.
use mathlib.Core.Path.{sym}
use native.Mathlib.Omega.{arith}
use borrow.Author.Tests.{ltb-false}
use Rattle.file_columns.specs.Columns.{restored_operand, most_restored}
use Rattle.file_columns.proofs.Held.{restored_none, restored_some}
use Rattle.file_columns.proofs.operand.Goals as goal

pub returns-then-distance-eq0 : goal.returns-then-distance-eq0
returns-then-distance-eq0 c = sym (restored_none _ _ c.if-distance-eq0.true)

pub overflow_add-result : goal.overflow_add-result
overflow_add-result c =
    let e = restored_some c.args.owner c.args.distance c.if-distance-eq0.false in
    let l = ltb-false most_restored (restored_operand c.args.owner c.args.distance) c.requires in
    omega arith

pub returns : goal.returns
returns c = sym (restored_some _ _ c.if-distance-eq0.false)
