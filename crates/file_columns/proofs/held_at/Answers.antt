-- `file_columns::held_at` meets its contract. Assumes nothing.
use mathlib.Core.Path.{sym, ◌∙◌}
use Prim.Native.Nat.{◌-◌}
use native.Mathlib.Omega.{arith}
use Rattle.file_columns.proofs.Arranging.{in_forms, in_operands, in_seconds, in_others}
use Rattle.file_columns.proofs.held_at.Goals as goal

pub difference-requires : goal.difference-requires
difference-requires c =
    let b = c.cell-before.ensures in
    let n = rw c.if-column-eq-FORM.true at c.cell-number.ensures in
    let l = c.requires.1.at (c.args.node - 1) in
    let m = c.requires.1.at c.args.node in
    (omega arith, omega arith)

pub returns-then-column-eq-FORM : goal.returns-then-column-eq-FORM
returns-then-column-eq-FORM c =
    let n = rw c.if-column-eq-FORM.true at c.cell-number.ensures in
    c.difference.ensures ∙ rw (c.cell-before.ensures, n) (sym (in_forms c.args.cells.now c.args.column c.args.node c.if-column-eq-FORM.true))

pub returns-then-column-eq-FIRST : goal.returns-then-column-eq-FIRST
returns-then-column-eq-FIRST c = c.distance.ensures ∙ rw c.cell-number.ensures (sym (in_operands _ _ _ c.if-column-eq-FIRST.true))

pub returns-then-column-eq-SECOND : goal.returns-then-column-eq-SECOND
returns-then-column-eq-SECOND c = c.distance-then-column-eq-SECOND.ensures ∙ rw c.cell-number.ensures (sym (in_seconds _ _ _ c.if-column-eq-SECOND.true))

pub returns : goal.returns
returns c = c.cell-number.ensures ∙ sym (in_others _ _ _ c.if-column-eq-FORM.false c.if-column-eq-FIRST.false c.if-column-eq-SECOND.false)
