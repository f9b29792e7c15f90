-- `file_columns::restore` meets its contract. Assumes nothing.
use Rattle.std.proofs.Common.{arith, refl, sym, ◌∙◌, ◌≡◌, ◌+◌, suc}
use Rattle.file_columns.proofs.Restoring.{stands_none, stands_next, out_form, out_operand, inside_more, nodes_none, nodes_more, nodes_all, none_outside, none_yet}
use Rattle.file_columns.proofs.restore.Goals.{then-leaves-via-then-leaves, then-leaves-via-else-leaves+then-has_far_operand}
use Rattle.file_columns.proofs.restore.Goals as goal

pub loop-done-init : goal.loop-done-init
loop-done-init c = (nodes_none _ _ _, stands_none _ _, none_yet _ _)

pub column_at-difference-requires : goal.column_at-difference-requires
column_at-difference-requires c = omega (arith, c.loop-done-test.true, c.requires.1)

pub has_far_operand-requires : goal.has_far_operand-requires
has_far_operand-requires c = (c.loop-done-test.true, c.requires.0, c.requires.1)

pub returns-then-leaves : goal.returns-then-leaves
returns-then-leaves c =
    elim c.then-leaves.branch [
      | then-leaves-via-then-leaves w ↦
          (refl, out_form _ _ c.loop-done.done c.loop-done.form c.loop-done.invariant.1 c.loop-done-test.true (rw c.column_at-difference.ensures at (sym c.leaves.ensures ∙ w.if-leaves.true)), c.loop-done.invariant.0.room)
      | then-leaves-via-else-leaves+then-has_far_operand w ↦ (
        refl,
        out_operand _ _ c.loop-done.done c.loop-done.form c.loop-done.invariant.1 c.loop-done-test.true (rw c.column_at-difference.ensures at (sym c.leaves.ensures ∙ w.if-leaves.false)) (sym w.has_far_operand.ensures ∙ w.if-has_far_operand.true),
        c.loop-done.invariant.0.room,
      )
    ]

pub moved-form-requires : goal.moved-form-requires
moved-form-requires c = sym c.leaves.ensures ∙ c.if-leaves.false

pub put_node-requires : goal.put_node-requires
put_node-requires c =
    let r = c.loop-done.invariant.0.room in
    record {
      index_lt_count = (c.loop-done-test.true, c.requires.0, c.requires.1, omega (arith, r, c.requires.2));
      index_value = sym c.has_far_operand.ensures ∙ c.if-has_far_operand.false;
    }

pub loop-done-preserved : goal.loop-done-preserved
loop-done-preserved c =
    let s : c.loop-done.done + 1 ≡ suc c.loop-done.done = omega arith in
    let m = rw c.column_at-difference.ensures at c.moved-form.ensures in
    let t = stands_next _ _ c.loop-done.done c.loop-done.form c.loop-done.invariant.1 c.moved-form.result m in
    let e = rw c.column_at-difference.ensures at (sym c.leaves.ensures ∙ c.if-leaves.false) in (
      nodes_more _ _ c.loop-done.done c.moved-form.result t c.loop-done.invariant.0 c.put_node.ensures,
      rw s t,
      inside_more _ _ c.loop-done.done c.loop-done.form c.loop-done.invariant.1 c.loop-done.invariant.2 e (sym c.has_far_operand.ensures ∙ c.if-has_far_operand.false),
    )

pub returns : goal.returns
returns c =
    let e : c.loop-done.done ≡ c.args.count = omega (arith, c.loop-done-test.false, c.loop-done.auto.done-end) in
    (none_outside _ _ c.loop-done.done e c.loop-done.invariant.2, nodes_all _ _ c.loop-done.done e c.requires.2 c.loop-done.invariant.0)
