-- `sheet_edit::first_refusal` meets its contract. Assumes nothing.
use mathlib.Core.Path.{◌≡◌, sym, ap, ◌∙◌}
use Prim.Native.Nat.{◌+◌, ◌≤◌}
use native.Mathlib.Omega.{arith}
use borrow.Author.Tests.{ltb-true, ltb-false}
use Rattle.laws.proofs.Calls.{free}
use Rattle.laws.specs.Choice.{pick, lookup}
use Rattle.tree.specs.Replies.{replied, refusals}
use Rattle.tree.specs.Sizes.{most_nodes, most_levels}
use Rattle.tree.specs.Forms.{an_expression, class_of}
use Rattle.tree.specs.Operands.{form_in}
use Rattle.tree.specs.Trees.{levels}
use Rattle.tree_rules.specs.Refusals.{Accepted}
use Rattle.tree_rules.proofs.Accepted.{count_bounds}
use Rattle.tree_numbering.specs.Numbered.{size}
use Rattle.sheet_edit.specs.Edits.{Edit, edit_of, result}
use Rattle.row_walk.proofs.Replies.{replied_ok, passed_up}
use Rattle.sheet_edit.proofs.Replies.{says, sheet_refused, other_refused, not_named, sizes, too_many, bad_output, too_deep, short_table, short_rows, none_applies}
use borrow.Author.Rules.{rules}
use Rattle.sheet_edit.proofs.first_refusal.Goals as goal

pub returns-in_err-check : goal.returns-in_err-check
returns-in_err-check c = passed_up _ _ c.from_residual.ensures.0 c.from_residual.ensures.1 ∙ sheet_refused (edit_of c.args.context c.args.table.now.count c.args.table.now.cells.now c.args.place c.args.other c.args.second.now.count c.args.second.now.cells.now) c.args.cells c.args.rows (tt {0}) (tt {0}) _ c.in_err-check.ensures

pub returns-in_err-check-2 : goal.returns-in_err-check-2
returns-in_err-check-2 c =
    passed_up _ _ c.from_residual-in_err-check-2.ensures.0 c.from_residual-in_err-check-2.ensures.1
    ∙ other_refused (edit_of c.args.context c.args.table.now.count c.args.table.now.cells.now c.args.place c.args.other c.args.second.now.count c.args.second.now.cells.now) c.args.cells c.args.rows (replied_ok _ tt tt c.in_ok-check.ensures) (tt {0}) (tt {0}) _ c.in_err-check-2.ensures

pub returns-then-class_of-ne1 : goal.returns-then-class_of-ne1
unfolding replied refusals lookup pick
returns-then-class_of-ne1 c =
    let accepted : (Accepted c.args.context c.args.table.now.count c.args.table.now.cells.now × Accepted c.args.other c.args.second.now.count c.args.second.now.cells.now) =
    (replied_ok _ tt tt c.in_ok-check.ensures, replied_ok _ tt tt c.in_ok-check-2.ensures) in
    let t = accepted in
    says (not_named (edit_of c.args.context c.args.table.now.count c.args.table.now.cells.now c.args.place c.args.other c.args.second.now.count c.args.second.now.cells.now) c.args.cells c.args.rows t.0 t.1 (λ z. c.if-class_of-ne1.true (c.class_of.ensures ∙ ap class_of c.form_number.ensures ∙ z)))

pub overflow_add-result : goal.overflow_add-result
overflow_add-result c =
    let accepted : (Accepted c.args.context c.args.table.now.count c.args.table.now.cells.now × Accepted c.args.other c.args.second.now.count c.args.second.now.cells.now) =
    (replied_ok _ tt tt c.in_ok-check.ensures, replied_ok _ tt tt c.in_ok-check-2.ensures) in
    let passed : (let e = (edit_of c.args.context c.args.table.now.count c.args.table.now.cells.now c.args.place c.args.other c.args.second.now.count c.args.second.now.cells.now) in Accepted e.context e.count e.cells × Accepted e.second_context e.second_count e.second × (class_of (form_in e.cells e.count e.place) ≡ an_expression)) =
    let t = accepted in
    (t.0, t.1, sym (c.class_of.ensures ∙ ap class_of c.form_number.ensures) ∙ c.if-class_of-ne1.false) in
    let sized : (let e = (edit_of c.args.context c.args.table.now.count c.args.table.now.cells.now c.args.place c.args.other c.args.second.now.count c.args.second.now.cells.now) in (c.room_after.result ≤ most_nodes) × (c.room_after.result + e.second_count ≡ size (result e))) =
    let p = passed in
    sizes ((edit_of c.args.context c.args.table.now.count c.args.table.now.cells.now c.args.place c.args.other c.args.second.now.count c.args.second.now.cells.now)) c.args.cells c.args.rows p.0 p.1 p.2 _ c.room_after.ensures in
    let r = sized in
    let k = (count_bounds _ _ _ (passed).1).1 in
    record { fits = omega arith }

pub returns-then-result-gt-MOST_NODES : goal.returns-then-result-gt-MOST_NODES
unfolding replied refusals lookup pick
returns-then-result-gt-MOST_NODES c =
    let accepted : (Accepted c.args.context c.args.table.now.count c.args.table.now.cells.now × Accepted c.args.other c.args.second.now.count c.args.second.now.cells.now) =
    (replied_ok _ tt tt c.in_ok-check.ensures, replied_ok _ tt tt c.in_ok-check-2.ensures) in
    let passed : (let e = (edit_of c.args.context c.args.table.now.count c.args.table.now.cells.now c.args.place c.args.other c.args.second.now.count c.args.second.now.cells.now) in Accepted e.context e.count e.cells × Accepted e.second_context e.second_count e.second × (class_of (form_in e.cells e.count e.place) ≡ an_expression)) =
    let t = accepted in
    (t.0, t.1, sym (c.class_of.ensures ∙ ap class_of c.form_number.ensures) ∙ c.if-class_of-ne1.false) in
    let sized : (let e = (edit_of c.args.context c.args.table.now.count c.args.table.now.cells.now c.args.place c.args.other c.args.second.now.count c.args.second.now.cells.now) in (c.room_after.result ≤ most_nodes) × (c.room_after.result + e.second_count ≡ size (result e))) =
    let p = passed in
    sizes ((edit_of c.args.context c.args.table.now.count c.args.table.now.cells.now c.args.place c.args.other c.args.second.now.count c.args.second.now.cells.now)) c.args.cells c.args.rows p.0 p.1 p.2 _ c.room_after.ensures in
    let p = passed in
    let r = sized in
    let z = c.if-result-gt-MOST_NODES.true in
    says (too_many (edit_of c.args.context c.args.table.now.count c.args.table.now.cells.now c.args.place c.args.other c.args.second.now.count c.args.second.now.cells.now) c.args.cells c.args.rows p.0 p.1 p.2 (omega arith))

pub returns-then-breaks_output : goal.returns-then-breaks_output
unfolding replied refusals lookup pick
returns-then-breaks_output c =
    let accepted : (Accepted c.args.context c.args.table.now.count c.args.table.now.cells.now × Accepted c.args.other c.args.second.now.count c.args.second.now.cells.now) =
    (replied_ok _ tt tt c.in_ok-check.ensures, replied_ok _ tt tt c.in_ok-check-2.ensures) in
    let passed : (let e = (edit_of c.args.context c.args.table.now.count c.args.table.now.cells.now c.args.place c.args.other c.args.second.now.count c.args.second.now.cells.now) in Accepted e.context e.count e.cells × Accepted e.second_context e.second_count e.second × (class_of (form_in e.cells e.count e.place) ≡ an_expression)) =
    let t = accepted in
    (t.0, t.1, sym (c.class_of.ensures ∙ ap class_of c.form_number.ensures) ∙ c.if-class_of-ne1.false) in
    let sized : (let e = (edit_of c.args.context c.args.table.now.count c.args.table.now.cells.now c.args.place c.args.other c.args.second.now.count c.args.second.now.cells.now) in (c.room_after.result ≤ most_nodes) × (c.room_after.result + e.second_count ≡ size (result e))) =
    let p = passed in
    sizes ((edit_of c.args.context c.args.table.now.count c.args.table.now.cells.now c.args.place c.args.other c.args.second.now.count c.args.second.now.cells.now)) c.args.cells c.args.rows p.0 p.1 p.2 _ c.room_after.ensures in
    let few : (size (result ((edit_of c.args.context c.args.table.now.count c.args.table.now.cells.now c.args.place c.args.other c.args.second.now.count c.args.second.now.cells.now))) ≤ most_nodes) =
    let r = sized in omega arith in
    let p = passed in
    says (bad_output (edit_of c.args.context c.args.table.now.count c.args.table.now.cells.now c.args.place c.args.other c.args.second.now.count c.args.second.now.cells.now) c.args.cells c.args.rows p.0 p.1 p.2 (few) _ c.breaks_output.ensures c.if-breaks_output.true)

pub is_deep-requires : goal.is_deep-requires
is_deep-requires c =
    let accepted : (Accepted c.args.context c.args.table.now.count c.args.table.now.cells.now × Accepted c.args.other c.args.second.now.count c.args.second.now.cells.now) =
    (replied_ok _ tt tt c.in_ok-check.ensures, replied_ok _ tt tt c.in_ok-check-2.ensures) in
    let passed : (let e = (edit_of c.args.context c.args.table.now.count c.args.table.now.cells.now c.args.place c.args.other c.args.second.now.count c.args.second.now.cells.now) in Accepted e.context e.count e.cells × Accepted e.second_context e.second_count e.second × (class_of (form_in e.cells e.count e.place) ≡ an_expression)) =
    let t = accepted in
    (t.0, t.1, sym (c.class_of.ensures ∙ ap class_of c.form_number.ensures) ∙ c.if-class_of-ne1.false) in
    let p = passed in ((count_bounds _ _ _ p.0).1, (count_bounds _ _ _ p.1).1)

pub returns-then-is_deep : goal.returns-then-is_deep
unfolding replied refusals lookup pick
returns-then-is_deep c =
    let accepted : (Accepted c.args.context c.args.table.now.count c.args.table.now.cells.now × Accepted c.args.other c.args.second.now.count c.args.second.now.cells.now) =
    (replied_ok _ tt tt c.in_ok-check.ensures, replied_ok _ tt tt c.in_ok-check-2.ensures) in
    let passed : (let e = (edit_of c.args.context c.args.table.now.count c.args.table.now.cells.now c.args.place c.args.other c.args.second.now.count c.args.second.now.cells.now) in Accepted e.context e.count e.cells × Accepted e.second_context e.second_count e.second × (class_of (form_in e.cells e.count e.place) ≡ an_expression)) =
    let t = accepted in
    (t.0, t.1, sym (c.class_of.ensures ∙ ap class_of c.form_number.ensures) ∙ c.if-class_of-ne1.false) in
    let sized : (let e = (edit_of c.args.context c.args.table.now.count c.args.table.now.cells.now c.args.place c.args.other c.args.second.now.count c.args.second.now.cells.now) in (c.room_after.result ≤ most_nodes) × (c.room_after.result + e.second_count ≡ size (result e))) =
    let p = passed in
    sizes ((edit_of c.args.context c.args.table.now.count c.args.table.now.cells.now c.args.place c.args.other c.args.second.now.count c.args.second.now.cells.now)) c.args.cells c.args.rows p.0 p.1 p.2 _ c.room_after.ensures in
    let few : (size (result ((edit_of c.args.context c.args.table.now.count c.args.table.now.cells.now c.args.place c.args.other c.args.second.now.count c.args.second.now.cells.now))) ≤ most_nodes) =
    let r = sized in omega arith in
    let p = passed in
    let h = ltb-true _ _ (sym c.is_deep.ensures ∙ c.if-is_deep.true) in
    says (too_deep (edit_of c.args.context c.args.table.now.count c.args.table.now.cells.now c.args.place c.args.other c.args.second.now.count c.args.second.now.cells.now) c.args.cells c.args.rows p.0 p.1 p.2 (few) _ c.breaks_output.ensures c.if-breaks_output.false h)

pub returns-then-cells-from : goal.returns-then-cells-from
unfolding replied refusals lookup pick
returns-then-cells-from c =
    let accepted : (Accepted c.args.context c.args.table.now.count c.args.table.now.cells.now × Accepted c.args.other c.args.second.now.count c.args.second.now.cells.now) =
    (replied_ok _ tt tt c.in_ok-check.ensures, replied_ok _ tt tt c.in_ok-check-2.ensures) in
    let passed : (let e = (edit_of c.args.context c.args.table.now.count c.args.table.now.cells.now c.args.place c.args.other c.args.second.now.count c.args.second.now.cells.now) in Accepted e.context e.count e.cells × Accepted e.second_context e.second_count e.second × (class_of (form_in e.cells e.count e.place) ≡ an_expression)) =
    let t = accepted in
    (t.0, t.1, sym (c.class_of.ensures ∙ ap class_of c.form_number.ensures) ∙ c.if-class_of-ne1.false) in
    let sized : (let e = (edit_of c.args.context c.args.table.now.count c.args.table.now.cells.now c.args.place c.args.other c.args.second.now.count c.args.second.now.cells.now) in (c.room_after.result ≤ most_nodes) × (c.room_after.result + e.second_count ≡ size (result e))) =
    let p = passed in
    sizes ((edit_of c.args.context c.args.table.now.count c.args.table.now.cells.now c.args.place c.args.other c.args.second.now.count c.args.second.now.cells.now)) c.args.cells c.args.rows p.0 p.1 p.2 _ c.room_after.ensures in
    let few : (size (result ((edit_of c.args.context c.args.table.now.count c.args.table.now.cells.now c.args.place c.args.other c.args.second.now.count c.args.second.now.cells.now))) ≤ most_nodes) =
    let r = sized in omega arith in
    let flat : (levels (result ((edit_of c.args.context c.args.table.now.count c.args.table.now.cells.now c.args.place c.args.other c.args.second.now.count c.args.second.now.cells.now))) ≤ most_levels) =
    ltb-false _ _ (sym c.is_deep.ensures ∙ c.if-is_deep.false) in
    let p = passed in
    let r = sized in
    let t = c.if-cells-from.true in
    let n = c.from.ensures in
    says (short_table (edit_of c.args.context c.args.table.now.count c.args.table.now.cells.now c.args.place c.args.other c.args.second.now.count c.args.second.now.cells.now) c.args.cells c.args.rows p.0 p.1 p.2 (few) _ c.breaks_output.ensures c.if-breaks_output.false (flat) (omega arith))

pub returns-then-rows-from : goal.returns-then-rows-from
unfolding replied refusals lookup pick
returns-then-rows-from c =
    let accepted : (Accepted c.args.context c.args.table.now.count c.args.table.now.cells.now × Accepted c.args.other c.args.second.now.count c.args.second.now.cells.now) =
    (replied_ok _ tt tt c.in_ok-check.ensures, replied_ok _ tt tt c.in_ok-check-2.ensures) in
    let passed : (let e = (edit_of c.args.context c.args.table.now.count c.args.table.now.cells.now c.args.place c.args.other c.args.second.now.count c.args.second.now.cells.now) in Accepted e.context e.count e.cells × Accepted e.second_context e.second_count e.second × (class_of (form_in e.cells e.count e.place) ≡ an_expression)) =
    let t = accepted in
    (t.0, t.1, sym (c.class_of.ensures ∙ ap class_of c.form_number.ensures) ∙ c.if-class_of-ne1.false) in
    let sized : (let e = (edit_of c.args.context c.args.table.now.count c.args.table.now.cells.now c.args.place c.args.other c.args.second.now.count c.args.second.now.cells.now) in (c.room_after.result ≤ most_nodes) × (c.room_after.result + e.second_count ≡ size (result e))) =
    let p = passed in
    sizes ((edit_of c.args.context c.args.table.now.count c.args.table.now.cells.now c.args.place c.args.other c.args.second.now.count c.args.second.now.cells.now)) c.args.cells c.args.rows p.0 p.1 p.2 _ c.room_after.ensures in
    let few : (size (result ((edit_of c.args.context c.args.table.now.count c.args.table.now.cells.now c.args.place c.args.other c.args.second.now.count c.args.second.now.cells.now))) ≤ most_nodes) =
    let r = sized in omega arith in
    let flat : (levels (result ((edit_of c.args.context c.args.table.now.count c.args.table.now.cells.now c.args.place c.args.other c.args.second.now.count c.args.second.now.cells.now))) ≤ most_levels) =
    ltb-false _ _ (sym c.is_deep.ensures ∙ c.if-is_deep.false) in
    let p = passed in
    let r = sized in
    let t = c.if-cells-from.false in
    let n = c.from.ensures in
    let m = c.from-2.ensures in
    let v = c.if-rows-from.true in
    says (short_rows (edit_of c.args.context c.args.table.now.count c.args.table.now.cells.now c.args.place c.args.other c.args.second.now.count c.args.second.now.cells.now) c.args.cells c.args.rows p.0 p.1 p.2 (few) _ c.breaks_output.ensures c.if-breaks_output.false (flat) (omega arith) (omega arith))

pub returns : goal.returns
unfolding replied refusals lookup pick
returns c =
    let accepted : (Accepted c.args.context c.args.table.now.count c.args.table.now.cells.now × Accepted c.args.other c.args.second.now.count c.args.second.now.cells.now) =
    (replied_ok _ tt tt c.in_ok-check.ensures, replied_ok _ tt tt c.in_ok-check-2.ensures) in
    let passed : (let e = (edit_of c.args.context c.args.table.now.count c.args.table.now.cells.now c.args.place c.args.other c.args.second.now.count c.args.second.now.cells.now) in Accepted e.context e.count e.cells × Accepted e.second_context e.second_count e.second × (class_of (form_in e.cells e.count e.place) ≡ an_expression)) =
    let t = accepted in
    (t.0, t.1, sym (c.class_of.ensures ∙ ap class_of c.form_number.ensures) ∙ c.if-class_of-ne1.false) in
    let sized : (let e = (edit_of c.args.context c.args.table.now.count c.args.table.now.cells.now c.args.place c.args.other c.args.second.now.count c.args.second.now.cells.now) in (c.room_after.result ≤ most_nodes) × (c.room_after.result + e.second_count ≡ size (result e))) =
    let p = passed in
    sizes ((edit_of c.args.context c.args.table.now.count c.args.table.now.cells.now c.args.place c.args.other c.args.second.now.count c.args.second.now.cells.now)) c.args.cells c.args.rows p.0 p.1 p.2 _ c.room_after.ensures in
    let few : (size (result ((edit_of c.args.context c.args.table.now.count c.args.table.now.cells.now c.args.place c.args.other c.args.second.now.count c.args.second.now.cells.now))) ≤ most_nodes) =
    let r = sized in omega arith in
    let flat : (levels (result ((edit_of c.args.context c.args.table.now.count c.args.table.now.cells.now c.args.place c.args.other c.args.second.now.count c.args.second.now.cells.now))) ≤ most_levels) =
    ltb-false _ _ (sym c.is_deep.ensures ∙ c.if-is_deep.false) in
    let p = passed in
    let r = sized in
    let t = c.if-cells-from.false in
    let n = c.from.ensures in
    let m = c.from-2.ensures in
    let v = c.if-rows-from.false in
    says (none_applies (edit_of c.args.context c.args.table.now.count c.args.table.now.cells.now c.args.place c.args.other c.args.second.now.count c.args.second.now.cells.now) c.args.cells c.args.rows p.0 p.1 p.2 (few) _ c.breaks_output.ensures c.if-breaks_output.false (flat) (omega arith) (omega arith))
