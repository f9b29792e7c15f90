-- `tree_one_pass::numbers_at` meets its contract. Assumes nothing.
use Prim.Native.Nat.{◌*◌, ◌-◌, ◌≤◌}
use native.Mathlib.Omega.{arith}
use lib.ListN.{length}
use mathlib.Core.Path.{sym, ◌∙◌}
use borrow.Author.Tests.{eqb-true, eqb-false}
use Rattle.tree.specs.Sizes.{node_cells}
use Rattle.tree.specs.Table.{attributes_column, detail_column, first_column, second_column, symbol_column}
use Rattle.tree_source.proofs.Cells.{cells_table, has_place}
use Rattle.tree_source.proofs.Near.{node_read}
use Rattle.tree_source.proofs.Nodes.{other_node}
use Rattle.tree_one_pass.proofs.Fine.{cell_form, cell_other}
use borrow.Author.Rules.{rules}
use Rattle.tree_one_pass.proofs.numbers_at.Goals as goal

pub bounds-held-from : goal.bounds-held-from
bounds-held-from c = let h = has_place _ _ (eqb-false _ _ (sym c.is_empty.ensures ∙ c.if-not-is_empty.true)) _ c.requires.1 in omega (arith, c.if-node-ne1.true)

pub returns-in-Some : goal.returns-in-Some
returns-in-Some c =
    other_node c.args.file.now c.args.held.now (eqb-false _ _ (sym c.is_empty.ensures ∙ c.if-not-is_empty.true)) c.args.node (omega (arith, c.if-node-ne1.true)) (has_place _ _ (eqb-false _ _ (sym c.is_empty.ensures ∙ c.if-not-is_empty.true)) _ c.requires.1) _
    (node_read _ _ _ (rw (c.in-Some.is, c.from.ensures) at c.quick_from.ensures))

pub bounds-held-at : goal.bounds-held-at
bounds-held-at c =
    let room : (node_cells * c.args.node ≤ length c.args.held.now) =
    rw (cells_table c.args.file.now c.args.held.now (eqb-true _ _ (sym c.is_empty.ensures ∙ c.if-not-is_empty.false))) at c.requires.1 in
    omega (arith, room)

pub bounds-held-at-2 : goal.bounds-held-at-2
bounds-held-at-2 c =
    let room : (node_cells * c.args.node ≤ length c.args.held.now) =
    rw (cells_table c.args.file.now c.args.held.now (eqb-true _ _ (sym c.is_empty.ensures ∙ c.if-not-is_empty.false))) at c.requires.1 in
    omega (arith, room)

pub bounds-held-at-3 : goal.bounds-held-at-3
bounds-held-at-3 c =
    let room : (node_cells * c.args.node ≤ length c.args.held.now) =
    rw (cells_table c.args.file.now c.args.held.now (eqb-true _ _ (sym c.is_empty.ensures ∙ c.if-not-is_empty.false))) at c.requires.1 in
    omega (arith, room)

pub bounds-held-at-4 : goal.bounds-held-at-4
bounds-held-at-4 c =
    let room : (node_cells * c.args.node ≤ length c.args.held.now) =
    rw (cells_table c.args.file.now c.args.held.now (eqb-true _ _ (sym c.is_empty.ensures ∙ c.if-not-is_empty.false))) at c.requires.1 in
    omega (arith, room)

pub bounds-held-at-5 : goal.bounds-held-at-5
bounds-held-at-5 c =
    let room : (node_cells * c.args.node ≤ length c.args.held.now) =
    rw (cells_table c.args.file.now c.args.held.now (eqb-true _ _ (sym c.is_empty.ensures ∙ c.if-not-is_empty.false))) at c.requires.1 in
    omega (arith, room)

pub bounds-held-at-6 : goal.bounds-held-at-6
bounds-held-at-6 c =
    let room : (node_cells * c.args.node ≤ length c.args.held.now) =
    rw (cells_table c.args.file.now c.args.held.now (eqb-true _ _ (sym c.is_empty.ensures ∙ c.if-not-is_empty.false))) at c.requires.1 in
    omega (arith, room)

pub returns : goal.returns
returns c =
    rw (cells_table c.args.file.now c.args.held.now (eqb-true _ _ (sym c.is_empty.ensures ∙ c.if-not-is_empty.false)), c.from-at.ensures)
    (record {
      form = cell_form c.args.held.now c.args.node c.requires.0;
      attributes = cell_other c.args.held.now c.args.node attributes_column c.requires.0;
      detail = cell_other c.args.held.now c.args.node detail_column c.requires.0;
      first = cell_other c.args.held.now c.args.node first_column c.requires.0;
      second = cell_other c.args.held.now c.args.node second_column c.requires.0;
      symbol = cell_other c.args.held.now c.args.node symbol_column c.requires.0;
    })
