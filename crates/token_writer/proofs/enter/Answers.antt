-- `token_writer::enter` meets its contract. Assumes nothing.
use mathlib.Core.Path.{sym, ◌∙◌}
use native.Mathlib.Omega.{arith}
use Rattle.tree.proofs.Unfold.{tree_zero, tree_past}
use Rattle.token_writer.proofs.Shapes.{bare_name, bare_literal, bare_room, bare_turned}
use Rattle.token_writer.proofs.Turns.{turned_none}
use Rattle.token_writer.proofs.enter.Goals as goal

pub returns-then-node-eq0 : goal.returns-then-node-eq0
returns-then-node-eq0 c = turned_none c.args.table.now.cells.now c.args.table.now.count c.args.node c.args.here c.requires.0 (omega arith) (rw c.if-node-eq0.true (tree_zero _ _)) _ _ _ _

pub returns-then-table-node : goal.returns-then-table-node
returns-then-table-node c = turned_none c.args.table.now.cells.now c.args.table.now.count c.args.node c.args.here c.requires.0 (omega arith) (tree_past _ _ _ (omega arith)) _ _ _ _

pub at_cell-form-requires : goal.at_cell-form-requires
at_cell-form-requires c = (omega arith, omega (arith, c.requires.3), omega arith)

pub is_bare-requires : goal.is_bare-requires
is_bare-requires c = (omega arith, omega (arith, c.requires.3))

pub put_name-requires : goal.put_name-requires
put_name-requires c = (omega arith, omega (arith, c.requires.3), bare_room c.args.table.now.cells.now c.args.table.now.count c.args.node c.args.here c.requires.0 (omega arith) (omega arith) (omega arith) (sym c.is_bare.ensures ∙ c.if-is_bare.true) _ (bare_name c.args.table.now.cells.now c.args.table.now.count c.args.node c.args.here c.requires.0 (omega arith) (omega arith) (omega arith) (sym c.is_bare.ensures ∙ c.if-is_bare.true) (sym c.at_cell-form.ensures ∙ c.if-form-eq-EXPR_PATH.true)) _ _ c.requires.2)

pub returns-then-form-eq-EXPR_PATH : goal.returns-then-form-eq-EXPR_PATH
returns-then-form-eq-EXPR_PATH c = bare_turned c.args.table.now.cells.now c.args.table.now.count c.args.node c.args.here c.requires.0 (omega arith) (omega arith) (omega arith) (sym c.is_bare.ensures ∙ c.if-is_bare.true) _ (bare_name c.args.table.now.cells.now c.args.table.now.count c.args.node c.args.here c.requires.0 (omega arith) (omega arith) (omega arith) (sym c.is_bare.ensures ∙ c.if-is_bare.true) (sym c.at_cell-form.ensures ∙ c.if-form-eq-EXPR_PATH.true)) _ _ _ _ _ _ c.put_name.ensures

pub put_name-requires-then-form-eq-EXPR_LIT : goal.put_name-requires-then-form-eq-EXPR_LIT
put_name-requires-then-form-eq-EXPR_LIT c = (omega arith, omega (arith, c.requires.3), bare_room c.args.table.now.cells.now c.args.table.now.count c.args.node c.args.here c.requires.0 (omega arith) (omega arith) (omega arith) (sym c.is_bare.ensures ∙ c.if-is_bare.true) _ (bare_literal c.args.table.now.cells.now c.args.table.now.count c.args.node c.args.here c.requires.0 (omega arith) (omega arith) (omega arith) (sym c.is_bare.ensures ∙ c.if-is_bare.true) (sym c.at_cell-form.ensures ∙ c.if-form-eq-EXPR_LIT.true)) _ _ c.requires.2)

pub returns-then-form-eq-EXPR_LIT : goal.returns-then-form-eq-EXPR_LIT
returns-then-form-eq-EXPR_LIT c = bare_turned c.args.table.now.cells.now c.args.table.now.count c.args.node c.args.here c.requires.0 (omega arith) (omega arith) (omega arith) (sym c.is_bare.ensures ∙ c.if-is_bare.true) _ (bare_literal c.args.table.now.cells.now c.args.table.now.count c.args.node c.args.here c.requires.0 (omega arith) (omega arith) (omega arith) (sym c.is_bare.ensures ∙ c.if-is_bare.true) (sym c.at_cell-form.ensures ∙ c.if-form-eq-EXPR_LIT.true)) _ _ _ _ _ _ c.put_name-then-form-eq-EXPR_LIT.ensures

pub enter_binary-requires : goal.enter_binary-requires
enter_binary-requires c = (c.requires.0, c.requires.1, c.requires.2, c.requires.3, omega arith, omega arith, sym c.at_cell-form.ensures ∙ c.if-form-eq-EXPR_BINARY.true)

pub returns-then-form-eq-EXPR_BINARY : goal.returns-then-form-eq-EXPR_BINARY
returns-then-form-eq-EXPR_BINARY c = c.enter_binary.ensures

pub enter_link-requires : goal.enter_link-requires
enter_link-requires c = (c.requires.0, c.requires.1, c.requires.3, omega arith, omega arith, sym c.at_cell-form.ensures ∙ c.if-form-eq-LINK.true)

pub returns-then-form-eq-LINK : goal.returns-then-form-eq-LINK
returns-then-form-eq-LINK c = c.enter_link.ensures c.args.tokens.now

pub enter_other-requires : goal.enter_other-requires
enter_other-requires c = (c.requires.0, c.requires.1, c.requires.2, omega arith, omega arith, omega arith)

pub returns : goal.returns
returns c = c.enter_other.ensures
