-- `row_open::is_entered` meets its contract. Assumes nothing.
use mathlib.Core.Path.{refl, sym, ◌∙◌}
use native.Mathlib.Omega.{arith}
use Rattle.row_open.proofs.Entries.{entered_here, entered_next, entered_none}
use Rattle.row_open.proofs.is_entered.Goals as goal

pub entry_at-entry-requires : goal.entry_at-entry-requires
entry_at-entry-requires c = omega arith

pub returns-then-entry-node : goal.returns-then-entry-node
returns-then-entry-node c = sym (sym c.loop-left.invariant ∙ entered_here c.args.entries.now c.loop-left.left c.args.node c.loop-left-test.true _ c.entry_at-entry.ensures c.if-entry-node.true)

pub loop-left-preserved : goal.loop-left-preserved
loop-left-preserved c = sym (entered_next c.args.entries.now c.loop-left.left c.args.node c.loop-left-test.true _ c.entry_at-entry.ensures c.if-entry-node.false) ∙ c.loop-left.invariant

pub returns : goal.returns
returns c = sym (sym c.loop-left.invariant ∙ entered_none c.args.entries.now c.loop-left.left c.args.node c.loop-left-test.false)
