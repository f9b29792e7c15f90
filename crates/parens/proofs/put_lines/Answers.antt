-- `parens::put_lines` meets its contract. Assumes nothing.
use Rattle.std.proofs.Common.{◌≡◌, arith}
use Rattle.text.specs.Numbers.{joined}
use Rattle.text.proofs.Growing.{grown_none}
use Rattle.text.proofs.Rows.{grown_next}
use Rattle.parens.proofs.put_lines.Goals as goal

pub loop-done-init : goal.loop-done-init
unfolding joined
loop-done-init c = grown_none _ _

pub loop-done-preserved : goal.loop-done-preserved
loop-done-preserved c = grown_next _ _ c.loop-done.invariant c.put_node-at.ensures

pub returns : goal.returns
returns c =
    let e : c.loop-done.done ≡ c.args.table.now.count = omega arith in
    rw e at c.loop-done.invariant
