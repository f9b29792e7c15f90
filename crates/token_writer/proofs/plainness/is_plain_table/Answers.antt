-- `token_writer::plainness::is_plain_table` meets its contract. Assumes nothing.
use Rattle.std.proofs.Common.{◌≡◌, ◌+◌, not, refl, sym, ap, ◌∙◌, arith}
use Rattle.laws.specs.Each.{some}
use Rattle.laws.proofs.Each.{some_more, some_found}
use Rattle.token_plain.specs.Plain.{plain_table}
use Rattle.token_writer.proofs.plainness.is_plain_table.Goals as goal

pub loop-done-init : goal.loop-done-init
unfolding some
loop-done-init c = refl

pub returns-then-not-is_plain : goal.returns-then-not-is_plain
unfolding plain_table
returns-then-not-is_plain c = sym (ap not (some_found _ _ (c.loop-done.done + 1) (omega arith) (omega arith) (ap not (sym c.is_plain.ensures) ∙ c.if-not-is_plain.true-raw)))

pub loop-done-preserved : goal.loop-done-preserved
loop-done-preserved c = some_more _ c.loop-done.done c.loop-done.invariant (ap not (sym c.is_plain.ensures) ∙ c.if-not-is_plain.false-raw)

pub returns : goal.returns
unfolding plain_table
returns c =
    let e : c.loop-done.done ≡ c.args.table.now.count = omega arith in
    sym (ap not (rw e at c.loop-done.invariant))
