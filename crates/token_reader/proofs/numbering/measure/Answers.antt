-- `token_reader::numbering::measure` meets its contract. The loop's invariant: the trees at the nodes behind the one that it has come to are measured. Assumes nothing.
use Rattle.std.proofs.Common.{◌≡◌, refl, sym, ◌∙◌, arith}
use Rattle.laws.proofs.Choice.{true_not_false}
use Rattle.token_reader.proofs.Mirrored.{measured_none}
use Rattle.token_reader.proofs.numbering.measure.Goals as goal

pub bounds-spans-0 : goal.bounds-spans-0
bounds-spans-0 c = omega (arith, c.requires.3)

pub bounds-heights-0 : goal.bounds-heights-0
bounds-heights-0 c = omega (arith, c.requires.4)

pub loop-before-init : goal.loop-before-init
loop-before-init c = (omega (arith, c.requires.2), refl, refl, measured_none _ _ _ c.args.spans.now c.args.heights.now c.requires.3 c.requires.4)

pub returns-then-not-measure_one : goal.returns-then-not-measure_one
returns-then-not-measure_one c = λ e. true_not_false (sym e)
