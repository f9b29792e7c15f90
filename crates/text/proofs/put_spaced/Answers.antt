-- `text::put_spaced` meets its contract. Assumes nothing.
use Rattle.std.proofs.Common.{arith}
use Rattle.text.specs.Numbers.{spaced}
use Rattle.text.proofs.Growing.{grown_none, grown_more}
use Rattle.text.proofs.Spaces.{spaced_next}
use Rattle.text.proofs.put_spaced.Goals as goal

pub loop-number-init : goal.loop-number-init
unfolding spaced
loop-number-init c = grown_none _ _

pub loop-number-preserved : goal.loop-number-preserved
loop-number-preserved c =
    rw (spaced_next c.args.numbers.now c.loop-number.number-index (omega arith))
    (grown_more c.loop-number.invariant (grown_more c.put_byte-next.ensures c.put_number-at.ensures))
