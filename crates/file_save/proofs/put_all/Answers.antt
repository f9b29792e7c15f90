-- `file_save::put_all` meets its contract. Assumes nothing.
use Rattle.std.proofs.Common.{arith, ap, ◌∙◌, ◌+◌, ◌≤◌, suc, length, take, get_or}
use lib.ListN.{length-append}
use Rattle.laws.proofs.Putting.{put_none}
use Rattle.file_bytes.specs.Bytes.{bytes_of, all_bytes}
use Rattle.file_bytes.proofs.Several.{all_next, part_long}
use Rattle.file_save.proofs.Putting.{put_next}
use Rattle.file_save.proofs.put_all.Goals as goal

pub loop-number-init : goal.loop-number-init
unfolding all_bytes
loop-number-init c = put_none _ _

pub put-at-requires : goal.put-at-requires
put-at-requires c =
    let h = c.loop-number-test.true in
    let n = ap length (all_next c.args.numbers.now c.loop-number.number-index h) ∙ length-append (all_bytes (take c.loop-number.number-index c.args.numbers.now)) (bytes_of (get_or c.args.numbers.now c.loop-number.number-index 0)) in
    let p = part_long c.args.numbers.now (suc c.loop-number.number-index) in
    let g : c.loop-number.at + length (bytes_of (get_or c.args.numbers.now c.loop-number.number-index 0)) ≤ length c.loop-number.file = omega (arith, c.requires, n, p, c.loop-number.invariant.ends, c.loop-number.invariant.room) in
    g

pub loop-number-preserved : goal.loop-number-preserved
loop-number-preserved c = put_next c.args.numbers.now c.loop-number.number-index c.loop-number-test.true c.loop-number.invariant c.put-at.ensures
