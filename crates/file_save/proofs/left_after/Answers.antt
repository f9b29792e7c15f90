-- `file_save::left_after` meets its contract. Assumes nothing.
use Rattle.std.proofs.Common.{arith, ◌≡◌, ◌+◌, length, take, get_or}
use Rattle.file_bytes.specs.Bytes.{bytes_of, all_bytes}
use Rattle.file_bytes.proofs.Several.{part_long}
use Rattle.file_save.proofs.Putting.{bytes_next}
use Rattle.file_save.proofs.left_after.Goals as goal

pub loop-number-init : goal.loop-number-init
unfolding all_bytes
loop-number-init c = omega arith

pub returns-in_err-left : goal.returns-in_err-left
returns-in_err-left c =
    let o = bytes_next c.args.numbers.now c.loop-number.number-index c.loop-number-test.true in
    let f : c.long.result ≡ length (bytes_of (get_or c.args.numbers.now c.loop-number.number-index 0)) = c.long.ensures in
    let p = part_long c.args.numbers.now (c.loop-number.number-index + 1) in
    rw c.from_residual.ensures (omega (arith, o, f, p, c.loop-number.invariant, c.in_err-left.ensures))

pub loop-number-preserved : goal.loop-number-preserved
loop-number-preserved c =
    let o = bytes_next c.args.numbers.now c.loop-number.number-index c.loop-number-test.true in
    let f : c.long.result ≡ length (bytes_of (get_or c.args.numbers.now c.loop-number.number-index 0)) = c.long.ensures in
    let e = c.in_ok-left.ensures in
    let i = c.loop-number.invariant in
    let g : c.in_ok-left.left + length (all_bytes (take (c.loop-number.number-index + 1) c.args.numbers.now)) ≡ c.args.room = omega (arith, o, f, i, e.0, e.1) in
    g
