-- `token_reader::numbering::number` meets its contract. Assumes nothing.
use mathlib.Core.Path.{◌≡◌}
use Prim.Native.Nat.{suc, ◌+◌}
use native.Mathlib.Omega.{arith}
use Rattle.token_reader.proofs.numbering.number.Goals as goal

pub returns-then-count-eq0 : goal.returns-then-count-eq0
returns-then-count-eq0 c =
    let u : c.args.base + 1 ≡ suc c.args.base = omega arith in
    record { reply = rw u at c.renumber.ensures.reply; out = rw u at c.renumber.ensures.out }

pub returns : goal.returns
returns c =
    let u : c.args.base + 1 ≡ suc c.args.base = omega arith in
    record { reply = rw u at c.renumber-2.ensures.reply; out = rw u at c.renumber-2.ensures.out }
